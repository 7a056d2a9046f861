-- The members of an object that were read so far, before those that are left.
use Rattle.std.proofs.Common.{◌≡◌, ℕ, ◌<◌, ◌≤◌, List, length, Some, None, arith}
use Rattle.json.specs.Token.{Token}
use Rattle.json.specs.Json.{read_key, value}
use Rattle.json.proofs.Grammar.{read_key-shorter}
use Rattle.serde_json.specs.Data.{Data, Members, put}
use Rattle.serde_json.specs.Read.{of_json, converted}
use Rattle.bson_tokens.specs.ReadOutcomes.{MembersAreReadInto, ReadsNoMembers}
use Rattle.bson_tokens.proofs.HeldRounds.{more_members, no_more_members, no_members_behind}

-- from the start of the members, beside old ones, up to here
pub record Collects (depth : ℕ) (old : Members) (start here : List Token) (so_far : Members) : Type 0 where
  pub all : (ms : Members) (rest : List Token) → MembersAreReadInto depth so_far here ms rest
      → MembersAreReadInto depth old start ms rest
  pub none : ReadsNoMembers depth here → ReadsNoMembers depth start
  pub shorter : length here ≤ length start

pub none_yet : (depth : ℕ) (old : Members) (ts : List Token) → Collects depth old ts ts old
none_yet depth old ts = record { all = λ ms rest are. are; none = λ no. no; shorter = omega arith }

pub one_collected : (depth : ℕ) (old : Members) (k : List ℕ) (start here s r : List Token) (so_far : Members) (d : Data)
    → Collects depth old start here so_far → read_key here ≡ Some (Some k, s)
    → converted of_json (value depth s) ≡ Some (d, r) → length r < length s
    → Collects depth old start r (put k d so_far)
one_collected depth old k start here s r so_far d g named read less =
    let first = read_key-shorter here (Some k) s named in
    record {
      all = λ ms rest more. g.all ms rest (more_members depth k here s r rest d so_far ms named read less more);
      none = λ no. g.none (no_members_behind depth k here s r d named read no);
      shorter = omega (arith, g.shorter, first, less);
    }

pub all_collected : (depth : ℕ) (old : Members) (start here rest : List Token) (so_far : Members)
    → Collects depth old start here so_far → read_key here ≡ Some (None, rest) → MembersAreReadInto depth old start so_far rest
all_collected depth old start here rest so_far g ended =
    g.all so_far rest (no_more_members depth here rest so_far ended)
