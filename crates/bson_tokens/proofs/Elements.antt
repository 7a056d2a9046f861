-- The elements of an array that were read so far, before those that are left.
use Rattle.std.proofs.Common.{◌≡◌, ℕ, ◌-◌, ◌<◌, ◌≤◌, List, length, Some, None, sym, ap, ◌∙◌, arith}
use Rattle.json.specs.Token.{Token}
use Rattle.json.specs.Json.{after_end_array, items, value, parse_map}
use Rattle.serde_json.specs.Data.{Data, Items, no_items, item}
use Rattle.serde_json.specs.Read.{of_json, of_items, converted}
use Rattle.bson_tokens.proofs.HeldRounds.{NoItems, one_item, last_item, no_more_items}

-- the elements are read to the end of the array
abbrev pub ItemsAre : ℕ → List Token → Items → List Token → Type 0
ItemsAre depth ts ds rest = (n : ℕ) → length ts ≤ n → converted of_items (items (value depth) n ts) ≡ Some (ds, rest)

-- from the start of the array up to here, where `front` joins what was read to what is left
pub record Lists (depth : ℕ) (start here : List Token) (front : Items → Items) : Type 0 where
  pub all : (ds : Items) (rest : List Token) → ItemsAre depth here ds rest → ItemsAre depth start (front ds) rest
  pub none : NoItems depth here → NoItems depth start
  pub shorter : length here ≤ length start

pub none_listed : (depth : ℕ) (ts : List Token) → Lists depth ts ts (λ ds. ds)
none_listed depth ts = record { all = λ ds rest are. are; none = λ no. no; shorter = omega arith }

pub one_listed : (depth : ℕ) (start here s r : List Token) (front : Items → Items) (d : Data)
    → Lists depth start here front → after_end_array here ≡ None → s ≡ here
    → converted of_json (value depth s) ≡ Some (d, r) → length r < length s
    → Lists depth start r (λ ds. front (item d ds))
one_listed depth start here s r front d l going same read less =
    let first : converted of_json (value depth here) ≡ Some (d, r) =
    ap (λ t. converted of_json (value depth t)) (sym same) ∙ read in
    let fewer : length r < length here = rw (← same) less in
    record {
      all = λ ds rest are. l.all (item d ds) rest (λ n enough.
          one_item (value depth) n here r d (omega (arith, enough, fewer)) going first
          ∙ ap (parse_map (item d)) (are (n - 1) (omega (arith, enough, fewer))));
      none = λ no. l.none (no_more_items depth here r d going first no);
      shorter = omega (arith, l.shorter, fewer);
    }

pub all_listed : (depth : ℕ) (start here rest : List Token) (front : Items → Items)
    → Lists depth start here front → after_end_array here ≡ Some rest
    → converted of_items (items (value depth) (length start) start) ≡ Some (front no_items, rest)
all_listed depth start here rest front l ended =
    l.all no_items rest (λ n enough. last_item (value depth) n here rest enough ended) (length start) (omega arith)
