-- Members that are normalized: each key once, and where it is.
use Rattle.std.proofs.Common.{◌≡◌, ℕ, List, Bool, true, false, cond, Ordering, Less, Equal, Greater, nat_cmp}
use Rattle.std.proofs.Common.{refl, ap, ◌∙◌}
use Rattle.std.proofs.lemmas.Cmp.{nat_list_cmp_total}
use Rattle.std.proofs.lemmas.Slice.Eq.{bytes_eq-Decides}
use Rattle.std.specs.Cmp.Lexicographic.{slice_cmp}
use Rattle.std.specs.Ordering.{match_ordering, ordering_reverse}
use Rattle.std.specs.Str.{bytes_eq}
use Rattle.json.specs.Json.{Json, Members}
use Rattle.json.specs.Json.{no_members, member}
use Rattle.bson_tokens.specs.Normalized.{put_at_first_position, put_ascending, put_member, normalized, normalized_members}
use Rattle.bson_model.specs.declared.options.KeyOrder.{KeyOrder}
use Rattle.bson_model.specs.declared.options.KeyOrder.TheVariants.{AsGiven, Ascending}

abbrev pub cmp : List ℕ → List ℕ → Ordering
cmp = slice_cmp nat_cmp

-- ---- how keys are ordered

-- a member of the key l is inserted after one of the key k
abbrev pub IsBehind : KeyOrder → List ℕ → List ℕ → Type 0
IsBehind AsGiven k l = bytes_eq l k ≡ false
IsBehind Ascending k l = cmp l k ≡ Greater

-- each member follows k
abbrev pub AreBehind : KeyOrder → List ℕ → Members → Type 0
AreBehind a k no_members = Unit {0}
AreBehind a k (member l j ms) = IsBehind a k l × AreBehind a k ms

-- each key occurs once, and in its place
abbrev pub IsNormalized : KeyOrder → Members → Type 0
IsNormalized a no_members = Unit {0}
IsNormalized a (member k j ms) = AreBehind a k ms × IsNormalized a ms

-- what is inserted after a member leaves it where it is
pub put_behind : (a : KeyOrder) (k l : List ℕ) (i j : Json) (ms : Members) → IsBehind a k l
    → put_member a l j (member k i ms) ≡ member k i (put_member a l j ms)
put_behind AsGiven k l i j ms h = rw h refl
put_behind Ascending k l i j ms h = rw h refl

-- ---- what is inserted stays normalized

same_key : (k l : List ℕ) → bytes_eq k l ≡ true → k ≡ l
same_key k l h = (bytes_eq-Decides k l).0 h

behind_first_at : (b : Bool) (k l c : List ℕ) (j i : Json) (ms : Members) → IsBehind AsGiven k l
    → AreBehind AsGiven k (member c i ms) → AreBehind AsGiven k (put_at_first_position l j ms)
    → AreBehind AsGiven k (cond b (member c j ms) (member c i (put_at_first_position l j ms)))
behind_first_at true k l c j i ms new were is = were
behind_first_at false k l c j i ms new were is = (were.0, is)

behind_first : (k l : List ℕ) (j : Json) (ms : Members) → IsBehind AsGiven k l → AreBehind AsGiven k ms
    → AreBehind AsGiven k (put_at_first_position l j ms)
behind_first k l j no_members new were = (new, tt)
behind_first k l j (member c i ms) new were =
    behind_first_at (bytes_eq l c) k l c j i ms new were (behind_first k l j ms new were.1)

behind_ascending_at : (o : Ordering) (k l c : List ℕ) (j i : Json) (ms : Members) → IsBehind Ascending k l
    → AreBehind Ascending k (member c i ms) → AreBehind Ascending k (put_ascending l j ms)
    → AreBehind Ascending k
    (match_ordering o (member l j (member c i ms)) (member c j ms) (member c i (put_ascending l j ms)))
behind_ascending_at Less k l c j i ms new were is = (new, were)
behind_ascending_at Equal k l c j i ms new were is = were
behind_ascending_at Greater k l c j i ms new were is = (were.0, is)

behind_ascending : (k l : List ℕ) (j : Json) (ms : Members) → IsBehind Ascending k l → AreBehind Ascending k ms
    → AreBehind Ascending k (put_ascending l j ms)
behind_ascending k l j no_members new were = (new, tt)
behind_ascending k l j (member c i ms) new were =
    behind_ascending_at (cmp l c) k l c j i ms new were (behind_ascending k l j ms new were.1)

first_at : (b : Bool) (k c : List ℕ) (j i : Json) (ms : Members) → bytes_eq k c ≡ b
    → IsNormalized AsGiven (member c i ms) → IsNormalized AsGiven (put_at_first_position k j ms)
    → IsNormalized AsGiven (cond b (member c j ms) (member c i (put_at_first_position k j ms)))
first_at true k c j i ms h were is = were
first_at false k c j i ms h were is = (behind_first c k j ms h were.0, is)

put_first_stays : (k : List ℕ) (j : Json) (ms : Members) → IsNormalized AsGiven ms
    → IsNormalized AsGiven (put_at_first_position k j ms)
put_first_stays k j no_members were = (tt, tt)
put_first_stays k j (member c i ms) were =
    first_at (bytes_eq k c) k c j i ms refl were (put_first_stays k j ms were.1)

pub flipped : (k l : List ℕ) (o : Ordering) → cmp k l ≡ o → cmp l k ≡ ordering_reverse o
flipped k l o h = nat_list_cmp_total.antisymm l k ∙ ap ordering_reverse h

-- what follows a key follows each lower one
lower : (k c : List ℕ) (ms : Members) → cmp k c ≡ Less → AreBehind Ascending c ms → AreBehind Ascending k ms
lower k c no_members h are = tt
lower k c (member l j ms) h are =
    (flipped k l Less (nat_list_cmp_total.trans k c l h (flipped l c Greater are.0)), lower k c ms h are.1)

ascending_at : (o : Ordering) (k c : List ℕ) (j i : Json) (ms : Members) → cmp k c ≡ o
    → IsNormalized Ascending (member c i ms) → IsNormalized Ascending (put_ascending k j ms)
    → IsNormalized Ascending
    (match_ordering o (member k j (member c i ms)) (member c j ms) (member c i (put_ascending k j ms)))
ascending_at Less k c j i ms h were is = ((flipped k c Less h, lower k c ms h were.0), were)
ascending_at Equal k c j i ms h were is = were
ascending_at Greater k c j i ms h were is = (behind_ascending c k j ms h were.0, is)

put_ascending_stays : (k : List ℕ) (j : Json) (ms : Members) → IsNormalized Ascending ms
    → IsNormalized Ascending (put_ascending k j ms)
put_ascending_stays k j no_members were = (tt, tt)
put_ascending_stays k j (member c i ms) were =
    ascending_at (cmp k c) k c j i ms refl were (put_ascending_stays k j ms were.1)

pub put_stays : (a : KeyOrder) (k : List ℕ) (j : Json) (ms : Members) → IsNormalized a ms
    → IsNormalized a (put_member a k j ms)
put_stays AsGiven = put_first_stays
put_stays Ascending = put_ascending_stays

-- members are normalized after those that are
pub all_normalized : (a : KeyOrder) (ms found : Members) → IsNormalized a found
    → IsNormalized a (normalized_members a ms found)
all_normalized a no_members found were = were
all_normalized a (member k j ms) found were =
    all_normalized a ms (put_member a k (normalized a j) found) (put_stays a k (normalized a j) found were)

-- ---- what holds of each value that is inserted and of those that are there holds of all

module _ (P : Json → Type 0) where
  -- of each value
  abbrev pub Each : Members → Type 0
  Each no_members = Unit {0}
  Each (member k j ms) = P j × Each ms

  each_first_at : (b : Bool) (c : List ℕ) (j i : Json) (ms put : Members) → P j → P i → Each ms → Each put
      → Each (cond b (member c j ms) (member c i put))
  each_first_at true c j i ms put new old are is = (new, are)
  each_first_at false c j i ms put new old are is = (old, is)

  each_first : (k : List ℕ) (j : Json) (ms : Members) → P j → Each ms → Each (put_at_first_position k j ms)
  each_first k j no_members new are = (new, tt)
  each_first k j (member c i ms) new are =
      each_first_at (bytes_eq k c) c j i ms (put_at_first_position k j ms) new are.0 are.1 (each_first k j ms new are.1)

  each_ascending_at : (o : Ordering) (k c : List ℕ) (j i : Json) (ms put : Members) → P j → P i → Each ms → Each put
      → Each (match_ordering o (member k j (member c i ms)) (member c j ms) (member c i put))
  each_ascending_at Less k c j i ms put new old are is = (new, (old, are))
  each_ascending_at Equal k c j i ms put new old are is = (new, are)
  each_ascending_at Greater k c j i ms put new old are is = (old, is)

  each_ascending : (k : List ℕ) (j : Json) (ms : Members) → P j → Each ms → Each (put_ascending k j ms)
  each_ascending k j no_members new are = (new, tt)
  each_ascending k j (member c i ms) new are =
      each_ascending_at (cmp k c) k c j i ms (put_ascending k j ms) new are.0 are.1 (each_ascending k j ms new are.1)

  pub each_put : (a : KeyOrder) (k : List ℕ) (j : Json) (ms : Members) → P j → Each ms → Each (put_member a k j ms)
  each_put AsGiven = each_first
  each_put Ascending = each_ascending
