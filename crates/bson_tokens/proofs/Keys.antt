-- The keys of the members before.
use Rattle.std.proofs.Common.{◌≡◌, ◌≢◌, ℕ, List, [], ◌∷◌, Bool, true, false, not, ◌||◌, cond, refl, sym, ap, ◌∙◌, Bor}
use Rattle.std.proofs.Common.{nat_cmp, is_eq, bytes_eq, true≢false, Ordering}
use Rattle.std.proofs.lemmas.Cmp.{nat_list_eq_equiv}
use Rattle.std.proofs.lemmas.Map.Text.{is_eq-slice_cmp}
use Rattle.std.proofs.lemmas.Map.Views.{Contains-from_any, list_any-from_Contains}
use Rattle.std.proofs.lemmas.Slice.Eq.{bytes_eq-Decides}
use Rattle.std.specs.BTreeSet.{BTreeSet, contains, IsEmpty, Updates}
use Rattle.std.specs.Cmp.Lexicographic.{slice_cmp}
use Rattle.std.specs.List.{Contains, list_any}
use Rattle.bson_tokens.specs.DuplicateKeyPath.{is_among}

pub apart : (a b : List ℕ) → bytes_eq a b ≡ false → a ≢ b
apart a b other e = let same = (bytes_eq-Decides a b).1 e in cc

-- ---- keys of a list

pub stands : (before : List (List ℕ)) (k : List ℕ) → is_among before k ≡ true → Contains before k
stands before k is =
    Contains-from_any {eq = λ q l. bytes_eq l q} (λ x y e. sym ((bytes_eq-Decides y x).0 e)) k before is

pub turned : (before : List (List ℕ)) (k : List ℕ) → is_among before k ≡ list_any (λ l. bytes_eq k l) before
turned [] k = refl
turned (l ∷ before) k = ap (λ b. b || is_among before k) (nat_list_eq_equiv.symm l k)
    ∙ ap (λ b. bytes_eq k l || b) (turned before k)

pub stands_not : (before : List (List ℕ)) (k : List ℕ) → is_among before k ≡ false → ¬ (Contains before k)
stands_not before k is has = true≢false
    (sym (turned before k ∙ list_any-from_Contains {eq = bytes_eq} nat_list_eq_equiv k before has) ∙ is)

-- ---- keys of a set

abbrev by_bytes : Bor (List ℕ) → Bor (List ℕ) → Ordering
by_bytes a b = slice_cmp nat_cmp a.now b.now

-- the set has these keys
abbrev pub Holds : BTreeSet (Bor (List ℕ)) → List (List ℕ) → Type 0
Holds keys before = (q : Bor (List ℕ)) → contains by_bytes keys q ≡ is_among before q.now

pub holds_none : (keys : BTreeSet (Bor (List ℕ))) → IsEmpty keys → Holds keys []
holds_none keys none q = ap (list_any (λ k. is_eq (by_bytes q k))) none

either : (b c : Bool) → cond b true c ≡ b || c
either true c = refl
either false c = refl

pub holds_more : (old new : BTreeSet (Bor (List ℕ))) (k : Bor (List ℕ)) (before : List (List ℕ)) → Holds old before
    → Updates by_bytes old new k true → Holds new (k.now ∷ before)
holds_more old new k before holds updates q =
    updates.0 q ∙ ap (λ b. cond b true (contains by_bytes old q)) (is_eq-slice_cmp k.now q.now)
    ∙ ap (cond (bytes_eq k.now q.now) true) (holds q) ∙ either (bytes_eq k.now q.now) (is_among before q.now)

pub is_new : (old : BTreeSet (Bor (List ℕ))) (k : Bor (List ℕ)) (before : List (List ℕ)) (b : Bool) → Holds old before
    → b ≡ not (contains by_bytes old k) → b ≡ not (is_among before k.now)
is_new old k before b holds added = added ∙ ap not (holds k)
