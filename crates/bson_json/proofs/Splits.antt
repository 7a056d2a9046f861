-- The first part, a byte at a time.
use Rattle.std.proofs.Common.{◌≡◌, ℕ, zero, suc, ◌+◌, ◌<◌, ◌≤◌, nat_lt, Bool, true, false, List, [], ◌∷◌, ◌++◌, length, drop, take, get_or, refl, sym, ap, ◌∙◌, append-nil, ◌-◌, add-one, arith}
use Rattle.std.proofs.lemmas.Bool.Decides.{nat_tests}
use Rattle.std.proofs.lemmas.List.{length-take-le}
use Rattle.bson_json.specs.declared.sequence.Separator.{Separator}
use Rattle.bson_json.specs.Sequence.{ScanState, outside, scan, separates, parts, prepend_text, texts_after, texts_in, texts_of_parts}
use Rattle.bson_json.proofs.Scanned.{put_before, put_twice, put_one, put_first, put_none}
use Rattle.bson_json.proofs.FoundTexts.{within_part, separated}

-- ---- the first part, a byte at a time

pub drop_next : (xs : List ℕ) (at : ℕ) → at < length xs → drop at xs ≡ get_or xs at 0 ∷ drop (suc at) xs
drop_next [] at inside = absurd (omega arith)
drop_next (x ∷ xs) zero inside = refl
drop_next (x ∷ xs) (suc at) inside = drop_next xs at (omega arith)

pub take_next : (xs : List ℕ) (at : ℕ) → at < length xs → take (suc at) xs ≡ take at xs ++ get_or xs at 0 ∷ []
take_next [] at inside = absurd (omega arith)
take_next (x ∷ xs) zero inside = refl
take_next (x ∷ xs) (suc at) inside = ap (λ z. x ∷ z) (take_next xs at (omega arith))

pub split_start : (k : Separator) (xs : List ℕ) → parts k (outside zero) xs ≡ put_before [] (parts k (outside zero) xs)
split_start k xs = sym (put_none (parts k (outside zero) xs))

-- what is skipped, and the state after it
abbrev pub IsSplit : (k : Separator) → (xs : List ℕ) → (at : ℕ) → ScanState → Type 0
IsSplit k xs at m = parts k (outside zero) xs ≡ put_before (take at xs) (parts k m (drop at xs))

pub split_on : (k : Separator) (xs : List ℕ) (at : ℕ) (m : ScanState) → at < length xs → separates k m (get_or xs at 0) ≡ false → IsSplit k xs at m
    → IsSplit k xs (suc at) (scan m (get_or xs at 0))
split_on k xs at m inside e h =
    let x = get_or xs at 0 in
    let rest = drop (suc at) xs in
    h ∙ ap (λ z. put_before (take at xs) (parts k m z)) (drop_next xs at inside)
    ∙ ap (put_before (take at xs)) (within_part k m x rest e ∙ sym (put_one x (parts k (scan m x) rest)))
    ∙ sym (put_twice (take at xs) (x ∷ []) (parts k (scan m x) rest))
    ∙ ap (λ z. put_before z (parts k (scan m x) rest)) (sym (take_next xs at inside))

pub text_first : (k : Separator) (t : List ℕ) (ps : List (List ℕ)) → texts_of_parts k (t ∷ ps) ≡ prepend_text k t (texts_of_parts k ps)
unfolding texts_of_parts
text_first k t ps = refl

pub no_texts_left : (k : Separator) → texts_of_parts k [] ≡ []
unfolding texts_of_parts
no_texts_left k = refl

pub some_after : (k : Separator) (more : Bool) (rest : List ℕ) → more ≡ true → texts_in k rest ≡ texts_after k more rest
some_after k more rest e = ap (λ b. texts_after k b rest) (sym e)

pub none_after : (k : Separator) (more : Bool) (rest : List ℕ) → more ≡ false → [] ≡ texts_after k more rest
none_after k more rest e = ap (λ b. texts_after k b rest) (sym e)

-- at a separator
pub split_at_separator : (k : Separator) (xs : List ℕ) (at : ℕ) (m : ScanState) → at < length xs → separates k m (get_or xs at 0) ≡ true → IsSplit k xs at m
    → texts_in k xs ≡ prepend_text k (take at xs) (texts_in k (drop (suc at) xs))
split_at_separator k xs at m inside e h =
    let x = get_or xs at 0 in
    let rest = drop (suc at) xs in
    ap (texts_of_parts k) (h ∙ ap (λ z. put_before (take at xs) (parts k m z)) (drop_next xs at inside)
    ∙ ap (put_before (take at xs)) (separated k m x rest e)
    ∙ put_first (take at xs) [] (parts k (outside zero) rest)
    ∙ ap (λ z. z ∷ parts k (outside zero) rest) (append-nil (take at xs)))
    ∙ text_first k (take at xs) (parts k (outside zero) rest)

pub parts_end : (k : Separator) (m : ScanState) → parts k m [] ≡ [] ∷ []
unfolding parts
parts_end k m = refl

pub take_nil : (n : ℕ) → take {A = ℕ} n [] ≡ []
take_nil zero = refl
take_nil (suc n) = refl

pub drop_nil : (n : ℕ) → drop {A = ℕ} n [] ≡ []
drop_nil zero = refl
drop_nil (suc n) = refl

pub take-all : (n : ℕ) (xs : List ℕ) → length xs ≤ n → take n xs ≡ xs
take-all n [] h = take_nil n
take-all zero (x ∷ xs) h = absurd (omega arith)
take-all (suc n) (x ∷ xs) h = ap (λ z. x ∷ z) (take-all n xs (omega arith))

pub drop-all : (n : ℕ) (xs : List ℕ) → length xs ≤ n → drop n xs ≡ []
drop-all n [] h = drop_nil n
drop-all zero (x ∷ xs) h = absurd (omega arith)
drop-all (suc n) (x ∷ xs) h = drop-all n xs (omega arith)

-- at the end
pub split_at_end : (k : Separator) (xs rest : List ℕ) (at : ℕ) (m : ScanState) → length xs ≤ at → IsSplit k xs at m
    → texts_in k xs ≡ prepend_text k xs (texts_after k (nat_lt (length xs) (length xs)) rest)
split_at_end k xs rest at m all h =
    ap (texts_of_parts k) (h ∙ ap (λ z. put_before z (parts k m (drop at xs))) (take-all at xs all)
    ∙ ap (λ z. put_before xs (parts k m z)) (drop-all at xs all) ∙ ap (put_before xs) (parts_end k m)
    ∙ put_first xs [] [] ∙ ap (λ z. z ∷ []) (append-nil xs))
    ∙ text_first k xs [] ∙ ap (prepend_text k xs) (no_texts_left k ∙ none_after k _ rest (grind (arith, nat_tests)))

pub length-dropped : (n : ℕ) (xs : List ℕ) → length (drop n xs) ≤ length xs - n
length-dropped zero xs = omega arith
length-dropped (suc n) [] = omega arith
length-dropped (suc n) (x ∷ xs) = omega (arith, length-dropped n xs)

pub tail_of : (xs : List ℕ) (at : ℕ) → take (length xs - (at + 1)) (drop (at + 1) xs) ≡ drop (suc at) xs
tail_of xs at = take-all _ _ (length-dropped (at + 1) xs) ∙ ap (λ n. drop n xs) (add-one at)

pub split_there : (xs : List ℕ) (at : ℕ) → at < length xs → xs ≡ take at xs ++ get_or xs at 0 ∷ drop (suc at) xs
split_there [] at inside = absurd (omega arith)
split_there (x ∷ xs) zero inside = refl
split_there (x ∷ xs) (suc at) inside = ap (λ z. x ∷ z) (split_there xs at (omega arith))

pub found_at_separator : (k : Separator) (xs : List ℕ) (at : ℕ) (m : ScanState) → at < length xs → separates k m (get_or xs at 0) ≡ true → IsSplit k xs at m
    → texts_in k xs
    ≡ prepend_text k (take at xs) (texts_after k (nat_lt (length (take at xs)) (length xs)) (take (length xs - (at + 1)) (drop (at + 1) xs)))
found_at_separator k xs at m inside e h =
    let rest = take (length xs - (at + 1)) (drop (at + 1) xs) in
    let size : length (take at xs) ≡ at = length-take-le at xs (omega arith) in
    split_at_separator k xs at m inside e h
    ∙ ap (prepend_text k (take at xs)) (ap (texts_in k) (sym (tail_of xs at)) ∙ some_after k _ rest (grind (arith, nat_tests)))

pub placed_at_separator : (xs : List ℕ) (at : ℕ) → at < length xs
    → (x : ℕ) × (xs ≡ take at xs ++ x ∷ take (length xs - (at + 1)) (drop (at + 1) xs))
placed_at_separator xs at inside =
    (get_or xs at 0, split_there xs at inside ∙ ap (λ z. take at xs ++ get_or xs at 0 ∷ z) (sym (tail_of xs at)))
