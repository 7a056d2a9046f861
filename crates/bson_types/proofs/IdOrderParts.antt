-- The order of an id's bytes is that of its numbers, part by part.
use Rattle.std.proofs.Common.{◌≡◌, ℕ, suc, zero, ◌<◌, List, [], ◌∷◌, length, get_or, take, drop, refl, sym, ap, ap₂}
use Rattle.std.proofs.Common.{◌∙◌, arith, nat_cmp, min}
use Rattle.std.proofs.lemmas.List.{length-take, length-drop}
use Rattle.std.specs.Cmp.Lexicographic.{slice_cmp}
use Rattle.std.specs.Ordering.{ordering_then}
use Rattle.std.specs.declared.cmp.Ordering.{Ordering}
use Rattle.std.specs.declared.cmp.Ordering.TheVariants.{Less, Equal, Greater}
use Rattle.bson_types.specs.ObjectIds.{big_endian_number, object_id_order, IsBytes, IsObjectId}
use Rattle.bson_types.proofs.IdOrder.{slice_cmp-big_endian_number}

then-assoc : (a b c : Ordering) → ordering_then a (ordering_then b c) ≡ ordering_then (ordering_then a b) c
then-assoc Less b c = refl
then-assoc Equal b c = refl
then-assoc Greater b c = refl

-- lists of one length compare by their first n elements, and then by the rest
slice_cmp-cut : (n : ℕ) (a b : List ℕ) → length a ≡ length b
    → slice_cmp nat_cmp a b ≡ ordering_then (slice_cmp nat_cmp (take n a) (take n b))
    (slice_cmp nat_cmp (drop n a) (drop n b))
slice_cmp-cut zero a b e = refl
slice_cmp-cut (suc n) [] [] e = refl
slice_cmp-cut (suc n) [] (y ∷ ys) e = absurd (omega arith)
slice_cmp-cut (suc n) (x ∷ xs) [] e = absurd (omega arith)
slice_cmp-cut (suc n) (x ∷ xs) (y ∷ ys) e =
    let len : length xs ≡ length ys = omega arith in
    ap (ordering_then (nat_cmp x y)) (slice_cmp-cut n xs ys len) ∙ then-assoc (nat_cmp x y) _ _

-- bytes stay bytes in a part of a list
IsBytes-take : (n : ℕ) (xs : List ℕ) → IsBytes xs → (i : ℕ) → get_or (take n xs) i 0 < 256
IsBytes-take zero xs h i = omega arith
IsBytes-take (suc n) [] h i = h i
IsBytes-take (suc n) (x ∷ xs) h zero = h 0
IsBytes-take (suc n) (x ∷ xs) h (suc i) = IsBytes-take n xs (λ j. h (suc j)) i

IsBytes-drop : (n : ℕ) (xs : List ℕ) → IsBytes xs → IsBytes (drop n xs)
IsBytes-drop zero xs h = h
IsBytes-drop (suc n) [] h = h
IsBytes-drop (suc n) (x ∷ xs) h = IsBytes-drop n xs (λ j. h (suc j))

same-drop : (n : ℕ) (a b : List ℕ) → length a ≡ length b → length (drop n a) ≡ length (drop n b)
same-drop n a b e = omega (arith, length-drop n a, length-drop n b)

same-take : (n : ℕ) (a b : List ℕ) → length a ≡ length b → length (take n a) ≡ length (take n b)
same-take n a b e = length-take n a ∙ ap (min n) e ∙ sym (length-take n b)

first : (n : ℕ) (a b : List ℕ) → length a ≡ length b → IsBytes a → IsBytes b
    → slice_cmp nat_cmp (take n a) (take n b) ≡ nat_cmp (big_endian_number (take n a)) (big_endian_number (take n b))
first n a b e ha hb =
    slice_cmp-big_endian_number (take n a) (take n b) (same-take n a b e) (IsBytes-take n a ha) (IsBytes-take n b hb)

pub slice_cmp-object_id_order : (a b : List ℕ) → IsObjectId a → IsObjectId b → slice_cmp nat_cmp a b ≡ object_id_order a b
slice_cmp-object_id_order a b ha hb =
    let len : length a ≡ length b = ha.0 ∙ sym hb.0 in
    let len-4 = same-drop 4 a b len in
    let bytes-a = IsBytes-drop 4 a ha.1 in
    let bytes-b = IsBytes-drop 4 b hb.1 in
    let counter =
    slice_cmp-big_endian_number (drop 5 (drop 4 a)) (drop 5 (drop 4 b)) (same-drop 5 _ _ len-4) (IsBytes-drop 5 _ bytes-a)
    (IsBytes-drop 5 _ bytes-b) in
    slice_cmp-cut 4 a b len
    ∙ ap₂ ordering_then (first 4 a b len ha.1 hb.1) (slice_cmp-cut 5 (drop 4 a) (drop 4 b) len-4
    ∙ ap₂ ordering_then (first 5 (drop 4 a) (drop 4 b) len-4 bytes-a bytes-b) counter)
