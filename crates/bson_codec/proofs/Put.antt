-- Bytes of an element, an array, a document and code, after others.
use Rattle.std.proofs.Common.{◌≡◌, ℕ, ◌+◌, ◌≤◌, ◌++◌, List, length, true, Result, Ok, Err, OnOk, cond, refl, ap, ◌∙◌}
use Rattle.std.proofs.Common.{subst, arith, [], ◌∷◌, length-append, is_ok}
use Rattle.std.specs.Prelude.{decimal}
use Rattle.std.specs.Str.{is_utf8}
use Rattle.json.specs.Strict.{AreDistinct}
use Rattle.bson_types.specs.declared.spec.ElementType.{ElementType}
use Rattle.bson_types.specs.declared.spec.ElementType.TheVariants as tag
use Rattle.bson_scalar.specs.Scalar.{Scalar}
use Rattle.bson_scalar.specs.ElementType.{scalar_type}
use Rattle.bson_model.specs.Value.{Value, Values, no_values, value, Pairs, no_pairs, pair, scalar, array, document}
use Rattle.bson_model.specs.Value.{code_scope}
use Rattle.bson_bytes.specs.PutSteps.{PutResult, then, has_no_nul, put_scalar, put_text, put_name, put_value, put_array_elements, put_elements}
use Rattle.bson_bytes.specs.PutSteps.{put_length_placeholder, put_length, put_nul_and_length, put_document, PutsBytes}
use Rattle.bson_bytes.specs.Writing.{type_of, name_bytes, nul_in_key, IsWellTypedScalar, AreWellTyped, PairsAreWellTyped}
use Rattle.bson_bytes.specs.declared.error.Error.{Error}
use Rattle.bson_text.specs.TraversalResults.{ItemsWritten, PairsWritten, keys_of}
use Rattle.bson_codec.specs.PackedText.{ElementAppended, DocumentAppended, LengthReserved, ElementArrayOpened, ElementCodeOpened}
use Rattle.bson_codec.specs.declared.element_writer.ElementWriter.{ElementWriter}
use Rattle.bson_codec.proofs.Once.{once}

scalar_value : (x : Scalar) (out new : List ℕ) → put_scalar x out ≡ Ok new → put_value (scalar x) out ≡ Ok new
unfolding put_value
scalar_value x out new h = h

pub scalar_put : (x : Scalar) (t : ElementType) (k old named new : List ℕ) → t ≡ scalar_type x
    → named ≡ old ++ name_bytes t k → IsWellTypedScalar x → put_scalar x named ≡ Ok new → length named ≤ length new
    → ElementAppended k (scalar x) old new
scalar_put x t k old named new kind name typed put grows =
    let longer = length-append old (name_bytes t k) in
    let is = ap length name in (
      typed,
      scalar_value x (old ++ name_bytes (scalar_type x) k) new
          (subst (λ b. put_scalar x b ≡ Ok new) (name ∙ ap (λ s. old ++ name_bytes s k) kind) put),
      omega (arith, grows, longer, is),
    )

-- where an error is turned into another
pub turned : {F G P : Type 0} (r : Result (Unit {0}) Error) (q : Result (Unit {0}) F) (new : List ℕ) (put : PutResult)
    → is_ok q ≡ is_ok r → PutsBytes r new put → OnOk r G → (put ≡ Ok new → G → P) → OnOk q P
turned (Ok u) (Ok v) new put same is g f = f is g
turned (Ok u) (Err e) new put same is g f = tt
turned (Err e) (Ok v) new put same is g f = cc
turned (Err e) (Err d) new put same is g f = tt

pub scalar_turned : {F : Type 0} (r : Result (Unit {0}) Error) (q : Result (Unit {0}) F) (x : Scalar) (t : ElementType)
    (k old named new : List ℕ) → is_ok q ≡ is_ok r → t ≡ scalar_type x → named ≡ old ++ name_bytes t k
    → OnOk r (IsWellTypedScalar x) → PutsBytes r new (put_scalar x named) → OnOk r (length named ≤ length new)
    → OnOk q (ElementAppended k (scalar x) old new)
scalar_turned (Ok u) (Ok v) x t k old named new same kind name typed put grows =
    scalar_put x t k old named new kind name typed put grows
scalar_turned (Ok u) (Err e) x t k old named new same kind name typed put grows = tt
scalar_turned (Err e) (Ok v) x t k old named new same kind name typed put grows = cc
scalar_turned (Err e) (Err d) x t k old named new same kind name typed put grows = tt

-- the room for a length is four bytes
pub room : (start : ℕ) (old new : List ℕ) → LengthReserved start old new → start + 4 ≡ length new
room start old new (at, is) =
    let longer = length-append old (0 ∷ 0 ∷ 0 ∷ 0 ∷ []) in
    let all = ap length is in
    omega (arith, longer, all, at)

-- ---- arrays

next_item : (n : ℕ) (v : Value) (vs : Values) (out new : List ℕ)
    → put_value v (out ++ name_bytes (type_of v) (decimal n)) ≡ Ok new
    → put_array_elements n (value v vs) out ≡ put_array_elements (n + 1) vs new
unfolding put_array_elements
next_item n v vs out new put = ap (λ (r : PutResult). then r (λ b. put_array_elements (n + 1) vs b)) put

last_item : (n : ℕ) (out : List ℕ) → put_array_elements n no_values out ≡ Ok out
unfolding put_array_elements
last_item n out = refl

abbrev Wrote : ElementWriter → List ℕ → Value → ElementWriter → Type 0
Wrote old k v new = ElementAppended k v old.bytes.items new.bytes.items

items_put : (n : ℕ) (vs : Values) (old new : ElementWriter) → ItemsWritten Wrote (λ i. decimal i) n vs old new
    → AreWellTyped vs × (put_array_elements n vs old.bytes.items ≡ Ok new.bytes.items)
    × (length old.bytes.items ≤ length new.bytes.items)
items_put n no_values old new is =
    let same = ap (λ (w : ElementWriter). length w.bytes.items) is in
    (tt, last_item n old.bytes.items ∙ ap (λ (w : ElementWriter). Ok w.bytes.items) is, omega (arith, same))
items_put n (value v vs) old new (mid, (typed, put, grows), more) =
    let rest = items_put (n + 1) vs mid new more in (
      (typed, rest.0),
      next_item n v vs old.bytes.items mid.bytes.items put ∙ rest.1,
      omega (arith, grows, rest.2),
    )

-- where the length of an array is that was begun
pub array_room : (k : List ℕ) (start : ℕ) (vs : Values) (old mark now : ElementWriter)
    → ElementArrayOpened k start old.bytes.items mark.bytes.items → ItemsWritten Wrote (λ i. decimal i) 0 vs mark now
    → start + 4 ≤ length now.bytes.items
array_room k start vs old mark now begins written =
    let all = items_put 0 vs mark now written in
    let here = room start (old.bytes.items ++ name_bytes tag.Array k) mark.bytes.items begins in
    omega (arith, all.2, here)

array_value : (vs : Values) (old now new : List ℕ) → put_array_elements 0 vs (put_length_placeholder old) ≡ Ok now
    → put_nul_and_length (length old) now ≡ Ok new → put_value (array vs) old ≡ Ok new
unfolding put_value
array_value vs old now new put ended = ap (λ (r : PutResult). then r (put_nul_and_length (length old))) put ∙ ended

pub array_put : (k : List ℕ) (start : ℕ) (vs : Values) (old mark now : ElementWriter) (new : List ℕ)
    → ElementArrayOpened k start old.bytes.items mark.bytes.items → ItemsWritten Wrote (λ i. decimal i) 0 vs mark now
    → put_nul_and_length start now.bytes.items ≡ Ok new → length now.bytes.items ≤ length new
    → ElementAppended k (array vs) old.bytes.items new
array_put k start vs old mark now new (at, is) written ended grows =
    let named = old.bytes.items ++ name_bytes tag.Array k in
    let all = items_put 0 vs mark now written in
    let begins = room start named mark.bytes.items (at, is) in
    let longer = length-append old.bytes.items (name_bytes tag.Array k) in (
      all.0,
      array_value vs named now.bytes.items new
          (subst (λ (b : List ℕ). put_array_elements 0 vs b ≡ Ok now.bytes.items) is all.1)
          (subst (λ n. put_nul_and_length n now.bytes.items ≡ Ok new) at ended),
      omega (arith, all.2, begins, at, longer, grows),
    )

-- ---- documents

abbrev Keyed : ElementWriter → List ℕ → ElementWriter → Type 0
Keyed old k new = (new.bytes.items ≡ old.bytes.items) × (has_no_nul k ≡ true) × (is_utf8 k ≡ true)

name_put : (t : ElementType) (k out : List ℕ) → has_no_nul k ≡ true → put_name t k out ≡ Ok (out ++ name_bytes t k)
name_put t k out free = ap (λ b. cond b (Ok (out ++ name_bytes t k)) (Err nul_in_key)) free

next_pair : (k : List ℕ) (v : Value) (ps : Pairs) (out new : List ℕ) → has_no_nul k ≡ true
    → put_value v (out ++ name_bytes (type_of v) k) ≡ Ok new → put_elements (pair k v ps) out ≡ put_elements ps new
unfolding put_elements
next_pair k v ps out new free put =
    ap (λ (r : PutResult). then r (λ a. then (put_value v a) (λ b. put_elements ps b))) (name_put (type_of v) k out free)
    ∙ ap (λ (r : PutResult). then r (λ b. put_elements ps b)) put

last_pair : (out : List ℕ) → put_elements no_pairs out ≡ Ok out
unfolding put_elements
last_pair out = refl

pairs_put : (ps : Pairs) (old new : ElementWriter) → PairsWritten Wrote Keyed ps old new
    → PairsAreWellTyped ps × (put_elements ps old.bytes.items ≡ Ok new.bytes.items)
    × (length old.bytes.items ≤ length new.bytes.items)
pairs_put no_pairs old new is =
    let same = ap (λ (w : ElementWriter). length w.bytes.items) is in
    (tt, last_pair old.bytes.items ∙ ap (λ (w : ElementWriter). Ok w.bytes.items) is, omega (arith, same))
pairs_put (pair k v ps) old new (named, mid, (same, free, utf8), (typed, put, grows), more) =
    let rest = pairs_put ps mid new more in
    let here = ap length same in (
      (utf8, typed, rest.0),
      next_pair k v ps old.bytes.items mid.bytes.items free
          (subst (λ b. put_value v (b ++ name_bytes (type_of v) k) ≡ Ok mid.bytes.items) same put) ∙ rest.1,
      omega (arith, here, grows, rest.2),
    )

pub framed_room : (start : ℕ) (ps : Pairs) (old mark now : ElementWriter)
    → LengthReserved start old.bytes.items mark.bytes.items → PairsWritten Wrote Keyed ps mark now
    → start + 4 ≤ length now.bytes.items
framed_room start ps old mark now begins written =
    let all = pairs_put ps mark now written in
    let here = room start old.bytes.items mark.bytes.items begins in
    omega (arith, all.2, here)

pub framed_put : (start : ℕ) (ps : Pairs) (old mark now : ElementWriter) (new : List ℕ)
    → LengthReserved start old.bytes.items mark.bytes.items → PairsWritten Wrote Keyed ps mark now → AreDistinct (keys_of ps)
    → put_nul_and_length start now.bytes.items ≡ Ok new → length now.bytes.items ≤ length new → DocumentAppended ps old.bytes.items new
framed_put start ps old mark now new (at, is) written apart ended grows =
    let all = pairs_put ps mark now written in
    let begins = room start old.bytes.items mark.bytes.items (at, is) in (
      (all.0, once ps apart),
      ap (λ (r : PutResult). then r (put_nul_and_length (length old.bytes.items)))
          (subst (λ (b : List ℕ). put_elements ps b ≡ Ok now.bytes.items) is all.1)
          ∙ subst (λ n. put_nul_and_length n now.bytes.items ≡ Ok new) at ended,
      omega (arith, all.2, begins, at, grows),
    )

document_value : (ps : Pairs) (out new : List ℕ) → put_document ps out ≡ Ok new → put_value (document ps) out ≡ Ok new
unfolding put_value
document_value ps out new h = h

pub document_put : (k : List ℕ) (ps : Pairs) (old named new : List ℕ) → named ≡ old ++ name_bytes tag.EmbeddedDocument k
    → DocumentAppended ps named new → ElementAppended k (document ps) old new
document_put k ps old named new name (typed, put, grows) =
    let longer = length-append old (name_bytes tag.EmbeddedDocument k) in
    let is = ap length name in (
      typed,
      subst (λ b. put_value (document ps) b ≡ Ok new) name (document_value ps named new put),
      omega (arith, longer, is, grows),
    )

-- ---- code with its scope

code_value : (s : List ℕ) (ps : Pairs) (out mid now new : List ℕ) → put_text s (put_length_placeholder out) ≡ Ok mid
    → put_document ps mid ≡ Ok now → put_length (length out) now ≡ Ok new → put_value (code_scope s ps) out ≡ Ok new
unfolding put_value
code_value s ps out mid now new text put ended =
    ap (λ (r : PutResult). then (then r (λ a. put_document ps a)) (put_length (length out))) text
    ∙ ap (λ (r : PutResult). then r (put_length (length out))) put ∙ ended

pub code_put : (k s : List ℕ) (start : ℕ) (ps : Pairs) (old mid now new : List ℕ) → ElementCodeOpened k s start old mid
    → DocumentAppended ps mid now → put_length start now ≡ Ok new → length now ≤ length new → ElementAppended k (code_scope s ps) old new
code_put k s start ps old mid now new (utf8, at, text, longer, within) (typed, put, grows) ended more = (
  (utf8, typed.0, typed.1),
  code_value s ps (old ++ name_bytes tag.JavaScriptCodeWithScope k) mid now new text put
      (subst (λ n. put_length n now ≡ Ok new) at ended),
  omega (arith, longer, grows, more),
)
