-- What a tree means is in range.
use Rattle.std.proofs.Common.{◌≡◌, ◌<◌, ◌^◌, ℕ, ℤ, pos, negsuc, [], ◌∷◌, Bool, true, false, cond, Option, Some, None}
use Rattle.std.proofs.Common.{refl, sym, subst, w64, arith, inl, inr}
use Rattle.std.specs.Prelude.{FitsSigned}
use Rattle.std.proofs.lemmas.Bool.{ltb-true}
use Rattle.serde_json.specs.Data.{Data, Num, unsigned, negative, float, Items, Members}
use Rattle.serde_json.specs.Find.{as_i64}
use Rattle.bson_scalar.specs.Means.{MeansScalar, MeansScalarIn, narrow_number, wide_number, oid, number_int, number_long}
use Rattle.bson_scalar.specs.Means.{number_double, binary, uuid, timestamp, date_of_millis, date_of_text}
use Rattle.bson_scalar.specs.Means.{date_of_number, db_pointer}
use Rattle.bson_scalar.specs.Normal.{ScalarInRange}
use Rattle.bson_scalar.specs.Scalar.{Scalar}
use Rattle.bson_scalar.specs.TreeParts.{number_as_u32, i64_at}
use Rattle.bson_scalar.proofs.Offered.{subtype_byte-of, finite_range}
use Rattle.bson_model.specs.Value.{Value, Values, Pairs}
use Rattle.bson_model.specs.Means.{MeansIn, scalar, code_with_scope, array, document, MeansItemsIn, nothing, then}
use Rattle.bson_model.specs.Means.{MeansDocumentIn, empty, entry}
use Rattle.bson_model.specs.Texts.{NumberFits, IsTree, ItemsAreTrees, MembersAreTrees}
use Rattle.bson_model.specs.Normal.{NumbersInRange, ItemsInRange, PairsInRange}
use Rattle.bson_types.proofs.Offered.{hex_bytes, sized_to}
use Rattle.bson_datetime.proofs.Offered.{named_fits}
use Rattle.bson_scalar.specs.declared.form.Doubles.{Doubles}
use Rattle.bson_scalar.specs.declared.form.Doubles.TheVariants.{Special, Finite}
use Rattle.bson_model.proofs.OptionalValues.{un_some}

-- ---- numbers

guarded : {A : Type 0} (b : Bool) (x y : A) → cond b (Some x) None ≡ Some y → (b ≡ true) × (x ≡ y)
guarded true x y h = (refl, un_some _ _ h)
guarded false x y h = absurd cc

whole_fits : (n : Num) (z : ℤ) → NumberFits n → as_i64 n ≡ Some z → FitsSigned w64 z
whole_fits (unsigned n) z t h =
    let g = guarded _ _ z h in
    let small : n < 2 ^ 63 = ltb-true n (2 ^ 63) g.0 in
    subst (FitsSigned w64) g.1 (record { sfits = small })
whole_fits (negative (pos n)) z t h = absurd t
whole_fits (negative (negsuc n)) z t h = subst (FitsSigned w64) (un_some _ _ h) (record { sfits = t })
whole_fits (float x) z t h = absurd cc

small_range : (o : Option ℤ) (m : ℕ) → number_as_u32 o ≡ Some m → m < 2 ^ 32
small_range (Some (pos n)) m h = let g = guarded _ n m h in subst (λ k. k < 2 ^ 32) g.1 (ltb-true n (2 ^ 32) g.0)
small_range (Some (negsuc n)) m h = absurd cc
small_range None m h = absurd cc

double_at : (a b c d e f : Bool) (p : ℕ)
    → cond a (Some 0)
    (cond b (Some 0x8000000000000000)
    (cond c (Some 0x7FF0000000000000)
    (cond d (Some 0xFFF0000000000000) (cond e (Some 0x7FF8000000000000) (cond f (Some 0xFFF8000000000000) None)))))
    ≡ Some p → p < 2 ^ 64
double_at true b c d e f p h = let is = un_some _ _ h in omega (arith, is)
double_at false true c d e f p h = let is = un_some _ _ h in omega (arith, is)
double_at false false true d e f p h = let is = un_some _ _ h in omega (arith, is)
double_at false false false true e f p h = let is = un_some _ _ h in omega (arith, is)
double_at false false false false true f p h = let is = un_some _ _ h in omega (arith, is)
double_at false false false false false true p h = let is = un_some _ _ h in omega (arith, is)
double_at false false false false false false p h = absurd cc

-- ---- scalars

scalar_range : {t : Data} {x : Scalar} → MeansScalar t x → IsTree t → ScalarInRange x
scalar_range (narrow_number n z is fits) t = fits
scalar_range (wide_number n z is wide) t = whole_fits n z t is
scalar_range (oid s id is) t = hex_bytes s 12 id (sized_to 12 s id is.0 is.1)
scalar_range (number_int s z is) t = is.2
scalar_range (number_long s z is) t = is.2
scalar_range (number_double s p is) t = double_at _ _ _ _ _ _ p is
scalar_range (binary s k bytes n is byte) t =
    let fits : n < 256 = (hex_bytes k 1 (n ∷ []) (sized_to 1 k (n ∷ []) byte refl)).1 0 in
    (subst (λ m. m < 256) (sym (subtype_byte-of n)) fits, is.0)
scalar_range (uuid s id is) t =
    let byte : 4 < 256 = omega arith in (byte, (hex_bytes is.0 16 id (sized_to 16 is.0 id is.1.0 is.1.1)).1)
scalar_range (timestamp i e m n i_is e_is) t = (small_range (i64_at e) n e_is, small_range (i64_at i) m i_is)
scalar_range (date_of_millis s z is) t = is.2
scalar_range (date_of_text s z is) t = named_fits s z is
scalar_range (date_of_number n z is) t = whole_fits n z t.1.0 is
scalar_range (db_pointer name s id is) t = hex_bytes s 12 id (sized_to 12 s id is.0 is.1)
scalar_range _ t = tt

-- in each mode
range_in : (D : Doubles) (t : Data) (x : Scalar) → MeansScalarIn D t x → IsTree t → ScalarInRange x
range_in Special t x h is = scalar_range h is
range_in Finite t x (inl h) is = scalar_range h is
range_in Finite t x (inr h) is = finite_range h

module _ (D : Doubles) where
  -- ---- values

  mutual
    pub in_range : {t : Data} {v : Value} → MeansIn D t v → IsTree t → NumbersInRange v
    in_range (scalar d x m) is = range_in D d x m is
    in_range (code_with_scope s ms ps m) is = document_range m is.1.1.0.1
    in_range (array ds vs m) is = items_range m is
    in_range (document ms ps none m) is = document_range m is.1

    items_range : {ds : Items} {vs : Values} → MeansItemsIn D ds vs → ItemsAreTrees ds → ItemsInRange vs
    items_range nothing is = tt
    items_range (then d v ds vs m n) is = (in_range m is.0, items_range n is.1)

    document_range : {ms : Members} {ps : Pairs} → MeansDocumentIn D ms ps → MembersAreTrees ms → PairsInRange ps
    document_range empty is = tt
    document_range (entry k d v ms ps m n) is = (in_range m is.0, document_range n is.1)
