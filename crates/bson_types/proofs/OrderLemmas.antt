-- Each byte order undoes itself.
use Rattle.std.proofs.Common.{◌≡◌, ℕ, List, length, refl, sym, ◌∙◌, rules}
use Rattle.std.specs.Prelude.{Result, Ok, Err, IsOk, IfOk}
use Rattle.std.proofs.lemmas.Slice.Eq.{text_from_reads}
use Rattle.bson_types.specs.declared.uuid_value.UuidRepresentation.{UuidRepresentation}
use Rattle.bson_types.specs.declared.uuid_value.UuidRepresentation.TheVariants.{Standard, CSharpLegacy, JavaLegacy}
use Rattle.bson_types.specs.declared.uuid_value.UuidRepresentation.TheVariants.{PythonLegacy}
use Rattle.bson_types.specs.UuidByteOrder.{bytes_in_uuid_order}

-- sixteen numbers are their reads
pub sixteen : (xs : List ℕ) → length xs ≡ 16 → bytes_in_uuid_order Standard xs ≡ xs
sixteen xs h = sym (text_from_reads xs (bytes_in_uuid_order Standard xs) h (search rules))

pub ordered_twice : (r : UuidRepresentation) (xs : List ℕ) → length xs ≡ 16
    → bytes_in_uuid_order r (bytes_in_uuid_order r xs) ≡ xs
ordered_twice Standard xs h = sixteen xs h
ordered_twice PythonLegacy xs h = sixteen xs h
ordered_twice CSharpLegacy xs h = sixteen xs h
ordered_twice JavaLegacy xs h = sixteen xs h

-- a UUID that was read in the standard order is the bytes
pub as_they_are : {E : Type 0} (r : Result (List ℕ) E) (xs : List ℕ) → (IsOk r → length xs ≡ 16)
    → IfOk r (λ id. id ≡ bytes_in_uuid_order Standard xs) → IfOk r (λ id. id ≡ xs)
as_they_are (Ok id) xs len h = h ∙ sixteen xs (len refl)
as_they_are (Err e) xs len h = tt
