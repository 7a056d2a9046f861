-- Scalars are equal just where they are the same: for the laws of `==` and of hashing.
use Rattle.std.proofs.Common.{◌≡◌, Bool, true, false, ◌&&◌, refl, ap, ap₂}
use Rattle.std.specs.Bool.{Decides}
use Rattle.std.proofs.lemmas.Bool.{and_from, and_parts}
use Rattle.std.proofs.lemmas.Bool.Decides.{Decides-eqb, Decides-int_eq}
use Rattle.std.proofs.lemmas.Slice.Eq.{bytes_eq-Decides}
use Rattle.bson_types.specs.declared.spec.BinarySubtype.{BinarySubtype}
use Rattle.bson_types.specs.declared.spec.BinarySubtype.TheVariants.{Generic, Function, BinaryOld, UuidOld, Uuid, Md5}
use Rattle.bson_types.specs.declared.spec.BinarySubtype.TheVariants.{Encrypted, Column, Sensitive, Vector, Reserved}
use Rattle.bson_types.specs.declared.spec.BinarySubtype.TheVariants.{UserDefined}
use Rattle.bson_scalar.specs.Same.{bool_eq, subtype_eq, scalar_eq}
use Rattle.bson_scalar.specs.Scalar.{Scalar, null, undefined, min_key, max_key, boolean, double, int32, int64, text}
use Rattle.bson_scalar.specs.Scalar.{symbol, code, regex, timestamp, binary, object_id, date, decimal, db_pointer}

bool_decides : (truth_value other_truth_value : Bool)
    → Decides (bool_eq truth_value other_truth_value) (truth_value ≡ other_truth_value)
bool_decides true true = (λ equality. refl, λ equality. refl)
bool_decides true false = (λ equality. cc, λ equality. cc)
bool_decides false true = (λ equality. cc, λ equality. cc)
bool_decides false false = (λ equality. refl, λ equality. refl)

subtype_decides : (subtype other_subtype : BinarySubtype)
    → Decides (subtype_eq subtype other_subtype) (subtype ≡ other_subtype)
subtype_decides Generic Generic = (λ equality. refl, λ equality. refl)
subtype_decides Function Function = (λ equality. refl, λ equality. refl)
subtype_decides BinaryOld BinaryOld = (λ equality. refl, λ equality. refl)
subtype_decides UuidOld UuidOld = (λ equality. refl, λ equality. refl)
subtype_decides Uuid Uuid = (λ equality. refl, λ equality. refl)
subtype_decides Md5 Md5 = (λ equality. refl, λ equality. refl)
subtype_decides Encrypted Encrypted = (λ equality. refl, λ equality. refl)
subtype_decides Column Column = (λ equality. refl, λ equality. refl)
subtype_decides Sensitive Sensitive = (λ equality. refl, λ equality. refl)
subtype_decides Vector Vector = (λ equality. refl, λ equality. refl)
subtype_decides (Reserved byte) (Reserved other_byte) =
    (λ equality. ap Reserved ((Decides-eqb byte other_byte).0 equality), λ equality. (Decides-eqb byte other_byte).1 cc)
subtype_decides (UserDefined byte) (UserDefined other_byte) = (
  λ equality. ap UserDefined ((Decides-eqb byte other_byte).0 equality),
  λ equality.
      (Decides-eqb byte other_byte).1 cc,
)
subtype_decides _ _ = (λ equality. cc, λ equality. cc)

-- where both of two parts decide, so does the whole
both_decide : {X Y Z : Type 0} (build : X → Y → Z) (first_test second_test : Bool) (first_field other_first : X)
    (second_field other_second : Y) → Decides first_test (first_field ≡ other_first)
    → Decides second_test (second_field ≡ other_second)
    → (build first_field second_field ≡ build other_first other_second
    → (first_field ≡ other_first) × (second_field ≡ other_second))
    → Decides (first_test && second_test) (build first_field second_field ≡ build other_first other_second)
both_decide build first_test second_test first_field other_first second_field other_second first_decides second_decides parts = (
  λ equality. let both = and_parts _ _ equality in ap₂ build (first_decides.0 both.0) (second_decides.0 both.1),
  λ equality. let both = parts equality in and_from _ _ (first_decides.1 both.0) (second_decides.1 both.1),
)

pub scalar_decides : (scalar other_scalar : Scalar) → Decides (scalar_eq scalar other_scalar) (scalar ≡ other_scalar)
scalar_decides null null = (λ equality. refl, λ equality. refl)
scalar_decides undefined undefined = (λ equality. refl, λ equality. refl)
scalar_decides min_key min_key = (λ equality. refl, λ equality. refl)
scalar_decides max_key max_key = (λ equality. refl, λ equality. refl)
scalar_decides (boolean truth_value) (boolean other_truth_value) = (
  λ equality. ap boolean ((bool_decides truth_value other_truth_value).0 equality),
  λ equality.
      (bool_decides truth_value other_truth_value).1 cc,
)
scalar_decides (double pattern) (double other_pattern) = (
  λ equality. ap double ((Decides-eqb pattern other_pattern).0 equality),
  λ equality.
      (Decides-eqb pattern other_pattern).1 cc,
)
scalar_decides (int32 integer) (int32 other_integer) = (
  λ equality. ap int32 ((Decides-int_eq integer other_integer).0 equality),
  λ equality.
      (Decides-int_eq integer other_integer).1 cc,
)
scalar_decides (int64 integer) (int64 other_integer) = (
  λ equality. ap int64 ((Decides-int_eq integer other_integer).0 equality),
  λ equality.
      (Decides-int_eq integer other_integer).1 cc,
)
scalar_decides (text text_bytes) (text other_text_bytes) = (
  λ equality. ap text ((bytes_eq-Decides text_bytes other_text_bytes).0 equality),
  λ equality.
      (bytes_eq-Decides text_bytes other_text_bytes).1 cc,
)
scalar_decides (symbol text_bytes) (symbol other_text_bytes) = (
  λ equality. ap symbol ((bytes_eq-Decides text_bytes other_text_bytes).0 equality),
  λ equality.
      (bytes_eq-Decides text_bytes other_text_bytes).1 cc,
)
scalar_decides (code text_bytes) (code other_text_bytes) = (
  λ equality. ap code ((bytes_eq-Decides text_bytes other_text_bytes).0 equality),
  λ equality.
      (bytes_eq-Decides text_bytes other_text_bytes).1 cc,
)
scalar_decides (regex pattern options) (regex other_pattern other_options) =
    both_decide regex _ _ pattern other_pattern options other_options (bytes_eq-Decides pattern other_pattern)
    (bytes_eq-Decides options other_options) (λ equality. (cc, cc))
scalar_decides (timestamp seconds increment) (timestamp other_seconds other_increment) =
    both_decide timestamp _ _ seconds other_seconds increment other_increment (Decides-eqb seconds other_seconds)
    (Decides-eqb increment other_increment) (λ equality. (cc, cc))
scalar_decides (binary subtype bytes) (binary other_subtype other_bytes) =
    both_decide binary _ _ subtype other_subtype bytes other_bytes (subtype_decides subtype other_subtype)
    (bytes_eq-Decides bytes other_bytes) (λ equality. (cc, cc))
scalar_decides (object_id id) (object_id other_id) = (
  λ equality. ap object_id ((bytes_eq-Decides id other_id).0 equality),
  λ equality.
      (bytes_eq-Decides id other_id).1 cc,
)
scalar_decides (date millis) (date other_millis) = (
  λ equality. ap date ((Decides-int_eq millis other_millis).0 equality),
  λ equality.
      (Decides-int_eq millis other_millis).1 cc,
)
scalar_decides (decimal decimal_bytes) (decimal other_decimal_bytes) = (
  λ equality. ap decimal ((bytes_eq-Decides decimal_bytes other_decimal_bytes).0 equality),
  λ equality.
      (bytes_eq-Decides decimal_bytes other_decimal_bytes).1 cc,
)
scalar_decides (db_pointer namespace id) (db_pointer other_namespace other_id) =
    both_decide db_pointer _ _ namespace other_namespace id other_id (bytes_eq-Decides namespace other_namespace)
    (bytes_eq-Decides id other_id) (λ equality. (cc, cc))
scalar_decides _ _ = (λ equality. cc, λ equality. cc)
