-- `$binary` and `$uuid`.
use Rattle.std.proofs.Common.{◌≡◌, ◌<◌, ℕ, List, [], ◌∷◌, zero, suc, Bool, true, false, nat_eq, nat_lt, Option, Some}
use Rattle.std.proofs.Common.{None, Result, Ok, Err, refl, sym, ap, ◌∙◌, arith}
use Rattle.std.proofs.lemmas.Bool.{eqb-true}
use Rattle.std.proofs.lemmas.Slice.Eq.{bytes_eq-Decides}
use Rattle.std.specs.Prelude.{codes}
use Rattle.std.specs.Result.{result_ok}
use Rattle.hex.specs.declared.error.FromHexError.{FromHexError}
use Rattle.hex.specs.Hex.{encode_lower, IsBytes}
use Rattle.hex.proofs.HexLemmas.{decode_sized-encode_lower}
use Rattle.base64.specs.Engines.{standard}
use Rattle.base64.specs.GeneralPurpose.{decode_of}
use Rattle.bson_types.specs.Base64.{IsBase64, padded_base64}
use Rattle.bson_types.specs.UuidByteOrder.{parsed_hyphenated}
use Rattle.bson_types.specs.BinarySubtypes.{subtype_byte, subtype_of}
use Rattle.bson_types.proofs.Offered.{base64_bytes, base64_to, hyphenated_from, sized_from}
use Rattle.serde_json.specs.Data.{Data}
use Rattle.bson_scalar.specs.Faults.{or_wrong_shape, wrong_shape}
use Rattle.bson_scalar.specs.Means.{MeansScalar, binary, uuid}
use Rattle.bson_scalar.specs.Reading.{binary_read, uuid_read, byte_of_hex, decoded_base64, bytes_if_encoded, single_byte}
use Rattle.bson_scalar.specs.Scalar.{Scalar}
use Rattle.bson_scalar.specs.TreeParts.{one_key_object}
use Rattle.bson_scalar.proofs.InverseLemmas.{if_some, key_is, means_by, un_ok, un_some, some_then, text_then, two_then}
use Rattle.bson_scalar.proofs.InverseLemmas.{two_same}

byte_is : (r : Result (List ℕ) FromHexError) (n : ℕ) → single_byte r ≡ Some n → r ≡ Ok (n ∷ [])
byte_is (Ok []) n h = cc
byte_is (Ok (m ∷ [])) n h = ap (λ k. Ok (k ∷ [])) (un_some _ _ h)
byte_is (Ok (m ∷ k ∷ ms)) n h = cc
byte_is (Err e) n h = cc

-- ---- base64

decoded : {E : Type 0} (s : List ℕ) (r : Result (List ℕ) E) (bytes : List ℕ) → bytes_if_encoded s (result_ok r) ≡ Some bytes
    → (r ≡ Ok bytes) × (s ≡ padded_base64 bytes)
decoded s (Ok x) bytes h =
    let g = if_some _ x bytes h in
    (ap Ok g.1, key_is s (padded_base64 x) g.0 ∙ ap padded_base64 g.1)
decoded s (Err e) bytes h = cc

pub bytes_from : (s bytes : List ℕ) → decoded_base64 s ≡ Some bytes → IsBase64 s bytes
bytes_from s bytes h =
    let is = decoded s (decode_of standard s) bytes h in
    (base64_bytes s bytes is.0, is.1)

pub bytes_to : (s bytes : List ℕ) → IsBase64 s bytes → decoded_base64 s ≡ Some bytes
bytes_to s bytes is =
    let same = (bytes_eq-Decides s (padded_base64 bytes)).1 is.1 in
    let compared : bytes_if_encoded s (Some bytes) ≡ Some bytes = rw same refl in
    ap (λ r. bytes_if_encoded s (result_ok r)) (base64_to s bytes is) ∙ compared

no_bytes : (s : List ℕ) (o : Option (List ℕ)) → ((bytes : List ℕ) → o ≡ Some bytes → IsBase64 s bytes)
    → ((bytes : List ℕ) → ¬ (IsBase64 s bytes)) → or_wrong_shape o ≡ Err wrong_shape
no_bytes s None is none = refl
no_bytes s (Some bytes) is none = absurd (none bytes (is bytes refl))

pub bytes_none : (s : List ℕ) → ((bytes : List ℕ) → ¬ (IsBase64 s bytes))
    → or_wrong_shape (decoded_base64 s) ≡ Err wrong_shape
bytes_none s none = no_bytes s (decoded_base64 s) (λ bytes h. bytes_from s bytes h) none

-- ---- subtypes

subtype_at : (a b c d e f g h i j k : Bool) (n : ℕ) → nat_eq n 0 ≡ a → nat_eq n 1 ≡ b → nat_eq n 2 ≡ c → nat_eq n 3 ≡ d
    → nat_eq n 4 ≡ e → nat_eq n 5 ≡ f → nat_eq n 6 ≡ g → nat_eq n 7 ≡ h → nat_eq n 8 ≡ i → nat_eq n 9 ≡ j
    → nat_lt n 128 ≡ k
    → subtype_byte (subtype_of n) ≡ n
subtype_at true b c d e f g h i j k n p0 p1 p2 p3 p4 p5 p6 p7 p8 p9 q = rw p0 (sym (eqb-true n _ p0))
subtype_at false true c d e f g h i j k n p0 p1 p2 p3 p4 p5 p6 p7 p8 p9 q = rw (p0, p1) (sym (eqb-true n _ p1))
subtype_at false false true d e f g h i j k n p0 p1 p2 p3 p4 p5 p6 p7 p8 p9 q = rw (p0, p1, p2) (sym (eqb-true n _ p2))
subtype_at false false false true e f g h i j k n p0 p1 p2 p3 p4 p5 p6 p7 p8 p9 q =
    rw (p0, p1, p2, p3) (sym (eqb-true n _ p3))
subtype_at false false false false true f g h i j k n p0 p1 p2 p3 p4 p5 p6 p7 p8 p9 q =
    rw (p0, p1, p2, p3, p4) (sym (eqb-true n _ p4))
subtype_at false false false false false true g h i j k n p0 p1 p2 p3 p4 p5 p6 p7 p8 p9 q =
    rw (p0, p1, p2, p3, p4, p5) (sym (eqb-true n _ p5))
subtype_at false false false false false false true h i j k n p0 p1 p2 p3 p4 p5 p6 p7 p8 p9 q =
    rw (p0, p1, p2, p3, p4, p5, p6) (sym (eqb-true n _ p6))
subtype_at false false false false false false false true i j k n p0 p1 p2 p3 p4 p5 p6 p7 p8 p9 q =
    rw (p0, p1, p2, p3, p4, p5, p6, p7) (sym (eqb-true n _ p7))
subtype_at false false false false false false false false true j k n p0 p1 p2 p3 p4 p5 p6 p7 p8 p9 q =
    rw (p0, p1, p2, p3, p4, p5, p6, p7, p8) (sym (eqb-true n _ p8))
subtype_at false false false false false false false false false true k n p0 p1 p2 p3 p4 p5 p6 p7 p8 p9 q =
    rw (p0, p1, p2, p3, p4, p5, p6, p7, p8, p9) (sym (eqb-true n _ p9))
subtype_at false false false false false false false false false false true n p0 p1 p2 p3 p4 p5 p6 p7 p8 p9 q =
    rw (p0, p1, p2, p3, p4, p5, p6, p7, p8, p9, q) refl
subtype_at false false false false false false false false false false false n p0 p1 p2 p3 p4 p5 p6 p7 p8 p9 q =
    rw (p0, p1, p2, p3, p4, p5, p6, p7, p8, p9, q) refl

-- byte to subtype to byte changes nothing
pub subtype_byte-of : (n : ℕ) → subtype_byte (subtype_of n) ≡ n
subtype_byte-of n = subtype_at _ _ _ _ _ _ _ _ _ _ _ n refl refl refl refl refl refl refl refl refl refl refl

pub binary_from : (d : Data) (x : Scalar) → binary_read d ≡ Ok x → MeansScalar (one_key_object (codes "$binary") d) x
binary_from d x h =
    let a = two_then (codes "base64") (codes "subType") d _ x h in
    let b = text_then a.0 _ x a.3 in
    let k = text_then a.1 _ x b.2 in
    let bs = some_then (decoded_base64 b.0) _ x k.2 in
    let n = some_then (byte_of_hex k.0) _ x bs.2 in
    means_by (codes "$binary") d _ x _ (a.2 ∙ two_same (codes "base64") (codes "subType") b.1 k.1) (un_ok _ _ n.2)
    (binary b.0 k.0 bs.0 n.0 (bytes_from b.0 bs.0 bs.1) (sized_from 1 k.0 (n.0 ∷ []) (byte_is _ n.0 n.1)).0)

pub uuid_from : (d : Data) (x : Scalar) → uuid_read d ≡ Ok x → MeansScalar (one_key_object (codes "$uuid") d) x
uuid_from d x h =
    let t = text_then d _ x h in
    let i = some_then (parsed_hyphenated t.0) _ x t.2 in
    means_by (codes "$uuid") d _ x _ t.1 (un_ok _ _ i.2) (uuid t.0 i.0 (hyphenated_from t.0 i.0 i.1))

pub bytes_again : (bytes : List ℕ) → IsBytes bytes → decoded_base64 (padded_base64 bytes) ≡ Some bytes
bytes_again bytes are = bytes_to (padded_base64 bytes) bytes (are, refl)

pub byte_again : (n : ℕ) → n < 256 → byte_of_hex (encode_lower (n ∷ [])) ≡ Some n
byte_again n small = ap single_byte (decode_sized-encode_lower (n ∷ []) 1 refl one_byte)
  where
    one_byte : IsBytes (n ∷ [])
    one_byte zero = small
    one_byte (suc i) = omega arith
