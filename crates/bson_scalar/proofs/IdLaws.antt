-- `$oid` and `$dbPointer`.
use Rattle.std.proofs.Common.{◌≡◌, ℕ, List, length, Result, Ok, Err, sym, ap, ◌∙◌}
use Rattle.hex.specs.declared.error.FromHexError.{FromHexError}
use Rattle.hex.specs.Hex.{encode_lower, IsBytes}
use Rattle.hex.proofs.HexLemmas.{decode_sized-encode_lower}
use Rattle.bson_types.proofs.Offered.{sized_from}
use Rattle.serde_json.specs.Data.{Data}
use Rattle.bson_scalar.specs.Means.{MeansScalar, oid, db_pointer}
use Rattle.bson_scalar.specs.Reading.{oid_read, pointer_read, id_or_fault, parsed_object_id}
use Rattle.bson_scalar.specs.Scalar.{Scalar}
use Rattle.bson_scalar.specs.TreeParts.{one_key_object}
use Rattle.std.specs.Prelude.{codes}
use Rattle.bson_scalar.proofs.InverseLemmas.{means_by, un_ok, then_ok, text_then, lone_then, two_then, two_same}

id_is : (s id : List ℕ) (r : Result (List ℕ) FromHexError) → id_or_fault s r ≡ Ok id → r ≡ Ok id
id_is s id (Ok x) h = ap Ok (sym (un_ok _ _ h))
id_is s id (Err e) h = cc

pub oid_from : (d : Data) (x : Scalar) → oid_read d ≡ Ok x → MeansScalar (one_key_object (codes "$oid") d) x
oid_from d x h =
    let t = text_then d _ x h in
    let i = then_ok (parsed_object_id t.0) _ x t.2 in
    means_by (codes "$oid") d _ x _ t.1 (un_ok _ _ i.2) (oid t.0 i.0 (sized_from 12 t.0 i.0 (id_is t.0 i.0 _ i.1)))

pub pointer_from : (d : Data) (x : Scalar) → pointer_read d ≡ Ok x
    → MeansScalar (one_key_object (codes "$dbPointer") d) x
pointer_from d x h =
    let a = two_then (codes "$id") (codes "$ref") d _ x h in
    let b = text_then a.1 _ x a.3 in
    let c = lone_then (codes "$oid") a.0 _ x b.2 in
    let e = text_then c.0 _ x c.2 in
    let i = then_ok (parsed_object_id e.0) _ x e.2 in
    let inner = c.1 ∙ ap (λ t. one_key_object (codes "$oid") t) e.1 in
    means_by (codes "$dbPointer") d _ x _ (a.2 ∙ two_same (codes "$id") (codes "$ref") inner b.1) (un_ok _ _ i.2)
    (db_pointer b.0 e.0 i.0 (sized_from 12 e.0 i.0 (id_is e.0 i.0 _ i.1)))

pub id_again : (id : List ℕ) → length id ≡ 12 → IsBytes id → parsed_object_id (encode_lower id) ≡ Ok id
id_again id twelve bytes = ap (id_or_fault (encode_lower id)) (decode_sized-encode_lower id 12 twelve bytes)
