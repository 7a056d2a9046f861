-- `$date`.
use Rattle.std.proofs.Common.{◌≡◌, ℤ, pos, true, Some, Ok, refl, ap, ◌∙◌, w64, arith}
use Rattle.std.specs.Prelude.{codes, int_le}
use Rattle.std.proofs.lemmas.Bool.{and_parts}
use Rattle.std.proofs.lemmas.Bool.Decides.{nat_tests}
use Rattle.jiff.proofs.SpanFacts.{signed_arith}
use Rattle.bson_datetime.specs.Rfc3339Parser.{parsed_rfc3339_millis, IsRfc3339Millis}
use Rattle.bson_datetime.proofs.Offered.{denotes-names, named_moment-millis, named_moment-rfc}
use Rattle.serde_json.specs.Data.{Data}
use Rattle.serde_json.specs.Data as tree
use Rattle.bson_scalar.specs.Dates.{is_in_years_1970_to_9999, relaxed_date_text}
use Rattle.bson_scalar.specs.Means.{MeansScalar, date_of_millis, date_of_text, date_of_number}
use Rattle.bson_scalar.specs.Reading.{date_read, date_millis_of}
use Rattle.bson_scalar.specs.Scalar.{Scalar, date}
use Rattle.bson_scalar.specs.TreeParts.{one_key_object}
use Rattle.bson_scalar.specs.declared.form.Form.{Form}
use Rattle.bson_scalar.specs.declared.form.Form.TheVariants.{Canonical, MongoDbCanonical, MongoDbRelaxed, Relaxed}
use Rattle.bson_scalar.proofs.InverseLemmas.{means_by, un_ok, then_ok, or_bad_ok, text_then, lone_then}
use Rattle.bson_scalar.proofs.IntText.{int_of_from}

millis_from : (d : Data) (z : ℤ) → date_millis_of d ≡ Ok z → MeansScalar (one_key_object (codes "$date") d) (date z)
millis_from tree.null z h = cc
millis_from (tree.boolean b) z h = cc
millis_from (tree.number n) z h = date_of_number n z (or_bad_ok _ z h)
millis_from (tree.string s) z h = date_of_text s z ((denotes-names s z).0 (or_bad_ok _ z h))
millis_from (tree.array ds) z h = cc
millis_from (tree.object ms) z h =
    let a = lone_then (codes "$numberLong") (tree.object ms) _ z h in
    let t = text_then a.0 _ z a.2 in
    means_by (codes "$date") (tree.object ms) _ (date z) _
    (a.1 ∙ ap (λ e. one_key_object (codes "$numberLong") e) t.1) refl
    (date_of_millis t.0 z (int_of_from w64 t.0 z (or_bad_ok _ z t.2)))

pub date_from : (d : Data) (x : Scalar) → date_read d ≡ Ok x → MeansScalar (one_key_object (codes "$date") d) x
date_from d x h = let t = then_ok (date_millis_of d) _ x h in
    means_by (codes "$date") d d x _ refl (un_ok _ _ t.2) (millis_from d t.0 t.1)

recent_in_years : (z : ℤ) → is_in_years_1970_to_9999 z ≡ true → IsRfc3339Millis z
recent_in_years z h = let p = and_parts (int_le (pos 0) z) (int_le z (pos 253_402_300_799_999)) h in
    grind (arith, signed_arith, nat_tests, p.0, p.1)

pub relaxed_denoted : (f : Form) (z : ℤ) → is_in_years_1970_to_9999 z ≡ true
    → parsed_rfc3339_millis (relaxed_date_text f z) ≡ Some z
relaxed_denoted Canonical z h = named_moment-rfc z (recent_in_years z h)
relaxed_denoted Relaxed z h = named_moment-rfc z (recent_in_years z h)
relaxed_denoted MongoDbCanonical z h = named_moment-millis z (recent_in_years z h)
relaxed_denoted MongoDbRelaxed z h = named_moment-millis z (recent_in_years z h)
