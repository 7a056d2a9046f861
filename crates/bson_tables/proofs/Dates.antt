-- Rows of `$date`, computed: the texts of RFC 3339 section 5.6 that are read, and those that the relaxed form has in
-- each layout.
use Rattle.std.proofs.Common.{◌≡◌, ◌∙◌, ℤ, pos, refl, subst, rules}
use Rattle.std.specs.Prelude.{codes, ℕ, List}
use Rattle.jiff_core.specs.Calendar.{days_of_years, days_of_months, day_count, days_from_civil}
use Rattle.bson_datetime.specs.Rfc3339Parser.{parsed_rfc3339_millis, date_part, time_part, fraction_part, offset_part, hours_minutes}
use Rattle.bson_datetime.specs.Rfc3339Parser.{two_digits_below, after_byte, after_letter, day_number, two_digits, four_digits}
use Rattle.jiff_fmt.specs.Reader.{fraction_value}
use Rattle.bson_datetime.specs.CivilTime.{CivilDateTime, IsCivilDateTime, HasCivilTime}
use Rattle.bson_datetime.specs.CivilTime.{civil_date, civil_of_millis, month_and_day, year_and_day}
use Rattle.bson_datetime.specs.DateTimeText.{rfc3339_millis_text, rfc3339_text}
use Rattle.bson_datetime.proofs.Offered.{rfc-fields}
use Rattle.bson_scalar.specs.Scalar as kind
use Rattle.bson_scalar.specs.TreeParts.{one_key_object}
use Rattle.bson_scalar.specs.declared.form.Form.{Form}
use Rattle.bson_scalar.specs.declared.form.Form.TheVariants.{MongoDbRelaxed, Relaxed}
use Rattle.bson_model.specs.Means.{Means}
use Rattle.bson_model.specs.Value as model
use Rattle.bson_model.specs.Normal.{normal_form}
use Rattle.bson_model.specs.Written.{Written}
use Rattle.bson_model.proofs.Offered.{canon_from}
use Rattle.serde_json.specs.Data as tree
use Rattle.bson_tables.proofs.Shapes.{row}

millis_read : Means (one_key_object (codes "$date") (tree.string (codes "1970-01-01T00:00:00.005Z")))
    (model.scalar (kind.date (pos 5)))
unfolding parsed_rfc3339_millis date_part time_part fraction_part offset_part hours_minutes two_digits_below after_byte after_letter
    day_number two_digits four_digits fraction_value days_of_years days_of_months day_count days_from_civil
millis_read = row _ _ refl

offset_read : Means (one_key_object (codes "$date") (tree.string (codes "1970-01-01T01:00:00+01:00")))
    (model.scalar (kind.date (pos 0)))
unfolding parsed_rfc3339_millis date_part time_part fraction_part offset_part hours_minutes two_digits_below after_byte after_letter
    day_number two_digits four_digits fraction_value days_of_years days_of_months day_count days_from_civil
offset_read = row _ _ refl

three_digits_read : Means (one_key_object (codes "$date") (tree.string (codes "1970-01-01T00:00:00.500Z")))
    (model.scalar (kind.date (pos 500)))
unfolding parsed_rfc3339_millis date_part time_part fraction_part offset_part hours_minutes two_digits_below after_byte after_letter
    day_number two_digits four_digits fraction_value days_of_years days_of_months day_count days_from_civil
three_digits_read = row _ _ refl

-- the form has this text
abbrev HasText : Form → ℤ → List ℕ → Type 0
HasText f ms s = Written f (normal_form (model.scalar (kind.date ms))) (one_key_object (codes "$date") (tree.string s))

first : CivilDateTime
first = record { year = pos 1970; month = 1; day = 1; hour = 0; minute = 0; second = 0; millisecond = 0 }

first_is : HasCivilTime (pos 0) first
unfolding first days_of_years days_of_months day_count days_from_civil
first_is = search rules

first_written : HasText Relaxed (pos 0) (codes "1970-01-01T00:00:00Z")
unfolding first
first_written = subst (HasText Relaxed (pos 0)) (rfc-fields (pos 0) first first_is)
    (canon_from Relaxed (model.scalar (kind.date (pos 0))) _ refl)

-- a fraction of zero has no digits in either layout
first_as_specified : rfc3339_millis_text (pos 0) ≡ rfc3339_text (pos 0)
unfolding rfc3339_millis_text rfc3339_text civil_of_millis
first_as_specified = refl

first_written_for_mongodb : HasText MongoDbRelaxed (pos 0) (codes "1970-01-01T00:00:00Z")
unfolding first
first_written_for_mongodb = subst (HasText MongoDbRelaxed (pos 0))
    (first_as_specified ∙ rfc-fields (pos 0) first first_is)
    (canon_from MongoDbRelaxed (model.scalar (kind.date (pos 0))) _ refl)

-- half a second later, in which the layouts differ
half : CivilDateTime
half = record { year = pos 1970; month = 1; day = 1; hour = 0; minute = 0; second = 0; millisecond = 500 }

half_is : HasCivilTime (pos 500) half
unfolding half days_of_years days_of_months day_count days_from_civil
half_is = search rules

half_written : HasText Relaxed (pos 500) (codes "1970-01-01T00:00:00.5Z")
unfolding half
half_written = subst (HasText Relaxed (pos 500)) (rfc-fields (pos 500) half half_is)
    (canon_from Relaxed (model.scalar (kind.date (pos 500))) _ refl)

half_text : rfc3339_millis_text (pos 500) ≡ codes "1970-01-01T00:00:00.500Z"
unfolding rfc3339_millis_text civil_of_millis civil_date year_and_day month_and_day
half_text = refl

half_written_for_mongodb : HasText MongoDbRelaxed (pos 500) (codes "1970-01-01T00:00:00.500Z")
half_written_for_mongodb = subst (HasText MongoDbRelaxed (pos 500)) half_text
    (canon_from MongoDbRelaxed (model.scalar (kind.date (pos 500))) _ refl)

last : CivilDateTime
last = record { year = pos 9999; month = 12; day = 31; hour = 23; minute = 59; second = 59; millisecond = 999 }

last_exists : IsCivilDateTime last
unfolding last
last_exists = search rules

last_is : HasCivilTime (pos 253_402_300_799_999) last
unfolding last days_of_years days_of_months day_count days_from_civil
last_is = (last_exists, refl)

last_value_at_key : HasText Relaxed (pos 253_402_300_799_999) (codes "9999-12-31T23:59:59.999Z")
unfolding last
last_value_at_key = subst (HasText Relaxed (pos 253_402_300_799_999)) (rfc-fields _ last last_is)
    (canon_from Relaxed (model.scalar (kind.date (pos 253_402_300_799_999))) _ refl)

last_as_specified : rfc3339_millis_text (pos 253_402_300_799_999) ≡ rfc3339_text (pos 253_402_300_799_999)
unfolding rfc3339_millis_text rfc3339_text civil_of_millis
last_as_specified = refl

last_written_for_mongodb : HasText MongoDbRelaxed (pos 253_402_300_799_999) (codes "9999-12-31T23:59:59.999Z")
unfolding last
last_written_for_mongodb = subst (HasText MongoDbRelaxed (pos 253_402_300_799_999))
    (last_as_specified ∙ rfc-fields _ last last_is)
    (canon_from MongoDbRelaxed (model.scalar (kind.date (pos 253_402_300_799_999))) _ refl)
