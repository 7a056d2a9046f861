-- The text of a value on one line and on several, computed.
use Rattle.std.proofs.Common.{◌≡◌, pos, negsuc, true, replicate, [], ◌∷◌, refl}
use Rattle.std.specs.Prelude.{codes}
use Rattle.std.specs.Fmt.{digits}
use Rattle.hex.specs.Hex.{encode_with}
use Rattle.bson_decimal.specs.DecimalText.{decimal128_text as decimal_text}
use Rattle.bson_types.specs.declared.spec.BinarySubtype.TheVariants.{UserDefined}
use Rattle.bson_scalar.specs.Scalar as kind
use Rattle.bson_model.specs.Pretty.{pretty_text}
use Rattle.bson_model.specs.Displayed.{display_text}
use Rattle.bson_model.specs.Value.{Value}
use Rattle.bson_model.specs.Value as model

-- the list of true, and it under a key
abbrev list_of_true : Value
list_of_true = model.array (model.value (model.scalar (kind.boolean true)) model.no_values)

abbrev under_a : Value → Value
under_a v = model.document (model.pair (codes "a") v model.no_pairs)

null_displayed : display_text (model.scalar kind.null) ≡ codes "null"
null_displayed = refl

undefined_displayed : display_text (model.scalar kind.undefined) ≡ codes "undefined"
undefined_displayed = refl

min_key_displayed : display_text (model.scalar kind.min_key) ≡ codes "MinKey"
min_key_displayed = refl

max_key_displayed : display_text (model.scalar kind.max_key) ≡ codes "MaxKey"
max_key_displayed = refl

text_displayed : display_text (model.scalar (kind.text (codes "a\"b"))) ≡ codes "\"a\"b\""
text_displayed = refl

symbol_displayed : display_text (model.scalar (kind.symbol (codes "x"))) ≡ codes "Symbol(\"x\")"
symbol_displayed = refl

regex_displayed : display_text (model.scalar (kind.regex (codes "^a") (codes "i"))) ≡ codes "/^a/i"
regex_displayed = refl

code_displayed : display_text (model.code_scope (codes "f()") model.no_pairs) ≡ codes "f()"
code_displayed = refl

list_displayed : display_text list_of_true ≡ codes "[true]"
list_displayed = refl

two_items_displayed : display_text
    (model.array (model.value (model.scalar kind.null) (model.value (model.scalar kind.null) model.no_values)))
    ≡ codes "[null, null]"
two_items_displayed = refl

no_list_displayed : display_text (model.array model.no_values) ≡ codes "[]"
no_list_displayed = refl

document_displayed : display_text (under_a list_of_true) ≡ codes "{ \"a\": [true] }"
document_displayed = refl

no_document_displayed : display_text (model.document model.no_pairs) ≡ codes "{}"
no_document_displayed = refl

document_pretty : pretty_text 2 (under_a list_of_true) ≡ codes "{\n  \"a\": [\n    true\n  ]\n}"
document_pretty = refl

no_indent_pretty : pretty_text 0 (under_a (model.scalar kind.null)) ≡ codes "{\n\"a\": null\n}"
no_indent_pretty = refl

double_displayed : display_text (model.scalar (kind.double 0x7FF0000000000000)) ≡ codes "Double(0x7ff0000000000000)"
unfolding digits
double_displayed = refl

int32_displayed : display_text (model.scalar (kind.int32 (negsuc 41))) ≡ codes "-42"
unfolding digits
int32_displayed = refl

int64_displayed : display_text (model.scalar (kind.int64 (pos 9_223_372_036_854_775_807))) ≡ codes "9223372036854775807"
unfolding digits
int64_displayed = refl

timestamp_displayed : display_text (model.scalar (kind.timestamp 1 20)) ≡ codes "Timestamp(1, 20)"
unfolding digits
timestamp_displayed = refl

one_displayed : display_text (model.scalar (kind.double 0x3FF0000000000000)) ≡ codes "Double(0x3ff0000000000000)"
unfolding digits
one_displayed = refl

zero_displayed : display_text (model.scalar (kind.double 0)) ≡ codes "Double(0x0000000000000000)"
unfolding digits
zero_displayed = refl

binary_displayed : display_text (model.scalar (kind.binary (UserDefined 128) (codes "hello")))
    ≡ codes "Binary(0x80, aGVsbG8=)"
unfolding digits
binary_displayed = refl

object_id_displayed : display_text (model.scalar (kind.object_id (replicate 12 0xab)))
    ≡ codes "ObjectId(\"abababababababababababab\")"
unfolding encode_with
object_id_displayed = refl

-- the greatest exponent, in scientific form
greatest_exponent_displayed : display_text
    (model.scalar (kind.decimal (1 ∷ 0 ∷ 0 ∷ 0 ∷ 0 ∷ 0 ∷ 0 ∷ 0 ∷ 0 ∷ 0 ∷ 0 ∷ 0 ∷ 0 ∷ 0 ∷ 0xFE ∷ 0x5F ∷ [])))
    ≡ codes "1E+6111"
unfolding decimal_text digits
greatest_exponent_displayed = refl
