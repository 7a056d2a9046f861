-- The value of a `Bson`.
use Rattle.std.specs.Prelude.{ℕ, List, [], ◌∷◌, map, string_bytes}
use Rattle.bson_types.specs.DbPointer.{pointer_namespace, pointer_id}
use Rattle.bson_scalar.specs.Scalar as kind
use Rattle.bson_model.specs.Value.{Value, scalar, code_scope, array, document, Values, no_values, value, Pairs}
use Rattle.bson_model.specs.Value.{no_pairs, pair}
use Rattle.bson.specs.declared.bson.Bson.{Bson, fold-Bson, Bson-F}
use Rattle.bson.specs.declared.bson.JavaScriptCodeWithScope.{JavaScriptCodeWithScope, fold-JavaScriptCodeWithScope}
use Rattle.bson.specs.declared.bson.JavaScriptCodeWithScope.{JavaScriptCodeWithScope-F}
use Rattle.bson.specs.declared.document.Document.{Document, fold-Document, Document-F}

-- the pairs that a document holds, in their order
abbrev pub contents : Document → List (List ℕ × Bson)
contents stored_document = stored_document.pairs

-- the document that holds them
abbrev pub document_of_pairs : (pair_list : List (List ℕ × Bson)) → Document
document_of_pairs pair_list = record { pairs = pair_list }

abbrev pub values_of : (value_list : List Value) → Values
values_of [] = no_values
values_of (first_value ∷ later_values) = value first_value (values_of later_values)

abbrev pub pairs_from_list : (pair_list : List (List ℕ × Value)) → Pairs
pairs_from_list [] = no_pairs
pairs_from_list (first_pair ∷ later_pairs) = pair first_pair.0 first_pair.1 (pairs_from_list later_pairs)

-- one level, with each value inside already seen
abbrev pub view_step : Bson-F Value Value Pairs → Value
view_step (Bson-F.Double pattern) = scalar (kind.double pattern)
view_step (Bson-F.String text) = scalar (kind.text (string_bytes text))
view_step (Bson-F.Array values) = array (values_of values.items)
view_step (Bson-F.Document pairs) = document pairs
view_step (Bson-F.Boolean boolean) = scalar (kind.boolean boolean)
view_step Bson-F.Null = scalar kind.null
view_step (Bson-F.RegularExpression regex_value) =
    scalar (kind.regex (string_bytes regex_value.pattern) (string_bytes regex_value.options))
view_step (Bson-F.JavaScriptCode code) = scalar (kind.code (string_bytes code))
view_step (Bson-F.JavaScriptCodeWithScope code_with_scope) = code_with_scope
view_step (Bson-F.Int32 number) = scalar (kind.int32 number)
view_step (Bson-F.Int64 number) = scalar (kind.int64 number)
view_step (Bson-F.Timestamp timestamp) = scalar (kind.timestamp timestamp.time timestamp.increment)
view_step (Bson-F.Binary binary) = scalar (kind.binary binary.subtype binary.bytes.items)
view_step (Bson-F.ObjectId id) = scalar (kind.object_id id)
view_step (Bson-F.DateTime millis) = scalar (kind.date millis)
view_step (Bson-F.Symbol text) = scalar (kind.symbol (string_bytes text))
view_step (Bson-F.Decimal128 bytes) = scalar (kind.decimal bytes)
view_step Bson-F.Undefined = scalar kind.undefined
view_step Bson-F.MaxKey = scalar kind.max_key
view_step Bson-F.MinKey = scalar kind.min_key
view_step (Bson-F.DbPointer pointer) = scalar (kind.db_pointer (pointer_namespace pointer) (pointer_id pointer))

abbrev pub scope_step : JavaScriptCodeWithScope-F Value Value Pairs → Value
scope_step code_with_scope = code_scope (string_bytes code_with_scope.code) code_with_scope.scope

abbrev pub pairs_step : Document-F Value Value Pairs → Pairs
pairs_step document_layer = pairs_from_list document_layer.pairs

abbrev pub bson_view : Bson → Value
bson_view = fold-Bson Value Value Pairs view_step scope_step pairs_step

abbrev pub document_view : Document → Pairs
document_view = fold-Document Value Value Pairs view_step scope_step pairs_step

abbrev pub code_with_scope_view : JavaScriptCodeWithScope → Value
code_with_scope_view = fold-JavaScriptCodeWithScope Value Value Pairs view_step scope_step pairs_step

abbrev pub values_view : (items : List Bson) → Values
values_view items = values_of (map bson_view items)

abbrev pub pairs_view : (stored : List (List ℕ × Bson)) → Pairs
pairs_view stored = pairs_from_list (map (λ stored_pair. (stored_pair.0, bson_view stored_pair.1)) stored)
