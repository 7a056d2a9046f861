-- The bytes that a value is written as are in the grammar, and represent it.
use Rattle.std.proofs.Common.{◌≡◌, ℕ, suc, ◌+◌, ◌^◌, ◌<◌, Bool, true, false, cond, eqb, List, [], ◌∷◌, ◌++◌, length}
use Rattle.std.proofs.Common.{refl, sym, ap, subst}
use Rattle.std.proofs.Common.{◌∙◌, append_assoc, arith}
use Rattle.std.specs.Prelude.{decimal, ℤ, FitsSigned}
use Rattle.std.specs.Int.{w32, w64, cast_unsigned}
use Rattle.std.specs.Char.{digit_value}
use Rattle.std.specs.Str.{bytes_eq}
use Rattle.std.specs.Str.Parse.{AllDigits}
use Rattle.std.proofs.lemmas.Bool.{eqb-true, eqb-false}
use Rattle.std.proofs.lemmas.Fmt.{IsAscii-decimal, decimal_is_IsNumeral}
use Rattle.std.proofs.lemmas.Int.{to_z-of_z, ints}
use Rattle.std.proofs.lemmas.List.{length-append}
use Rattle.std.proofs.lemmas.Str.{is_utf8-from_IsUtf8, IsUtf8-from_ascii}
use Rattle.bson_types.specs.declared.spec.ElementType.TheVariants as tag
use Rattle.bson_types.specs.BinarySubtypes.{subtype_byte, subtype_of}
use Rattle.bson_types.specs.ElementTags.{tag_of}
use Rattle.bson_scalar.specs.ElementType.{scalar_type}
use Rattle.bson_scalar.specs.Scalar.{Scalar, null, undefined, min_key, max_key, boolean, double, int32, int64, text}
use Rattle.bson_scalar.specs.Scalar.{symbol, code, regex, timestamp, binary, object_id, date, decimal as decimal128}
use Rattle.bson_scalar.specs.Scalar.{db_pointer}
use Rattle.bson_model.specs.Normal.{map_scalars, map_scalars_of_items}
use Rattle.bson_model.specs.Value.{Value, Values, no_values, value, Pairs, no_pairs, pair, scalar, code_scope, array}
use Rattle.bson_model.specs.Value.{document}
use Rattle.bson_bytes.specs.Grammar.{little_endian, IsName, HasNoNulByte, IsLength, code_with_scope_bytes, document_of_elements, pair_values}
use Rattle.bson_bytes.specs.Grammar.{binary_bytes, old_binary_bytes, insert_value, deduplicated_onto, deduplicated}
use Rattle.bson_bytes.specs.Grammar.{IsDocument, is_document, IsElementList, is_empty, is_element, IsValue, is_double, is_text}
use Rattle.bson_bytes.specs.Grammar.{is_embedded_document, is_array, is_binary, is_old_binary, is_undefined, is_object_id}
use Rattle.bson_bytes.specs.Grammar.{is_false}
use Rattle.bson_bytes.specs.Grammar.{is_true, is_date, is_null, is_regex, is_pointer, is_code, is_symbol, is_scope}
use Rattle.bson_bytes.specs.Grammar.{is_int32, is_timestamp, is_int64, is_decimal, is_min_key, is_max_key}
use Rattle.bson_bytes.specs.ReadDocuments.{IsReadAsDocument}
use Rattle.bson_model.specs.declared.options.DuplicateKeys.TheVariants.{LastWins}
use Rattle.bson_bytes.specs.Reading.{reads_bytes}
use Rattle.bson_bytes.specs.Writing.{scalar_bytes, name_bytes, type_of, value_bytes, array_elements_bytes}
use Rattle.bson_bytes.specs.Writing.{elements_bytes, document_bytes, FitsScalar, FitsValue, FitsItems, FitsElements}
use Rattle.bson_bytes.specs.Writing.{FitsDocument}
use Rattle.bson_bytes.specs.Writing.{with_written_subtype, pairs_read_back, IsWellTypedScalar, IsWellTyped, AreWellTyped, PairsAreWellTyped, IsWellTypedDocument}
use Rattle.bson_bytes.specs.Writing.{NestsUpTo, ItemsNestUpTo, PairsNestUpTo}
use Rattle.bson_bytes.proofs.GrammarLaws.{is_read}
use Rattle.bson_bytes.proofs.PartLaws.{ok_is}

-- ---- the keys of an array

no_zero_digits : (cs : List ℕ) → AllDigits 10 cs → HasNoNulByte cs
no_zero_digits [] h = tt
no_zero_digits (c ∷ cs) h = (
  (λ e. let low : digit_value 0 < 10 = subst (λ (x : ℕ). digit_value x < 10) e h.0 in absurd (omega (arith, low))),
  no_zero_digits cs h.1,
)

decimal_name : (n : ℕ) → n < 2 ^ 64 → IsName (decimal n)
decimal_name n lt = record {
  utf8 = is_utf8-from_IsUtf8 (decimal n) (IsUtf8-from_ascii (decimal n) (IsAscii-decimal n lt));
  no_zero = no_zero_digits (decimal n) (decimal_is_IsNumeral n lt).0.1;
}

-- ---- scalars

bits32 : (z : ℤ) → FitsSigned w32 z → cast_unsigned w32 z < 2 ^ 32
bits32 z h = omega (arith, ints)

bits64 : (z : ℤ) → FitsSigned w64 z → cast_unsigned w64 z < 2 ^ 64
bits64 z h = omega (arith, ints)

binary_by : (test : Bool) (d b : ℕ) (s : List ℕ) → eqb b 2 ≡ test → b < 256
    → IsLength (cond test (length s + 4) (length s))
    → IsValue LastWins d tag.Binary (cond test (old_binary_bytes s) (binary_bytes b s)) (scalar (binary (subtype_of b) s))
binary_by true d b s e lt f =
    subst (λ (c : ℕ). IsValue LastWins d tag.Binary (old_binary_bytes s) (scalar (binary (subtype_of c) s))) (sym (eqb-true b 2 e))
    (is_old_binary d s f)
binary_by false d b s e lt f = is_binary d b s lt (eqb-false b 2 e) f

scalar_is : (x : Scalar) (d : ℕ) → FitsScalar x → IsWellTypedScalar x
    → IsValue LastWins d (scalar_type x) (scalar_bytes x) (scalar (with_written_subtype x))
scalar_is null d f t = is_null d
scalar_is undefined d f t = is_undefined d
scalar_is min_key d f t = is_min_key d
scalar_is max_key d f t = is_max_key d
scalar_is (boolean true) d f t = is_true d
scalar_is (boolean false) d f t = is_false d
scalar_is (double p) d f t = is_double d p t
scalar_is (int32 z) d f t =
    subst (λ (x : ℤ). IsValue LastWins d tag.Int32 (little_endian w32 (cast_unsigned w32 z)) (scalar (int32 x))) (to_z-of_z w32 z t)
    (is_int32 d (cast_unsigned w32 z) (bits32 z t))
scalar_is (int64 z) d f t =
    subst (λ (x : ℤ). IsValue LastWins d tag.Int64 (little_endian w64 (cast_unsigned w64 z)) (scalar (int64 x))) (to_z-of_z w64 z t)
    (is_int64 d (cast_unsigned w64 z) (bits64 z t))
scalar_is (text s) d f t = is_text d s (t, f)
scalar_is (symbol s) d f t = is_symbol d s (t, f)
scalar_is (code s) d f t = is_code d s (t, f)
scalar_is (regex p o) d f t =
    is_regex d p o (record { utf8 = t.0; no_zero = f.0 }) (record { utf8 = t.1; no_zero = f.1 })
scalar_is (timestamp t i) d f h = is_timestamp d i t h.1 h.0
scalar_is (binary k s) d f t = binary_by (eqb (subtype_byte k) 2) d (subtype_byte k) s refl t f
scalar_is (object_id id) d f t = is_object_id d id t
scalar_is (date z) d f t =
    subst (λ (x : ℤ). IsValue LastWins d tag.DateTime (little_endian w64 (cast_unsigned w64 z)) (scalar (date x))) (to_z-of_z w64 z t)
    (is_date d (cast_unsigned w64 z) (bits64 z t))
scalar_is (decimal128 s) d f t = is_decimal d s t
scalar_is (db_pointer s id) d f t = is_pointer d s id (t.0, f) t.1

-- ---- one pair a key

insert_by : (b : Bool) (l : List ℕ) (v w : Value) (ps qs rs : Pairs) → rs ≡ pairs_read_back qs
    → cond b (pair l (map_scalars with_written_subtype v) (pairs_read_back ps)) (pair l (map_scalars with_written_subtype w) rs)
    ≡ pairs_read_back (cond b (pair l v ps) (pair l w qs))
insert_by true l v w ps qs rs e = refl
insert_by false l v w ps qs rs e = ap (λ (x : Pairs). pair l (map_scalars with_written_subtype w) x) e

insert_written : (k : List ℕ) (v : Value) (ps : Pairs)
    → insert_value k (map_scalars with_written_subtype v) (pairs_read_back ps) ≡ pairs_read_back (insert_value k v ps)
insert_written k v no_pairs = refl
insert_written k v (pair l w ps) =
    insert_by (bytes_eq k l) l v w ps (insert_value k v ps) (insert_value k (map_scalars with_written_subtype v) (pairs_read_back ps))
    (insert_written k v ps)

settle_written : (done ps : Pairs) → deduplicated_onto (pairs_read_back done) (pairs_read_back ps) ≡ pairs_read_back (deduplicated_onto done ps)
settle_written done no_pairs = refl
settle_written done (pair k v ps) =
    ap (λ (x : Pairs). deduplicated_onto x (pairs_read_back ps)) (insert_written k v done) ∙ settle_written (insert_value k v done) ps

one_each_written : (ps : Pairs) → deduplicated ps ≡ ps → deduplicated (pairs_read_back ps) ≡ pairs_read_back ps
one_each_written ps e = settle_written no_pairs ps ∙ ap pairs_read_back e

-- ---- values

-- the values under their keys
record Numbered (d n : ℕ) (vs : Values) : Type 0 where
  pairs : Pairs
  spelled : IsElementList LastWins d (array_elements_bytes n vs) pairs
  are : pair_values pairs ≡ map_scalars_of_items with_written_subtype vs

-- the document of a list that is in the grammar
document_of : (e d : ℕ) (ps : Pairs) (list : List ℕ) → d ≡ suc e → IsElementList LastWins e list ps → IsLength (length list + 5)
    → IsDocument LastWins d (document_of_elements list) ps
document_of e d ps list same w f =
    subst (λ (n : ℕ). IsDocument LastWins n (document_of_elements list) ps) (sym same) (is_document e list ps w f)

-- an element in front of a list
element_at_position : (d : ℕ) (k bytes list : List ℕ) (v w : Value) (ps : Pairs) → IsName k → IsValue LastWins d (type_of v) bytes w
    → IsElementList LastWins d list ps → IsElementList LastWins d (name_bytes (type_of v) k ++ (bytes ++ list)) (pair k w ps)
element_at_position d k bytes list v w ps name val others =
    subst (λ (x : List ℕ). IsElementList LastWins d (tag_of (type_of v) ∷ x) (pair k w ps)) (sym (append_assoc k (0 ∷ []) (bytes ++ list)))
    (is_element d (type_of v) k bytes list w ps name val others)

mutual
  value_is : (v : Value) (d : ℕ) → FitsValue v → IsWellTyped v → NestsUpTo v d
      → IsValue LastWins d (type_of v) (value_bytes v) (map_scalars with_written_subtype v)
  value_is (scalar x) d f t n = scalar_is x d f t
  value_is (code_scope s ps) d f t n =
      let list = list_is ps n.0 f.0.1.0 t.1 n.2 in
      let doc = document_of n.0 d (pairs_read_back ps) (elements_bytes ps) n.1 list f.0.1.1 in
      subst (λ (q : Pairs). IsValue LastWins d tag.JavaScriptCodeWithScope (code_with_scope_bytes s (document_of_elements (elements_bytes ps))) (code_scope s q))
      (one_each_written ps t.2) (is_scope d s (document_of_elements (elements_bytes ps)) (pairs_read_back ps) (t.0, f.0.0) doc tt f.1)
  value_is (array vs) d f t n =
      let items = items_is vs n.0 0 f.0 t n.2 (omega (arith, f.1)) in
      let doc = document_of n.0 d items.pairs (array_elements_bytes 0 vs) n.1 items.spelled f.1 in
      subst (λ (q : Values). IsValue LastWins d tag.Array (document_of_elements (array_elements_bytes 0 vs)) (array q)) items.are
      (is_array d (document_of_elements (array_elements_bytes 0 vs)) items.pairs doc)
  value_is (document ps) d f t n =
      let list = list_is ps n.0 f.0 t.0 n.2 in
      let doc = document_of n.0 d (pairs_read_back ps) (elements_bytes ps) n.1 list f.1 in
      subst (λ (q : Pairs). IsValue LastWins d tag.EmbeddedDocument (document_of_elements (elements_bytes ps)) (document q)) (one_each_written ps t.1)
      (is_embedded_document d (document_of_elements (elements_bytes ps)) (pairs_read_back ps) doc tt)

  items_is : (vs : Values) (d n : ℕ) → FitsItems vs → AreWellTyped vs → ItemsNestUpTo vs d
      → n + length (array_elements_bytes n vs) < 2 ^ 64 → Numbered d n vs
  items_is no_values d n f t h lt = record { pairs = no_pairs; spelled = is_empty d; are = refl }
  items_is (value v vs) d n f t h lt =
      let others = array_elements_bytes (n + 1) vs in
      let low : n + 1 + length others < 2 ^ 64 =
      omega (arith, lt, length-append (name_bytes (type_of v) (decimal n)) (value_bytes v ++ others), length-append (value_bytes v) others) in
      let rest = items_is vs d (n + 1) f.1 t.1 h.1 low in
      record {
        pairs = pair (decimal n) (map_scalars with_written_subtype v) rest.pairs;
        spelled = element_at_position d (decimal n) (value_bytes v) others v (map_scalars with_written_subtype v) rest.pairs
            (decimal_name n (omega (arith, low))) (value_is v d f.0 t.0 h.0) rest.spelled;
        are = ap (λ (ws : Values). value (map_scalars with_written_subtype v) ws) rest.are;
      }

  list_is : (ps : Pairs) (d : ℕ) → FitsElements ps → PairsAreWellTyped ps → PairsNestUpTo ps d → IsElementList LastWins d (elements_bytes ps) (pairs_read_back ps)
  list_is no_pairs d f t h = is_empty d
  list_is (pair k v ps) d f t h =
      element_at_position d k (value_bytes v) (elements_bytes ps) v (map_scalars with_written_subtype v) (pairs_read_back ps)
      (record { utf8 = t.0; no_zero = f.0 }) (value_is v d f.1.0 t.1 h.0) (list_is ps d f.1.1 t.2 h.1)

-- what is written is read back
pub written_read : (d : ℕ) (ps : Pairs) → FitsDocument ps → IsWellTypedDocument ps → PairsNestUpTo ps d
    → IsReadAsDocument (suc d) (document_bytes ps) (pairs_read_back ps)
written_read d ps f t h = record {
  elements = pairs_read_back ps;
  grammar = is_document d (elements_bytes ps) (pairs_read_back ps) (list_is ps d f.0 t.0 h) f.1;
  keys_allowed = tt;
  pairs = sym (one_each_written ps t.1);
}

-- documents of the same bytes are read back as the same
pub written_one : (d : ℕ) (ps qs : Pairs) → FitsDocument ps → FitsDocument qs → IsWellTypedDocument ps → IsWellTypedDocument qs
    → PairsNestUpTo ps d → PairsNestUpTo qs d → document_bytes ps ≡ document_bytes qs → pairs_read_back ps ≡ pairs_read_back qs
written_one d ps qs f g t u h k e =
    ok_is (pairs_read_back ps) (pairs_read_back qs)
    (sym (is_read LastWins (suc d) (document_bytes ps) (pairs_read_back ps) (written_read d ps f t h)) ∙ ap (reads_bytes (suc d)) e
    ∙ is_read LastWins (suc d) (document_bytes qs) (pairs_read_back qs) (written_read d qs g u k))
