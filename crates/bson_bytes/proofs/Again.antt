-- What is in the grammar is read.
use Rattle.std.proofs.Common.{◌≡◌, ℕ, zero, suc, ◌+◌, ◌^◌, ◌<◌, ◌≤◌, false, eqb, List, [], ◌∷◌, ◌++◌, length, Ok, None}
use Rattle.std.proofs.Common.{refl, sym, ap, subst, ◌∙◌, append_assoc, arith}
use Rattle.std.specs.Int.{w32, w64}
use Rattle.std.proofs.lemmas.Bool.{eq-eqb, ne_eqb}
use Rattle.std.proofs.lemmas.List.{length-append}
use Rattle.bson_types.specs.declared.spec.ElementType.{ElementType as Kind}
use Rattle.bson_types.specs.declared.spec.ElementType.TheVariants as tag
use Rattle.bson_types.specs.BinarySubtypes.{subtype_of}
use Rattle.bson_scalar.specs.Scalar as kind
use Rattle.bson_bytes.proofs.Tagged.{kind_again}
use Rattle.bson_types.specs.ElementTags.{tag_of}
use Rattle.bson_model.specs.Value.{Value, Pairs, no_pairs}
use Rattle.bson_model.specs.Value as model
use Rattle.bson_bytes.specs.Grammar.{little_endian, IsName, IsDocument, is_document, IsElementList, is_empty, is_element, IsValue}
use Rattle.bson_bytes.specs.Grammar.{is_double, is_text, is_embedded_document, is_array, is_binary, is_false, is_true, is_null}
use Rattle.bson_bytes.specs.Grammar.{is_int32, is_int64, is_old_binary, is_undefined, is_object_id, is_date, is_regex}
use Rattle.bson_bytes.specs.Grammar.{is_pointer, is_code, is_symbol, is_scope, is_timestamp, is_decimal, is_max_key}
use Rattle.bson_bytes.specs.Grammar.{is_min_key}
use Rattle.bson_bytes.specs.Grammar.{deduplicated_onto, text_bytes, IsText}
use Rattle.bson_bytes.specs.Reading.{read_binary, read_boolean, read_bytes, read_regex, read_pointer, read_timestamp, read_code_with_scope}
use Rattle.bson_bytes.specs.Reading.{read_value_in, read_elements, read_document_in, EarlierKeys, no_earlier_keys, add_earlier_key}
use Rattle.bson_model.specs.declared.options.DuplicateKeys.{DuplicateKeys}
use Rattle.bson_bytes.proofs.Standing.{Stand, stand_first, stand_rest, stand_from, key_again}
use Rattle.bson_bytes.proofs.PartLaws.{wide32, wide64, length-little_endian, number_again, size_again, bytes_again, name_again}
use Rattle.bson_bytes.proofs.PartLaws.{text_again, regroup as end_behind}
use Rattle.bson_bytes.proofs.Takes.{regroup}

tag_some : (t : Kind) → eqb (tag_of t) 0 ≡ false
tag_some tag.Double = refl
tag_some tag.String = refl
tag_some tag.EmbeddedDocument = refl
tag_some tag.Array = refl
tag_some tag.Binary = refl
tag_some tag.Undefined = refl
tag_some tag.ObjectId = refl
tag_some tag.Boolean = refl
tag_some tag.DateTime = refl
tag_some tag.Null = refl
tag_some tag.RegularExpression = refl
tag_some tag.DbPointer = refl
tag_some tag.JavaScriptCode = refl
tag_some tag.Symbol = refl
tag_some tag.JavaScriptCodeWithScope = refl
tag_some tag.Int32 = refl
tag_some tag.Timestamp = refl
tag_some tag.Int64 = refl
tag_some tag.Decimal128 = refl
tag_some tag.MaxKey = refl
tag_some tag.MinKey = refl

exact_again : (n : ℕ) (s rest : List ℕ) → length s ≡ n → read_bytes n (s ++ rest) ≡ Ok (s, rest)
exact_again n s rest e = subst (λ (k : ℕ). read_bytes k (s ++ rest) ≡ Ok (s, rest)) e (bytes_again s rest)

binary_again : (b : ℕ) (s rest : List ℕ) → (b ≡ 2 → ⊥) → length s < 2 ^ 31 → read_binary ((little_endian w32 (length s) ++ b ∷ s) ++ rest) ≡ Ok (model.scalar (kind.binary (subtype_of b) s), rest)
unfolding read_binary
binary_again b s rest n lt = ap read_binary (append_assoc (little_endian w32 (length s)) (b ∷ s) rest) ∙ rw (size_again (length s) (b ∷ (s ++ rest)) lt, ne_eqb b 2 n, bytes_again s rest) refl

old_binary_again : (s rest : List ℕ) → length s + 4 < 2 ^ 31 → read_binary ((little_endian w32 (length s + 4) ++ 2 ∷ (little_endian w32 (length s) ++ s)) ++ rest) ≡ Ok (model.scalar (kind.binary (subtype_of 2) s), rest)
unfolding read_binary
old_binary_again s rest lt =
    ap read_binary (append_assoc (little_endian w32 (length s + 4)) (2 ∷ (little_endian w32 (length s) ++ s)) rest ∙ ap (λ (x : List ℕ). little_endian w32 (length s + 4) ++ 2 ∷ x) (append_assoc (little_endian w32 (length s)) s rest))
    ∙ rw (size_again (length s + 4) (2 ∷ (little_endian w32 (length s) ++ (s ++ rest))) lt, size_again (length s) (s ++ rest) (omega arith), eq-eqb (length s + 4) (length s + 4) refl, bytes_again s rest) refl

regex_again : (p o rest : List ℕ) → IsName p → IsName o → read_regex ((p ++ 0 ∷ (o ++ 0 ∷ [])) ++ rest) ≡ Ok (model.scalar (kind.regex p o), rest)
unfolding read_regex
regex_again p o rest f g = ap read_regex (sym (regroup p o (0 ∷ []) rest)) ∙ rw (name_again p (o ++ 0 ∷ rest) f, name_again o rest g) refl

pointer_again : (s id rest : List ℕ) → IsText s → length id ≡ 12 → read_pointer ((text_bytes s ++ id) ++ rest) ≡ Ok (model.scalar (kind.db_pointer s id), rest)
unfolding read_pointer
pointer_again s id rest t e = ap read_pointer (append_assoc (text_bytes s) id rest) ∙ rw (text_again s (id ++ rest) t.0 t.1, exact_again 12 id rest e) refl

timestamp_again : (i t : ℕ) (rest : List ℕ) → i < 2 ^ 32 → t < 2 ^ 32 → read_timestamp ((little_endian w32 i ++ little_endian w32 t) ++ rest) ≡ Ok (model.scalar (kind.timestamp t i), rest)
unfolding read_timestamp
timestamp_again i t rest p q = ap read_timestamp (append_assoc (little_endian w32 i) (little_endian w32 t) rest) ∙ rw (number_again w32 (2 ^ 32) wide32 i (little_endian w32 t ++ rest) p, number_again w32 (2 ^ 32) wide32 t rest q) refl

scope_again : (keys : DuplicateKeys) (d : ℕ) (s bytes : List ℕ) (ps : Pairs) (rest : List ℕ) → IsText s → read_document_in keys d (no_earlier_keys keys) (bytes ++ rest) ≡ Ok (ps, rest) → 4 + (length (text_bytes s) + length bytes) < 2 ^ 31
    → read_code_with_scope (read_document_in keys d (no_earlier_keys keys)) ((little_endian w32 (4 + (length (text_bytes s) + length bytes)) ++ (text_bytes s ++ bytes)) ++ rest) ≡ Ok (model.code_scope s (deduplicated_onto no_pairs ps), rest)
unfolding read_code_with_scope
scope_again keys d s bytes ps rest t read lt =
    let n = 4 + (length (text_bytes s) + length bytes) in
    let back = append_assoc (little_endian w32 n) (text_bytes s ++ bytes) rest ∙ ap (λ (x : List ℕ). little_endian w32 n ++ x) (append_assoc (text_bytes s) bytes rest) in
    let counted : length (little_endian w32 n ++ (text_bytes s ++ (bytes ++ rest))) ≡ n + length rest =
    length-append (little_endian w32 n) (text_bytes s ++ (bytes ++ rest)) ∙ ap (λ (a : ℕ). a + length (text_bytes s ++ (bytes ++ rest))) (length-little_endian w32 (2 ^ 32) wide32 n)
    ∙ ap (λ (a : ℕ). 4 + a) (length-append (text_bytes s) (bytes ++ rest) ∙ ap (λ (a : ℕ). length (text_bytes s) + a) (length-append bytes rest)) ∙ omega arith in
    ap (read_code_with_scope (read_document_in keys d (no_earlier_keys keys))) back ∙ rw (size_again n (text_bytes s ++ (bytes ++ rest)) lt, text_again s (bytes ++ rest) t.0 t.1, read, eq-eqb _ _ (sym counted)) refl

mutual
  unfolding read_value_in read_boolean read_elements read_document_in

  value_again : {keys : DuplicateKeys} {d : ℕ} {t : Kind} {bytes : List ℕ} {v : Value} → IsValue keys d t bytes v → (rest : List ℕ)
      → read_value_in keys (read_document_in keys d) t (bytes ++ rest) ≡ Ok (v, rest)
  value_again (is_double d p lt) rest = rw (number_again w64 (2 ^ 64) wide64 p rest lt) refl
  value_again (is_text d s t) rest = rw (text_again s rest t.0 t.1) refl
  value_again {keys} (is_embedded_document d bytes ps w once) rest = rw (document_again w (no_earlier_keys keys) (stand_from keys ps once) rest) refl
  value_again (is_array d bytes ps w) rest = rw (document_again w None tt rest) refl
  value_again (is_binary d b s lt n fits) rest = binary_again b s rest n fits
  value_again (is_old_binary d s fits) rest = old_binary_again s rest fits
  value_again (is_undefined d) rest = refl
  value_again (is_object_id d id e) rest = rw (exact_again 12 id rest e) refl
  value_again (is_false d) rest = refl
  value_again (is_true d) rest = refl
  value_again (is_date d n lt) rest = rw (number_again w64 (2 ^ 64) wide64 n rest lt) refl
  value_again (is_null d) rest = refl
  value_again (is_regex d p o f g) rest = regex_again p o rest f g
  value_again (is_pointer d s id t e) rest = pointer_again s id rest t e
  value_again (is_code d s t) rest = rw (text_again s rest t.0 t.1) refl
  value_again (is_symbol d s t) rest = rw (text_again s rest t.0 t.1) refl
  value_again {keys} (is_scope d s bytes ps t w once lt) rest = scope_again keys d s bytes ps rest t (document_again w (no_earlier_keys keys) (stand_from keys ps once) rest) lt
  value_again (is_int32 d n lt) rest = rw (number_again w32 (2 ^ 32) wide32 n rest lt) refl
  value_again (is_timestamp d i t p q) rest = timestamp_again i t rest p q
  value_again (is_int64 d n lt) rest = rw (number_again w64 (2 ^ 64) wide64 n rest lt) refl
  value_again (is_decimal d s e) rest = rw (exact_again 16 s rest e) refl
  value_again (is_max_key d) rest = refl
  value_again (is_min_key d) rest = refl

  list_again : {keys : DuplicateKeys} {d : ℕ} {list : List ℕ} {ps : Pairs} → IsElementList keys d list ps → (before : EarlierKeys)
      → Stand before ps → (m : ℕ) (rest : List ℕ) → length (list ++ 0 ∷ rest) ≤ m
      → read_elements (read_value_in keys (read_document_in keys d)) before m (list ++ 0 ∷ rest) ≡ Ok (ps, rest)
  list_again (is_empty d) before stand zero rest little_endian = absurd (omega arith)
  list_again (is_empty d) before stand (suc m) rest little_endian = refl
  list_again (is_element d t k bytes list v ps name w ws) before stand zero rest little_endian = absurd (omega arith)
  list_again {keys} (is_element d t k bytes list v ps name w ws) before stand (suc m) rest little_endian =
      let more : length (list ++ 0 ∷ rest) ≤ m =
      omega (arith, little_endian, length-append k (0 ∷ (bytes ++ list)), length-append (k ++ 0 ∷ (bytes ++ list)) (0 ∷ rest), length-append bytes list, length-append list (0 ∷ rest)) in
      let key = key_again before (k ++ 0 ∷ (bytes ++ (list ++ 0 ∷ rest))) k (bytes ++ (list ++ 0 ∷ rest))
      (name_again k (bytes ++ (list ++ 0 ∷ rest)) name) (stand_first before k v ps stand) in
      ap (λ (x : List ℕ). read_elements (read_value_in keys (read_document_in keys d)) before (suc m) (tag_of t ∷ x)) (sym (regroup k bytes list (0 ∷ rest)))
      ∙ rw (tag_some t, kind_again t, key, value_again w (list ++ 0 ∷ rest), list_again ws (add_earlier_key k before) (stand_rest before k v ps stand) m rest more) refl

  pub document_again : {keys : DuplicateKeys} {d : ℕ} {bytes : List ℕ} {ps : Pairs} → IsDocument keys d bytes ps
      → (before : EarlierKeys) → Stand before ps → (rest : List ℕ) → read_document_in keys d before (bytes ++ rest) ≡ Ok (ps, rest)
  document_again {keys} (is_document d list ps ws lt) before stand rest =
      let back = end_behind (little_endian w32 (length list + 5)) list rest in
      let counted : length (little_endian w32 (length list + 5) ++ (list ++ 0 ∷ rest)) ≡ length list + 5 + length rest =
      length-append (little_endian w32 (length list + 5)) (list ++ 0 ∷ rest) ∙ ap (λ (a : ℕ). a + length (list ++ 0 ∷ rest)) (length-little_endian w32 (2 ^ 32) wide32 (length list + 5))
      ∙ ap (λ (a : ℕ). 4 + a) (length-append list (0 ∷ rest)) ∙ omega arith in
      ap (read_document_in keys (suc d) before) (sym back)
      ∙ rw (size_again (length list + 5) (list ++ 0 ∷ rest) lt, list_again ws before stand (length (list ++ 0 ∷ rest)) rest (omega arith), eq-eqb _ _ (sym counted)) refl
