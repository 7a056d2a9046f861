-- What was read is in the grammar.
use Rattle.std.proofs.Common.{◌≡◌, ℕ, zero, suc, ◌+◌, ◌^◌, ◌<◌, true, false, cond, eqb, List, [], ◌∷◌, ◌++◌, length}
use Rattle.std.proofs.Common.{None, Result, Ok, Err, refl, sym, ap, subst, ◌∙◌, append_assoc, arith, inl, inr}
use Rattle.std.specs.Int.{w32, w64, cast_signed}
use Rattle.std.proofs.lemmas.Bool.{eqb-true, eqb-false}
use Rattle.std.proofs.lemmas.List.{length-append}
use Rattle.bson_bytes.specs.declared.fault.Fault.{Fault}
use Rattle.bson_bytes.specs.declared.fault.FaultKind.TheVariants.{Length, Tag, Boolean}
use Rattle.bson_types.specs.declared.spec.ElementType.{ElementType as Kind}
use Rattle.bson_types.specs.declared.spec.ElementType.TheVariants as tag
use Rattle.bson_types.specs.BinarySubtypes.{subtype_of}
use Rattle.bson_scalar.specs.Scalar as kind
use Rattle.bson_bytes.proofs.Tagged.{tag_from}
use Rattle.bson_bytes.specs.Fault.{fault_at, ◌>>=◌, some_or_fault}
use Rattle.bson_types.specs.ElementTags.{tag_of}
use Rattle.bson_bytes.specs.TypeTags.{type_of_tag}
use Rattle.bson_model.specs.Value.{Value, Pairs, no_pairs, pair}
use Rattle.bson_model.specs.Value as model
use Rattle.bson_bytes.specs.Grammar.{little_endian, IsDocument, is_document, IsElementList, is_empty, is_element, IsValue}
use Rattle.bson_bytes.specs.Grammar.{is_double, is_text, is_embedded_document, is_array, is_binary, is_false, is_true, is_null}
use Rattle.bson_bytes.specs.Grammar.{is_int32, is_int64, is_old_binary, is_undefined, is_object_id, is_date, is_regex}
use Rattle.bson_bytes.specs.Grammar.{is_pointer, is_code, is_symbol, is_scope, is_timestamp, is_decimal, is_max_key}
use Rattle.bson_bytes.specs.Grammar.{is_min_key}
use Rattle.bson_bytes.specs.Grammar.{pair_values, deduplicated_onto, text_bytes, IsText}
use Rattle.bson_bytes.specs.Reading.{read_byte, read_bytes, read_integer, read_length, read_name, read_string, read_binary, read_boolean}
use Rattle.bson_bytes.specs.Reading.{read_value_in, read_elements, check_length, read_document_in, map_pairs_read, insert_pairs_read, read_regex, read_pointer}
use Rattle.bson_bytes.specs.Reading.{read_timestamp, read_code_with_scope, read_old_binary, read_plain_binary, EarlierKeys, no_earlier_keys, add_earlier_key}
use Rattle.bson_bytes.specs.Reading.{read_key}
use Rattle.bson_model.specs.declared.options.DuplicateKeys.{DuplicateKeys}
use Rattle.bson_bytes.proofs.Standing.{Stand, stand_none, stand_more, may_stand, key_takes}
use Rattle.bson_bytes.proofs.PartLaws.{IsBytes, IsBytes-rest, Takes, bind_ok, if_ok, chosen, ok_is, or_fault_ok}
use Rattle.bson_bytes.proofs.PartLaws.{IsNumber, wide32, wide64, length-little_endian, number_takes, size_takes, bytes_takes}
use Rattle.bson_bytes.proofs.PartLaws.{byte_takes, name_takes, text_takes, IsTextBytes, regroup as end_behind}

-- a value and the bytes after it, as the reader gives them
abbrev pub Of : (ℕ → Kind → List ℕ → Value → Type 0) → ℕ → Kind → List ℕ → Value × List ℕ → Type 0
Of W d t bytes p = Takes (W d t) bytes p.0 p.1

-- a part x in W that was read, as the value f x
pub retold : {keys : DuplicateKeys} {A : Type 0} (W : List ℕ → A → Type 0) (d : ℕ) (t : Kind) (f : A → Value) → ((front : List ℕ) (x : A) → W front x → IsValue keys d t front (f x))
    → (bytes : List ℕ) (x : A) (rest : List ℕ) → Takes W bytes x rest → Takes (IsValue keys d t) bytes (f x) rest
retold W d t f g bytes x rest h = record { front = h.front; spelled = g h.front x h.spelled; parts = h.parts; rest_bytes = h.rest_bytes }

-- the same, through a step of the reader
pub stepped : {keys : DuplicateKeys} {A : Type 0} (W : List ℕ → A → Type 0) (d : ℕ) (t : Kind) (f : A → Value) → ((front : List ℕ) (x : A) → W front x → IsValue keys d t front (f x))
    → (bytes : List ℕ) (r : Result (A × List ℕ) Fault) (p : Value × List ℕ)
    → ((x : A) (rest : List ℕ) → r ≡ Ok (x, rest) → Takes W bytes x rest)
    → (r >>= λ x. Ok (f x.0, x.1)) ≡ Ok p → Of (IsValue keys) d t bytes p
stepped {keys} W d t f g bytes r p h e =
    let b = bind_ok r (λ x. Ok (f x.0, x.1)) p e in
    subst (λ (q : Value × List ℕ). Of (IsValue keys) d t bytes q) (ok_is (f b.0.0, b.0.1) p b.2) (retold W d t f g bytes b.0.0 b.0.1 (h b.0.0 b.0.1 b.1))

abbrev done : {A : Type 0} → A → Result A Fault
done x = Ok x

pub regroup : (k a b c : List ℕ) → k ++ 0 ∷ (a ++ (b ++ c)) ≡ (k ++ 0 ∷ (a ++ b)) ++ c
regroup k a b c = simp append_assoc

skip_name : (k rest : List ℕ) → IsBytes (k ++ 0 ∷ rest) → IsBytes rest
skip_name [] rest h = IsBytes-rest 0 rest h
skip_name (b ∷ k) rest h = skip_name k rest (IsBytes-rest b (k ++ 0 ∷ rest) h)

same_number : (n a b c m : ℕ) → n + c ≡ m → m ≡ 4 + (a + b + c) → n ≡ 4 + (a + b)
same_number n a b c m e f = omega arith

-- a text that was read, with its own bytes
text_part : {keys : DuplicateKeys} (d : ℕ) (t : Kind) (f : List ℕ → Value) → ((s : List ℕ) → IsText s → IsValue keys d t (text_bytes s) (f s)) → (bytes : List ℕ) (p : Value × List ℕ) → IsBytes bytes → (read_string bytes >>= λ s. Ok (f s.0, s.1)) ≡ Ok p → Of (IsValue keys) d t bytes p
text_part d t f g bytes p fits e = stepped IsTextBytes d t f (λ front s w. rw w.0 (g s (w.1, w.2))) bytes (read_string bytes) p (λ s rest r. text_takes bytes s rest fits r) e

abbrev Is : ℕ → List ℕ → List ℕ → Type 0
Is n front x = (front ≡ x) × (length x ≡ n)

bytes_part : {keys : DuplicateKeys} (n d : ℕ) (t : Kind) (f : List ℕ → Value) → ((s : List ℕ) → length s ≡ n → IsValue keys d t s (f s)) → (bytes : List ℕ) (p : Value × List ℕ) → IsBytes bytes → (read_bytes n bytes >>= λ s. Ok (f s.0, s.1)) ≡ Ok p → Of (IsValue keys) d t bytes p
bytes_part n d t f g bytes p fits e = stepped (Is n) d t f (λ front s w. rw w.0 (g s w.1)) bytes (read_bytes n bytes) p (λ s rest r. bytes_takes n bytes s rest fits r) e

empty_part : {keys : DuplicateKeys} (d : ℕ) (t : Kind) (v : Value) → IsValue keys d t [] v → (bytes : List ℕ) (p : Value × List ℕ) → IsBytes bytes → done (v, bytes) ≡ done p → Of (IsValue keys) d t bytes p
empty_part {keys} d t v w bytes p fits e = subst (λ (q : Value × List ℕ). Of (IsValue keys) d t bytes q) (ok_is (v, bytes) p e) record { front = []; spelled = w; parts = refl; rest_bytes = fits }

-- two parts, one after the other
two_parts : {keys : DuplicateKeys} (d : ℕ) (t : Kind) (bytes a middle b rest : List ℕ) (v : Value) (p : Value × List ℕ) → bytes ≡ a ++ middle → middle ≡ b ++ rest → IsBytes rest → IsValue keys d t (a ++ b) v → done (v, rest) ≡ done p → Of (IsValue keys) d t bytes p
two_parts {keys} d t bytes a middle b rest v p e f fits w h =
    subst (λ (q : Value × List ℕ). Of (IsValue keys) d t bytes q) (ok_is (v, rest) p h)
    record { front = a ++ b; spelled = w; parts = e ∙ ap (λ (x : List ℕ). a ++ x) f ∙ sym (append_assoc a b rest); rest_bytes = fits }

binary_takes : {keys : DuplicateKeys} (d : ℕ) (bytes : List ℕ) (p : Value × List ℕ) → IsBytes bytes → read_binary bytes ≡ Ok p → Of (IsValue keys) d tag.Binary bytes p
unfolding read_binary
binary_takes d bytes p fits e =
    let b = bind_ok (read_length bytes) (λ n. read_byte n.1 >>= λ b. cond (eqb b.0 2) (read_old_binary n.0 b.1) (read_plain_binary b.0 n.0 b.1)) p e in
    let c = bind_ok (read_byte b.0.1) (λ c. cond (eqb c.0 2) (read_old_binary b.0.0 c.1) (read_plain_binary c.0 b.0.0 c.1)) p b.2 in
    let size = size_takes bytes b.0.0 b.0.1 fits b.1 in
    let byte = byte_takes b.0.1 c.0.0 c.0.1 c.1 in
    let more = subst IsBytes byte size.rest_bytes in
    let behind = IsBytes-rest c.0.0 c.0.1 more in
    elim (chosen (eqb c.0.0 2) (read_old_binary b.0.0 c.0.1) (read_plain_binary c.0.0 b.0.0 c.0.1) (Ok p) c.2) [
      | inl old ↦
          let n = bind_ok (read_length c.0.1) (λ n. cond (eqb (n.0 + 4) b.0.0) (read_bytes n.0 n.1 >>= λ s. Ok (model.scalar (kind.binary (subtype_of 2) s.0), s.1)) (Err (fault_at Length c.0.1))) p old.1 in
          let g = if_ok (eqb (n.0.0 + 4) b.0.0) (read_bytes n.0.0 n.0.1 >>= λ s. Ok (model.scalar (kind.binary (subtype_of 2) s.0), s.1)) (fault_at Length c.0.1) p n.2 in
          let s = bind_ok (read_bytes n.0.0 n.0.1) (λ s. Ok (model.scalar (kind.binary (subtype_of 2) s.0), s.1)) p g.1 in
          let inner = size_takes c.0.1 n.0.0 n.0.1 behind n.1 in
          let held = bytes_takes n.0.0 n.0.1 s.0.0 s.0.1 inner.rest_bytes s.1 in
          let same = eqb-true (n.0.0 + 4) b.0.0 g.0 in
          let two : b.0.1 ≡ 2 ∷ c.0.1 = byte ∙ ap (λ (x : ℕ). x ∷ c.0.1) (eqb-true c.0.0 2 old.0) in
          let whole : b.0.1 ≡ (2 ∷ (little_endian w32 (length s.0.0) ++ s.0.0)) ++ s.0.1 = two ∙ ap (λ (x : List ℕ). 2 ∷ x) (inner.parts ∙ ap (λ (x : List ℕ). x ++ n.0.1) inner.spelled.0
          ∙ ap (λ (x : List ℕ). little_endian w32 n.0.0 ++ x) (held.parts ∙ ap (λ (x : List ℕ). x ++ s.0.1) held.spelled.0) ∙ sym (append_assoc (little_endian w32 n.0.0) s.0.0 s.0.1) ∙ ap (λ (k : ℕ). (little_endian w32 k ++ s.0.0) ++ s.0.1) (sym held.spelled.1)) in
          let n-is : b.0.0 ≡ length s.0.0 + 4 = omega (arith, same, held.spelled.1) in
          two_parts d tag.Binary bytes (little_endian w32 (length s.0.0 + 4)) b.0.1 (2 ∷ (little_endian w32 (length s.0.0) ++ s.0.0)) s.0.1 (model.scalar (kind.binary (subtype_of 2) s.0.0)) p
          (size.parts ∙ ap (λ (x : List ℕ). x ++ b.0.1) (size.spelled.0 ∙ ap (λ (k : ℕ). little_endian w32 k) n-is)) whole held.rest_bytes
          (is_old_binary d s.0.0 (omega (arith, size.spelled.1, n-is))) s.2
      | inr plain ↦
          let s = bind_ok (read_bytes b.0.0 c.0.1) (λ s. Ok (model.scalar (kind.binary (subtype_of c.0.0) s.0), s.1)) p plain.1 in
          let held = bytes_takes b.0.0 c.0.1 s.0.0 s.0.1 behind s.1 in
          let whole : b.0.1 ≡ (c.0.0 ∷ s.0.0) ++ s.0.1 = byte ∙ ap (λ (x : List ℕ). c.0.0 ∷ x) (held.parts ∙ ap (λ (x : List ℕ). x ++ s.0.1) held.spelled.0) in
          two_parts d tag.Binary bytes (little_endian w32 (length s.0.0)) b.0.1 (c.0.0 ∷ s.0.0) s.0.1 (model.scalar (kind.binary (subtype_of c.0.0) s.0.0)) p
          (size.parts ∙ ap (λ (x : List ℕ). x ++ b.0.1) (size.spelled.0 ∙ ap (λ (k : ℕ). little_endian w32 k) (sym held.spelled.1))) whole held.rest_bytes
          (is_binary d c.0.0 s.0.0 (more 0) (eqb-false c.0.0 2 plain.0) (omega (arith, size.spelled.1, held.spelled.1))) s.2
    ]

boolean_takes : {keys : DuplicateKeys} (d : ℕ) (bytes : List ℕ) (p : Value × List ℕ) → IsBytes bytes → read_boolean bytes ≡ Ok p → Of (IsValue keys) d tag.Boolean bytes p
unfolding read_boolean
boolean_takes {keys} d bytes p fits e =
    let b = bind_ok (read_byte bytes) (λ b. cond (eqb b.0 0) (Ok (model.scalar (kind.boolean false), b.1)) (cond (eqb b.0 1) (Ok (model.scalar (kind.boolean true), b.1)) (Err (fault_at Boolean bytes)))) p e in
    let byte = byte_takes bytes b.0.0 b.0.1 b.1 in
    let rest = IsBytes-rest b.0.0 b.0.1 (subst IsBytes byte fits) in
    elim (chosen (eqb b.0.0 0) (Ok (model.scalar (kind.boolean false), b.0.1)) (cond (eqb b.0.0 1) (Ok (model.scalar (kind.boolean true), b.0.1)) (Err (fault_at Boolean bytes))) (Ok p) b.2) [
      | inl z ↦ subst (λ (q : Value × List ℕ). Of (IsValue keys) d tag.Boolean bytes q) (ok_is (model.scalar (kind.boolean false), b.0.1) p z.1)
          record { front = 0 ∷ []; spelled = is_false d; parts = byte ∙ ap (λ (x : ℕ). x ∷ b.0.1) (eqb-true b.0.0 0 z.0); rest_bytes = rest }
      | inr n ↦
          let o = if_ok (eqb b.0.0 1) (Ok (model.scalar (kind.boolean true), b.0.1)) (fault_at Boolean bytes) p n.1 in
          subst (λ (q : Value × List ℕ). Of (IsValue keys) d tag.Boolean bytes q) (ok_is (model.scalar (kind.boolean true), b.0.1) p o.1)
          record { front = 1 ∷ []; spelled = is_true d; parts = byte ∙ ap (λ (x : ℕ). x ∷ b.0.1) (eqb-true b.0.0 1 o.0); rest_bytes = rest }
    ]

-- the bytes of a document whose keys may follow those
abbrev pub StandsBehind : DuplicateKeys → ℕ → EarlierKeys → List ℕ → Pairs → Type 0
StandsBehind keys d before front ps = IsDocument keys d front ps × Stand before ps

abbrev pub DocumentTakes : DuplicateKeys → ℕ → Type 0
DocumentTakes keys d = (before : EarlierKeys) (bytes : List ℕ) (ps : Pairs) (rest : List ℕ) → IsBytes bytes → read_document_in keys d before bytes ≡ Ok (ps, rest) → Takes (StandsBehind keys d before) bytes ps rest

regex_takes : {keys : DuplicateKeys} (d : ℕ) (bytes : List ℕ) (p : Value × List ℕ) → IsBytes bytes → read_regex bytes ≡ Ok p → Of (IsValue keys) d tag.RegularExpression bytes p
unfolding read_regex
regex_takes {keys} d bytes p fits e =
    let a = bind_ok (read_name bytes) (λ a. read_name a.1 >>= λ o. Ok (model.scalar (kind.regex a.0 o.0), o.1)) p e in
    let o = bind_ok (read_name a.0.1) (λ o. Ok (model.scalar (kind.regex a.0.0 o.0), o.1)) p a.2 in
    let first = name_takes bytes a.0.0 a.0.1 a.1 in
    let second = name_takes a.0.1 o.0.0 o.0.1 o.1 in
    let fits1 = skip_name a.0.0 a.0.1 (subst IsBytes first.1 fits) in
    let fits2 = skip_name o.0.0 o.0.1 (subst IsBytes second.1 fits1) in
    subst (λ (q : Value × List ℕ). Of (IsValue keys) d tag.RegularExpression bytes q) (ok_is (model.scalar (kind.regex a.0.0 o.0.0), o.0.1) p o.2)
    record { front = a.0.0 ++ 0 ∷ (o.0.0 ++ 0 ∷ []); spelled = is_regex d a.0.0 o.0.0 first.0 second.0; parts = first.1 ∙ ap (λ (x : List ℕ). a.0.0 ++ 0 ∷ x) second.1 ∙ regroup a.0.0 o.0.0 (0 ∷ []) o.0.1; rest_bytes = fits2 }

pointer_takes : {keys : DuplicateKeys} (d : ℕ) (bytes : List ℕ) (p : Value × List ℕ) → IsBytes bytes → read_pointer bytes ≡ Ok p → Of (IsValue keys) d tag.DbPointer bytes p
unfolding read_pointer
pointer_takes d bytes p fits e =
    let a = bind_ok (read_string bytes) (λ a. read_bytes 12 a.1 >>= λ id. Ok (model.scalar (kind.db_pointer a.0 id.0), id.1)) p e in
    let o = bind_ok (read_bytes 12 a.0.1) (λ id. Ok (model.scalar (kind.db_pointer a.0.0 id.0), id.1)) p a.2 in
    let first = text_takes bytes a.0.0 a.0.1 fits a.1 in
    let second = bytes_takes 12 a.0.1 o.0.0 o.0.1 first.rest_bytes o.1 in
    two_parts d tag.DbPointer bytes (text_bytes a.0.0) a.0.1 o.0.0 o.0.1 (model.scalar (kind.db_pointer a.0.0 o.0.0)) p
    (first.parts ∙ ap (λ (x : List ℕ). x ++ a.0.1) first.spelled.0) (second.parts ∙ ap (λ (x : List ℕ). x ++ o.0.1) second.spelled.0) second.rest_bytes
    (is_pointer d a.0.0 o.0.0 (first.spelled.1, first.spelled.2) second.spelled.1) o.2

timestamp_takes : {keys : DuplicateKeys} (d : ℕ) (bytes : List ℕ) (p : Value × List ℕ) → IsBytes bytes → read_timestamp bytes ≡ Ok p → Of (IsValue keys) d tag.Timestamp bytes p
unfolding read_timestamp
timestamp_takes d bytes p fits e =
    let a = bind_ok (read_integer w32 bytes) (λ i. read_integer w32 i.1 >>= λ t. Ok (model.scalar (kind.timestamp t.0 i.0), t.1)) p e in
    let o = bind_ok (read_integer w32 a.0.1) (λ t. Ok (model.scalar (kind.timestamp t.0 a.0.0), t.1)) p a.2 in
    let first = number_takes w32 (2 ^ 32) wide32 bytes a.0.0 a.0.1 fits a.1 in
    let second = number_takes w32 (2 ^ 32) wide32 a.0.1 o.0.0 o.0.1 first.rest_bytes o.1 in
    two_parts d tag.Timestamp bytes (little_endian w32 a.0.0) a.0.1 (little_endian w32 o.0.0) o.0.1 (model.scalar (kind.timestamp o.0.0 a.0.0)) p
    (first.parts ∙ ap (λ (x : List ℕ). x ++ a.0.1) first.spelled.0) (second.parts ∙ ap (λ (x : List ℕ). x ++ o.0.1) second.spelled.0) second.rest_bytes
    (is_timestamp d a.0.0 o.0.0 first.spelled.1 second.spelled.1) o.2

-- the bytes of a document that f makes this of
abbrev IsOf : {A : Type 0} → DuplicateKeys → EarlierKeys → (Pairs → A) → ℕ → List ℕ → A → Type 0
IsOf keys before f d front y = (ps : Pairs) × StandsBehind keys d before front ps × (y ≡ f ps)

mapped_takes : {keys : DuplicateKeys} {A : Type 0} (before : EarlierKeys) (f : Pairs → A) (d : ℕ) → DocumentTakes keys d → (bytes : List ℕ) (y : A) (rest : List ℕ) → IsBytes bytes → map_pairs_read f (read_document_in keys d before bytes) ≡ Ok (y, rest) → Takes (IsOf keys before f d) bytes y rest
mapped_takes {keys} {A} before f d h bytes y rest fits e =
    let b = bind_ok (read_document_in keys d before bytes) (λ x. Ok (f x.0, x.1)) (y, rest) e in
    let t = h before bytes b.0.0 b.0.1 fits b.1 in
    let made : Takes (IsOf keys before f d) bytes (f b.0.0) b.0.1 = record { front = t.front; spelled = (b.0.0, t.spelled, refl); parts = t.parts; rest_bytes = t.rest_bytes } in
    subst (λ (p : A × List ℕ). Takes (IsOf keys before f d) bytes p.0 p.1) (ok_is (f b.0.0, b.0.1) (y, rest) b.2) made

scope_takes : {keys : DuplicateKeys} (d : ℕ) → DocumentTakes keys d → (bytes : List ℕ) (p : Value × List ℕ) → IsBytes bytes → read_code_with_scope (read_document_in keys d (no_earlier_keys keys)) bytes ≡ Ok p → Of (IsValue keys) d tag.JavaScriptCodeWithScope bytes p
unfolding read_code_with_scope
scope_takes {keys} d h bytes p fits e =
    let b = bind_ok (read_length bytes) (λ n. read_string n.1 >>= λ s. insert_pairs_read no_pairs (read_document_in keys d (no_earlier_keys keys) s.1) >>= λ x. cond (eqb (n.0 + length x.1) (length bytes)) (Ok (model.code_scope s.0 x.0, x.1)) (Err (fault_at Length bytes))) p e in
    let s = bind_ok (read_string b.0.1) (λ s. insert_pairs_read no_pairs (read_document_in keys d (no_earlier_keys keys) s.1) >>= λ x. cond (eqb (b.0.0 + length x.1) (length bytes)) (Ok (model.code_scope s.0 x.0, x.1)) (Err (fault_at Length bytes))) p b.2 in
    let x = bind_ok (insert_pairs_read no_pairs (read_document_in keys d (no_earlier_keys keys) s.0.1)) (λ x. cond (eqb (b.0.0 + length x.1) (length bytes)) (Ok (model.code_scope s.0.0 x.0, x.1)) (Err (fault_at Length bytes))) p s.2 in
    let g = if_ok (eqb (b.0.0 + length x.0.1) (length bytes)) (Ok (model.code_scope s.0.0 x.0.0, x.0.1)) (fault_at Length bytes) p x.2 in
    let size = size_takes bytes b.0.0 b.0.1 fits b.1 in
    let text = text_takes b.0.1 s.0.0 s.0.1 size.rest_bytes s.1 in
    let doc = mapped_takes (no_earlier_keys keys) (deduplicated_onto no_pairs) d h s.0.1 x.0.0 x.0.1 text.rest_bytes x.1 in
    let whole : b.0.1 ≡ (text_bytes s.0.0 ++ doc.front) ++ x.0.1 = text.parts ∙ ap (λ (a : List ℕ). a ++ s.0.1) text.spelled.0 ∙ ap (λ (a : List ℕ). text_bytes s.0.0 ++ a) doc.parts ∙ sym (append_assoc (text_bytes s.0.0) doc.front x.0.1) in
    let front : bytes ≡ little_endian w32 b.0.0 ++ b.0.1 = size.parts ∙ ap (λ (a : List ℕ). a ++ b.0.1) size.spelled.0 in
    let counted : length bytes ≡ 4 + (length (text_bytes s.0.0) + length doc.front + length x.0.1) =
    ap length front ∙ length-append (little_endian w32 b.0.0) b.0.1 ∙ ap (λ (a : ℕ). a + length b.0.1) (length-little_endian w32 (2 ^ 32) wide32 b.0.0)
    ∙ ap (λ (a : ℕ). 4 + a) (ap length whole ∙ length-append (text_bytes s.0.0 ++ doc.front) x.0.1 ∙ ap (λ (a : ℕ). a + length x.0.1) (length-append (text_bytes s.0.0) doc.front)) in
    let n-is : b.0.0 ≡ 4 + (length (text_bytes s.0.0) + length doc.front) = same_number b.0.0 (length (text_bytes s.0.0)) (length doc.front) (length x.0.1) (length bytes) (eqb-true _ _ g.0) counted in
    two_parts d tag.JavaScriptCodeWithScope bytes (little_endian w32 (4 + (length (text_bytes s.0.0) + length doc.front))) b.0.1 (text_bytes s.0.0 ++ doc.front) x.0.1 (model.code_scope s.0.0 x.0.0) p
    (front ∙ ap (λ (k : ℕ). little_endian w32 k ++ b.0.1) n-is) whole doc.rest_bytes
    (subst (λ (q : Pairs). IsValue keys d tag.JavaScriptCodeWithScope (little_endian w32 (4 + (length (text_bytes s.0.0) + length doc.front)) ++ (text_bytes s.0.0 ++ doc.front)) (model.code_scope s.0.0 q)) (sym doc.spelled.2)
    (is_scope d s.0.0 doc.front doc.spelled.0 (text.spelled.1, text.spelled.2) doc.spelled.1.0 (may_stand keys doc.spelled.0 doc.spelled.1.1) (subst (λ (k : ℕ). k < 2 ^ 31) n-is size.spelled.1))) g.1

value_takes : {keys : DuplicateKeys} (d : ℕ) → DocumentTakes keys d → (t : Kind) (bytes : List ℕ) (p : Value × List ℕ) → IsBytes bytes → read_value_in keys (read_document_in keys d) t bytes ≡ Ok p → Of (IsValue keys) d t bytes p
unfolding read_value_in
value_takes d h tag.Double bytes p fits e =
    stepped (IsNumber w64 (2 ^ 64)) d tag.Double (λ n. model.scalar (kind.double n)) (λ front n w. rw w.0 (is_double d n w.1)) bytes (read_integer w64 bytes) p (λ n rest r. number_takes w64 (2 ^ 64) wide64 bytes n rest fits r) e
value_takes d h tag.String bytes p fits e = text_part d tag.String (λ s. model.scalar (kind.text s)) (λ s w. is_text d s w) bytes p fits e
value_takes {keys} d h tag.EmbeddedDocument bytes p fits e =
    stepped (IsOf keys (no_earlier_keys keys) (deduplicated_onto no_pairs) d) d tag.EmbeddedDocument (λ ps. model.document ps) (λ front ps w. rw w.2 (is_embedded_document d front w.0 w.1.0 (may_stand keys w.0 w.1.1))) bytes (insert_pairs_read no_pairs (read_document_in keys d (no_earlier_keys keys) bytes)) p (λ ps rest r. mapped_takes (no_earlier_keys keys) (deduplicated_onto no_pairs) d h bytes ps rest fits r) e
value_takes {keys} d h tag.Array bytes p fits e =
    stepped (IsOf keys None pair_values d) d tag.Array (λ vs. model.array vs) (λ front vs w. rw w.2 (is_array d front w.0 w.1.0)) bytes (map_pairs_read pair_values (read_document_in keys d None bytes)) p (λ vs rest r. mapped_takes None pair_values d h bytes vs rest fits r) e
value_takes d h tag.Binary bytes p fits e = binary_takes d bytes p fits e
value_takes d h tag.Undefined bytes p fits e = empty_part d tag.Undefined (model.scalar kind.undefined) (is_undefined d) bytes p fits e
value_takes d h tag.ObjectId bytes p fits e = bytes_part 12 d tag.ObjectId (λ s. model.scalar (kind.object_id s)) (λ s w. is_object_id d s w) bytes p fits e
value_takes d h tag.Boolean bytes p fits e = boolean_takes d bytes p fits e
value_takes d h tag.DateTime bytes p fits e =
    stepped (IsNumber w64 (2 ^ 64)) d tag.DateTime (λ n. model.scalar (kind.date (cast_signed w64 n))) (λ front n w. rw w.0 (is_date d n w.1)) bytes (read_integer w64 bytes) p (λ n rest r. number_takes w64 (2 ^ 64) wide64 bytes n rest fits r) e
value_takes d h tag.Null bytes p fits e = empty_part d tag.Null (model.scalar kind.null) (is_null d) bytes p fits e
value_takes d h tag.RegularExpression bytes p fits e = regex_takes d bytes p fits e
value_takes d h tag.DbPointer bytes p fits e = pointer_takes d bytes p fits e
value_takes d h tag.JavaScriptCode bytes p fits e = text_part d tag.JavaScriptCode (λ s. model.scalar (kind.code s)) (λ s w. is_code d s w) bytes p fits e
value_takes d h tag.Symbol bytes p fits e = text_part d tag.Symbol (λ s. model.scalar (kind.symbol s)) (λ s w. is_symbol d s w) bytes p fits e
value_takes d h tag.JavaScriptCodeWithScope bytes p fits e = scope_takes d h bytes p fits e
value_takes d h tag.Int32 bytes p fits e =
    stepped (IsNumber w32 (2 ^ 32)) d tag.Int32 (λ n. model.scalar (kind.int32 (cast_signed w32 n))) (λ front n w. rw w.0 (is_int32 d n w.1)) bytes (read_integer w32 bytes) p (λ n rest r. number_takes w32 (2 ^ 32) wide32 bytes n rest fits r) e
value_takes d h tag.Timestamp bytes p fits e = timestamp_takes d bytes p fits e
value_takes d h tag.Int64 bytes p fits e =
    stepped (IsNumber w64 (2 ^ 64)) d tag.Int64 (λ n. model.scalar (kind.int64 (cast_signed w64 n))) (λ front n w. rw w.0 (is_int64 d n w.1)) bytes (read_integer w64 bytes) p (λ n rest r. number_takes w64 (2 ^ 64) wide64 bytes n rest fits r) e
value_takes d h tag.Decimal128 bytes p fits e = bytes_part 16 d tag.Decimal128 (λ s. model.scalar (kind.decimal s)) (λ s w. is_decimal d s w) bytes p fits e
value_takes d h tag.MaxKey bytes p fits e = empty_part d tag.MaxKey (model.scalar kind.max_key) (is_max_key d) bytes p fits e
value_takes d h tag.MinKey bytes p fits e = empty_part d tag.MinKey (model.scalar kind.min_key) (is_min_key d) bytes p fits e

-- a list, the byte 0, and the bytes after it
pub record TakesList (keys : DuplicateKeys) (d : ℕ) (before : EarlierKeys) (bytes : List ℕ) (ps : Pairs) (rest : List ℕ) : Type 0 where
  pub list : List ℕ
  pub spelled : IsElementList keys d list ps
  pub stand : Stand before ps
  pub parts : bytes ≡ list ++ 0 ∷ rest
  pub rest_bytes : IsBytes rest

list_takes : {keys : DuplicateKeys} (d : ℕ) → DocumentTakes keys d → (before : EarlierKeys) (m : ℕ) (bytes : List ℕ) (p : Pairs × List ℕ) → IsBytes bytes → read_elements (read_value_in keys (read_document_in keys d)) before m bytes ≡ Ok p → TakesList keys d before bytes p.0 p.1
unfolding read_elements
list_takes d h before zero bytes p fits e = absurd cc
list_takes {keys} d h before (suc m) bytes p fits e =
    let element = read_value_in keys (read_document_in keys d) in
    let b = bind_ok (read_byte bytes) (λ t. cond (eqb t.0 0) (Ok (no_pairs, t.1)) (some_or_fault (type_of_tag t.0) Tag bytes >>= λ k. read_key before t.1 >>= λ s. element k s.1 >>= λ v. read_elements element (add_earlier_key s.0 before) m v.1 >>= λ x. Ok (pair s.0 v.0 x.0, x.1))) p e in
    let t = b.0 in
    let byte = byte_takes bytes t.0 t.1 b.1 in
    let fits1 = IsBytes-rest t.0 t.1 (subst IsBytes byte fits) in
    elim (chosen (eqb t.0 0) (Ok (no_pairs, t.1)) (some_or_fault (type_of_tag t.0) Tag bytes >>= λ k. read_key before t.1 >>= λ s. element k s.1 >>= λ v. read_elements element (add_earlier_key s.0 before) m v.1 >>= λ x. Ok (pair s.0 v.0 x.0, x.1)) (Ok p) b.2) [
      | inl z ↦ subst (λ (q : Pairs × List ℕ). TakesList keys d before bytes q.0 q.1) (ok_is (no_pairs, t.1) p z.1)
          record { list = []; spelled = is_empty d; stand = stand_none before; parts = byte ∙ ap (λ (x : ℕ). x ∷ t.1) (eqb-true t.0 0 z.0); rest_bytes = fits1 }
      | inr n ↦
          let k = bind_ok (some_or_fault (type_of_tag t.0) Tag bytes) (λ k. read_key before t.1 >>= λ s. element k s.1 >>= λ v. read_elements element (add_earlier_key s.0 before) m v.1 >>= λ x. Ok (pair s.0 v.0 x.0, x.1)) p n.1 in
          let s = bind_ok (read_key before t.1) (λ s. element k.0 s.1 >>= λ v. read_elements element (add_earlier_key s.0 before) m v.1 >>= λ x. Ok (pair s.0 v.0 x.0, x.1)) p k.2 in
          let v = bind_ok (element k.0 s.0.1) (λ v. read_elements element (add_earlier_key s.0.0 before) m v.1 >>= λ x. Ok (pair s.0.0 v.0 x.0, x.1)) p s.2 in
          let x = bind_ok (read_elements element (add_earlier_key s.0.0 before) m v.0.1) (λ x. Ok (pair s.0.0 v.0.0 x.0, x.1)) p v.2 in
          let tag = tag_from t.0 k.0 (or_fault_ok (type_of_tag t.0) Tag bytes k.0 k.1) in
          let key = key_takes before t.1 s.0.0 s.0.1 s.1 in
          let name = name_takes t.1 s.0.0 s.0.1 key.0 in
          let fits2 = skip_name s.0.0 s.0.1 (subst IsBytes name.1 fits1) in
          let val = value_takes d h k.0 s.0.1 v.0 fits2 v.1 in
          let others = list_takes d h (add_earlier_key s.0.0 before) m v.0.1 x.0 val.rest_bytes x.1 in
          let whole : bytes ≡ (tag_of k.0 ∷ (s.0.0 ++ 0 ∷ (val.front ++ others.list))) ++ 0 ∷ x.0.1 =
          byte ∙ ap (λ (a : ℕ). a ∷ t.1) (sym tag) ∙ ap (λ (a : List ℕ). tag_of k.0 ∷ a) (name.1
          ∙ ap (λ (a : List ℕ). s.0.0 ++ 0 ∷ a) (val.parts ∙ ap (λ (a : List ℕ). val.front ++ a) others.parts)
          ∙ regroup s.0.0 val.front others.list (0 ∷ x.0.1)) in
          subst (λ (q : Pairs × List ℕ). TakesList keys d before bytes q.0 q.1) (ok_is (pair s.0.0 v.0.0 x.0.0, x.0.1) p x.2)
          record {
            list = tag_of k.0 ∷ (s.0.0 ++ 0 ∷ (val.front ++ others.list));
            spelled = is_element d k.0 s.0.0 val.front others.list v.0.0 x.0.0 name.0 val.spelled others.spelled;
            stand = stand_more before s.0.0 v.0.0 x.0.0 key.1 others.stand;
            parts = whole;
            rest_bytes = others.rest_bytes;
          }
    ]

pub document_takes : (keys : DuplicateKeys) (d : ℕ) → DocumentTakes keys d
unfolding read_document_in
document_takes keys zero before bytes ps rest fits e = absurd cc
document_takes keys (suc d) before bytes ps rest fits e =
    let b = bind_ok (read_length bytes) (λ n. read_elements (read_value_in keys (read_document_in keys d)) before (length n.1) n.1 >>= λ x. check_length n.0 bytes x) (ps, rest) e in
    let x = bind_ok (read_elements (read_value_in keys (read_document_in keys d)) before (length b.0.1) b.0.1) (λ x. check_length b.0.0 bytes x) (ps, rest) b.2 in
    let g = if_ok (eqb (b.0.0 + length x.0.1) (length bytes)) (Ok x.0) (fault_at Length bytes) (ps, rest) x.2 in
    let size = size_takes bytes b.0.0 b.0.1 fits b.1 in
    let list = list_takes d (document_takes keys d) before (length b.0.1) b.0.1 x.0 size.rest_bytes x.1 in
    let whole : bytes ≡ little_endian w32 b.0.0 ++ (list.list ++ 0 ∷ x.0.1) = size.parts ∙ ap (λ (a : List ℕ). a ++ b.0.1) size.spelled.0 ∙ ap (λ (a : List ℕ). little_endian w32 b.0.0 ++ a) list.parts in
    let counted : length bytes ≡ 4 + (length list.list + suc (length x.0.1)) = ap length whole ∙ length-append (little_endian w32 b.0.0) (list.list ++ 0 ∷ x.0.1) ∙ ap (λ (a : ℕ). a + length (list.list ++ 0 ∷ x.0.1)) (length-little_endian w32 (2 ^ 32) wide32 b.0.0) ∙ ap (λ (a : ℕ). 4 + a) (length-append list.list (0 ∷ x.0.1)) in
    let n-is : b.0.0 ≡ length list.list + 5 = omega (arith, eqb-true _ _ g.0, counted) in
    subst (λ (q : Pairs × List ℕ). Takes (StandsBehind keys (suc d) before) bytes q.0 q.1) (ok_is x.0 (ps, rest) g.1)
    record {
      front = little_endian w32 (length list.list + 5) ++ (list.list ++ 0 ∷ []);
      spelled = (is_document d list.list x.0.0 list.spelled (omega (arith, size.spelled.1, n-is)), list.stand);
      parts = whole ∙ ap (λ (k : ℕ). little_endian w32 k ++ (list.list ++ 0 ∷ x.0.1)) n-is ∙ end_behind (little_endian w32 (length list.list + 5)) list.list x.0.1;
      rest_bytes = list.rest_bytes;
    }
