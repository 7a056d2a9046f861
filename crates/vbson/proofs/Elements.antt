-- What is appended to the elements of pairs or of values are those of one more.
use Rattle.std.proofs.Common.{◌≡◌, ℕ, ◌+◌, ◌-◌, ◌^◌, ◌<◌, ◌≤◌, List, [], ◌∷◌, ◌++◌, length, take, drop, drop-drop, ap, sym, ◌∙◌, arith, append_assoc, length-append, length-take-le}
use Rattle.std.specs.Int.{w32}
use Rattle.std.specs.Prelude.{decimal}
use Rattle.std.proofs.lemmas.List.{append-nil, take_at, drop_at, take-append-le, drop-append-le, length-drop}
use Rattle.bson_bytes.specs.Grammar.{IsLength, document_of_elements, little_endian}
use Rattle.bson_bytes.specs.Writing.{name_bytes, type_of, value_bytes, elements_bytes, array_elements_bytes}
use Rattle.bson_model.specs.HashInput.{items_count}
use Rattle.bson_model.specs.Value.{Value, Values, no_values, value, Pairs, no_pairs, pair}
use Rattle.vbson.specs.Builder.{IsAppended, AppendsBytes, IsDocumentEnded, IsUnfinishedDocument, IsUnfinishedArray, append_pair, append_value, written_bytes, length_placeholder}
use Rattle.vbson.specs.declared.builder.Builder.{Builder}

-- three lists as one
regrouped : (a b c e : List ℕ) → (a ++ (b ++ c)) ++ e ≡ a ++ (b ++ (c ++ e))
regrouped a b c e = append_assoc a (b ++ c) e ∙ ap (λ (x : List ℕ). a ++ x) (append_assoc b c e)

list_and : (ps : Pairs) (k : List ℕ) (v : Value) → elements_bytes (append_pair ps k v) ≡ elements_bytes ps ++ (name_bytes (type_of v) k ++ value_bytes v)
list_and no_pairs k v = ap (λ (x : List ℕ). name_bytes (type_of v) k ++ x) (append-nil (value_bytes v))
list_and (pair l w ps) k v =
    let name = name_bytes (type_of w) l in
    ap (λ (x : List ℕ). name ++ (value_bytes w ++ x)) (list_and ps k v)
    ∙ sym (regrouped name (value_bytes w) (elements_bytes ps) (name_bytes (type_of v) k ++ value_bytes v))

items_and : (n m : ℕ) (vs : Values) (v : Value) → m ≡ n + items_count vs → array_elements_bytes n (append_value vs v) ≡ array_elements_bytes n vs ++ (name_bytes (type_of v) (decimal m) ++ value_bytes v)
items_and n m no_values v is =
    ap (λ (x : List ℕ). name_bytes (type_of v) (decimal n) ++ x) (append-nil (value_bytes v)) ∙ ap (λ i. name_bytes (type_of v) (decimal i) ++ value_bytes v) (omega (arith, is))
items_and n m (value w vs) v is =
    let name = name_bytes (type_of w) (decimal n) in
    ap (λ (x : List ℕ). name ++ (value_bytes w ++ x)) (items_and (n + 1) m vs v (omega (arith, is)))
    ∙ sym (regrouped name (value_bytes w) (array_elements_bytes (n + 1) vs) (name_bytes (type_of v) (decimal m) ++ value_bytes v))

pub more : (front list e : List ℕ) (a b : Builder) → written_bytes a ≡ front ++ (length_placeholder ++ list) → AppendsBytes e a b → written_bytes b ≡ front ++ (length_placeholder ++ (list ++ e))
more front list e a b h s = s ∙ ap (λ (x : List ℕ). x ++ e) h ∙ regrouped front length_placeholder list e

pub and_more : (front : List ℕ) (ps : Pairs) (k : List ℕ) (v : Value) (a b : Builder) → IsUnfinishedDocument front ps a
    → AppendsBytes (name_bytes (type_of v) k ++ value_bytes v) a b → IsUnfinishedDocument front (append_pair ps k v) b
and_more front ps k v a b h s =
    more front (elements_bytes ps) (name_bytes (type_of v) k ++ value_bytes v) a b h s
    ∙ ap (λ (x : List ℕ). front ++ (length_placeholder ++ x)) (sym (list_and ps k v))

pub and_item : (front : List ℕ) (vs : Values) (v : Value) (a b : Builder) → IsUnfinishedArray front vs a
    → AppendsBytes (name_bytes (type_of v) (decimal (items_count vs)) ++ value_bytes v) a b → IsUnfinishedArray front (append_value vs v) b
and_item front vs v a b h s =
    more front (array_elements_bytes 0 vs) (name_bytes (type_of v) (decimal (items_count vs)) ++ value_bytes v) a b h s
    ∙ ap (λ (x : List ℕ). front ++ (length_placeholder ++ x)) (sym (items_and 0 (items_count vs) vs v (omega arith)))

pub begun : (front name : List ℕ) (a b : Builder) → written_bytes a ≡ front → AppendsBytes (name ++ length_placeholder) a b → written_bytes b ≡ (front ++ name) ++ (length_placeholder ++ [])
begun front name a b h s = s ∙ ap (λ (x : List ℕ). x ++ (name ++ length_placeholder)) h ∙ sym (append_assoc front name length_placeholder)

-- the last byte is appended, and then the length is set
pub is_ended : (start : ℕ) (a m b : Builder) → start + 4 ≤ a.len → a.len - start + 1 < 2 ^ 31 → IsAppended (0 ∷ []) a m
    → written_bytes b ≡ take start (written_bytes m) ++ (little_endian w32 (m.len - start) ++ drop (start + 4) (written_bytes m))
    → drop m.len b.bytes.now ≡ drop m.len m.bytes.now → length b.bytes.now ≡ length m.bytes.now → b.len ≡ m.len
    → IsDocumentEnded start a b
is_ended start a m b starts counts s is rest_unchanged size len =
    let count : length (written_bytes a) ≡ a.len = length-take-le a.len a.bytes.now (omega (arith, s.fits)) in
    let list = drop (start + 4) (written_bytes a) in
    let first : take start (written_bytes m) ≡ take start (written_bytes a) =
    ap (take start) s.written_bytes ∙ take-append-le start (written_bytes a) (0 ∷ []) (omega (arith, count, starts)) in
    let second : drop (start + 4) (written_bytes m) ≡ list ++ 0 ∷ [] =
    ap (drop (start + 4)) s.written_bytes ∙ drop-append-le (start + 4) (written_bytes a) (0 ∷ []) (omega (arith, count, starts)) in
    let third : m.len - start ≡ length list + 5 = omega (arith, s.len, starts, count, length-drop (start + 4) (written_bytes a)) in
    record {
      starts = starts;
      fits = s.fits;
      counts = counts;
      written_bytes = is ∙ ap (λ (x : List ℕ). x ++ (little_endian w32 (m.len - start) ++ drop (start + 4) (written_bytes m))) first
          ∙ ap (λ (x : List ℕ). take start (written_bytes a) ++ (little_endian w32 (m.len - start) ++ x)) second
          ∙ ap (λ n. take start (written_bytes a) ++ (little_endian w32 n ++ (list ++ 0 ∷ []))) third;
      len = len ∙ s.len;
      rest_unchanged = ap (λ n. drop n b.bytes.now) len ∙ rest_unchanged ∙ s.rest_unchanged ∙ ap (λ n. drop n a.bytes.now) (sym len);
      size = size ∙ s.size;
    }

-- the bytes before the end are the first bytes and the list
pub ended : (front list : List ℕ) (start : ℕ) (a b : Builder) → start ≡ length front → written_bytes a ≡ front ++ (length_placeholder ++ list)
    → IsDocumentEnded start a b → written_bytes b ≡ front ++ document_of_elements list
ended front list start a b is h s =
    let first : take start (written_bytes a) ≡ front = ap (take start) h ∙ take_at front (length_placeholder ++ list) start (sym is) in
    let second : drop (start + 4) (written_bytes a) ≡ list =
    ap (drop (start + 4)) h ∙ sym (drop-drop 4 start (front ++ (length_placeholder ++ list))) ∙ ap (drop 4) (drop_at front (length_placeholder ++ list) start (sym is)) in
    s.written_bytes ∙ ap (λ (x : List ℕ). x ++ document_of_elements (drop (start + 4) (written_bytes a))) first ∙ ap (λ (x : List ℕ). front ++ document_of_elements x) second

pub sized : (front list : List ℕ) (start : ℕ) (a b : Builder) → start ≡ length front → written_bytes a ≡ front ++ (length_placeholder ++ list)
    → IsDocumentEnded start a b → IsLength (length list + 5)
sized front list start a b is h s =
    let count = length-take-le a.len a.bytes.now (omega (arith, s.fits)) in
    omega (arith, is, s.counts, s.starts, count, ap length h, length-append front (length_placeholder ++ list), length-append length_placeholder list)
