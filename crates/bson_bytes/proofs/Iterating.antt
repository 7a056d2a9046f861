-- What an iterator over the elements of a document gives.
use Rattle.std.proofs.Common.{◌≡◌, ℕ, ◌+◌, ◌-◌, ◌≤◌, ◌<◌, List, [], ◌∷◌, length, take, get_or, map, None, Some, Ok, true, refl, sym, ap, ◌∙◌, arith}
use Rattle.std.specs.Result.{is_ok}
use Rattle.std.specs.Str.{IsUtf8}
use Rattle.std.proofs.lemmas.List.{length-append, take-append-le, take_all}
use Rattle.std.proofs.lemmas.Str.{IsUtf8-from_is_utf8}
use Rattle.bson_model.specs.Value.{Value, Pairs, no_pairs, pair}
use Rattle.bson_bytes.specs.Grammar.{deduplicated, pair_values}
use Rattle.bson_bytes.specs.Reading.{read_document_in, read_value_in, insert_pairs_read, reads_bytes}
use Rattle.bson_model.specs.declared.options.DuplicateKeys.TheVariants.{LastWins}
use Rattle.bson_bytes.proofs.Offered.{front_from, is_read}
use Rattle.bson_bytes.specs.RawElements.{HasValue, IsElement}
use Rattle.bson_bytes.specs.RawIterators.{pairs_list, values_list}
use Rattle.bson_bytes.specs.ReadElements.{pairs_or_none, without_rest, elements_from_bytes, BeginsWithDocument, BeginsWithElements}
use Rattle.bson_bytes.specs.Skip.{skip_length_prefixed}
use Rattle.bson_bytes.specs.declared.raw_element.RawElement.{RawElement}
use Rattle.bson_bytes.proofs.Finding.{elements_there, elements_are, read_same}
use Rattle.bson_bytes.proofs.Skips.{sized_follows}
use Rattle.bson_bytes.proofs.Steps.{document_skips, some_is}

-- ---- the bytes of a document alone

pub alone : (d : ℕ) (bytes rest : List ℕ) (ps : Pairs) → ((i : ℕ) → get_or bytes i 0 < 256) → BeginsWithDocument d bytes ps
    → skip_length_prefixed 0 bytes ≡ Some rest → reads_bytes d (take (length bytes - length rest) bytes) ≡ Ok (deduplicated ps)
alone d bytes rest ps fits x skips =
    let s = document_skips d bytes ps x.0 x.1 in
    let same : x.0 ≡ rest = some_is x.0 rest (sym (sized_follows s.0 0 bytes x.0 s.1 s.2) ∙ skips) in
    let f = front_from LastWins d bytes (deduplicated ps) x.0 fits (ap (insert_pairs_read no_pairs) x.1) in
    let n = length bytes - length rest in
    let count : length bytes ≡ length f.front + length x.0 = ap length f.parts ∙ length-append f.front x.0 in
    let most : n ≤ length f.front = omega (arith, ap length same) in
    let least : length f.front ≤ n = omega (arith, ap length same) in
    let front : take n bytes ≡ f.front =
    ap (take n) f.parts ∙ take-append-le n f.front x.0 most ∙ take_all n f.front least in
    ap (reads_bytes d) front ∙ is_read LastWins d f.front (deduplicated ps) f.read

pub sized_there : (d : ℕ) (bytes : List ℕ) (ps : Pairs) → BeginsWithDocument d bytes ps → skip_length_prefixed 0 bytes ≡ None → ⊥
sized_there d bytes ps x none =
    let s = document_skips d bytes ps x.0 x.1 in
    let some = sized_follows s.0 0 bytes x.0 s.1 s.2 in absurd cc

-- ---- one element after another

-- the element is the first of those that are left
pub record Goes (d : ℕ) (bytes : List ℕ) (e : RawElement) : Type 0 where
  pub value : Value
  pub utf8 : IsUtf8 e.key.now
  pub read : HasValue d e value
  pub others : is_ok (elements_from_bytes d e.rest.now) ≡ true
  pub left : pairs_or_none (elements_from_bytes d bytes) ≡ pair e.key.now value (pairs_or_none (elements_from_bytes d e.rest.now))

pub goes : (d : ℕ) (bytes : List ℕ) → is_ok (elements_from_bytes d bytes) ≡ true → (e : RawElement)
    → ((f : ℕ) (ps : Pairs) → BeginsWithElements f bytes ps → IsElement f e ps) → Goes d bytes e
goes d bytes read e h =
    let t = h d (pairs_or_none (elements_from_bytes d bytes)) (elements_there d bytes read) in
    let a = elements_are d e.rest.now t.later_pairs t.later_elements in
    record {
      value = t.value;
      utf8 = IsUtf8-from_is_utf8 e.key.now t.utf8;
      read = t.read;
      others = a.0;
      left = t.pairs ∙ ap (pair e.key.now t.value) (sym a.1);
    }

-- what the first element is, and the elements after it
pub goes_list : (d : ℕ) (bytes : List ℕ) (e : RawElement) → Goes d bytes e → (k : List ℕ) (w : Value) → k ≡ e.key.now
    → without_rest (read_value_in LastWins (read_document_in LastWins d) e.kind e.value.now) ≡ Ok w
    → pairs_list (pairs_or_none (elements_from_bytes d bytes)) ≡ (k, w) ∷ pairs_list (pairs_or_none (elements_from_bytes d e.rest.now))
goes_list d bytes e g k w same read =
    let others = pairs_list (pairs_or_none (elements_from_bytes d e.rest.now)) in
    ap pairs_list g.left ∙ ap (λ (x : List ℕ). (x, g.value) ∷ others) (sym same)
    ∙ ap (λ (x : Value). (k, x) ∷ others) (read_same d e g.value w g.read read)

pub fewer : {A : Type 0} (xs ys : List A) (x : A) → xs ≡ x ∷ ys → length ys < length xs
fewer xs ys x e = omega (arith, ap length e)

-- ---- the values of an array

items_listed : (ps : Pairs) → values_list (pair_values ps) ≡ map (λ (p : List ℕ × Value). p.1) (pairs_list ps)
items_listed no_pairs = refl
items_listed (pair k v ps) = ap (λ (vs : List Value). v ∷ vs) (items_listed ps)

pub items_more : (ps qs : Pairs) (k : List ℕ) (v : Value) → pairs_list ps ≡ (k, v) ∷ pairs_list qs
    → values_list (pair_values ps) ≡ v ∷ values_list (pair_values qs)
items_more ps qs k v e =
    items_listed ps ∙ ap (map (λ (p : List ℕ × Value). p.1)) e ∙ ap (λ (vs : List Value). v ∷ vs) (sym (items_listed qs))

pub items_none : (ps : Pairs) → pairs_list ps ≡ [] → values_list (pair_values ps) ≡ []
items_none ps e = items_listed ps ∙ ap (map (λ (p : List ℕ × Value). p.1)) e
