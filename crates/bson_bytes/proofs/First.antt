-- A document that has no bytes has none for one cause, that of its first part which has none.
use Rattle.std.proofs.Common.{◌≡◌, ◌⊎◌, ℕ, ◌+◌, List, length, refl, sym, ◌∙◌, inl, inr}
use Rattle.bson_types.specs.BinarySubtypes.{subtype_byte}
use Rattle.bson_scalar.specs.Scalar.{Scalar, null, undefined, min_key, max_key, boolean, double, int32, int64, text}
use Rattle.bson_scalar.specs.Scalar.{symbol, code, regex, timestamp, binary, object_id, date, decimal as decimal128}
use Rattle.bson_scalar.specs.Scalar.{db_pointer}
use Rattle.bson_model.specs.Value.{Value, Values, no_values, value, Pairs, no_pairs, pair, scalar, code_scope, array}
use Rattle.bson_model.specs.Value.{document}
use Rattle.bson_bytes.specs.Grammar.{HasNoNulByte, IsLength, code_with_scope_size, document_of_elements}
use Rattle.bson_bytes.specs.Writing.{NoBytesCause, nul_in_key, nul_in_regex, too_long, subtyped_size, array_elements_bytes, elements_bytes}
use Rattle.bson_bytes.specs.Writing.{FitsValue, FitsItems, FitsElements, FitsDocument, IsLengthTooGreat, KeyHasNulByte, RegexHasNulByte}
use Rattle.bson_bytes.specs.Writing.{ScalarDoesNotFit, ValueDoesNotFit, ItemsDoNotFit, ElementsDoNotFit, DocumentDoesNotFit}
use Rattle.bson_bytes.proofs.Putting.{either, long_is, key_is, value_fits, items_fit, list_fits, document_fits}

is_long : (c : NoBytesCause) (n : ℕ) → IsLengthTooGreat c n → c ≡ too_long
is_long too_long n h = refl
is_long nul_in_key n h = absurd h
is_long nul_in_regex n h = absurd h

is_key : (c : NoBytesCause) (k : List ℕ) → KeyHasNulByte c k → c ≡ nul_in_key
is_key nul_in_key k h = refl
is_key nul_in_regex k h = absurd h
is_key too_long k h = absurd h

is_regex : (c : NoBytesCause) (p o : List ℕ) → RegexHasNulByte c p o → c ≡ nul_in_regex
is_regex nul_in_regex p o h = refl
is_regex nul_in_key p o h = absurd h
is_regex too_long p o h = absurd h

one_long : (n : ℕ) (a b : NoBytesCause) → IsLengthTooGreat a n → IsLengthTooGreat b n → a ≡ b
one_long n a b x y = is_long a n x ∙ sym (is_long b n y)

-- the first of two parts that has none has one cause, where each has
first_one : (p : Type 0) (g h : NoBytesCause → Type 0) → ((c : NoBytesCause) → p → g c → ⊥)
    → ((a b : NoBytesCause) → g a → g b → a ≡ b) → ((a b : NoBytesCause) → h a → h b → a ≡ b)
    → (a b : NoBytesCause) → g a ⊎ (p × h a) → g b ⊎ (p × h b) → a ≡ b
first_one p g h apart one two a b (inl x) (inl y) = one a b x y
first_one p g h apart one two a b (inl x) (inr y) = absurd (apart a y.0 x)
first_one p g h apart one two a b (inr x) (inl y) = absurd (apart b x.0 y)
first_one p g h apart one two a b (inr x) (inr y) = two a b x.1 y.1

scalar_one : (x : Scalar) (a b : NoBytesCause) → ScalarDoesNotFit a x → ScalarDoesNotFit b x → a ≡ b
scalar_one (text s) a b x y = one_long (length s + 1) a b x y
scalar_one (symbol s) a b x y = one_long (length s + 1) a b x y
scalar_one (code s) a b x y = one_long (length s + 1) a b x y
scalar_one (regex p o) a b x y = is_regex a p o x ∙ sym (is_regex b p o y)
scalar_one (binary k s) a b x y = one_long (subtyped_size (subtype_byte k) s) a b x y
scalar_one (db_pointer s id) a b x y = one_long (length s + 1) a b x y
scalar_one null a b x y = absurd x
scalar_one undefined a b x y = absurd x
scalar_one min_key a b x y = absurd x
scalar_one max_key a b x y = absurd x
scalar_one (boolean v) a b x y = absurd x
scalar_one (double v) a b x y = absurd x
scalar_one (int32 v) a b x y = absurd x
scalar_one (int64 v) a b x y = absurd x
scalar_one (timestamp t i) a b x y = absurd x
scalar_one (object_id id) a b x y = absurd x
scalar_one (date v) a b x y = absurd x
scalar_one (decimal128 s) a b x y = absurd x

-- parts, and the length of the whole
sized_one : (p : Type 0) (g : NoBytesCause → Type 0) (n : ℕ) → ((c : NoBytesCause) → p → g c → ⊥) → ((a b : NoBytesCause) → g a → g b → a ≡ b)
    → (a b : NoBytesCause) → g a ⊎ (p × IsLengthTooGreat a n) → g b ⊎ (p × IsLengthTooGreat b n) → a ≡ b
sized_one p g n apart one a b x y = first_one p g (λ c. IsLengthTooGreat c n) apart one (one_long n) a b x y

doc_one : (ps : Pairs) → ((a b : NoBytesCause) → ElementsDoNotFit a ps → ElementsDoNotFit b ps → a ≡ b) → (a b : NoBytesCause)
    → DocumentDoesNotFit a ps → DocumentDoesNotFit b ps → a ≡ b
doc_one ps one a b g h =
    sized_one (FitsElements ps) (λ c. ElementsDoNotFit c ps) (length (elements_bytes ps) + 5) (λ c f l. list_fits ps c f l) one a b g h

scope_one : (s : List ℕ) (ps : Pairs) → ((a b : NoBytesCause) → DocumentDoesNotFit a ps → DocumentDoesNotFit b ps → a ≡ b)
    → (a b : NoBytesCause) → ValueDoesNotFit a (code_scope s ps) → ValueDoesNotFit b (code_scope s ps) → a ≡ b
scope_one s ps one a b x y =
    let size = IsLength (length s + 1) in
    let parts = λ (c : NoBytesCause). IsLengthTooGreat c (length s + 1) ⊎ (size × DocumentDoesNotFit c ps) in
    sized_one (size × FitsDocument ps) parts (code_with_scope_size s (document_of_elements (elements_bytes ps)))
    (λ c f g. either (λ l. long_is c (length s + 1) f.0 l) (λ m. document_fits ps c f.1 m.1) g)
    (first_one size (λ c. IsLengthTooGreat c (length s + 1)) (λ c. DocumentDoesNotFit c ps) (λ c f l. long_is c (length s + 1) f l)
    (one_long (length s + 1)) one) a b x y

mutual
  value_one : (v : Value) (a b : NoBytesCause) → ValueDoesNotFit a v → ValueDoesNotFit b v → a ≡ b
  value_one (scalar x) a b g h = scalar_one x a b g h
  value_one (code_scope s ps) a b g h = scope_one s ps (λ c e x y. doc_one ps (λ m n i j. list_one ps m n i j) c e x y) a b g h
  value_one (array vs) a b g h =
      sized_one (FitsItems vs) (λ c. ItemsDoNotFit c vs) (length (array_elements_bytes 0 vs) + 5) (λ c f l. items_fit vs c f l)
      (λ c e x y. items_one vs c e x y) a b g h
  value_one (document ps) a b g h = doc_one ps (λ m n i j. list_one ps m n i j) a b g h

  items_one : (vs : Values) (a b : NoBytesCause) → ItemsDoNotFit a vs → ItemsDoNotFit b vs → a ≡ b
  items_one no_values a b g h = absurd g
  items_one (value v vs) a b g h =
      first_one (FitsValue v) (λ c. ValueDoesNotFit c v) (λ c. ItemsDoNotFit c vs) (λ c f l. value_fits v c f l)
      (λ c e x y. value_one v c e x y) (λ c e x y. items_one vs c e x y) a b g h

  list_one : (ps : Pairs) (a b : NoBytesCause) → ElementsDoNotFit a ps → ElementsDoNotFit b ps → a ≡ b
  list_one no_pairs a b g h = absurd g
  list_one (pair k v ps) a b g h =
      let others = λ (c : NoBytesCause). ValueDoesNotFit c v ⊎ (FitsValue v × ElementsDoNotFit c ps) in
      first_one (HasNoNulByte k) (λ c. KeyHasNulByte c k) others (λ c f l. key_is c k f l)
      (λ c e x y. is_key c k x ∙ sym (is_key e k y))
      (first_one (FitsValue v) (λ c. ValueDoesNotFit c v) (λ c. ElementsDoNotFit c ps) (λ c f l. value_fits v c f l)
      (λ c e x y. value_one v c e x y) (λ c e x y. list_one ps c e x y)) a b g h

pub one_cause : (ps : Pairs) (a b : NoBytesCause) → DocumentDoesNotFit a ps → DocumentDoesNotFit b ps → a ≡ b
one_cause ps a b g h = doc_one ps (list_one ps) a b g h
