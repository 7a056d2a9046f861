-- What is written after other bytes are the bytes of the value, and it stops for a cause that the value has.
use Rattle.std.proofs.Common.{◌≡◌, ◌⊎◌, ℕ, ◌+◌, ◌-◌, ◌^◌, Bool, true, false, cond, ltb, List, [], ◌∷◌, ◌++◌, length}
use Rattle.std.proofs.Common.{take}
use Rattle.std.proofs.Common.{drop, Option, None, Some, Ok, Err, refl, sym, ap, subst, ◌∙◌, append_assoc, arith, inl}
use Rattle.std.proofs.Common.{inr}
use Rattle.std.specs.Prelude.{decimal, is_none, ◌&&◌}
use Rattle.std.specs.Int.{w32}
use Rattle.std.proofs.lemmas.Bool.{ltb-true, ltb-false}
use Rattle.std.proofs.lemmas.List.{take_at, drop_at, length-append, append-nil}
use Rattle.bson_types.specs.declared.spec.ElementType.{ElementType}
use Rattle.bson_types.specs.BinarySubtypes.{subtype_byte}
use Rattle.bson_scalar.specs.Scalar.{Scalar, null, undefined, min_key, max_key, boolean, double, int32, int64, text}
use Rattle.bson_scalar.specs.Scalar.{symbol, code, regex, timestamp, binary, object_id, date, decimal as decimal128}
use Rattle.bson_scalar.specs.Scalar.{db_pointer}
use Rattle.bson_model.specs.Value.{Value, Values, no_values, value, Pairs, no_pairs, pair, scalar, code_scope, array}
use Rattle.bson_model.specs.Value.{document}
use Rattle.bson_bytes.specs.Grammar.{little_endian, HasNoNulByte, IsLength, text_bytes, code_with_scope_size, document_of_elements}
use Rattle.bson_bytes.specs.PutSteps.{PutResult, then, put_if_size_fits, put_text, has_no_nul, put_regex, put_pointer}
use Rattle.bson_bytes.specs.PutSteps.{put_scalar, put_name, put_length_placeholder, put_length, put_nul_and_length, put_value, put_array_elements}
use Rattle.bson_bytes.specs.PutSteps.{put_elements}
use Rattle.bson_bytes.specs.PutSteps.{put_document}
use Rattle.bson_bytes.specs.Reading.{split_at_nul}
use Rattle.bson_bytes.specs.Writing.{NoBytesCause, nul_in_key, nul_in_regex, too_long, scalar_bytes, subtyped_size}
use Rattle.bson_bytes.specs.Writing.{name_bytes}
use Rattle.bson_bytes.specs.Writing.{type_of, value_bytes, array_elements_bytes, elements_bytes, document_bytes, regex_bytes}
use Rattle.bson_bytes.specs.Writing.{FitsScalar, FitsValue, FitsItems, FitsElements, FitsDocument, IsLengthTooGreat, KeyHasNulByte}
use Rattle.bson_bytes.specs.Writing.{RegexHasNulByte, ScalarDoesNotFit, ValueDoesNotFit, ItemsDoNotFit, ElementsDoNotFit, DocumentDoesNotFit}
use Rattle.bson_bytes.proofs.PartLaws.{no_zero_from, none_from_no_zero}

-- ---- what was written

-- the bytes after the others, of something that fits; or a cause that it fails for
abbrev pub Told : List ℕ → PutResult → List ℕ → Type 0 → (NoBytesCause → Type 0) → Type 0
Told out (Ok b) bytes fits fails = fits × (b ≡ out ++ bytes)
Told out (Err c) bytes fits fails = fails c

behind : (out mid : List ℕ) (r : PutResult) (a b : List ℕ) (p q : Type 0) (g h : NoBytesCause → Type 0)
    → p × (mid ≡ out ++ a) → Told mid r b q h → Told out r (a ++ b) (p × q) (λ c. g c ⊎ (p × h c))
behind out mid (Ok e) a b p q g h t u =
    ((t.0, u.0), u.1 ∙ ap (λ (x : List ℕ). x ++ b) t.1 ∙ append_assoc out a b)
behind out mid (Err c) a b p q g h t u = inr (t.0, u)

told_then : (out : List ℕ) (r : PutResult) (f : List ℕ → PutResult) (a b : List ℕ) (p q : Type 0) (g h : NoBytesCause → Type 0)
    → Told out r a p g → ((mid : List ℕ) → Told mid (f mid) b q h)
    → Told out (then r f) (a ++ b) (p × q) (λ c. g c ⊎ (p × h c))
told_then out (Err c) f a b p q g h t u = inl t
told_then out (Ok mid) f a b p q g h t u = behind out mid (f mid) a b p q g h t (u mid)

told_if : (test : Bool) (out bytes : List ℕ) (c : NoBytesCause) (p : Type 0) (g : NoBytesCause → Type 0)
    → (test ≡ true → p) → (test ≡ false → g c) → Told out (cond test (Ok (out ++ bytes)) (Err c)) bytes p g
told_if true out bytes c p g h k = (h refl, refl)
told_if false out bytes c p g h k = k refl

-- ---- parts

told_sized : (n : ℕ) (bytes out : List ℕ) → Told out (put_if_size_fits n bytes out) bytes (IsLength n) (λ c. IsLengthTooGreat c n)
told_sized n bytes out =
    told_if (ltb n (2 ^ 31)) out bytes too_long (IsLength n) (λ c. IsLengthTooGreat c n) (λ e. ltb-true n (2 ^ 31) e)
    (λ e. ltb-false n (2 ^ 31) e)

none_is : (o : Option (List ℕ × List ℕ)) → is_none o ≡ true → o ≡ None
none_is None e = refl
none_is (Some x) e = absurd cc

pub free_from : (k : List ℕ) → has_no_nul k ≡ true → HasNoNulByte k
free_from k e = no_zero_from k (none_is (split_at_nul k) e)

pub not_free : (k : List ℕ) → has_no_nul k ≡ false → HasNoNulByte k → ⊥
not_free k e h = absurd (let n = none_from_no_zero k h in let t : has_no_nul k ≡ true = rw n refl in cc)

both_from : (a b : Bool) → (a && b) ≡ true → (a ≡ true) × (b ≡ true)
both_from true true e = (refl, refl)
both_from true false e = absurd cc
both_from false b e = absurd cc

not_both : (a b : Bool) → (a && b) ≡ false → (a ≡ true) → (b ≡ true) → ⊥
not_both true true e p q = cc
not_both true false e p q = cc
not_both false b e p q = cc

free_is : (k : List ℕ) → HasNoNulByte k → has_no_nul k ≡ true
free_is k h = rw (none_from_no_zero k h) refl

told_regex : (p o out : List ℕ)
    → Told out (put_regex p o out) (regex_bytes p o) (HasNoNulByte p × HasNoNulByte o) (λ c. RegexHasNulByte c p o)
told_regex p o out =
    told_if (has_no_nul p && has_no_nul o) out (regex_bytes p o) nul_in_regex (HasNoNulByte p × HasNoNulByte o) (λ c. RegexHasNulByte c p o)
    (λ e. let t = both_from (has_no_nul p) (has_no_nul o) e in (free_from p t.0, free_from o t.1))
    (λ e h. not_both (has_no_nul p) (has_no_nul o) e (free_is p h.0) (free_is o h.1))

told_name : (t : ElementType) (k out : List ℕ)
    → Told out (put_name t k out) (name_bytes t k) (HasNoNulByte k) (λ c. KeyHasNulByte c k)
told_name t k out =
    told_if (has_no_nul k) out (name_bytes t k) nul_in_key (HasNoNulByte k) (λ c. KeyHasNulByte c k) (λ e. free_from k e)
    (λ e h. not_free k e h)

onto_id : (id out : List ℕ) (r : PutResult) (bytes : List ℕ) (n : ℕ) → Told out r bytes (IsLength n) (λ c. IsLengthTooGreat c n)
    → Told out (then r (λ a. Ok (a ++ id))) (bytes ++ id) (IsLength n) (λ c. IsLengthTooGreat c n)
onto_id id out (Ok a) bytes n t = (t.0, ap (λ (x : List ℕ). x ++ id) t.1 ∙ append_assoc out bytes id)
onto_id id out (Err c) bytes n t = t

told_pointer : (s id out : List ℕ)
    → Told out (put_pointer s id out) (text_bytes s ++ id) (IsLength (length s + 1)) (λ c. IsLengthTooGreat c (length s + 1))
told_pointer s id out = onto_id id out (put_text s out) (text_bytes s) (length s + 1) (told_sized (length s + 1) (text_bytes s) out)

told_scalar : (x : Scalar) (out : List ℕ)
    → Told out (put_scalar x out) (scalar_bytes x) (FitsScalar x) (λ c. ScalarDoesNotFit c x)
told_scalar null out = (tt, refl)
told_scalar undefined out = (tt, refl)
told_scalar min_key out = (tt, refl)
told_scalar max_key out = (tt, refl)
told_scalar (boolean b) out = (tt, refl)
told_scalar (double p) out = (tt, refl)
told_scalar (int32 z) out = (tt, refl)
told_scalar (int64 z) out = (tt, refl)
told_scalar (text s) out = told_sized (length s + 1) (text_bytes s) out
told_scalar (symbol s) out = told_sized (length s + 1) (text_bytes s) out
told_scalar (code s) out = told_sized (length s + 1) (text_bytes s) out
told_scalar (regex p o) out = told_regex p o out
told_scalar (timestamp t i) out = (tt, refl)
told_scalar (binary k s) out = told_sized (subtyped_size (subtype_byte k) s) (scalar_bytes (binary k s)) out
told_scalar (object_id id) out = (tt, refl)
told_scalar (date z) out = (tt, refl)
told_scalar (decimal128 s) out = (tt, refl)
told_scalar (db_pointer s id) out = told_pointer s id out

-- ---- lengths that are written after their parts

-- what the length of four bytes and a body is written as
sized_is : (out body b : List ℕ) → b ≡ put_length_placeholder out ++ body
    → put_length (length out) b ≡ put_if_size_fits (4 + length body) (little_endian w32 (4 + length body) ++ body) out
unfolding put_length
sized_is out body b e =
    let zeros : List ℕ = 0 ∷ 0 ∷ 0 ∷ 0 ∷ [] in
    let all : b ≡ out ++ (zeros ++ body) = e ∙ append_assoc out zeros body in
    let len : length b - length out ≡ 4 + length body =
    omega (arith, ap length all, length-append out (zeros ++ body)) in
    let front : take (length out) b ≡ out =
    ap (take (length out)) all ∙ take_at out (zeros ++ body) (length out) refl in
    let rest : drop (length out + 4) b ≡ body =
    ap (drop (length out + 4)) e ∙ drop_at (put_length_placeholder out) body (length out + 4) (length-append out zeros) in
    rw (len, front, rest) refl

with_first : (r : PutResult) (out bytes : List ℕ) (p q : Type 0) (g h : NoBytesCause → Type 0) → p → Told out r bytes q h
    → Told out r bytes (p × q) (λ c. g c ⊎ (p × h c))
with_first (Ok b) out bytes p q g h x t = ((x, t.0), t.1)
with_first (Err c) out bytes p q g h x t = inr (x, t)

-- the same fact, where the body is what was written after the four bytes
told_length : (out : List ℕ) (r : PutResult) (body : List ℕ) (p : Type 0) (g : NoBytesCause → Type 0) → Told (put_length_placeholder out) r body p g
    → Told out (then r (put_length (length out))) (little_endian w32 (4 + length body) ++ body) (p × IsLength (4 + length body))
    (λ c. g c ⊎ (p × IsLengthTooGreat c (4 + length body)))
told_length out (Ok b) body p g t =
    subst (λ (x : PutResult). Told out x (little_endian w32 (4 + length body) ++ body) (p × IsLength (4 + length body))
    (λ c. g c ⊎ (p × IsLengthTooGreat c (4 + length body)))) (sym (sized_is out body b t.1))
    (with_first (put_if_size_fits (4 + length body) (little_endian w32 (4 + length body) ++ body) out) out (little_endian w32 (4 + length body) ++ body) p
    (IsLength (4 + length body)) g (λ c. IsLengthTooGreat c (4 + length body)) t.0
    (told_sized (4 + length body) (little_endian w32 (4 + length body) ++ body) out))
told_length out (Err c) body p g t = inl t

-- a list of elements as a document
told_end : (out : List ℕ) (r : PutResult) (list : List ℕ) (p : Type 0) (g : NoBytesCause → Type 0) → Told (put_length_placeholder out) r list p g
    → Told out (then r (put_nul_and_length (length out))) (document_of_elements list) (p × IsLength (length list + 5)) (λ c. g c ⊎ (p × IsLengthTooGreat c (length list + 5)))
told_end out (Err c) list p g t = inl t
told_end out (Ok b) list p g t =
    let body = list ++ 0 ∷ [] in
    let size : 4 + length body ≡ length list + 5 = ap (λ (n : ℕ). 4 + n) (length-append list (0 ∷ [])) ∙ omega arith in
    let ended : b ++ 0 ∷ [] ≡ put_length_placeholder out ++ body =
    ap (λ (x : List ℕ). x ++ 0 ∷ []) t.1 ∙ append_assoc (put_length_placeholder out) list (0 ∷ []) in
    let whole : Told out (put_nul_and_length (length out) b) (little_endian w32 (4 + length body) ++ body) (p × IsLength (4 + length body))
    (λ c. g c ⊎ (p × IsLengthTooGreat c (4 + length body))) =
    told_length out (Ok (b ++ 0 ∷ [])) body p g (t.0, ended) in
    subst (λ (n : ℕ). Told out (put_nul_and_length (length out) b) (little_endian w32 n ++ body) (p × IsLength n) (λ c. g c ⊎ (p × IsLengthTooGreat c n))) size whole

-- ---- values

prefixed : (out a : List ℕ) (r : PutResult) (b : List ℕ) (p : Type 0) (g : NoBytesCause → Type 0) → Told (out ++ a) r b p g
    → Told out r (a ++ b) p g
prefixed out a (Ok x) b p g t = (t.0, t.1 ∙ append_assoc out a b)
prefixed out a (Err c) b p g t = t

told_scope : (s : List ℕ) (ps : Pairs) (out : List ℕ)
    → ((mid : List ℕ) → Told mid (put_elements ps mid) (elements_bytes ps) (FitsElements ps) (λ c. ElementsDoNotFit c ps))
    → Told out (put_value (code_scope s ps) out) (value_bytes (code_scope s ps)) (FitsValue (code_scope s ps))
    (λ c. ValueDoesNotFit c (code_scope s ps))
unfolding put_value
told_scope s ps out h =
    let bytes = document_of_elements (elements_bytes ps) in
    let body = text_bytes s ++ bytes in
    let size : 4 + length body ≡ code_with_scope_size s bytes = ap (λ (n : ℕ). 4 + n) (length-append (text_bytes s) bytes) in
    let put = λ (a : List ℕ). then (put_elements ps (put_length_placeholder a)) (put_nul_and_length (length a)) in
    let fits = IsLength (length s + 1) × (FitsElements ps × IsLength (length (elements_bytes ps) + 5)) in
    let inner = λ (c : NoBytesCause). ElementsDoNotFit c ps ⊎ (FitsElements ps × IsLengthTooGreat c (length (elements_bytes ps) + 5)) in
    let fails = λ (c : NoBytesCause). IsLengthTooGreat c (length s + 1) ⊎ (IsLength (length s + 1) × inner c) in
    let parts : Told (put_length_placeholder out) (then (put_text s (put_length_placeholder out)) put) body fits fails =
    told_then (put_length_placeholder out) (put_text s (put_length_placeholder out)) put (text_bytes s) bytes (IsLength (length s + 1))
    (FitsElements ps × IsLength (length (elements_bytes ps) + 5)) (λ c. IsLengthTooGreat c (length s + 1))
    inner (told_sized (length s + 1) (text_bytes s) (put_length_placeholder out))
    (λ mid. told_end mid (put_elements ps (put_length_placeholder mid)) (elements_bytes ps) (FitsElements ps) (λ c. ElementsDoNotFit c ps)
    (h (put_length_placeholder mid))) in
    let r = then (then (put_text s (put_length_placeholder out)) put) (put_length (length out)) in
    let whole : Told out r (little_endian w32 (4 + length body) ++ body) (fits × IsLength (4 + length body))
    (λ c. fails c ⊎ (fits × IsLengthTooGreat c (4 + length body))) =
    told_length out (then (put_text s (put_length_placeholder out)) put) body fits fails parts in
    subst (λ (n : ℕ). Told out r (little_endian w32 n ++ body) (fits × IsLength n) (λ c. fails c ⊎ (fits × IsLengthTooGreat c n))) size whole

mutual
  unfolding put_value put_array_elements put_elements

  pub told_value : (v : Value) (out : List ℕ) → Told out (put_value v out) (value_bytes v) (FitsValue v) (λ c. ValueDoesNotFit c v)
  told_value (scalar x) out = told_scalar x out
  told_value (code_scope s ps) out = told_scope s ps out (λ mid. told_pairs ps mid)
  told_value (array vs) out =
      told_end out (put_array_elements 0 vs (put_length_placeholder out)) (array_elements_bytes 0 vs) (FitsItems vs) (λ c. ItemsDoNotFit c vs)
      (told_items 0 vs (put_length_placeholder out))
  told_value (document ps) out =
      told_end out (put_elements ps (put_length_placeholder out)) (elements_bytes ps) (FitsElements ps) (λ c. ElementsDoNotFit c ps) (told_pairs ps (put_length_placeholder out))

  pub told_items : (n : ℕ) (vs : Values) (out : List ℕ)
      → Told out (put_array_elements n vs out) (array_elements_bytes n vs) (FitsItems vs) (λ c. ItemsDoNotFit c vs)
  told_items n no_values out = (tt, sym (append-nil out))
  told_items n (value v vs) out =
      let name = name_bytes (type_of v) (decimal n) in
      prefixed out name (put_array_elements n (value v vs) out) (value_bytes v ++ array_elements_bytes (n + 1) vs) (FitsValue v × FitsItems vs)
      (λ c. ValueDoesNotFit c v ⊎ (FitsValue v × ItemsDoNotFit c vs))
      (told_then (out ++ name) (put_value v (out ++ name)) (λ b. put_array_elements (n + 1) vs b) (value_bytes v) (array_elements_bytes (n + 1) vs)
      (FitsValue v) (FitsItems vs) (λ c. ValueDoesNotFit c v) (λ c. ItemsDoNotFit c vs) (told_value v (out ++ name))
      (λ b. told_items (n + 1) vs b))

  pub told_pairs : (ps : Pairs) (out : List ℕ)
      → Told out (put_elements ps out) (elements_bytes ps) (FitsElements ps) (λ c. ElementsDoNotFit c ps)
  told_pairs no_pairs out = (tt, sym (append-nil out))
  told_pairs (pair k v ps) out =
      told_then out (put_name (type_of v) k out) (λ a. then (put_value v a) (λ b. put_elements ps b)) (name_bytes (type_of v) k)
      (value_bytes v ++ elements_bytes ps) (HasNoNulByte k) (FitsValue v × FitsElements ps) (λ c. KeyHasNulByte c k)
      (λ c. ValueDoesNotFit c v ⊎ (FitsValue v × ElementsDoNotFit c ps)) (told_name (type_of v) k out)
      (λ mid. told_then mid (put_value v mid) (λ b. put_elements ps b) (value_bytes v) (elements_bytes ps) (FitsValue v) (FitsElements ps)
      (λ c. ValueDoesNotFit c v) (λ c. ElementsDoNotFit c ps) (told_value v mid) (λ b. told_pairs ps b))

pub told_document : (ps : Pairs) (out : List ℕ)
    → Told out (put_document ps out) (document_bytes ps) (FitsDocument ps) (λ c. DocumentDoesNotFit c ps)
told_document ps out =
    told_end out (put_elements ps (put_length_placeholder out)) (elements_bytes ps) (FitsElements ps) (λ c. ElementsDoNotFit c ps) (told_pairs ps (put_length_placeholder out))

pub told_ok : (ps : Pairs) (new : List ℕ) → put_document ps [] ≡ Ok new → FitsDocument ps × (new ≡ document_bytes ps)
told_ok ps new h =
    subst (λ (r : PutResult). Told [] r (document_bytes ps) (FitsDocument ps) (λ c. DocumentDoesNotFit c ps)) h (told_document ps [])

pub told_err : (ps : Pairs) (c : NoBytesCause) → put_document ps [] ≡ Err c → DocumentDoesNotFit c ps
told_err ps c h =
    subst (λ (r : PutResult). Told [] r (document_bytes ps) (FitsDocument ps) (λ c. DocumentDoesNotFit c ps)) h (told_document ps [])

-- ---- what fits has no cause

pub long_is : (c : NoBytesCause) (n : ℕ) → IsLength n → IsLengthTooGreat c n → ⊥
long_is too_long n lt little_endian = omega (arith, lt, little_endian)
long_is nul_in_key n lt h = h
long_is nul_in_regex n lt h = h

pub key_is : (c : NoBytesCause) (k : List ℕ) → HasNoNulByte k → KeyHasNulByte c k → ⊥
key_is nul_in_key k f h = h f
key_is nul_in_regex k f h = h
key_is too_long k f h = h

regex_is : (c : NoBytesCause) (p o : List ℕ) → HasNoNulByte p × HasNoNulByte o → RegexHasNulByte c p o → ⊥
regex_is nul_in_regex p o f h = h f
regex_is nul_in_key p o f h = h
regex_is too_long p o f h = h

pub either : {A B C : Type 0} → (A → C) → (B → C) → A ⊎ B → C
either f g (inl x) = f x
either f g (inr y) = g y

scalar_fits : (x : Scalar) (c : NoBytesCause) → FitsScalar x → ScalarDoesNotFit c x → ⊥
scalar_fits (text s) c f h = long_is c (length s + 1) f h
scalar_fits (symbol s) c f h = long_is c (length s + 1) f h
scalar_fits (code s) c f h = long_is c (length s + 1) f h
scalar_fits (regex p o) c f h = regex_is c p o f h
scalar_fits (binary k s) c f h = long_is c (subtyped_size (subtype_byte k) s) f h
scalar_fits (db_pointer s id) c f h = long_is c (length s + 1) f h
scalar_fits null c f h = h
scalar_fits undefined c f h = h
scalar_fits min_key c f h = h
scalar_fits max_key c f h = h
scalar_fits (boolean b) c f h = h
scalar_fits (double p) c f h = h
scalar_fits (int32 z) c f h = h
scalar_fits (int64 z) c f h = h
scalar_fits (timestamp t i) c f h = h
scalar_fits (object_id id) c f h = h
scalar_fits (date z) c f h = h
scalar_fits (decimal128 s) c f h = h

mutual
  pub value_fits : (v : Value) (c : NoBytesCause) → FitsValue v → ValueDoesNotFit c v → ⊥
  value_fits (scalar x) c f h = scalar_fits x c f h
  value_fits (code_scope s ps) c f h =
      either (either (λ l. long_is c (length s + 1) f.0.0 l) (λ m.
      either (λ l. list_fits ps c f.0.1.0 l) (λ l. long_is c (length (elements_bytes ps) + 5) f.0.1.1 l.1) m.1))
      (λ l. long_is c (code_with_scope_size s (document_of_elements (elements_bytes ps))) f.1 l.1) h
  value_fits (array vs) c f h =
      either (λ l. items_fit vs c f.0 l) (λ l. long_is c (length (array_elements_bytes 0 vs) + 5) f.1 l.1) h
  value_fits (document ps) c f h =
      either (λ l. list_fits ps c f.0 l) (λ l. long_is c (length (elements_bytes ps) + 5) f.1 l.1) h

  pub items_fit : (vs : Values) (c : NoBytesCause) → FitsItems vs → ItemsDoNotFit c vs → ⊥
  items_fit no_values c f h = h
  items_fit (value v vs) c f h = either (λ l. value_fits v c f.0 l) (λ l. items_fit vs c f.1 l.1) h

  pub list_fits : (ps : Pairs) (c : NoBytesCause) → FitsElements ps → ElementsDoNotFit c ps → ⊥
  list_fits no_pairs c f h = h
  list_fits (pair k v ps) c f h =
      either (λ l. key_is c k f.0 l) (λ m. either (λ l. value_fits v c f.1.0 l) (λ l. list_fits ps c f.1.1 l.1) m.1) h

pub document_fits : (ps : Pairs) (c : NoBytesCause) → FitsDocument ps → DocumentDoesNotFit c ps → ⊥
document_fits ps c f h = either (λ l. list_fits ps c f.0 l) (λ l. long_is c (length (elements_bytes ps) + 5) f.1 l.1) h
