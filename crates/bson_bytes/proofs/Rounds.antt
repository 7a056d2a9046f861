-- Elements one after the other, and documents, as loops read them.
use Rattle.std.proofs.Common.{◌≡◌, ℕ, zero, suc, ◌+◌, ◌-◌, ◌<◌, ◌≤◌, List, [], ◌∷◌, length, Some, None, Result, Ok, Err}
use Rattle.std.proofs.Common.{refl, ap, ◌∙◌, arith}
use Rattle.std.proofs.lemmas.Bool.{eq-eqb, ne_eqb}
use Rattle.std.proofs.Math.Numerals.{sub-one}
use Rattle.bson_types.specs.declared.spec.ElementType.{ElementType}
use Rattle.bson_model.specs.Value.{Value, Pairs, no_pairs, pair, code_scope}
use Rattle.bson_bytes.specs.declared.fault.Fault.{Fault}
use Rattle.bson_bytes.specs.declared.fault.FaultKind.TheVariants.{Short, Tag, Length, Depth}
use Rattle.bson_bytes.specs.Fault.{fault_at, ◌>>=◌}
use Rattle.bson_bytes.specs.Reading.{read_string, read_code_with_scope, read_byte, read_key, read_length, map_pairs_read, insert_pairs_read, read_value_in, read_elements}
use Rattle.bson_bytes.specs.Reading.{check_length, read_document_in, EarlierKeys, no_earlier_keys, add_earlier_key}
use Rattle.bson_model.specs.declared.options.DuplicateKeys.{DuplicateKeys}
use Rattle.bson_bytes.specs.TypeTags.{type_of_tag}
use Rattle.bson_bytes.proofs.PartLaws.{byte_takes}

-- what a list of elements was read as
abbrev pub Read : Type 0
Read = Result (Pairs × List ℕ) Fault

-- ---- one turn

abbrev pub elements : DuplicateKeys → ℕ → EarlierKeys → ℕ → List ℕ → Result (Pairs × List ℕ) Fault
elements keys d before m bytes = read_elements (read_value_in keys (read_document_in keys d)) before m bytes

-- the pair before those that follow
abbrev pub then_pairs : List ℕ → Value → Pairs × List ℕ → Result (Pairs × List ℕ) Fault
then_pairs s v x = Ok (pair s v x.0, x.1)

abbrev failed : Fault → Result (ℕ × List ℕ) Fault
failed f = Err f

err_is : (f g : Fault) → failed f ≡ failed g → f ≡ g
err_is f g e = cc

pub bad_byte : (keys : DuplicateKeys) (d : ℕ) (before : EarlierKeys) (m : ℕ) (rest : List ℕ) (f : Fault) → read_byte rest ≡ Err f → elements keys d before m rest ≡ Err f
unfolding read_elements
bad_byte keys d before zero [] f e = ap Err (err_is (fault_at Short []) f e)
bad_byte keys d before (suc m) [] f e = ap Err (err_is (fault_at Short []) f e)
bad_byte keys d before m (b ∷ rest) f e = absurd cc

pub no_more : (keys : DuplicateKeys) (d : ℕ) (before : EarlierKeys) (m : ℕ) (rest : List ℕ) (t : ℕ) (a : List ℕ) → length rest ≤ m → read_byte rest ≡ Ok (t, a) → t ≡ 0 → elements keys d before m rest ≡ Ok (no_pairs, a)
unfolding read_elements
no_more keys d before zero rest t a little_endian e z = absurd (omega (arith, ap length (byte_takes rest t a e)))
no_more keys d before (suc m) rest t a little_endian e z = rw (e, eq-eqb t 0 z) refl

pub bad_tag : (keys : DuplicateKeys) (d : ℕ) (before : EarlierKeys) (m : ℕ) (rest : List ℕ) (t : ℕ) (a : List ℕ) → length rest ≤ m → read_byte rest ≡ Ok (t, a) → (t ≡ 0 → ⊥) → type_of_tag t ≡ None → elements keys d before m rest ≡ Err (fault_at Tag rest)
unfolding read_elements
bad_tag keys d before zero rest t a little_endian e n k = absurd (omega (arith, ap length (byte_takes rest t a e)))
bad_tag keys d before (suc m) rest t a little_endian e n k = rw (e, ne_eqb t 0 n, k) refl

pub bad_name : (keys : DuplicateKeys) (d : ℕ) (before : EarlierKeys) (m : ℕ) (rest : List ℕ) (t : ℕ) (a : List ℕ) (k : ElementType) (f : Fault) → length rest ≤ m → read_byte rest ≡ Ok (t, a) → (t ≡ 0 → ⊥) → type_of_tag t ≡ Some k
    → read_key before a ≡ Err f → elements keys d before m rest ≡ Err f
unfolding read_elements
bad_name keys d before zero rest t a k f little_endian e n k-is h = absurd (omega (arith, ap length (byte_takes rest t a e)))
bad_name keys d before (suc m) rest t a k f little_endian e n k-is h = rw (e, ne_eqb t 0 n, k-is, h) refl

pub bad_value : (keys : DuplicateKeys) (d : ℕ) (before : EarlierKeys) (m : ℕ) (rest : List ℕ) (t : ℕ) (a : List ℕ) (k : ElementType) (s b : List ℕ) (f : Fault) → length rest ≤ m → read_byte rest ≡ Ok (t, a) → (t ≡ 0 → ⊥) → type_of_tag t ≡ Some k
    → read_key before a ≡ Ok (s, b) → read_value_in keys (read_document_in keys d) k b ≡ Err f → elements keys d before m rest ≡ Err f
unfolding read_elements
bad_value keys d before zero rest t a k s b f little_endian e n k-is h v = absurd (omega (arith, ap length (byte_takes rest t a e)))
bad_value keys d before (suc m) rest t a k s b f little_endian e n k-is h v = rw (e, ne_eqb t 0 n, k-is, h, v) refl

-- what an element leaves to read
pub record Goes (keys : DuplicateKeys) (d : ℕ) (before : EarlierKeys) (m : ℕ) (rest s : List ℕ) (v : Value) (c : List ℕ) : Type 0 where
  pub turns : ℕ
  pub enough : length c ≤ turns
  pub read : elements keys d before m rest ≡ elements keys d (add_earlier_key s before) turns c >>= then_pairs s v

pub one_more : (keys : DuplicateKeys) (d : ℕ) (before : EarlierKeys) (m : ℕ) (rest : List ℕ) (t : ℕ) (a : List ℕ) (k : ElementType) (s b : List ℕ) (v : Value) (c : List ℕ) → length rest ≤ m → length c < length rest
    → read_byte rest ≡ Ok (t, a) → (t ≡ 0 → ⊥) → type_of_tag t ≡ Some k → read_key before a ≡ Ok (s, b) → read_value_in keys (read_document_in keys d) k b ≡ Ok (v, c) → Goes keys d before m rest s v c
unfolding read_elements
one_more keys d before zero rest t a k s b v c little_endian lt e n k-is h w = absurd (omega (arith, ap length (byte_takes rest t a e)))
one_more keys d before (suc m) rest t a k s b v c little_endian lt e n k-is h w = record { turns = m; enough = omega (arith, little_endian, lt); read = rw (e, ne_eqb t 0 n, k-is, h, w) refl }

-- ---- a document

pub too_deep : (keys : DuplicateKeys) (d : ℕ) (before : EarlierKeys) (bytes : List ℕ) → d ≡ 0 → read_document_in keys d before bytes ≡ Err (fault_at Depth bytes)
unfolding read_document_in
too_deep keys zero before bytes z = refl
too_deep keys (suc d) before bytes z = absurd (omega arith)

abbrev whole : DuplicateKeys → ℕ → EarlierKeys → List ℕ → ℕ × List ℕ → Read
whole keys d before bytes n = elements keys d before (length n.1) n.1 >>= check_length n.0 bytes

opened : (keys : DuplicateKeys) (d : ℕ) (before : EarlierKeys) (bytes : List ℕ) → (d ≡ 0 → ⊥) → read_document_in keys d before bytes ≡ read_length bytes >>= whole keys (d - 1) before bytes
unfolding read_document_in
opened keys zero before bytes n = absurd (n refl)
opened keys (suc d) before bytes n = rw sub-one refl

sized_as : (keys : DuplicateKeys) (d : ℕ) (before : EarlierKeys) (bytes : List ℕ) (n : ℕ) (list : List ℕ) → (d ≡ 0 → ⊥) → read_length bytes ≡ Ok (n, list) → read_document_in keys d before bytes ≡ elements keys (d - 1) before (length list) list >>= check_length n bytes
sized_as keys d before bytes n list h s = opened keys d before bytes h ∙ ap (λ (r : Result (ℕ × List ℕ) Fault). r >>= whole keys (d - 1) before bytes) s

pub bad_size : (keys : DuplicateKeys) (d : ℕ) (before : EarlierKeys) (bytes : List ℕ) (f : Fault) → (d ≡ 0 → ⊥) → read_length bytes ≡ Err f → read_document_in keys d before bytes ≡ Err f
bad_size keys d before bytes f n h = opened keys d before bytes n ∙ ap (λ (r : Result (ℕ × List ℕ) Fault). r >>= whole keys (d - 1) before bytes) h

pub bad_list : (keys : DuplicateKeys) (d : ℕ) (before : EarlierKeys) (bytes : List ℕ) (n : ℕ) (list : List ℕ) (f : Fault) → (d ≡ 0 → ⊥) → read_length bytes ≡ Ok (n, list)
    → elements keys (d - 1) before (length list) list ≡ Err f → read_document_in keys d before bytes ≡ Err f
bad_list keys d before bytes n list f h s x = sized_as keys d before bytes n list h s ∙ ap (λ (r : Read). r >>= check_length n bytes) x

pub document_done : (keys : DuplicateKeys) (d : ℕ) (before : EarlierKeys) (bytes : List ℕ) (n : ℕ) (list : List ℕ) (ps : Pairs) (rest : List ℕ) → (d ≡ 0 → ⊥) → read_length bytes ≡ Ok (n, list) → elements keys (d - 1) before (length list) list ≡ Ok (ps, rest)
    → n + length rest ≡ length bytes → read_document_in keys d before bytes ≡ Ok (ps, rest)
document_done keys d before bytes n list ps rest h s x k = sized_as keys d before bytes n list h s ∙ ap (λ (r : Read). r >>= check_length n bytes) x ∙ rw (eq-eqb _ _ k) refl

pub document_wrong : (keys : DuplicateKeys) (d : ℕ) (before : EarlierKeys) (bytes : List ℕ) (n : ℕ) (list : List ℕ) (ps : Pairs) (rest : List ℕ) → (d ≡ 0 → ⊥) → read_length bytes ≡ Ok (n, list) → elements keys (d - 1) before (length list) list ≡ Ok (ps, rest)
    → (n + length rest ≡ length bytes → ⊥) → read_document_in keys d before bytes ≡ Err (fault_at Length bytes)
document_wrong keys d before bytes n list ps rest h s x k = sized_as keys d before bytes n list h s ∙ ap (λ (r : Read). r >>= check_length n bytes) x ∙ rw (ne_eqb _ _ k) refl

pub unmapped : {A : Type 0} (f : Pairs → A) (r : Read) (x : Fault) → map_pairs_read f r ≡ Err x → r ≡ Err x
unmapped f (Ok y) x h = absurd cc
unmapped f (Err g) x h = cc

-- what a list was read as
pub record Mapped {A : Type 0} (f : Pairs → A) (r : Read) (y : A) (rest : List ℕ) : Type 0 where
  pub pairs : Pairs
  pub read : r ≡ Ok (pairs, rest)
  pub is : f pairs ≡ y

pub of_mapped : {A : Type 0} (f : Pairs → A) (r : Read) (y : A) (rest : List ℕ) → map_pairs_read f r ≡ Ok (y, rest) → Mapped f r y rest
of_mapped {A} f (Ok x) y rest h =
    let same : ◌≡◌ {A = A × List ℕ} (f x.0, x.1) (y, rest) = cc in
    record { pairs = x.0; read = ap (λ (c : List ℕ). Ok (x.0, c)) (ap (λ (p : A × List ℕ). p.1) same); is = ap (λ (p : A × List ℕ). p.0) same }
of_mapped f (Err g) y rest h = absurd cc

pub mapped_done : {A : Type 0} (f : Pairs → A) (keys : DuplicateKeys) (d : ℕ) (before : EarlierKeys) (bytes : List ℕ) (n : ℕ) (list : List ℕ) (y : A) (rest : List ℕ) → (d ≡ 0 → ⊥) → read_length bytes ≡ Ok (n, list) → map_pairs_read f (elements keys (d - 1) before (length list) list) ≡ Ok (y, rest)
    → n + length rest ≡ length bytes → map_pairs_read f (read_document_in keys d before bytes) ≡ Ok (y, rest)
mapped_done f keys d before bytes n list y rest h s x k =
    let v = of_mapped f (elements keys (d - 1) before (length list) list) y rest x in
    ap (map_pairs_read f) (document_done keys d before bytes n list v.pairs rest h s v.read k) ∙ ap (λ z. Ok (z, rest)) v.is

pub mapped_wrong : {A : Type 0} (f : Pairs → A) (keys : DuplicateKeys) (d : ℕ) (before : EarlierKeys) (bytes : List ℕ) (n : ℕ) (list : List ℕ) (y : A) (rest : List ℕ) → (d ≡ 0 → ⊥) → read_length bytes ≡ Ok (n, list) → map_pairs_read f (elements keys (d - 1) before (length list) list) ≡ Ok (y, rest)
    → (n + length rest ≡ length bytes → ⊥) → map_pairs_read f (read_document_in keys d before bytes) ≡ Err (fault_at Length bytes)
mapped_wrong f keys d before bytes n list y rest h s x k =
    let v = of_mapped f (elements keys (d - 1) before (length list) list) y rest x in
    ap (map_pairs_read f) (document_wrong keys d before bytes n list v.pairs rest h s v.read k)

-- ---- code with its scope

pub scope_done : (keys : DuplicateKeys) (d : ℕ) (bytes : List ℕ) (n : ℕ) (a s b : List ℕ) (x : Pairs) (rest : List ℕ) → read_length bytes ≡ Ok (n, a) → read_string a ≡ Ok (s, b) → insert_pairs_read no_pairs (read_document_in keys d (no_earlier_keys keys) b) ≡ Ok (x, rest)
    → n + length rest ≡ length bytes → read_code_with_scope (read_document_in keys d (no_earlier_keys keys)) bytes ≡ Ok (code_scope s x, rest)
unfolding read_code_with_scope
scope_done keys d bytes n a s b x rest size text read k = rw (size, text, read, eq-eqb _ _ k) refl
