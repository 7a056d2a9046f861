-- A valid value is passed by its length.
use Rattle.std.proofs.Common.{◌≡◌, ℕ, zero, suc, ◌+◌, ◌-◌, ◌≤◌, ◌^◌, Bool, true, false, cond, ltb, eqb, List, [], ◌∷◌}
use Rattle.std.proofs.Common.{length, drop, take, Option, Some, None, Result, Ok, Err, refl, sym, ap, ◌∙◌, subst, arith}
use Rattle.std.specs.Prelude.{option_map, option_and_then}
use Rattle.std.specs.Str.{is_utf8}
use Rattle.std.specs.Int.{Width, w32, w64, byte_len, from_le_bytes, cast_signed}
use Rattle.std.proofs.lemmas.Bool.{ltb-false, le-ltb, eqb-true, eqb-false}
use Rattle.std.proofs.lemmas.List.{drop-drop, length-drop}
use Rattle.bson_types.specs.declared.spec.ElementType.{ElementType}
use Rattle.bson_types.specs.declared.spec.ElementType.TheVariants as tag
use Rattle.bson_types.specs.BinarySubtypes.{subtype_of}
use Rattle.bson_scalar.specs.Scalar as kind
use Rattle.bson_model.specs.Value.{Value, Pairs, no_pairs, scalar, code_scope, array, document}
use Rattle.bson_bytes.specs.declared.fault.Fault.{Fault}
use Rattle.bson_bytes.specs.declared.fault.FaultKind.TheVariants.{Short, Length, Utf8, Boolean}
use Rattle.bson_model.specs.declared.options.DuplicateKeys.TheVariants.{LastWins}
use Rattle.bson_bytes.specs.Fault.{fault_at, ◌>>=◌, some_or_fault}
use Rattle.bson_bytes.specs.Grammar.{pair_values, deduplicated_onto}
use Rattle.bson_bytes.specs.Reading.{read_byte, read_bytes, read_integer, read_length, read_nul, split_at_nul, prepend_byte, check_utf8, read_name}
use Rattle.bson_bytes.specs.Reading.{read_string, read_old_binary, read_plain_binary, read_binary, read_boolean, read_regex, read_pointer}
use Rattle.bson_bytes.specs.Reading.{read_timestamp, map_pairs_read, insert_pairs_read, read_code_with_scope, read_value_in, read_document_in}
use Rattle.bson_bytes.specs.Skip.{skip_bytes, length_prefix, skip_length_prefixed, skip_regex, skip_value}
use Rattle.bson_bytes.proofs.PartLaws.{bind_ok, unless_ok, if_ok, or_fault_ok, ok_is}

-- ---- steps

abbrev done : {A : Type 0} → A → Result A Fault
done x = Ok x

pub first_is : {A B : Type 0} (a : A) (x : B) (b : A) (y : B) → done {A = A × B} (a, x) ≡ done (b, y) → a ≡ b
first_is {A} {B} a x b y e = ap (λ (p : A × B). p.0) (ok_is (a, x) (b, y) e)

pub rest_is : {A B : Type 0} (a : A) (x : B) (b : A) (y : B) → done {A = A × B} (a, x) ≡ done (b, y) → x ≡ y
rest_is {A} {B} a x b y e = ap (λ (p : A × B). p.1) (ok_is (a, x) (b, y) e)

-- what is made of a part that was read
abbrev pub made : {A B : Type 0} → (A → B) → Result (A × List ℕ) Fault → Result (B × List ℕ) Fault
made f read = read >>= λ x. Ok (f x.0, x.1)

pub stepped : {A B : Type 0} (f : A → B) (r : Result (A × List ℕ) Fault) (y : B) (rest : List ℕ)
    → made f r ≡ Ok (y, rest) → (x : A) × (r ≡ Ok (x, rest))
stepped f (Ok x) y rest e = (x.0, ap (λ (c : List ℕ). Ok (x.0, c)) (rest_is (f x.0) x.1 y rest e))
stepped f (Err d) y rest e = absurd cc

-- ---- what follows so many bytes

abbrev pub Follows : ℕ → List ℕ → List ℕ → Type 0
Follows n bytes rest = (rest ≡ drop n bytes) × (n ≤ length bytes)

pub follows_length : (n : ℕ) (bytes rest : List ℕ) → Follows n bytes rest → n + length rest ≡ length bytes
follows_length n bytes rest h = omega (arith, ap length h.0, length-drop n bytes, h.1)

pub follows_then : (n m : ℕ) (a b c : List ℕ) → Follows n a b → Follows m b c → Follows (n + m) a c
follows_then n m a b c h g =
    (g.0 ∙ ap (drop m) h.0 ∙ drop-drop m n a, omega (arith, h.1, g.1, follows_length n a b h))

skip_follows : (n : ℕ) (bytes rest : List ℕ) → Follows n bytes rest → skip_bytes n bytes ≡ Some rest
skip_follows n bytes rest h = rw (le-ltb (length bytes) n h.1, h.0) refl

pub byte_follows : (bytes : List ℕ) (b : ℕ) (rest : List ℕ) → read_byte bytes ≡ Ok (b, rest) → Follows 1 bytes rest
byte_follows [] b rest e = absurd cc
byte_follows (c ∷ bytes) b rest e = (sym (rest_is c bytes b rest e), omega arith)

zero_follows : (bytes rest : List ℕ) → read_nul bytes ≡ Ok rest → Follows 1 bytes rest
zero_follows [] rest e = absurd cc
zero_follows (b ∷ bytes) rest e = (sym (ok_is bytes rest (if_ok (eqb b 0) (Ok bytes) _ rest e).1), omega arith)

bytes_follow : (n : ℕ) (bytes s rest : List ℕ) → read_bytes n bytes ≡ Ok (s, rest) → Follows n bytes rest
bytes_follow n bytes s rest e =
    let g = unless_ok (ltb (length bytes) n) (fault_at Short bytes) (Ok (take n bytes, drop n bytes)) (s, rest) e in
    (sym (rest_is (take n bytes) (drop n bytes) s rest g.1), ltb-false _ _ g.0)

number_follows : (w : Width) (bytes : List ℕ) (n : ℕ) (rest : List ℕ) → read_integer w bytes ≡ Ok (n, rest)
    → Follows (byte_len w) bytes rest
number_follows w bytes n rest e =
    let read = from_le_bytes w (take (byte_len w) bytes) in
    let g = unless_ok (ltb (length bytes) (byte_len w)) (fault_at Short bytes) (Ok (read, drop (byte_len w) bytes)) (n, rest) e in
    (sym (rest_is read (drop (byte_len w) bytes) n rest g.1), ltb-false _ _ g.0)

-- the length that was read
pub size_follows : (bytes : List ℕ) (n : ℕ) (rest : List ℕ) → read_length bytes ≡ Ok (n, rest)
    → (length_prefix bytes ≡ Some n) × Follows 4 bytes rest
unfolding read_length
size_follows bytes n rest e =
    let b = bind_ok (read_integer w32 bytes) (λ n. cond (ltb n.0 (2 ^ 31)) (Ok n) (Err (fault_at Length bytes))) (n, rest) e in
    let same = ok_is b.0 (n, rest) (if_ok (ltb b.0.0 (2 ^ 31)) (Ok b.0) (fault_at Length bytes) (n, rest) b.2).1 in
    let read : read_integer w32 bytes ≡ Ok (n, rest) = b.1 ∙ ap Ok same in
    let first = from_le_bytes w32 (take 4 bytes) in
    let g = unless_ok (ltb (length bytes) 4) (fault_at Short bytes) (Ok (first, drop 4 bytes)) (n, rest) read in
    let n-is : first ≡ n = first_is first (drop 4 bytes) n rest g.1 in
    (rw g.0 (ap Some n-is), number_follows w32 bytes n rest read)

pub sized_follows : (n more : ℕ) (bytes rest : List ℕ) → length_prefix bytes ≡ Some n → Follows (n + more) bytes rest
    → skip_length_prefixed more bytes ≡ Some rest
sized_follows n more bytes rest e h = ap (option_and_then (λ n. skip_bytes (n + more) bytes)) e ∙ skip_follows (n + more) bytes rest h

-- ---- names and texts

-- the rest follows some number of bytes
abbrev pub Lookahead : List ℕ → List ℕ → Type 0
Lookahead bytes rest = (n : ℕ) × Follows n bytes rest

pub lookahead_then : (n : ℕ) (a b c : List ℕ) → Follows n a b → Lookahead b c → Lookahead a c
lookahead_then n a b c h g = (n + g.0, follows_then n g.0 a b c h g.1)

split_more : (b : ℕ) (bytes k rest : List ℕ) (o : Option (List ℕ × List ℕ))
    → ((j r : List ℕ) → o ≡ Some (j, r) → Follows (length j + 1) bytes r) → option_map (prepend_byte b) o ≡ Some (k, rest)
    → Follows (length k + 1) (b ∷ bytes) rest
split_more b bytes k rest None f e = absurd cc
split_more b bytes k rest (Some p) f e =
    let same : ◌≡◌ {A = List ℕ × List ℕ} (b ∷ p.0, p.1) (k, rest) = cc in
    subst (λ (q : List ℕ × List ℕ). Follows (length q.0 + 1) (b ∷ bytes) q.1) same
    (subst (λ (n : ℕ). Follows n (b ∷ bytes) p.1) (omega arith)
    (follows_then 1 (length p.0 + 1) (b ∷ bytes) bytes p.1 (refl, omega arith) (f p.0 p.1 refl)))

split_if : (z : Bool) (b : ℕ) (bytes k rest : List ℕ)
    → ((j r : List ℕ) → split_at_nul bytes ≡ Some (j, r) → Follows (length j + 1) bytes r)
    → cond z (Some ([], bytes)) (option_map (prepend_byte b) (split_at_nul bytes)) ≡ Some (k, rest) → Follows (length k + 1) (b ∷ bytes) rest
split_if true b bytes k rest f e =
    let same : ◌≡◌ {A = List ℕ × List ℕ} ([], bytes) (k, rest) = cc in
    subst (λ (q : List ℕ × List ℕ). Follows (length q.0 + 1) (b ∷ bytes) q.1) same (refl, omega arith)
split_if false b bytes k rest f e = split_more b bytes k rest (split_at_nul bytes) f e

-- the bytes after the 0 that ends a name
pub split_follows : (bytes k rest : List ℕ) → split_at_nul bytes ≡ Some (k, rest) → Follows (length k + 1) bytes rest
split_follows [] k rest e = absurd cc
split_follows (b ∷ bytes) k rest e = split_if (eqb b 0) b bytes k rest (λ j r h. split_follows bytes j r h) e

pub split_lookahead : (bytes k rest : List ℕ) → split_at_nul bytes ≡ Some (k, rest) → Lookahead bytes rest
split_lookahead bytes k rest e = (length k + 1, split_follows bytes k rest e)

-- a name is the bytes before the first 0, and UTF-8
pub name_split : (bytes k rest : List ℕ) → read_name bytes ≡ Ok (k, rest)
    → (split_at_nul bytes ≡ Some (k, rest)) × (is_utf8 k ≡ true) × Lookahead bytes rest
unfolding read_name
name_split bytes k rest e =
    let b = bind_ok (some_or_fault (split_at_nul bytes) Short bytes) (λ p. check_utf8 p.0 bytes >>= λ s. Ok (s, p.1)) (k, rest) e in
    let c = bind_ok (check_utf8 b.0.0 bytes) (λ s. Ok (s, b.0.1)) (k, rest) b.2 in
    let u = if_ok (is_utf8 b.0.0) (Ok b.0.0) (fault_at Utf8 bytes) c.0 c.1 in
    let same : ◌≡◌ {A = List ℕ × List ℕ} b.0 (k, rest) =
    ap (λ (s : List ℕ). (s, b.0.1)) (ok_is b.0.0 c.0 u.1) ∙ ok_is (c.0, b.0.1) (k, rest) c.2 in
    let split : split_at_nul bytes ≡ Some (k, rest) = or_fault_ok (split_at_nul bytes) Short bytes b.0 b.1 ∙ ap Some same in
    (split, subst (λ (q : List ℕ × List ℕ). is_utf8 q.0 ≡ true) same u.0, split_lookahead bytes k rest split)

-- where a value ends, and that its length says so
abbrev pub Skips : ElementType → List ℕ → List ℕ → Type 0
Skips k bytes rest = (skip_value k bytes ≡ Some rest) × Lookahead bytes rest

-- a length, so many bytes, and some more
abbrev pub Sized : ℕ → List ℕ → List ℕ → Type 0
Sized more bytes rest = (n : ℕ) × (length_prefix bytes ≡ Some n) × Follows (n + more) bytes rest

sized_skips : (more : ℕ) (bytes rest : List ℕ) → Sized more bytes rest
    → (skip_length_prefixed more bytes ≡ Some rest) × Lookahead bytes rest
sized_skips more bytes rest h = (sized_follows h.0 more bytes rest h.1 h.2, (h.0 + more, h.2))

fixed_skips : (n : ℕ) (bytes rest : List ℕ) → Follows n bytes rest → (skip_bytes n bytes ≡ Some rest) × Lookahead bytes rest
fixed_skips n bytes rest h = (skip_follows n bytes rest h, (n, h))

none_skips : (bytes rest : List ℕ) (v w : Value) → done {A = Value × List ℕ} (v, bytes) ≡ done (w, rest)
    → (skip_bytes 0 bytes ≡ Some rest) × Lookahead bytes rest
none_skips bytes rest v w e = fixed_skips 0 bytes rest (sym (rest_is v bytes w rest e), omega arith)

one_less : (n : ℕ) → (n ≡ 0 → ⊥) → 4 + (n - 1 + 1) ≡ n + 4
one_less zero h = absurd (h refl)
one_less (suc n) h = omega arith

pub text_sized : (bytes s rest : List ℕ) → read_string bytes ≡ Ok (s, rest) → Sized 4 bytes rest
unfolding read_string
text_sized bytes s rest e =
    let b = bind_ok (read_length bytes) (λ n. cond (eqb n.0 0) (Err (fault_at Length bytes)) (read_bytes (n.0 - 1) n.1 >>= λ s. read_nul s.1 >>= λ rest. check_utf8 s.0 n.1 >>= λ t. Ok (t, rest))) (s, rest) e in
    let n = b.0 in
    let g = unless_ok (eqb n.0 0) (fault_at Length bytes) (read_bytes (n.0 - 1) n.1 >>= λ s. read_nul s.1 >>= λ rest. check_utf8 s.0 n.1 >>= λ t. Ok (t, rest)) (s, rest) b.2 in
    let c = bind_ok (read_bytes (n.0 - 1) n.1) (λ s. read_nul s.1 >>= λ rest. check_utf8 s.0 n.1 >>= λ t. Ok (t, rest)) (s, rest) g.1 in
    let d = bind_ok (read_nul c.0.1) (λ rest. check_utf8 c.0.0 n.1 >>= λ t. Ok (t, rest)) (s, rest) c.2 in
    let u = bind_ok (check_utf8 c.0.0 n.1) (λ t. Ok (t, d.0)) (s, rest) d.2 in
    let size = size_follows bytes n.0 n.1 b.1 in
    let text = bytes_follow (n.0 - 1) n.1 c.0.0 c.0.1 c.1 in
    let end : Follows 1 c.0.1 rest = subst (Follows 1 c.0.1) (rest_is u.0 d.0 s rest u.2) (zero_follows c.0.1 d.0 d.1) in
    let whole = follows_then 4 (n.0 - 1 + 1) bytes n.1 rest size.1 (follows_then (n.0 - 1) 1 n.1 c.0.1 rest text end) in
    (n.0, size.0, subst (λ (k : ℕ). Follows k bytes rest) (one_less n.0 (eqb-false n.0 0 g.0)) whole)

text_skips : (f : List ℕ → Value) (bytes : List ℕ) (v : Value) (rest : List ℕ)
    → made f (read_string bytes) ≡ Ok (v, rest) → (skip_length_prefixed 4 bytes ≡ Some rest) × Lookahead bytes rest
text_skips f bytes v rest e =
    let s = stepped f (read_string bytes) v rest e in
    sized_skips 4 bytes rest (text_sized bytes s.0 rest s.1)

-- ---- other scalars

number_skips : (w : Width) (f : ℕ → Value) (bytes : List ℕ) (v : Value) (rest : List ℕ)
    → made f (read_integer w bytes) ≡ Ok (v, rest) → (skip_bytes (byte_len w) bytes ≡ Some rest) × Lookahead bytes rest
number_skips w f bytes v rest e =
    let n = stepped f (read_integer w bytes) v rest e in
    fixed_skips (byte_len w) bytes rest (number_follows w bytes n.0 rest n.1)

bytes_skip : (n : ℕ) (f : List ℕ → Value) (bytes : List ℕ) (v : Value) (rest : List ℕ)
    → made f (read_bytes n bytes) ≡ Ok (v, rest) → (skip_bytes n bytes ≡ Some rest) × Lookahead bytes rest
bytes_skip n f bytes v rest e =
    let s = stepped f (read_bytes n bytes) v rest e in
    fixed_skips n bytes rest (bytes_follow n bytes s.0 rest s.1)

binary_by : (old : Bool) (b n : ℕ) (bytes : List ℕ) (v : Value) (rest : List ℕ)
    → cond old (read_old_binary n bytes) (read_plain_binary b n bytes) ≡ Ok (v, rest) → Follows n bytes rest
binary_by true b n bytes v rest e =
    let m = bind_ok (read_length bytes) (λ m. cond (eqb (m.0 + 4) n) (read_bytes m.0 m.1 >>= λ s. Ok (scalar (kind.binary (subtype_of 2) s.0), s.1)) (Err (fault_at Length bytes))) (v, rest) e in
    let g = if_ok (eqb (m.0.0 + 4) n) (read_bytes m.0.0 m.0.1 >>= λ s. Ok (scalar (kind.binary (subtype_of 2) s.0), s.1)) (fault_at Length bytes) (v, rest) m.2 in
    let s = stepped (λ s. scalar (kind.binary (subtype_of 2) s)) (read_bytes m.0.0 m.0.1) v rest g.1 in
    let whole = follows_then 4 m.0.0 bytes m.0.1 rest (size_follows bytes m.0.0 m.0.1 m.1).1 (bytes_follow m.0.0 m.0.1 s.0 rest s.1) in
    subst (λ (k : ℕ). Follows k bytes rest) (omega (arith, eqb-true (m.0.0 + 4) n g.0)) whole
binary_by false b n bytes v rest e =
    let s = stepped (λ s. scalar (kind.binary (subtype_of b) s)) (read_bytes n bytes) v rest e in
    bytes_follow n bytes s.0 rest s.1

binary_skips : (bytes : List ℕ) (v : Value) (rest : List ℕ) → read_binary bytes ≡ Ok (v, rest)
    → (skip_length_prefixed 5 bytes ≡ Some rest) × Lookahead bytes rest
unfolding read_binary
binary_skips bytes v rest e =
    let b = bind_ok (read_length bytes) (λ n. read_byte n.1 >>= λ b. cond (eqb b.0 2) (read_old_binary n.0 b.1) (read_plain_binary b.0 n.0 b.1)) (v, rest) e in
    let c = bind_ok (read_byte b.0.1) (λ c. cond (eqb c.0 2) (read_old_binary b.0.0 c.1) (read_plain_binary c.0 b.0.0 c.1)) (v, rest) b.2 in
    let size = size_follows bytes b.0.0 b.0.1 b.1 in
    let front = follows_then 4 1 bytes b.0.1 c.0.1 size.1 (byte_follows b.0.1 c.0.0 c.0.1 c.1) in
    let inner = binary_by (eqb c.0.0 2) c.0.0 b.0.0 c.0.1 v rest c.2 in
    sized_skips 5 bytes rest (b.0.0, size.0, subst (λ (k : ℕ). Follows k bytes rest) (omega arith) (follows_then 5 b.0.0 bytes c.0.1 rest front inner))

boolean_by : (a b : Bool) (x bytes : List ℕ) (v : Value) (rest : List ℕ)
    → cond {A = Result (Value × List ℕ) Fault} a (Ok (scalar (kind.boolean false), x)) (cond b (Ok (scalar (kind.boolean true), x)) (Err (fault_at Boolean bytes))) ≡ Ok (v, rest)
    → x ≡ rest
boolean_by true b x bytes v rest e = rest_is (scalar (kind.boolean false)) x v rest e
boolean_by false true x bytes v rest e = rest_is (scalar (kind.boolean true)) x v rest e
boolean_by false false x bytes v rest e = absurd cc

boolean_skips : (bytes : List ℕ) (v : Value) (rest : List ℕ) → read_boolean bytes ≡ Ok (v, rest)
    → (skip_bytes 1 bytes ≡ Some rest) × Lookahead bytes rest
unfolding read_boolean
boolean_skips bytes v rest e =
    let b = bind_ok (read_byte bytes) (λ b. cond (eqb b.0 0) (Ok (scalar (kind.boolean false), b.1)) (cond (eqb b.0 1) (Ok (scalar (kind.boolean true), b.1)) (Err (fault_at Boolean bytes)))) (v, rest) e in
    let same : b.0.1 ≡ rest = boolean_by (eqb b.0.0 0) (eqb b.0.0 1) b.0.1 bytes v rest b.2 in
    fixed_skips 1 bytes rest (subst (Follows 1 bytes) same (byte_follows bytes b.0.0 b.0.1 b.1))

regex_skips : (bytes : List ℕ) (v : Value) (rest : List ℕ) → read_regex bytes ≡ Ok (v, rest)
    → (skip_regex bytes ≡ Some rest) × Lookahead bytes rest
unfolding read_regex
regex_skips bytes v rest e =
    let a = bind_ok (read_name bytes) (λ a. read_name a.1 >>= λ o. Ok (scalar (kind.regex a.0 o.0), o.1)) (v, rest) e in
    let o = stepped (λ o. scalar (kind.regex a.0.0 o)) (read_name a.0.1) v rest a.2 in
    let first = name_split bytes a.0.0 a.0.1 a.1 in
    let second = name_split a.0.1 o.0 rest o.1 in
    (rw (first.0, second.0) refl, lookahead_then first.2.0 bytes a.0.1 rest first.2.1 second.2)

pointer_skips : (bytes : List ℕ) (v : Value) (rest : List ℕ) → read_pointer bytes ≡ Ok (v, rest)
    → (skip_length_prefixed 16 bytes ≡ Some rest) × Lookahead bytes rest
unfolding read_pointer
pointer_skips bytes v rest e =
    let a = bind_ok (read_string bytes) (λ a. read_bytes 12 a.1 >>= λ id. Ok (scalar (kind.db_pointer a.0 id.0), id.1)) (v, rest) e in
    let id = stepped (λ id. scalar (kind.db_pointer a.0.0 id)) (read_bytes 12 a.0.1) v rest a.2 in
    let text = text_sized bytes a.0.0 a.0.1 a.1 in
    let whole = follows_then (text.0 + 4) 12 bytes a.0.1 rest text.2 (bytes_follow 12 a.0.1 id.0 rest id.1) in
    sized_skips 16 bytes rest (text.0, text.1, subst (λ (k : ℕ). Follows k bytes rest) (omega arith) whole)

timestamp_skips : (bytes : List ℕ) (v : Value) (rest : List ℕ) → read_timestamp bytes ≡ Ok (v, rest)
    → (skip_bytes 8 bytes ≡ Some rest) × Lookahead bytes rest
unfolding read_timestamp
timestamp_skips bytes v rest e =
    let i = bind_ok (read_integer w32 bytes) (λ i. read_integer w32 i.1 >>= λ t. Ok (scalar (kind.timestamp t.0 i.0), t.1)) (v, rest) e in
    let t = stepped (λ t. scalar (kind.timestamp t i.0.0)) (read_integer w32 i.0.1) v rest i.2 in
    fixed_skips 8 bytes rest (follows_then 4 4 bytes i.0.1 rest (number_follows w32 bytes i.0.0 i.0.1 i.1) (number_follows w32 i.0.1 t.0 rest t.1))

-- ---- documents

-- a document has the length that it begins with
abbrev pub DocumentSkips : ℕ → Type 0
DocumentSkips d = (bytes : List ℕ) (ps : Pairs) (rest : List ℕ) → read_document_in LastWins d None bytes ≡ Ok (ps, rest)
    → Sized 0 bytes rest

pub same_length : (n a b c m : ℕ) → n + c ≡ m → a + b + c ≡ m → n + 0 ≡ a + b
same_length n a b c m e f = omega arith

scope_sized : (d : ℕ) → DocumentSkips d → (bytes : List ℕ) (v : Value) (rest : List ℕ)
    → read_code_with_scope (read_document_in LastWins d None) bytes ≡ Ok (v, rest) → Sized 0 bytes rest
unfolding read_code_with_scope
scope_sized d h bytes v rest e =
    let b = bind_ok (read_length bytes) (λ n. read_string n.1 >>= λ s. insert_pairs_read no_pairs (read_document_in LastWins d None s.1) >>= λ x. cond (eqb (n.0 + length x.1) (length bytes)) (Ok (code_scope s.0 x.0, x.1)) (Err (fault_at Length bytes))) (v, rest) e in
    let s = bind_ok (read_string b.0.1) (λ s. insert_pairs_read no_pairs (read_document_in LastWins d None s.1) >>= λ x. cond (eqb (b.0.0 + length x.1) (length bytes)) (Ok (code_scope s.0 x.0, x.1)) (Err (fault_at Length bytes))) (v, rest) b.2 in
    let x = bind_ok (insert_pairs_read no_pairs (read_document_in LastWins d None s.0.1)) (λ x. cond (eqb (b.0.0 + length x.1) (length bytes)) (Ok (code_scope s.0.0 x.0, x.1)) (Err (fault_at Length bytes))) (v, rest) s.2 in
    let g = if_ok (eqb (b.0.0 + length x.0.1) (length bytes)) (Ok (code_scope s.0.0 x.0.0, x.0.1)) (fault_at Length bytes) (v, rest) x.2 in
    let same : x.0.1 ≡ rest = rest_is (code_scope s.0.0 x.0.0) x.0.1 v rest g.1 in
    let read = stepped (deduplicated_onto no_pairs) (read_document_in LastWins d None s.0.1) x.0.0 x.0.1 x.1 in
    let size = size_follows bytes b.0.0 b.0.1 b.1 in
    let text = text_sized b.0.1 s.0.0 s.0.1 s.1 in
    let scope = h s.0.1 read.0 x.0.1 read.1 in
    let more = text.0 + 4 + (scope.0 + 0) in
    let whole : Follows (4 + more) bytes x.0.1 = follows_then 4 more bytes b.0.1 x.0.1 size.1
    (follows_then (text.0 + 4) (scope.0 + 0) b.0.1 s.0.1 x.0.1 text.2 scope.2) in
    let count : b.0.0 + 0 ≡ 4 + more =
    same_length b.0.0 4 more (length x.0.1) (length bytes) (eqb-true _ _ g.0) (follows_length (4 + more) bytes x.0.1 whole) in
    (b.0.0, size.0, subst (Follows (b.0.0 + 0) bytes) same (subst (λ (k : ℕ). Follows k bytes x.0.1) (sym count) whole))

-- an array or a document that is a value
inner_skips : {A : Type 0} (d : ℕ) → DocumentSkips d → (f : Pairs → A) (g : A → Value) (bytes : List ℕ) (v : Value) (rest : List ℕ)
    → made g (map_pairs_read f (read_document_in LastWins d None bytes)) ≡ Ok (v, rest)
    → (skip_length_prefixed 0 bytes ≡ Some rest) × Lookahead bytes rest
inner_skips d h f g bytes v rest e =
    let x = stepped g (map_pairs_read f (read_document_in LastWins d None bytes)) v rest e in
    let read = stepped f (read_document_in LastWins d None bytes) x.0 rest x.1 in
    sized_skips 0 bytes rest (h bytes read.0 rest read.1)

pub value_skips : (d : ℕ) → DocumentSkips d → (k : ElementType) (bytes : List ℕ) (v : Value) (rest : List ℕ)
    → read_value_in LastWins (read_document_in LastWins d) k bytes ≡ Ok (v, rest) → Skips k bytes rest
unfolding read_value_in
value_skips d h tag.Double bytes v rest e = number_skips w64 (λ n. scalar (kind.double n)) bytes v rest e
value_skips d h tag.String bytes v rest e = text_skips (λ s. scalar (kind.text s)) bytes v rest e
value_skips d h tag.EmbeddedDocument bytes v rest e = inner_skips d h (deduplicated_onto no_pairs) document bytes v rest e
value_skips d h tag.Array bytes v rest e = inner_skips d h pair_values array bytes v rest e
value_skips d h tag.Binary bytes v rest e = binary_skips bytes v rest e
value_skips d h tag.Undefined bytes v rest e = none_skips bytes rest (scalar kind.undefined) v e
value_skips d h tag.ObjectId bytes v rest e = bytes_skip 12 (λ s. scalar (kind.object_id s)) bytes v rest e
value_skips d h tag.Boolean bytes v rest e = boolean_skips bytes v rest e
value_skips d h tag.DateTime bytes v rest e = number_skips w64 (λ n. scalar (kind.date (cast_signed w64 n))) bytes v rest e
value_skips d h tag.Null bytes v rest e = none_skips bytes rest (scalar kind.null) v e
value_skips d h tag.RegularExpression bytes v rest e = regex_skips bytes v rest e
value_skips d h tag.DbPointer bytes v rest e = pointer_skips bytes v rest e
value_skips d h tag.JavaScriptCode bytes v rest e = text_skips (λ s. scalar (kind.code s)) bytes v rest e
value_skips d h tag.Symbol bytes v rest e = text_skips (λ s. scalar (kind.symbol s)) bytes v rest e
value_skips d h tag.JavaScriptCodeWithScope bytes v rest e = sized_skips 0 bytes rest (scope_sized d h bytes v rest e)
value_skips d h tag.Int32 bytes v rest e = number_skips w32 (λ n. scalar (kind.int32 (cast_signed w32 n))) bytes v rest e
value_skips d h tag.Timestamp bytes v rest e = timestamp_skips bytes v rest e
value_skips d h tag.Int64 bytes v rest e = number_skips w64 (λ n. scalar (kind.int64 (cast_signed w64 n))) bytes v rest e
value_skips d h tag.Decimal128 bytes v rest e = bytes_skip 16 (λ s. scalar (kind.decimal s)) bytes v rest e
value_skips d h tag.MaxKey bytes v rest e = none_skips bytes rest (scalar kind.max_key) v e
value_skips d h tag.MinKey bytes v rest e = none_skips bytes rest (scalar kind.min_key) v e
