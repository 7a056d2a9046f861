-- The elements of a valid document, one at a time.
use Rattle.std.proofs.Common.{◌≡◌, ℕ, zero, suc, ◌+◌, ◌-◌, ◌≤◌, ◌<◌, Bool, true, false, cond, eqb, List, [], ◌∷◌, length, drop}
use Rattle.std.proofs.Common.{Option, Some, None, Result, Ok, refl, sym, ap, ◌∙◌, subst, arith, inl, inr, ◌⊎◌}
use Rattle.std.specs.Str.{is_utf8}
use Rattle.std.proofs.Math.Numerals.{sub-one}
use Rattle.std.proofs.lemmas.Bool.{eqb-true, eqb-false}
use Rattle.bson_types.specs.declared.spec.ElementType.{ElementType}
use Rattle.bson_model.specs.Value.{Value, Pairs, no_pairs, pair}
use Rattle.bson_bytes.specs.declared.fault.Fault.{Fault}
use Rattle.bson_bytes.specs.declared.fault.FaultKind.TheVariants.{Tag, Length}
use Rattle.bson_model.specs.declared.options.DuplicateKeys.TheVariants.{LastWins}
use Rattle.bson_bytes.specs.Fault.{fault_at, ◌>>=◌, some_or_fault}
use Rattle.bson_bytes.specs.Reading.{read_byte, read_length, split_at_nul, read_name, read_value_in, read_elements, check_length, read_document_in}
use Rattle.bson_bytes.specs.TypeTags.{type_of_tag}
use Rattle.bson_bytes.proofs.Offered.{elements, then_pairs, no_more, one_more}
use Rattle.bson_bytes.specs.ReadElements.{BeginsWithElements}
use Rattle.bson_bytes.specs.Skip.{first_element_of, skip_value}
use Rattle.bson_bytes.proofs.PartLaws.{bind_ok, ok_is, if_ok, or_fault_ok}
use Rattle.bson_bytes.proofs.Skips.{first_is, rest_is, Follows, follows_then, follows_length}
use Rattle.bson_bytes.proofs.Skips.{Lookahead, lookahead_then, byte_follows, name_split, Skips, DocumentSkips, value_skips}
use Rattle.bson_bytes.proofs.Skips.{size_follows, same_length}

-- no element is left
pub record Ends (bytes : List ℕ) (ps : Pairs) (rest : List ℕ) : Type 0 where
  pub none : first_element_of bytes ≡ None
  pub byte : read_byte bytes ≡ Ok (0, rest)
  pub pairs : ps ≡ no_pairs
  pub last : Follows 1 bytes rest

-- an element, and the others after it
pub record Cursor (d m : ℕ) (bytes : List ℕ) (ps : Pairs) (rest : List ℕ) : Type 0 where
  pub type : ElementType
  pub name : List ℕ
  pub after : List ℕ
  pub found : first_element_of bytes ≡ Some (type, name, after)
  pub tag : ℕ
  pub behind : List ℕ
  pub byte : read_byte bytes ≡ Ok (tag, behind)
  pub some : tag ≡ 0 → ⊥
  pub kind : type_of_tag tag ≡ Some type
  pub key : read_name behind ≡ Ok (name, after)
  pub utf8 : is_utf8 name ≡ true
  pub value : Value
  pub next : List ℕ
  pub read : read_value_in LastWins (read_document_in LastWins d) type after ≡ Ok (value, next)
  pub skips : Skips type after next
  pub lookahead : (n : ℕ) × Follows (1 + n) bytes next
  pub others : Pairs
  pub pairs : ps ≡ pair name value others
  pub more : elements LastWins d None m next ≡ Ok (others, rest)

abbrev pub Step : ℕ → ℕ → List ℕ → Pairs → List ℕ → Type 0
Step d m bytes ps rest = Ends bytes ps rest ⊎ Cursor d m bytes ps rest

found_at : (bytes : List ℕ) (t : ℕ) (a : List ℕ) (k : ElementType) (s b : List ℕ) → read_byte bytes ≡ Ok (t, a)
    → type_of_tag t ≡ Some k → split_at_nul a ≡ Some (s, b) → first_element_of bytes ≡ Some (k, s, b)
found_at [] t a k s b e f g = absurd cc
found_at (c ∷ bytes) t a k s b e f g =
    let kind : type_of_tag c ≡ Some k = ap type_of_tag (first_is c bytes t a e) ∙ f in
    let split : split_at_nul bytes ≡ Some (s, b) = ap split_at_nul (rest_is c bytes t a e) ∙ g in
    rw (kind, split) refl

pub none_at : (bytes : List ℕ) (a : List ℕ) → read_byte bytes ≡ Ok (0, a) → first_element_of bytes ≡ None
unfolding type_of_tag
none_at [] a e = absurd cc
none_at (c ∷ bytes) a e =
    let zero-is : c ≡ 0 = first_is c bytes 0 a e in rw zero-is refl

-- what is read after a tag that is not 0
abbrev after_tag : ℕ → ℕ → List ℕ → ℕ → List ℕ → Result (Pairs × List ℕ) Fault
after_tag d m bytes t a = some_or_fault (type_of_tag t) Tag bytes >>= λ k. read_name a >>= λ s. read_value_in LastWins (read_document_in LastWins d) k s.1
    >>= λ v. elements LastWins d None m v.1 >>= λ x. Ok (pair s.0 v.0 x.0, x.1)

turn_of : (d : ℕ) → DocumentSkips d → (m : ℕ) (bytes : List ℕ) (t : ℕ) (a : List ℕ) (ps : Pairs) (rest : List ℕ)
    → read_byte bytes ≡ Ok (t, a) → (t ≡ 0 → ⊥)
    → after_tag d m bytes t a ≡ Ok (ps, rest)
    → Cursor d m bytes ps rest
turn_of d h m bytes t a ps rest byte some e =
    let value = read_value_in LastWins (read_document_in LastWins d) in
    let k = bind_ok (some_or_fault (type_of_tag t) Tag bytes) (λ k. read_name a >>= λ s. value k s.1 >>= λ v. elements LastWins d None m v.1 >>= λ x. Ok (pair s.0 v.0 x.0, x.1)) (ps, rest) e in
    let s = bind_ok (read_name a) (λ s. value k.0 s.1 >>= λ v. elements LastWins d None m v.1 >>= λ x. Ok (pair s.0 v.0 x.0, x.1)) (ps, rest) k.2 in
    let v = bind_ok (value k.0 s.0.1) (λ v. elements LastWins d None m v.1 >>= λ x. Ok (pair s.0.0 v.0 x.0, x.1)) (ps, rest) s.2 in
    let x = bind_ok (elements LastWins d None m v.0.1) (λ x. Ok (pair s.0.0 v.0.0 x.0, x.1)) (ps, rest) v.2 in
    let kind = or_fault_ok (type_of_tag t) Tag bytes k.0 k.1 in
    let name = name_split a s.0.0 s.0.1 s.1 in
    let skips = value_skips d h k.0 s.0.1 v.0.0 v.0.1 v.1 in
    let all = pair s.0.0 v.0.0 x.0.0 in
    let far = lookahead_then name.2.0 a s.0.1 v.0.1 name.2.1 skips.1 in
    record {
      type = k.0;
      name = s.0.0;
      after = s.0.1;
      found = found_at bytes t a k.0 s.0.0 s.0.1 byte kind name.0;
      tag = t;
      behind = a;
      byte = byte;
      some = some;
      kind = kind;
      key = s.1;
      utf8 = name.1;
      value = v.0.0;
      next = v.0.1;
      read = v.1;
      skips = skips;
      lookahead = (far.0, follows_then 1 far.0 bytes a v.0.1 (byte_follows bytes t a byte) far.1);
      others = x.0.0;
      pairs = sym (first_is all x.0.1 ps rest x.2);
      more = x.1 ∙ ap (λ (c : List ℕ). Ok (x.0.0, c)) (rest_is all x.0.1 ps rest x.2);
    }

step_by : (d : ℕ) → DocumentSkips d → (m : ℕ) (z : Bool) (bytes : List ℕ) (t : ℕ) (a : List ℕ) (ps : Pairs) (rest : List ℕ)
    → eqb t 0 ≡ z → read_byte bytes ≡ Ok (t, a)
    → cond {A = Result (Pairs × List ℕ) Fault} z (Ok (no_pairs, a)) (after_tag d m bytes t a) ≡ Ok (ps, rest)
    → Step d m bytes ps rest
step_by d h m true bytes t a ps rest z byte e =
    let first : read_byte bytes ≡ Ok (0, a) = byte ∙ ap (λ (c : ℕ). Ok (c, a)) (eqb-true t 0 z) in
    inl record {
      none = none_at bytes a first;
      byte = first ∙ ap (λ (c : List ℕ). Ok (0, c)) (rest_is no_pairs a ps rest e);
      pairs = sym (first_is no_pairs a ps rest e);
      last = subst (Follows 1 bytes) (rest_is no_pairs a ps rest e) (byte_follows bytes t a byte);
    }
step_by d h m false bytes t a ps rest z byte e = inr (turn_of d h m bytes t a ps rest byte (eqb-false t 0 z) e)

pub list_step : (d : ℕ) → DocumentSkips d → (m : ℕ) (bytes : List ℕ) (ps : Pairs) (rest : List ℕ)
    → elements LastWins d None (suc m) bytes ≡ Ok (ps, rest) → Step d m bytes ps rest
unfolding read_elements
list_step d h m bytes ps rest e =
    let value = read_value_in LastWins (read_document_in LastWins d) in
    let b = bind_ok (read_byte bytes) (λ t. cond (eqb t.0 0) (Ok (no_pairs, t.1)) (some_or_fault (type_of_tag t.0) Tag bytes >>= λ k. read_name t.1 >>= λ s. value k s.1 >>= λ v. elements LastWins d None m v.1 >>= λ x. Ok (pair s.0 v.0 x.0, x.1))) (ps, rest) e in
    step_by d h m (eqb b.0.0 0) bytes b.0.0 b.0.1 ps rest refl b.1 b.2

no_turns : (d : ℕ) (bytes : List ℕ) (ps : Pairs) (rest : List ℕ) → elements LastWins d None zero bytes ≡ Ok (ps, rest) → ⊥
unfolding read_elements
no_turns d bytes ps rest e = absurd cc

list_lookahead : (d : ℕ) → DocumentSkips d → (m : ℕ) (bytes : List ℕ) (ps : Pairs) (rest : List ℕ)
    → elements LastWins d None m bytes ≡ Ok (ps, rest) → Lookahead bytes rest
list_lookahead d h zero bytes ps rest e = absurd (no_turns d bytes ps rest e)
list_lookahead d h (suc m) bytes ps rest e =
    elim (list_step d h m bytes ps rest e) [
      | inl end ↦ (1, end.last)
      | inr turn ↦
          lookahead_then (1 + turn.lookahead.0) bytes turn.next rest turn.lookahead.1 (list_lookahead d h m turn.next turn.others rest turn.more)
    ]

pub document_skips : (d : ℕ) → DocumentSkips d
unfolding read_document_in
document_skips zero bytes ps rest e = absurd cc
document_skips (suc d) bytes ps rest e =
    let b = bind_ok (read_length bytes) (λ n. elements LastWins d None (length n.1) n.1 >>= λ x. check_length n.0 bytes x) (ps, rest) e in
    let x = bind_ok (elements LastWins d None (length b.0.1) b.0.1) (λ x. check_length b.0.0 bytes x) (ps, rest) b.2 in
    let g = if_ok (eqb (b.0.0 + length x.0.1) (length bytes)) (Ok x.0) (fault_at Length bytes) (ps, rest) x.2 in
    let size = size_follows bytes b.0.0 b.0.1 b.1 in
    let list = list_lookahead d (document_skips d) (length b.0.1) b.0.1 x.0.0 x.0.1 x.1 in
    let whole = follows_then 4 list.0 bytes b.0.1 x.0.1 size.1 list.1 in
    let count : b.0.0 + 0 ≡ 4 + list.0 =
    same_length b.0.0 4 list.0 (length x.0.1) (length bytes) (eqb-true _ _ g.0) (follows_length (4 + list.0) bytes x.0.1 whole) in
    let same : x.0.1 ≡ rest = ap (λ (p : Pairs × List ℕ). p.1) (ok_is x.0 (ps, rest) g.1) in
    (b.0.0, size.0, subst (Follows (b.0.0 + 0) bytes) same (subst (λ (k : ℕ). Follows k bytes x.0.1) (sym count) whole))

-- ---- the number of turns does not matter

enough : (d n : ℕ) (bytes : List ℕ) (ps : Pairs) (rest : List ℕ) → elements LastWins d None n bytes ≡ Ok (ps, rest) → (m : ℕ)
    → length bytes ≤ m → elements LastWins d None m bytes ≡ Ok (ps, rest)
enough d zero bytes ps rest e m most = absurd (no_turns d bytes ps rest e)
enough d (suc n) bytes ps rest e m most =
    elim (list_step d (document_skips d) n bytes ps rest e) [
      | inl end ↦
          no_more LastWins d None m bytes 0 rest most end.byte refl ∙ ap (λ (qs : Pairs). Ok (qs, rest)) (sym end.pairs)
      | inr turn ↦
          let shorter : length turn.next < length bytes =
          omega (arith, follows_length (1 + turn.lookahead.0) bytes turn.next turn.lookahead.1) in
          let goes = one_more LastWins d None m bytes turn.tag turn.behind turn.type turn.name turn.after turn.value turn.next most
          shorter turn.byte turn.some turn.kind turn.key turn.read in
          let others = enough d n turn.next turn.others rest turn.more goes.turns goes.enough in
          goes.read ∙ ap (λ (r : Result (Pairs × List ℕ) Fault). r >>= then_pairs turn.name turn.value) others
          ∙ ap (λ (qs : Pairs). Ok (qs, rest)) (sym turn.pairs)
    ]

-- ---- what loops use

-- the elements of a document
pub record Opened (d : ℕ) (bytes : List ℕ) (ps : Pairs) (rest : List ℕ) : Type 0 where
  pub deep : 1 ≤ d
  pub list : List ℕ
  pub first : Follows 4 bytes list
  pub read : elements LastWins (d - 1) None (length list) list ≡ Ok (ps, rest)

pub opened : (d : ℕ) (bytes : List ℕ) (ps : Pairs) (rest : List ℕ) → read_document_in LastWins d None bytes ≡ Ok (ps, rest)
    → Opened d bytes ps rest
unfolding read_document_in
opened zero bytes ps rest e = absurd cc
opened (suc d) bytes ps rest e =
    let b = bind_ok (read_length bytes) (λ n. elements LastWins d None (length n.1) n.1 >>= λ x. check_length n.0 bytes x) (ps, rest) e in
    let x = bind_ok (elements LastWins d None (length b.0.1) b.0.1) (λ x. check_length b.0.0 bytes x) (ps, rest) b.2 in
    let g = if_ok (eqb (b.0.0 + length x.0.1) (length bytes)) (Ok x.0) (fault_at Length bytes) (ps, rest) x.2 in
    record {
      deep = omega arith;
      list = b.0.1;
      first = (size_follows bytes b.0.0 b.0.1 b.1).1;
      read = rw sub-one (x.1 ∙ ap Ok (ok_is x.0 (ps, rest) g.1));
    }

-- the element that was found, and the others after it
pub record Took (d : ℕ) (k : ElementType) (s b : List ℕ) (ps : Pairs) : Type 0 where
  pub utf8 : is_utf8 s ≡ true
  pub value : Value
  pub next : List ℕ
  pub read : read_value_in LastWins (read_document_in LastWins d) k b ≡ Ok (value, next)
  pub skips : skip_value k b ≡ Some next
  pub lookahead : Lookahead b next
  pub others : Pairs
  pub pairs : ps ≡ pair s value others
  pub more : BeginsWithElements d next others

abbrev some : {A : Type 0} → A → Option A
some x = Some x

pub some_is : {A : Type 0} (x y : A) → some x ≡ some y → x ≡ y
some_is x y e = cc

-- the bytes after a value are the last of those with which it begins
pub is_last : (bytes rest : List ℕ) → Lookahead bytes rest → rest ≡ drop (length bytes - length rest) bytes
is_last bytes rest h =
    let count : h.0 ≡ length bytes - length rest = omega (arith, follows_length h.0 bytes rest h.1) in
    h.1.0 ∙ ap (λ (n : ℕ). drop n bytes) count

took_by : (d m : ℕ) (bytes : List ℕ) (ps : Pairs) (rest : List ℕ) (k : ElementType) (s b : List ℕ)
    → elements LastWins d None m bytes ≡ Ok (ps, rest) → first_element_of bytes ≡ Some (k, s, b) → Took d k s b ps
took_by d zero bytes ps rest k s b e found = absurd (no_turns d bytes ps rest e)
took_by d (suc m) bytes ps rest k s b e found =
    elim (list_step d (document_skips d) m bytes ps rest e) [
      | inl end ↦ absurd cc
      | inr turn ↦
          let same : ◌≡◌ {A = ElementType × List ℕ × List ℕ} (turn.type, turn.name, turn.after) (k, s, b) =
          some_is (turn.type, turn.name, turn.after) (k, s, b) (sym turn.found ∙ found) in
          subst (λ (x : ElementType × List ℕ × List ℕ). Took d x.0 x.1 x.2 ps) same
          record {
            utf8 = turn.utf8;
            value = turn.value;
            next = turn.next;
            read = turn.read;
            skips = turn.skips.0;
            lookahead = turn.skips.1;
            others = turn.others;
            pairs = turn.pairs;
            more = (rest, enough d m turn.next turn.others rest turn.more (length turn.next) (omega arith));
          }
    ]

pub took : (d : ℕ) (bytes : List ℕ) (ps : Pairs) (k : ElementType) (s b : List ℕ) → BeginsWithElements d bytes ps
    → first_element_of bytes ≡ Some (k, s, b) → Took d k s b ps
took d bytes ps k s b h found = took_by d (length bytes) bytes ps h.0 k s b h.1 found

none_by : (d m : ℕ) (bytes : List ℕ) (ps : Pairs) (rest : List ℕ) → elements LastWins d None m bytes ≡ Ok (ps, rest)
    → first_element_of bytes ≡ None → ps ≡ no_pairs
none_by d zero bytes ps rest e none = absurd (no_turns d bytes ps rest e)
none_by d (suc m) bytes ps rest e none =
    elim (list_step d (document_skips d) m bytes ps rest e) [
      | inl end ↦ end.pairs
      | inr turn ↦ absurd cc
    ]

pub none_left : (d : ℕ) (bytes : List ℕ) (ps : Pairs) → BeginsWithElements d bytes ps → first_element_of bytes ≡ None → ps ≡ no_pairs
none_left d bytes ps h none = none_by d (length bytes) bytes ps h.0 h.1 none
