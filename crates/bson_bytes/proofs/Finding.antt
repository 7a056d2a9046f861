-- The loop that finds the value of a key, and what a validated document gives to it.
use Rattle.std.proofs.Common.{◌≡◌, ℕ, ◌+◌, ◌-◌, ◌≤◌, ◌==◌, Bool, true, false, cond, if◌then◌else◌, List, [], ◌∷◌, length, take, drop}
use Rattle.std.proofs.Common.{get_or, Option, Some, None, Result, Ok, Err, refl, sym, ap, ◌∙◌, subst, arith}
use Rattle.std.specs.Prelude.{option_map, option_and_then, IsSomeAnd}
use Rattle.std.specs.Borrow.{Bor}
use Rattle.std.specs.Result.{is_ok}
use Rattle.std.specs.Str.{bytes_eq}
use Rattle.std.proofs.lemmas.Bool.{le-ltb}
use Rattle.std.proofs.lemmas.List.{drop-drop}
use Rattle.bson_types.specs.ElementTags.{tag_of}
use Rattle.bson_types.specs.declared.spec.ElementType.{ElementType}
use Rattle.bson_model.specs.Value.{Value, Pairs, no_pairs, pair, value_at_key}
use Rattle.bson_bytes.specs.declared.fault.Fault.{Fault}
use Rattle.bson_bytes.specs.Grammar.{deduplicated}
use Rattle.bson_model.specs.declared.options.DuplicateKeys.TheVariants.{LastWins}
use Rattle.bson_bytes.specs.Fault.{fault_at, ◌>>=◌}
use Rattle.bson_bytes.specs.declared.fault.FaultKind.TheVariants.{Trailing}
use Rattle.bson_bytes.specs.Reading.{split_at_nul, read_first_document, read_document_in, read_value_in, insert_pairs_read, reads_bytes, reads_bytes_in}
use Rattle.bson_bytes.specs.TypeTags.{type_of_tag}
use Rattle.bson_bytes.specs.RawElements.{HasValue, IsElement, IsFirstElement, IsValueOfElement, IsValueOfFirstElement}
use Rattle.bson_bytes.specs.ReadElements.{pairs_or_none, without_rest, last_value, BeginsWithDocument, BeginsWithElements, elements_from_bytes}
use Rattle.bson_bytes.specs.Skip.{first_element_of, skip_bytes, skip_value, IsNameAndRest}
use Rattle.bson_bytes.specs.declared.raw_element.RawElement.{RawElement}
use Rattle.bson_bytes.proofs.Found.{value_is}
use Rattle.bson_bytes.proofs.Passing.{kind_tag, sliced}
use Rattle.bson_bytes.proofs.PartLaws.{ok_is, if_ok}
use Rattle.bson_bytes.proofs.Skips.{split_follows, Lookahead}
use Rattle.bson_bytes.proofs.Steps.{opened, Took, took, some_is, is_last}

-- what was read
read_from : (r : Result (Pairs × List ℕ) Fault) → is_ok r ≡ true → (rest : List ℕ) × (r ≡ Ok (pairs_or_none r, rest))
read_from (Ok x) e = (x.1, refl)
read_from (Err f) e = absurd cc

pub document_there : (d : ℕ) (bytes : List ℕ) → is_ok (read_first_document d bytes) ≡ true
    → BeginsWithDocument d bytes (pairs_or_none (read_first_document d bytes))
document_there d bytes e = read_from (read_first_document d bytes) e

pub elements_there : (d : ℕ) (bytes : List ℕ) → is_ok (elements_from_bytes d bytes) ≡ true
    → BeginsWithElements d bytes (pairs_or_none (elements_from_bytes d bytes))
elements_there d bytes e = read_from (elements_from_bytes d bytes) e

ok_from : (r : Result (Pairs × List ℕ) Fault) (x : Pairs × List ℕ) → r ≡ Ok x → (is_ok r ≡ true) × (pairs_or_none r ≡ x.0)
ok_from r x e = (ap is_ok e, ap pairs_or_none e)

pub elements_are : (d : ℕ) (bytes : List ℕ) (ps : Pairs) → BeginsWithElements d bytes ps
    → (is_ok (elements_from_bytes d bytes) ≡ true) × (pairs_or_none (elements_from_bytes d bytes) ≡ ps)
elements_are d bytes ps h = ok_from (elements_from_bytes d bytes) (ps, h.0) h.1

-- the elements follow the length
pub elements_after : (d : ℕ) (bytes : List ℕ) (ps : Pairs) → BeginsWithDocument d bytes ps
    → (1 ≤ d) × (skip_bytes 4 bytes ≡ Some (drop 4 bytes)) × BeginsWithElements (d - 1) (drop 4 bytes) ps
elements_after d bytes ps h =
    let o = opened d bytes ps h.0 h.1 in
    (o.deep, rw (le-ltb (length bytes) 4 o.first.1) refl, subst (λ (list : List ℕ). BeginsWithElements (d - 1) list ps) o.first.0 (h.0, o.read))

pub elements_found : (o : Option (Bor (List ℕ))) (d : ℕ) (bytes : List ℕ) (ps : Pairs) → option_map (λ x. x.now) o ≡ skip_bytes 4 bytes
    → BeginsWithDocument d bytes ps → (1 ≤ d) × IsSomeAnd o (λ list. BeginsWithElements (d - 1) list.now ps)
elements_found None d bytes ps h doc =
    let some = (elements_after d bytes ps doc).1 in absurd cc
elements_found (Some c) d bytes ps h doc =
    let a = elements_after d bytes ps doc in
    let same : drop 4 bytes ≡ c.now = some_is (drop 4 bytes) c.now (sym a.1 ∙ sym h) in
    (a.0, subst (λ (list : List ℕ). BeginsWithElements (d - 1) list ps) same a.2)

-- what a call found, seen without its references
pub some_next : (o : Option (Bor (List ℕ))) (e : Option (List ℕ)) (c : Bor (List ℕ)) → option_map (λ x. x.now) o ≡ e
    → o ≡ Some c → e ≡ Some c.now
some_next o e c h is = sym h ∙ ap (λ (p : Option (Bor (List ℕ))). option_map (λ x. x.now) p) is

pub none_next : (o : Option (Bor (List ℕ))) (e : Option (List ℕ)) → option_map (λ x. x.now) o ≡ e → o ≡ None → e ≡ None
none_next o e h is = sym h ∙ ap (λ (p : Option (Bor (List ℕ))). option_map (λ x. x.now) p) is

-- ---- the first element

element_by : (d : ℕ) (ps : Pairs) (k : ElementType) (s b c : Bor (List ℕ)) → Took d k s.now b.now ps → skip_value k b.now ≡ Some c.now
    → IsElement d (record { kind = k; key = s; value = b; rest = c }) ps
element_by d ps k s b c t skips =
    let next : t.next ≡ c.now = some_is t.next c.now (sym t.skips ∙ skips) in
    let last : c.now ≡ drop (length b.now - length c.now) b.now = is_last b.now c.now (subst (λ (x : List ℕ). Lookahead b.now x) next t.lookahead) in
    record {
      value = t.value;
      later_pairs = t.others;
      pairs = t.pairs;
      utf8 = t.utf8;
      read = t.read ∙ ap (λ (rest : List ℕ). Ok (t.value, rest)) (next ∙ last);
      later_elements = subst (λ (rest : List ℕ). BeginsWithElements d rest t.others) next t.more;
    }

abbrev typed_as : ElementType → List ℕ × List ℕ → ElementType × List ℕ × List ℕ
typed_as k p = (k, p.0, p.1)

found_by : (o : Option ElementType) (q : Option (List ℕ × List ℕ)) (k : ElementType) (s b : List ℕ)
    → option_and_then (λ (j : ElementType). option_map (typed_as j) q) o ≡ Some (k, s, b) → (o ≡ Some k) × (q ≡ Some (s, b))
found_by None q k s b e = absurd cc
found_by (Some j) None k s b e = absurd cc
found_by (Some j) (Some (n, r)) k s b e =
    let same : ◌≡◌ {A = ElementType × List ℕ × List ℕ} (j, n, r) (k, s, b) = some_is (j, n, r) (k, s, b) e in (
      ap (λ (x : ElementType × List ℕ × List ℕ). Some x.0) same,
      ap (λ (x : ElementType × List ℕ × List ℕ). Some (x.1, x.2)) same,
    )

-- the type that the tag says, and the bytes after the name
found_parts : (bytes : List ℕ) (k : ElementType) (s b : List ℕ) → first_element_of bytes ≡ Some (k, s, b)
    → (type_of_tag (get_or bytes 0 0) ≡ Some k) × (b ≡ drop (length s + 2) bytes)
found_parts [] k s b e = absurd cc
found_parts (t ∷ r) k s b e =
    let f = found_by (type_of_tag t) (split_at_nul r) k s b e in
    (f.0, (split_follows r s b f.1).0 ∙ drop-drop (length s + 1) 1 (t ∷ r) ∙ ap (λ (n : ℕ). drop n (t ∷ r)) (omega arith))

pub first_is_element : (d : ℕ) (bytes : List ℕ) (ps : Pairs) (kind : ElementType) (s b c : Bor (List ℕ)) (next : List ℕ)
    → BeginsWithElements d bytes ps → ((k : ElementType) → tag_of k ≡ get_or bytes 0 0 → kind ≡ k) → IsNameAndRest ps bytes (Some (s.now, next))
    → b.now ≡ drop (length s.now + 2) bytes → next ≡ c.now → IsElement d (record { kind = kind; key = s; value = b; rest = c }) ps
first_is_element d bytes ps kind s b c next h typed p after same =
    let parts = found_parts bytes p.0 s.now p.1 p.2 in
    let type : p.0 ≡ kind = sym (typed p.0 (kind_tag (get_or bytes 0 0) p.0 parts.0)) in
    let value : p.1 ≡ b.now = parts.1 ∙ sym after in
    let t = took d bytes ps p.0 s.now p.1 h p.2 in
    subst (λ (k : ElementType). IsElement d (record { kind = k; key = s; value = b; rest = c }) ps) type (element_by d ps p.0 s b c
    (subst (λ (x : List ℕ). Took d p.0 s.now x ps) value t) (subst (λ (x : List ℕ). skip_value p.0 x ≡ Some c.now) value (p.3 ∙ ap Some same)))

-- ---- the loop

-- the last value of the key, of what was found and the elements that are left, is this one
pub record Finds (d : ℕ) (key : List ℕ) (found : Option (List ℕ)) (rest : List ℕ) (total : Option Value) : Type 0 where
  pub left : Pairs
  pub read : BeginsWithElements d rest left
  pub value : Option Value
  pub here : IsValueOfFirstElement d found value
  pub last : last_value key value left ≡ total

-- the same of each document with which the bytes begin
abbrev pub FindsIn : (bytes key : List ℕ) (found : Option (List ℕ)) (rest : List ℕ) → Type 0
FindsIn bytes key found rest = (d : ℕ) (ps : Pairs) → BeginsWithDocument d bytes ps
    → (1 ≤ d) × Finds (d - 1) key found rest (value_at_key key (deduplicated ps))

pub finds_first : (key bytes : List ℕ) → FindsIn bytes key None (drop 4 bytes)
finds_first key bytes d ps h =
    let a = elements_after d bytes ps h in
    (a.0, record { left = ps; read = a.2; value = None; here = refl; last = sym (value_is key ps) })

pub finds_last : (d : ℕ) (key : List ℕ) (found : Option (List ℕ)) (rest : List ℕ) (total : Option Value)
    → Finds d key found rest total → ((ps : Pairs) → BeginsWithElements d rest ps → ps ≡ no_pairs) → IsValueOfFirstElement d found total
finds_last d key found rest total h none =
    subst (IsValueOfFirstElement d found) (ap (last_value key h.value) (sym (none h.left h.read)) ∙ h.last) h.here

kept_by : (d : ℕ) (has : Bool) (x : Option (List ℕ)) (bytes : List ℕ) (o : Option Value) (k : List ℕ) (v : Value) (ps : Pairs)
    → IsValueOfFirstElement d x o → BeginsWithElements d bytes (pair k v ps) → IsValueOfFirstElement d (cond has (Some bytes) x) (cond has (Some v) o)
kept_by d true x bytes o k v ps here read = (k, v, ps, refl, read)
kept_by d false x bytes o k v ps here read = here

later_kept : (has : Bool) (fault_at : ℕ) (found : Option ℕ) (bytes : List ℕ)
    → option_map (λ i. drop i bytes) (cond has (Some fault_at) found) ≡ cond has (Some (drop fault_at bytes)) (option_map (λ i. drop i bytes) found)
later_kept true fault_at found bytes = refl
later_kept false fault_at found bytes = refl

pub finds_next : (d : ℕ) (key bytes : List ℕ) (found : Option ℕ) (fault_at : ℕ) (total : Option Value)
    → Finds d key (option_map (λ i. drop i bytes) found) (drop fault_at bytes) total → (name next : List ℕ)
    → ((ps : Pairs) → BeginsWithElements d (drop fault_at bytes) ps → IsNameAndRest ps (drop fault_at bytes) (Some (name, next)))
    → (has : Bool) (later_position : Option ℕ) → has ≡ bytes_eq key name → later_position ≡ cond has (Some fault_at) found
    → Finds d key (option_map (λ i. drop i bytes) later_position) next total
finds_next d key bytes found fault_at total h name next is has later_position same chosen =
    let rest = drop fault_at bytes in
    let p = is h.left h.read in
    let t = took d rest h.left p.0 name p.1 h.read p.2 in
    let more : t.next ≡ next = some_is t.next next (sym t.skips ∙ p.3) in
    let here = kept_by d has (option_map (λ i. drop i bytes) found) rest h.value name t.value t.others h.here
    (subst (BeginsWithElements d rest) t.pairs h.read) in
    let kept : cond has (Some rest) (option_map (λ i. drop i bytes) found) ≡ option_map (λ i. drop i bytes) later_position =
    sym (later_kept has fault_at found bytes) ∙ ap (option_map (λ i. drop i bytes)) (sym chosen) in
    record {
      left = t.others;
      read = subst (λ (list : List ℕ). BeginsWithElements d list t.others) more t.more;
      value = cond has (Some t.value) h.value;
      here = subst (λ (o : Option (List ℕ)). IsValueOfFirstElement d o (cond has (Some t.value) h.value)) kept here;
      last = ap (λ (x : Bool). last_value key (cond x (Some t.value) h.value) t.others) same ∙ ap (last_value key h.value) (sym t.pairs) ∙ h.last;
    }

pair_value : (k l : List ℕ) (v w : Value) (ps qs : Pairs) → pair k v ps ≡ pair l w qs → v ≡ w
pair_value k l v w ps qs e = cc

first_found : (d : ℕ) (o : Option Value) (r : Option RawElement) (k : List ℕ) (v : Value) (ps : Pairs) → o ≡ Some v
    → IsFirstElement d r (pair k v ps) → IsValueOfElement d r o
first_found d o None k v ps is h = absurd cc
first_found d o (Some e) k v ps is h =
    let same : v ≡ h.value = pair_value k e.key.now v h.value ps h.later_pairs h.pairs in (h.value, is ∙ ap Some same, h.read)

kept_first : (d : ℕ) (o : Option Value) (bytes : List ℕ) (r : Option RawElement) → IsValueOfFirstElement d (Some bytes) o
    → ((ps : Pairs) → BeginsWithElements d bytes ps → IsFirstElement d r ps) → IsValueOfElement d r o
kept_first d o bytes r h first = first_found d o r h.0 h.1 h.2 h.3 (first (pair h.0 h.1 h.2) h.4)

pub kept_found : (d : ℕ) (o : Option Value) (bytes : List ℕ) (found : Option ℕ) (fault_at : ℕ) (r : Option RawElement) → found ≡ Some fault_at
    → fault_at ≤ length bytes → IsValueOfFirstElement d (option_map (λ i. drop i bytes) found) o
    → ((ps : Pairs) → BeginsWithElements d (take (length bytes - fault_at) (drop fault_at bytes)) ps → IsFirstElement d r ps) → IsValueOfElement d r o
kept_found d o bytes found fault_at r is little_endian kept first =
    kept_first d o (drop fault_at bytes) r (subst (λ (x : Option ℕ). IsValueOfFirstElement d (option_map (λ i. drop i bytes) x) o) is kept)
    (subst (λ (list : List ℕ). (ps : Pairs) → BeginsWithElements d list ps → IsFirstElement d r ps) (sliced bytes fault_at little_endian) first)

-- ---- a validated document

pub got_none : (d : ℕ) (bytes name key : List ℕ) → is_ok (read_first_document d bytes) ≡ true → name ≡ key
    → ((e : ℕ) (ps : Pairs) → BeginsWithDocument e bytes ps → (1 ≤ e) × (value_at_key name (deduplicated ps) ≡ None))
    → value_at_key key (deduplicated (pairs_or_none (read_first_document d bytes))) ≡ None
got_none d bytes name key read same h =
    ap (λ (k : List ℕ). value_at_key k (deduplicated (pairs_or_none (read_first_document d bytes)))) (sym same)
    ∙ (h d (pairs_or_none (read_first_document d bytes)) (document_there d bytes read)).1

-- the value of the key, at its bytes
pub record Got (d : ℕ) (e : RawElement) (total : Option Value) : Type 0 where
  pub deep : 1 ≤ d
  pub value : Value
  pub is : total ≡ Some value
  pub read : HasValue (d - 1) e value

pub got : (d : ℕ) (bytes name key : List ℕ) → is_ok (read_first_document d bytes) ≡ true → name ≡ key → (x : RawElement)
    → ((e : ℕ) (ps : Pairs) → BeginsWithDocument e bytes ps → (1 ≤ e) × IsValueOfElement (e - 1) (Some x) (value_at_key name (deduplicated ps)))
    → Got d x (value_at_key key (deduplicated (pairs_or_none (read_first_document d bytes))))
got d bytes name key read same x h =
    let ps = pairs_or_none (read_first_document d bytes) in
    let f = h d ps (document_there d bytes read) in
    record {
      deep = f.0;
      value = f.1.0;
      is = ap (λ (k : List ℕ). value_at_key k (deduplicated ps)) (sym same) ∙ f.1.1;
      read = f.1.2;
    }

-- what is read again is the same value
pub read_same : (d : ℕ) (e : RawElement) (v w : Value) → HasValue d e v
    → without_rest (read_value_in LastWins (read_document_in LastWins d) e.kind e.value.now) ≡ Ok w → v ≡ w
read_same d e v w h g = ok_is v w (sym (ap without_rest h) ∙ g)

pub same_value : {d : ℕ} {e : RawElement} {total : Option Value} → Got d e total → (w : Value)
    → without_rest (read_value_in LastWins (read_document_in LastWins (d - 1)) e.kind e.value.now) ≡ Ok w → Some w ≡ total
same_value {d} {e} g w h = ap Some (sym (read_same (d - 1) e g.value w g.read h)) ∙ sym g.is

-- ---- a whole document

whole_by : (r : Result (Pairs × List ℕ) Fault) (ps : Pairs)
    → (insert_pairs_read no_pairs r >>= λ x. if length x.1 == 0 then Ok x.0 else Err (fault_at Trailing x.1)) ≡ Ok ps
    → (is_ok r ≡ true) × (ps ≡ deduplicated (pairs_or_none r))
whole_by (Ok x) ps e =
    let g = if_ok (length x.1 == 0) (Ok (deduplicated x.0)) (fault_at Trailing x.1) ps e in
    (refl, sym (ok_is (deduplicated x.0) ps g.1))
whole_by (Err f) ps e = absurd cc

pub whole_from : (d : ℕ) (bytes : List ℕ) (ps : Pairs) → reads_bytes d bytes ≡ Ok ps
    → (is_ok (read_first_document d bytes) ≡ true) × (ps ≡ deduplicated (pairs_or_none (read_first_document d bytes)))
unfolding reads_bytes_in
whole_from d bytes ps e = whole_by (read_first_document d bytes) ps e
