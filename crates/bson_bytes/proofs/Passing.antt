-- How the loop passes an element.
use Rattle.std.proofs.Common.{◌≡◌, ℕ, ◌+◌, ◌-◌, ◌≤◌, ◌<◌, Bool, true, false, cond, eqb, List, [], ◌∷◌, length, take, drop, get_or}
use Rattle.std.proofs.Common.{Option, Some, None, refl, sym, ap, ◌∙◌, subst, arith, inl, inr}
use Rattle.std.specs.Prelude.{option_map, option_and_then, IfSome}
use Rattle.std.proofs.lemmas.Bool.{eqb-true}
use Rattle.std.proofs.lemmas.List.{drop-drop, drop_more, drop_all, length-drop, take_all}
use Rattle.bson_types.specs.ElementTags.{tag_of}
use Rattle.bson_types.specs.declared.spec.ElementType.{ElementType}
use Rattle.bson_model.specs.Value.{Pairs, no_pairs}
use Rattle.bson_bytes.specs.Reading.{split_at_nul}
use Rattle.bson_bytes.specs.TypeTags.{type_of_tag, type_with_tag, all_types}
use Rattle.bson_bytes.specs.ReadElements.{BeginsWithElements}
use Rattle.bson_bytes.specs.Skip.{value_size, skip_value_of_size, skip_value, skip_name, skip_regex, first_element_of, IsNameAndRest}
use Rattle.bson_bytes.specs.declared.skip_value.ValueSize.{ValueSize}
use Rattle.bson_bytes.proofs.Skips.{first_is, rest_is, follows_length, Lookahead, lookahead_then, split_follows, split_lookahead, name_split}
use Rattle.bson_bytes.proofs.Steps.{document_skips, list_step, none_at, none_left, some_is}

-- ---- a tag

named_if : (z : Bool) (t : ℕ) (j k : ElementType) (o : Option ElementType) → eqb t (tag_of j) ≡ z → (o ≡ Some k → tag_of k ≡ t)
    → cond z (Some j) o ≡ Some k → tag_of k ≡ t
named_if true t j k o z f e = ap tag_of (sym (some_is j k e)) ∙ sym (eqb-true t (tag_of j) z)
named_if false t j k o z f e = f e

named_tag : (t : ℕ) (ks : List ElementType) (k : ElementType) → type_with_tag t ks ≡ Some k → tag_of k ≡ t
named_tag t [] k e = absurd cc
named_tag t (j ∷ ks) k e = named_if (eqb t (tag_of j)) t j k (type_with_tag t ks) refl (λ h. named_tag t ks k h) e

pub kind_tag : (t : ℕ) (k : ElementType) → type_of_tag t ≡ Some k → tag_of k ≡ t
unfolding type_of_tag
kind_tag t k e = named_tag t all_types k e

-- ---- places

-- the bytes after a name
name_lookahead : (o : Option (List ℕ × List ℕ)) (bytes rest : List ℕ) → o ≡ split_at_nul bytes → option_map (λ p. p.1) o ≡ Some rest
    → Lookahead bytes rest
name_lookahead None bytes rest is e = absurd cc
name_lookahead (Some p) bytes rest is e = subst (Lookahead bytes) (some_is p.1 rest e) (split_lookahead bytes p.0 p.1 (sym is))

names_lookahead : (o : Option (List ℕ)) (bytes rest : List ℕ) → o ≡ skip_name bytes → option_and_then skip_name o ≡ Some rest
    → Lookahead bytes rest
names_lookahead None bytes rest is e = absurd cc
names_lookahead (Some m) bytes rest is e =
    let first = name_lookahead (split_at_nul bytes) bytes m refl (sym is) in
    lookahead_then first.0 bytes m rest first.1 (name_lookahead (split_at_nul m) m rest refl e)

-- the bytes from a place on, as a slice
pub sliced : (bytes : List ℕ) (at : ℕ) → at ≤ length bytes → take (length bytes - at) (drop at bytes) ≡ drop at bytes
sliced bytes at little_endian = take_all (length bytes - at) (drop at bytes) (omega (arith, length-drop at bytes))

pub regex_place : (bytes rest : List ℕ) (at : ℕ) → at ≤ length bytes
    → skip_regex (take (length bytes - at) (drop at bytes)) ≡ Some rest
    → Some (drop (length bytes - length rest) bytes) ≡ skip_regex (drop at bytes)
regex_place bytes rest at little_endian read =
    let e : skip_regex (drop at bytes) ≡ Some rest = ap skip_regex (sym (sliced bytes at little_endian)) ∙ read in
    let h = names_lookahead (skip_name (drop at bytes)) (drop at bytes) rest refl e in
    let count : at + h.0 ≡ length bytes - length rest =
    omega (arith, little_endian, length-drop at bytes, follows_length h.0 (drop at bytes) rest h.1) in
    ap Some (ap (λ (n : ℕ). drop n bytes) (sym count) ∙ sym (h.1.0 ∙ drop-drop h.0 at bytes)) ∙ sym e

-- ---- an element

-- at the byte 0 no element is left
pub ended : (d : ℕ) (bytes : List ℕ) (at : ℕ) (ps : Pairs) → BeginsWithElements d (drop at bytes) ps → at < length bytes
    → get_or bytes at 0 ≡ 0 → ps ≡ no_pairs
ended d bytes at ps h lt z =
    none_left d (drop at bytes) ps h (none_at (drop at bytes) (drop (at + 1) bytes) (rw (drop_more bytes at 0 lt, z) refl))

-- nor after the last byte
pub emptied : (d : ℕ) (bytes : List ℕ) (at : ℕ) (ps : Pairs) → BeginsWithElements d (drop at bytes) ps → length bytes ≤ at
    → ps ≡ no_pairs
emptied d bytes at ps h little_endian = none_left d (drop at bytes) ps h (rw (drop_all at bytes little_endian) refl)

unnamed_by : (o : Option ElementType) (t : ℕ) (r : List ℕ) → o ≡ type_of_tag t → split_at_nul r ≡ None → first_element_of (t ∷ r) ≡ None
unnamed_by None t r kind none = rw (sym kind) refl
unnamed_by (Some k) t r kind none = rw (sym kind, none) refl

pub unnamed : (d : ℕ) (bytes : List ℕ) (at : ℕ) (ps : Pairs) → BeginsWithElements d (drop at bytes) ps → at < length bytes
    → split_at_nul (take (length bytes - (at + 1)) (drop (at + 1) bytes)) ≡ None → ps ≡ no_pairs
unnamed d bytes at ps h lt split =
    let none : split_at_nul (drop (at + 1) bytes) ≡ None = ap split_at_nul (sym (sliced bytes (at + 1) (omega arith))) ∙ split in
    let t = get_or bytes at 0 in
    none_left d (drop at bytes) ps h (rw (drop_more bytes at 0 lt) (unnamed_by (type_of_tag t) t (drop (at + 1) bytes) refl none))

-- a name by its length
pub no_len : (bytes : List ℕ) (o : Option ℕ) → option_map (λ i. (take i bytes, drop (i + 1) bytes)) o ≡ split_at_nul bytes → o ≡ None
    → split_at_nul bytes ≡ None
no_len bytes o h is = sym h ∙ ap (option_map (λ (i : ℕ). (take i bytes, drop (i + 1) bytes))) is

pub some_len : (bytes : List ℕ) (o : Option ℕ) (n : ℕ) → option_map (λ i. (take i bytes, drop (i + 1) bytes)) o ≡ split_at_nul bytes
    → o ≡ Some n → split_at_nul bytes ≡ Some (take n bytes, drop (n + 1) bytes)
some_len bytes o n h is = sym h ∙ ap (option_map (λ (i : ℕ). (take i bytes, drop (i + 1) bytes))) is

-- the value begins within the bytes
pub value_within : (bytes : List ℕ) (at : ℕ) (s b : List ℕ) → at < length bytes
    → split_at_nul (take (length bytes - (at + 1)) (drop (at + 1) bytes)) ≡ Some (s, b) → at + length s + 2 ≤ length bytes
value_within bytes at s b lt split =
    let type_with_tag : split_at_nul (drop (at + 1) bytes) ≡ Some (s, b) = ap split_at_nul (sym (sliced bytes (at + 1) (omega arith))) ∙ split in
    omega (arith, lt, length-drop (at + 1) bytes, (split_follows (drop (at + 1) bytes) s b type_with_tag).1)

pub later_within : (has : Bool) (at n : ℕ) (found later_position : Option ℕ) → later_position ≡ cond has (Some at) found → at ≤ n
    → IfSome found (λ i. i ≤ n) → IfSome later_position (λ i. i ≤ n)
later_within true at n found later_position is little_endian h = subst (λ (o : Option ℕ). IfSome o (λ i. i ≤ n)) (sym is) little_endian
later_within false at n found later_position is little_endian h = subst (λ (o : Option ℕ). IfSome o (λ i. i ≤ n)) (sym is) h

passed_some : (ps : Pairs) (bytes s next : List ℕ) (o : Option (List ℕ)) → o ≡ Some next → IsNameAndRest ps bytes (Some (s, next))
    → IsNameAndRest ps bytes (option_map (λ x. (s, x)) o)
passed_some ps bytes s next o e h = subst (λ (p : Option (List ℕ)). IsNameAndRest ps bytes (option_map (λ x. (s, x)) p)) (sym e) h

-- a name, and a value of the size that its tag says
passed_by : (d t : ℕ) (r : List ℕ) (ps : Pairs) → BeginsWithElements d (t ∷ r) ps → (t ≡ 0 → ⊥) → (s b : List ℕ)
    → split_at_nul r ≡ Some (s, b) → (size : ValueSize) → ((k : ElementType) → tag_of k ≡ t → size ≡ value_size k) → (o : Option (List ℕ))
    → o ≡ skip_value_of_size size b → IsNameAndRest ps (t ∷ r) (option_map (λ x. (s, x)) o)
passed_by d t r ps h some s b split size is o skips =
    elim (list_step d (document_skips d) (length r) (t ∷ r) ps h.0 h.1) [
      | inl end ↦ absurd (some (first_is t r 0 h.0 end.byte))
      | inr turn ↦
          let tag : t ≡ turn.tag = first_is t r turn.tag turn.behind turn.byte in
          let after : r ≡ turn.behind = rest_is t r turn.tag turn.behind turn.byte in
          let name = name_split turn.behind turn.name turn.after turn.key in
          let parts : ◌≡◌ {A = List ℕ × List ℕ} (turn.name, turn.after) (s, b) =
          some_is (turn.name, turn.after) (s, b) (sym name.0 ∙ ap split_at_nul (sym after) ∙ split) in
          let same : size ≡ value_size turn.type = is turn.type (kind_tag turn.tag turn.type turn.kind ∙ sym tag) in
          let value : turn.after ≡ b = ap (λ (p : List ℕ × List ℕ). p.1) parts in
          let next : skip_value turn.type b ≡ Some turn.next = ap (skip_value turn.type) (sym value) ∙ turn.skips.0 in
          let found = turn.found ∙ ap (λ (p : List ℕ × List ℕ). Some (turn.type, p.0, p.1)) parts in
          passed_some ps (t ∷ r) s turn.next o (skips ∙ ap (λ (z : ValueSize). skip_value_of_size z b) same ∙ next) (turn.type, b, found, next)
    ]

pub passes : (d : ℕ) (bytes : List ℕ) (at : ℕ) (ps : Pairs) → BeginsWithElements d (drop at bytes) ps → at < length bytes
    → (get_or bytes at 0 ≡ 0 → ⊥) → (s b : List ℕ) → split_at_nul (take (length bytes - (at + 1)) (drop (at + 1) bytes)) ≡ Some (s, b)
    → (size : ValueSize)
    → ((k : ElementType) → tag_of k ≡ get_or bytes at 0 → size ≡ value_size k) → (o : Option ℕ)
    → option_map (λ i. drop i bytes) o ≡ skip_value_of_size size (drop (at + length s + 2) bytes)
    → IsNameAndRest ps (drop at bytes) (option_map (λ x. (s, x)) (option_map (λ i. drop i bytes) o))
passes d bytes at ps h lt some s b type_with_tag size is o skips =
    let split : split_at_nul (drop (at + 1) bytes) ≡ Some (s, b) = ap split_at_nul (sym (sliced bytes (at + 1) (omega arith))) ∙ type_with_tag in
    let t = get_or bytes at 0 in
    let r = drop (at + 1) bytes in
    let whole : drop at bytes ≡ t ∷ r = drop_more bytes at 0 lt in
    let after : drop (at + length s + 2) bytes ≡ b =
    ap (λ (n : ℕ). drop n bytes) (omega arith) ∙ sym ((split_follows r s b split).0 ∙ drop-drop (length s + 1) (at + 1) bytes) in
    subst (λ (list : List ℕ). IsNameAndRest ps list (option_map (λ x. (s, x)) (option_map (λ i. drop i bytes) o))) (sym whole)
    (passed_by d t r ps (subst (λ (list : List ℕ). BeginsWithElements d list ps) whole h) some s b split size is
    (option_map (λ i. drop i bytes) o) (skips ∙ ap (skip_value_of_size size) after))
