-- The members of a document that a writer of the text that shows values has written.
use Rattle.std.proofs.Common.{◌≡◌, ℕ, ◌-◌, ◌<◌, Bool, true, false, List, [], ◌∷◌, ◌++◌, codes, length, map, take, Bor}
use Rattle.std.proofs.Common.{◌==◌, cond, eqb-true, Ordering, Less, Equal, Greater, nat_cmp, refl, sym, ap, ◌∙◌, arith, append_assoc}
use Rattle.std.proofs.lemmas.List.{length-append}
use Rattle.std.proofs.lemmas.List.Elements.{All-head, All-tail}
use Rattle.std.specs.List.{All, flat_map}
use Rattle.std.specs.Cmp.Lexicographic.{slice_cmp}
use Rattle.std.specs.Ordering.{match_ordering}
use Rattle.bson_model.specs.Displayed.{display_text, displayed_entry, entry_texts}
use Rattle.bson_model.specs.declared.options.KeyOrder.TheVariants.{Ascending}
use Rattle.bson_model.specs.Sorted.{insert_sorted_pair, sorted, sorted_pairs}
use Rattle.bson_model.specs.StableOrder.{pairs_of}
use Rattle.bson_model.specs.Value.{Value, Pairs, no_pairs, pair, document}
use Rattle.bson_text.specs.MemberSpans.{span_key, unfinished_text, object_text, ValuesByStart, value_of_span, IsMemberSpan}
use Rattle.bson_text.specs.DisplayOutput.{display_with_separator, display_with_comma, separator_if, HasBegunDisplay, HasDisplayOfValue, HasDisplayOfKey}
use Rattle.bson_text.specs.DisplayOutput.{arranged_value}
use Rattle.bson_text.specs.TraversalResults.{PairsWritten, keys_of, each_key_once}
use Rattle.bson_text.specs.declared.member_spans.MemberSpan.{MemberSpan}
use Rattle.bson_text.specs.declared.sorted_writer.ContainerStart.{ContainerStart}
use Rattle.bson_text.specs.declared.display_writer.DisplayWriter.{DisplayWriter}
use Rattle.bson_text.proofs.SpansInOrder.{HasMembers, closed}
use Rattle.bson_text.proofs.ShownTexts.{as_sorted}
use Rattle.bson_text.proofs.SortedPairs.{put_in_turn, once_sorted}
use Rattle.bson_text.proofs.Standing.{Seen, MemberAdded, MembersAdded, DocumentStands, opened_document, text_before}

-- a member's text, with the blank in front of it
abbrev pub IsShownMember : List ℕ → Value → List ℕ → Type 0
IsShownMember k v s = s ≡ codes " " ++ displayed_entry k (display_text v)

abbrev pub seen : DisplayWriter → Seen
seen w = record { text = w.text.items; member_starts = w.member_starts.items; needs_comma = w.needs_comma }

-- the key and the value after it are the member's text
pub member_text : (k : List ℕ) (v : Value) (old named new : DisplayWriter) → HasDisplayOfKey old k named → HasDisplayOfValue named v new
    → new.text.items ≡ display_with_comma old ++ (codes " " ++ displayed_entry k (display_text (arranged_value old.key_order v)))
member_text k v old named new (off, order, begins, key) (after, same, kept, text) =
    let t = display_text (arranged_value old.key_order v) in
    text ∙ ap (λ a. named.text.items ++ (separator_if named.needs_comma ++ display_text (arranged_value a v))) order
    ∙ ap (λ b. named.text.items ++ (separator_if b ++ t)) off ∙ ap (λ l. l ++ t) key
    ∙ append_assoc (display_with_comma old) (codes " \"" ++ (k ++ codes "\": ")) t
    ∙ ap (λ l. display_with_comma old ++ (codes " \"" ++ l)) (append_assoc k (codes "\": ") t)

one_added : (k : List ℕ) (v : Value) (old named new : DisplayWriter) → old.key_order ≡ Ascending
    → HasDisplayOfKey old k named → HasDisplayOfValue named v new → MemberAdded IsShownMember k v (seen old) (seen new)
one_added k v old named new ascending wrote_key wrote_value =
    record {
      own = codes " " ++ displayed_entry k (display_text (sorted v));
      is_text = refl;
      some = omega arith;
      text = member_text k v old named new wrote_key wrote_value
          ∙ ap (λ a. display_with_comma old ++ (codes " " ++ displayed_entry k (display_text (arranged_value a v)))) ascending
          ∙ ap (λ w. display_with_comma old ++ (codes " " ++ displayed_entry k (display_text w))) (as_sorted v);
      member_starts = wrote_value.2 ∙ wrote_key.2;
      needs_comma = wrote_value.0;
    }

members_added : (ps : Pairs) (old new : DisplayWriter) → old.key_order ≡ Ascending
    → PairsWritten (λ a k v b. HasDisplayOfValue a v b) HasDisplayOfKey ps old new → MembersAdded IsShownMember ps (seen old) (seen new)
members_added no_pairs old new ascending is = ap seen is
members_added (pair k v ps) old new ascending (named, mid, wrote_key, wrote_value, more) = (
  seen mid,
  one_added k v old named mid ascending wrote_key wrote_value,
  members_added ps mid new (wrote_value.1 ∙ wrote_key.1 ∙ ascending) more,
)

-- the keys of all go where those of the first go
pub same_order : (ps : Pairs) (old new : DisplayWriter) → PairsWritten (λ a k v b. HasDisplayOfValue a v b) HasDisplayOfKey ps old new
    → new.key_order ≡ old.key_order
same_order no_pairs old new is = ap (λ w. w.key_order) (sym is)
same_order (pair k v ps) old new (named, mid, wrote_key, wrote_value, more) = same_order ps mid new more ∙ wrote_value.1 ∙ wrote_key.1

-- the document that is open
pub document_stands : (start mid now : DisplayWriter) (mark : ContainerStart) (ps : Pairs) (ks : List (Bor (List ℕ)))
    → HasBegunDisplay start mark mid → PairsWritten (λ a k v b. HasDisplayOfValue a v b) HasDisplayOfKey ps mid now
    → keys_of ps ≡ map (λ k. k.now) ks → now.key_order ≡ Ascending
    → DocumentStands IsShownMember (display_with_separator start) start.member_starts.items (seen now) mark ks ps
document_stands start mid now mark ps ks (here, outer_member_count, (off, order, kept, text)) written named ascending =
    opened_document IsShownMember (display_with_separator start) start.member_starts.items (seen mid) (seen now) mark ps ks here outer_member_count
    (text ∙ sym (append_assoc start.text.items (separator_if start.needs_comma) (codes "{"))) kept off
    (members_added ps mid now (sym (same_order ps mid now written) ∙ ascending) written) named

-- ---- a document of keys has pairs

abbrev pub is_none : Pairs → Bool
is_none no_pairs = true
is_none (pair k v ps) = false

some_at : (o : Ordering) (a b c : Pairs) → is_none a ≡ false → is_none b ≡ false → is_none c ≡ false
    → is_none (match_ordering o a b c) ≡ false
some_at Less a b c x y z = x
some_at Equal a b c x y z = y
some_at Greater a b c x y z = z

put_some : (k : List ℕ) (v : Value) (ps : Pairs) → is_none (insert_sorted_pair k v ps) ≡ false
put_some k v no_pairs = refl
put_some k v (pair l w ps) =
    some_at (slice_cmp nat_cmp k l) (pair k v (pair l w ps)) (pair l v ps) (pair l w (insert_sorted_pair k v ps)) refl refl refl

some_in_turn : (ps found : Pairs) → is_none found ≡ false → is_none (put_in_turn ps found) ≡ false
some_in_turn no_pairs found is = is
some_in_turn (pair k v ps) found is = some_in_turn ps (insert_sorted_pair k (sorted v) found) (put_some k (sorted v) found)

-- with its keys in order as well
some_sorted : (ps : Pairs) → 0 < length (keys_of ps) → is_none (sorted_pairs (each_key_once ps)) ≡ false
some_sorted no_pairs h = absurd (omega arith)
some_sorted (pair k v ps) h =
    ap is_none (once_sorted (pair k v ps)) ∙ some_in_turn ps (insert_sorted_pair k (sorted v) no_pairs) refl

none_sorted : (ps : Pairs) → length (keys_of ps) ≡ 0 → sorted_pairs (each_key_once ps) ≡ no_pairs
none_sorted no_pairs h = refl
none_sorted (pair k v ps) h = absurd (omega arith)

-- ---- the text of the document

module _ (texts : List ℕ) (values : ValuesByStart) where
  abbrev IsOne : MemberSpan → Type 0
  IsOne = IsMemberSpan IsShownMember texts values

  abbrev entries : List MemberSpan → List (List ℕ)
  entries ps = entry_texts (pairs_of span_key (value_of_span values) ps)

  members_after : (ps : List MemberSpan) → All IsOne ps
      → unfinished_text texts true ps ≡ flat_map (λ t. codes ", " ++ t) (entries ps)
  members_after [] h = refl
  members_after (p ∷ ps) h =
      ap (λ l. 44 ∷ (l ++ unfinished_text texts true ps)) (All-head IsOne p ps h).1
      ∙ ap (λ l. codes ", " ++ (displayed_entry (span_key p) (display_text (value_of_span values p)) ++ l))
      (members_after ps (All-tail IsOne p ps h))

  -- some members, and a blank before the brace
  some_shown : (p : MemberSpan) (ps : List MemberSpan) → All IsOne (p ∷ ps)
      → (123 ∷ unfinished_text texts false (p ∷ ps)) ++ codes " }"
      ≡ display_text (document (pairs_of span_key (value_of_span values) (p ∷ ps)))
  some_shown p ps h =
      ap (λ l. 123 ∷ ((l ++ unfinished_text texts true ps) ++ codes " }")) (All-head IsOne p ps h).1
      ∙ ap (λ l. codes "{ " ++ ((displayed_entry (span_key p) (display_text (value_of_span values p)) ++ l) ++ codes " }"))
      (members_after ps (All-tail IsOne p ps h))

  -- the text without its last byte
  without_brace : (before new : List ℕ) (ps : List MemberSpan) → new ≡ before ++ object_text texts ps
      → take (length new - 1) new ≡ before ++ 123 ∷ unfinished_text texts false ps
  without_brace before new ps is =
      let front = before ++ 123 ∷ unfinished_text texts false ps in
      let whole : new ≡ front ++ 125 ∷ [] =
      is ∙ ap (λ l. before ++ 123 ∷ l) (sym (closed texts false ps))
      ∙ sym (append_assoc before (123 ∷ unfinished_text texts false ps) (125 ∷ [])) in
      text_before front (125 ∷ []) new (length new - 1) whole
      (omega (arith, ap length whole, length-append front (125 ∷ [])))

  shown_at : (before new : List ℕ) (ps : List MemberSpan) → All IsOne ps
      → is_none (pairs_of span_key (value_of_span values) ps) ≡ false → new ≡ before ++ object_text texts ps
      → take (length new - 1) new ++ codes " }"
      ≡ before ++ display_text (document (pairs_of span_key (value_of_span values) ps))
  shown_at before new [] all some is = cc
  shown_at before new (p ∷ ps) all some is =
      ap (λ l. l ++ codes " }") (without_brace before new (p ∷ ps) is)
      ∙ append_assoc before (123 ∷ unfinished_text texts false (p ∷ ps)) (codes " }")
      ∙ ap (λ l. before ++ l) (some_shown p ps all)

  none_at : (before new : List ℕ) (ps : List MemberSpan) → no_pairs ≡ pairs_of span_key (value_of_span values) ps
      → new ≡ before ++ object_text texts ps → new ≡ before ++ codes "{}"
  none_at before new [] none is = is
  none_at before new (p ∷ ps) none is = let never : true ≡ false = ap is_none none in cc

document_shown : (before texts new : List ℕ) (ps : Pairs) → HasMembers IsShownMember before texts new ps
    → is_none ps ≡ false → take (length new - 1) new ++ codes " }" ≡ before ++ display_text (document ps)
document_shown before texts new ps h some =
    shown_at texts h.values before new h.members h.all (ap is_none (sym h.pairs) ∙ some) h.text
    ∙ ap (λ qs. before ++ display_text (document qs)) (sym h.pairs)

empty_shown : (before texts new : List ℕ) (ps : Pairs) → HasMembers IsShownMember before texts new ps
    → ps ≡ no_pairs → new ≡ before ++ display_text (document ps)
empty_shown before texts new ps h none =
    none_at texts h.values before new h.members (sym none ∙ h.pairs) h.text
    ∙ ap (λ qs. before ++ display_text (document qs)) (sym none)

-- with a blank before the brace, where the document has members
pub ended_shown : (is_empty : Bool) (before texts new last : List ℕ) (ps : Pairs)
    → HasMembers IsShownMember before texts new (sorted_pairs (each_key_once ps)) → is_empty ≡ (length (keys_of ps) == 0)
    → last ≡ cond is_empty new (take (length new - 1) new ++ codes " }")
    → last ≡ before ++ display_text (document (sorted_pairs (each_key_once ps)))
ended_shown true before texts new last ps h none is =
    is ∙ empty_shown before texts new (sorted_pairs (each_key_once ps)) h (none_sorted ps (eqb-true (length (keys_of ps)) 0 (sym none)))
ended_shown false before texts new last ps h some is =
    is ∙ document_shown before texts new (sorted_pairs (each_key_once ps)) h (some_sorted ps (grind (arith, some)))
