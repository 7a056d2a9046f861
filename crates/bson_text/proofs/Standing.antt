-- The texts of members, as they come.
use Rattle.std.proofs.Common.{◌≡◌, ℕ, suc, ◌+◌, ◌-◌, ◌<◌, ◌≤◌, ◌==◌, Bool, true, false, cond, List, [], ◌∷◌, ◌++◌, length}
use Rattle.std.proofs.Common.{Bor, drop, take, map, refl, sym, ap, ◌∙◌, subst, arith, append_assoc, append-nil}
use Rattle.std.proofs.lemmas.Bool.{eq-eqb, ne_eqb}
use Rattle.std.proofs.lemmas.List.{take-append-le, length-append}
use Rattle.std.proofs.lemmas.List.Elements.{All-nil, All-head, All-tail, All-cons, All-weaker}
use Rattle.std.proofs.Math.Seq.{take-length}
use Rattle.std.specs.List.{All}
use Rattle.serde_json.specs.Written.{comma_if}
use Rattle.bson_model.specs.Sorted.{insert_sorted_pair, sorted, sorted_pairs}
use Rattle.bson_model.specs.Value.{Value, Pairs, no_pairs, pair, document}
use Rattle.bson_text.specs.MemberSpans.{span_key, span_text, end_before_next, spans_from, unfinished_text}
use Rattle.bson_text.specs.MemberSpans.{ValuesByStart, value_of_span, IsObjectWritten, IsUnfinishedObject, IsMemberSpan, IsSpanWithin}
use Rattle.bson_model.specs.StableOrder.{insert_each}
use Rattle.bson_text.specs.TraversalResults.{keys_of, each_key_once}
use Rattle.bson_text.specs.declared.member_spans.MemberSpan.{MemberSpan}
use Rattle.bson_text.specs.declared.sorted_writer.ContainerStart.{ContainerStart}
use Rattle.bson_tokens.proofs.Offered.{slice_between}
use Rattle.bson_text.proofs.SpansInOrder.{HasMembers, object_in_order}
use Rattle.bson_text.proofs.SortedPairs.{put_in_turn, once_sorted}

abbrev Key : Type 0
Key = Bor (List ℕ)

-- ---- one value before others

module _ (values : ValuesByStart) (v : Value) (at : ℕ) where
  abbrev with_value : ValuesByStart
  with_value i = cond (i == at) v (values i)

  value_here : with_value at ≡ v
  value_here = ap (λ b. cond b v (values at)) (eq-eqb at at refl)

  value_there : (i : ℕ) → at < i → with_value i ≡ values i
  value_there i less = ap (λ b. cond b v (values i)) (ne_eqb i at (λ e. omega (arith, e, less)))

  put_there : (ps : List MemberSpan) (qs : Pairs) → All (λ p. at < p.start) ps
      → insert_each span_key (value_of_span with_value) ps qs ≡ insert_each span_key (value_of_span values) ps qs
  put_there [] qs h = refl
  put_there (p ∷ ps) qs h =
      let first = All-head (λ q. at < q.start) p ps h in
      put_there ps (insert_sorted_pair (span_key p) (with_value p.start) qs) (All-tail (λ q. at < q.start) p ps h)
      ∙ ap (λ w. insert_each span_key (value_of_span values) ps (insert_sorted_pair (span_key p) w qs)) (value_there p.start first)

-- ---- members that are added

-- what is seen of a writer: its text, the member_starts of open documents, and whether a value precedes
-- what comes next
pub record Seen : Type 0 where
  pub text : List ℕ
  pub member_starts : List ℕ
  pub needs_comma : Bool

-- the text up to a member that comes next
abbrev pub front_of : Seen → List ℕ
front_of w = w.text ++ comma_if w.needs_comma

-- a text of the key and the sorted value was added as a member
pub record MemberAdded (IsText : List ℕ → Value → List ℕ → Type 0) (k : List ℕ) (v : Value) (old new : Seen)
    : Type 0 where
  pub own : List ℕ
  pub is_text : IsText k (sorted v) own
  pub some : 0 < length own
  pub text : new.text ≡ front_of old ++ own
  pub member_starts : new.member_starts ≡ old.member_starts ++ length (front_of old) ∷ []
  pub needs_comma : new.needs_comma ≡ true

abbrev pub MembersAdded : (List ℕ → Value → List ℕ → Type 0) → Pairs → Seen → Seen → Type 0
MembersAdded IsText no_pairs old new = old ≡ new
MembersAdded IsText (pair k v ps) old new =
    (mid : Seen) × MemberAdded IsText k v old mid × MembersAdded IsText ps mid new

first_of : (k l : List ℕ) (ks ls : List (List ℕ)) → k ∷ ks ≡ l ∷ ls → k ≡ l
first_of k l ks ls e = cc

rest_of : (k l : List ℕ) (ks ls : List (List ℕ)) → k ∷ ks ≡ l ∷ ls → ks ≡ ls
rest_of k l ks ls e = cc

pub text_before : (old more text : List ℕ) (start : ℕ) → text ≡ old ++ more → start ≡ length old → take start text ≡ old
text_before old more text start is end =
    ap (take start) is ∙ ap (λ n. take n (old ++ more)) end ∙ take-append-le (length old) old more (omega arith)
    ∙ take-length old

module _ (IsText : List ℕ → Value → List ℕ → Type 0) where
  -- ---- the members of a document

  -- the piece is one of a value in the text, and member_starts after the front
  abbrev StandsBehind : List ℕ → ℕ → ValuesByStart → MemberSpan → Type 0
  StandsBehind text front values p = (front ≤ p.start) × IsMemberSpan IsText text values p

  -- the text after the front is that of the pieces of pairs, whose values are inserted sorted
  pub record Stand (text front : List ℕ) (needs_comma : Bool) (ks : List Key) (member_starts : List ℕ) (ps : Pairs) : Type 0 where
    pub values : ValuesByStart
    pub all : All (StandsBehind text (length front) values) (spans_from ks member_starts (length text))
    pub put : (qs : Pairs)
        → insert_each span_key (value_of_span values) (spans_from ks member_starts (length text)) qs ≡ put_in_turn ps qs
    pub began_document : text ≡ front ++ unfinished_text text needs_comma (spans_from ks member_starts (length text))
    pub paired : length ks ≡ length member_starts
    pub ends : needs_comma ≡ true → end_before_next member_starts (length text) ≡ length front

  none_stand : (text : List ℕ) (needs_comma : Bool) → Stand text text needs_comma [] [] no_pairs
  none_stand text needs_comma = record {
    values = λ i. document no_pairs;
    all = All-nil _;
    put = λ qs. refl;
    began_document = sym (append-nil text);
    paired = refl;
    ends = λ is. refl;
  }

  one_stands : (text : List ℕ) (old mid : Seen) (k : Key) (ks : List Key) (member_starts : List ℕ) (v : Value) (ps : Pairs)
      → MemberAdded IsText k.now v old mid → Stand text mid.text true ks member_starts ps
      → Stand text old.text old.needs_comma (k ∷ ks) (length (front_of old) ∷ member_starts) (pair k.now v ps)
  one_stands text old mid k ks member_starts v ps one rest =
      let front = old.text in
      let comma = comma_if old.needs_comma in
      let start = length (front ++ comma) in
      let s = one.own in
      let end = end_before_next member_starts (length text) in
      let spans = spans_from ks member_starts (length text) in
      let others = unfinished_text text true spans in
      let p : MemberSpan = record { key = k; start = start; end = end } in
      let some : 0 < length s = one.some in
      let long : length mid.text ≡ start + length s = ap length one.text ∙ length-append (front ++ comma) s in
      let whole : text ≡ (front ++ comma) ++ (s ++ others) =
      rest.began_document ∙ ap (λ l. l ++ others) one.text ∙ append_assoc (front ++ comma) s others in
      let total : length text ≡ start + length (s ++ others) =
      ap length whole ∙ length-append (front ++ comma) (s ++ others) in
      let ended : end ≡ length mid.text = rest.ends refl in
      let own : span_text text p ≡ s =
      slice_between text (front ++ comma) s others start end whole refl (ended ∙ long) in
      let longer = length-append front comma in
      let values = with_value rest.values (sorted v) start in
      let value : values start ≡ sorted v = value_here rest.values (sorted v) start in
      let higher : All (λ q. start < q.start) spans = All-weaker (StandsBehind text (length mid.text) rest.values)
      (λ q. start < q.start) (λ q h. omega (arith, h.0, long, some)) spans rest.all in
      let this : IsMemberSpan IsText text values p = (
        (omega (arith, ended, long, some), omega (arith, ended, long, total, length-append s others)),
        subst (λ w. IsText k.now w (span_text text p)) (sym value) (subst (IsText k.now (sorted v)) (sym own) one.is_text),
      ) in
      let behind_it = All-weaker (StandsBehind text (length mid.text) rest.values)
      (StandsBehind text (length front) values)
      (λ q h. (
        omega (arith, h.0, long, longer),
        subst (λ w. IsSpanWithin text q × IsText (span_key q) w (span_text text q))
            (sym (value_there rest.values (sorted v) start q.start (omega (arith, h.0, long, some)))) h.1,
      )) spans rest.all in
      record {
        values = values;
        all = All-cons (StandsBehind text (length front) values) p spans (omega (arith, longer), this) behind_it;
        put = λ qs. put_there rest.values (sorted v) start spans (insert_sorted_pair k.now (values start) qs) higher
            ∙ ap (λ w. insert_each span_key (value_of_span rest.values) spans (insert_sorted_pair k.now w qs)) value
            ∙ rest.put (insert_sorted_pair k.now (sorted v) qs);
        began_document = whole ∙ append_assoc front comma (s ++ others)
            ∙ ap (λ l. front ++ (comma ++ (l ++ others))) (sym own);
        paired = ap suc rest.paired;
        ends = λ needs_comma_after. omega (arith, longer, ap (λ b. length (comma_if b)) needs_comma_after);
      }

  -- the members that were written are pieces
  pairs_stand : (ps : Pairs) (ks : List Key) (old new : Seen) → MembersAdded IsText ps old new
      → keys_of ps ≡ map (λ k. k.now) ks
      → (member_starts : List ℕ) × (new.member_starts ≡ old.member_starts ++ member_starts) × Stand new.text old.text old.needs_comma ks member_starts ps
  pairs_stand no_pairs [] old new is named =
      subst (λ w. (member_starts : List ℕ) × (w.member_starts ≡ old.member_starts ++ member_starts)
      × Stand w.text old.text old.needs_comma [] member_starts no_pairs) is
      ([], sym (append-nil old.member_starts), none_stand old.text old.needs_comma)
  pairs_stand no_pairs (k ∷ ks) old new is named = cc
  pairs_stand (pair k v ps) [] old new written named = cc
  pairs_stand (pair l v ps) (k ∷ ks) old new (mid, one, more) named =
      let first : l ≡ k.now = first_of l k.now (keys_of ps) (map (λ k. k.now) ks) named in
      let at = length (front_of old) in
      let (member_starts, mark, rest) = pairs_stand ps ks mid new more
      (rest_of l k.now (keys_of ps) (map (λ k. k.now) ks) named) in (
        at ∷ member_starts,
        mark ∙ ap (λ s. s ++ member_starts) one.member_starts ∙ append_assoc old.member_starts (at ∷ []) member_starts,
        subst (λ j. Stand new.text old.text old.needs_comma (k ∷ ks) (at ∷ member_starts) (pair j v ps)) (sym first)
            (one_stands new.text old mid k ks member_starts v ps (subst (λ j. MemberAdded IsText j v old mid) first one)
            (subst (λ b. Stand new.text mid.text b ks member_starts ps) one.needs_comma rest)),
      )

  -- ---- a whole document

  -- the open document's text follows that before it, and its member_starts after those that were outer_member_count
  pub record DocumentStands (before outer_member_count : List ℕ) (now : Seen) (mark : ContainerStart) (ks : List Key) (ps : Pairs)
      : Type 0 where
    pub member_starts : List ℕ
    pub starts_are : now.member_starts ≡ outer_member_count ++ member_starts
    pub held_are : mark.outer_member_count ≡ length outer_member_count
    pub stands_before : take mark.start now.text ≡ before
    pub paired : length ks ≡ length member_starts
    pub began_document : IsUnfinishedObject before now.text (spans_from ks member_starts (length now.text))
    pub values : ValuesByStart
    pub all : All (IsMemberSpan IsText now.text values) (spans_from ks member_starts (length now.text))
    pub put : insert_each span_key (value_of_span values) (spans_from ks member_starts (length now.text)) no_pairs
        ≡ put_in_turn ps no_pairs

  pub opened_document : (before outer_member_count : List ℕ) (mid now : Seen) (mark : ContainerStart) (ps : Pairs) (ks : List Key)
      → mark.start ≡ length before → mark.outer_member_count ≡ length outer_member_count → mid.text ≡ before ++ 123 ∷ [] → mid.member_starts ≡ outer_member_count
      → mid.needs_comma ≡ false → MembersAdded IsText ps mid now → keys_of ps ≡ map (λ k. k.now) ks
      → DocumentStands before outer_member_count now mark ks ps
  opened_document before outer_member_count mid now mark ps ks here many begins kept off written named =
      let (member_starts, held_are, stand) = pairs_stand ps ks mid now written named in
      let spans = spans_from ks member_starts (length now.text) in
      let members = unfinished_text now.text false spans in
      let whole : now.text ≡ before ++ 123 ∷ members =
      stand.began_document ∙ ap (λ b. mid.text ++ unfinished_text now.text b spans) off ∙ ap (λ l. l ++ members) begins
      ∙ append_assoc before (123 ∷ []) members in
      record {
        member_starts = member_starts;
        starts_are = held_are ∙ ap (λ l. l ++ member_starts) kept;
        held_are = many;
        stands_before = text_before before (123 ∷ members) now.text mark.start whole here;
        paired = stand.paired;
        began_document = whole;
        values = stand.values;
        all = All-weaker (StandsBehind now.text (length mid.text) stand.values) (IsMemberSpan IsText now.text stand.values)
            (λ p h. h.1) spans stand.all;
        put = stand.put no_pairs;
      }

module _ {IsText : List ℕ → Value → List ℕ → Type 0} {before outer_member_count : List ℕ} {now : Seen} {mark : ContainerStart}
    {ks : List Key} {ps : Pairs} (d : DocumentStands IsText before outer_member_count now mark ks ps) where
  -- the document's own member_starts
  pub own_starts : (all : List ℕ) → all ≡ now.member_starts → take (length all - mark.outer_member_count) (drop mark.outer_member_count all) ≡ d.member_starts
  own_starts all is =
      let whole : all ≡ outer_member_count ++ (d.member_starts ++ []) =
      is ∙ d.starts_are ∙ ap (λ l. outer_member_count ++ l) (sym (append-nil d.member_starts)) in
      slice_between all outer_member_count d.member_starts [] mark.outer_member_count (length all) whole d.held_are
      (ap length (is ∙ d.starts_are) ∙ length-append outer_member_count d.member_starts)

  pub are_held : (all : List ℕ) → all ≡ now.member_starts → mark.outer_member_count ≤ length all
  are_held all is = omega (arith, d.held_are, ap length (is ∙ d.starts_are), length-append outer_member_count d.member_starts)

  pub others_held : take mark.outer_member_count now.member_starts ≡ outer_member_count
  others_held = text_before outer_member_count d.member_starts now.member_starts mark.outer_member_count d.starts_are d.held_are

  pub all_within : All (IsSpanWithin now.text) (spans_from ks d.member_starts (length now.text))
  all_within = All-weaker (IsMemberSpan IsText now.text d.values) (IsSpanWithin now.text) (λ p h. h.0)
      (spans_from ks d.member_starts (length now.text)) d.all

  pub stands_open : IsUnfinishedObject (take mark.start now.text) now.text (spans_from ks d.member_starts (length now.text))
  stands_open =
      subst (λ old. IsUnfinishedObject old now.text (spans_from ks d.member_starts (length now.text))) (sym d.stands_before) d.began_document

  -- the document's members, once they were inserted in order
  pub has_members : (new : List ℕ)
      → IsObjectWritten (spans_from ks d.member_starts (length now.text)) (take mark.start now.text) now.text new
      → HasMembers IsText before now.text new (sorted_pairs (each_key_once ps))
  has_members new ended =
      let put = d.put ∙ sym (once_sorted ps) in
      subst (λ qs. HasMembers IsText before now.text new qs) put
      (object_in_order IsText before now.text new d.values (spans_from ks d.member_starts (length now.text)) d.all
      (subst (λ old. IsObjectWritten (spans_from ks d.member_starts (length now.text)) old now.text new) d.stands_before ended))
