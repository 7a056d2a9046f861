-- The pieces of the members of an object, in order.
use Rattle.std.proofs.Common.{◌≡◌, ℕ, Bool, true, false, List, [], ◌∷◌, ◌++◌, map, Bor}
use Rattle.std.proofs.Common.{Option, Some, None, Result, Ok, Err, Less, Equal, nat_cmp, bytes_eq}
use Rattle.std.proofs.Common.{refl, sym, ap, ◌∙◌, subst, append_assoc}
use Rattle.std.proofs.lemmas.Cmp.{nat_list_cmp_total, tied_itself}
use Rattle.std.proofs.lemmas.List.Elements.{All-head, All-tail, All-cons}
use Rattle.std.proofs.lemmas.List.Sorted.{All-permutation, IsPermutation-refl}
use Rattle.std.proofs.lemmas.Slice.Eq.{bytes_eq-Decides}
use Rattle.std.specs.Prelude.{IfSome, IfOk}
use Rattle.std.specs.Cmp.Lexicographic.{slice_cmp}
use Rattle.std.specs.List.{All}
use Rattle.serde_json.specs.Written.{comma_if}
use Rattle.bson_model.specs.Sorted.{insert_sorted_pair, IsBelowKeys, KeysAscend}
use Rattle.bson_model.specs.StableOrder.{insert_each, pairs_of}
use Rattle.bson_model.specs.Value.{Value, Pairs, no_pairs}
use Rattle.bson_model.proofs.Offered.{turned, put_ascending}
use Rattle.bson_text.specs.MemberSpans.{span_key, span_text, unfinished_text, members_text, object_text, SpanKeysAscend}
use Rattle.bson_tokens.specs.PutMembers.{KeyIsGreater, KeysAscendFrom}
use Rattle.bson_text.specs.MemberSpans.{last_of_each_key, next_has_key, IsUnfinishedObject, IsObjectWritten, ValuesByStart, value_of_span, IsMemberSpan}
use Rattle.bson_text.specs.MemberSpans.{spans_from}
use Rattle.bson_text.specs.declared.member_spans.MemberSpan.{MemberSpan}
use Rattle.bson_text.proofs.SortedPairs.{put_twice}

-- ---- what may be there

some_more : {A : Type 0} (P Q : A → Type 0) → ((x : A) → P x → Q x) → (o : Option A) → IfSome o P → IfSome o Q
some_more P Q more (Some x) h = more x h
some_more P Q more None h = h

pub ok_more : {A : Type 0} {E : Type 0} (P Q : A → Type 0) → ((x : A) → P x → Q x) → (r : Result (Option A) E)
    → IfOk r (λ o. IfSome o P) → IfOk r (λ o. IfSome o Q)
ok_more P Q more (Ok o) h = some_more P Q more o h
ok_more P Q more (Err e) h = h

-- ---- in order

-- the next piece is joined to those before it
pub next_joined : (texts : List ℕ) (needs_comma : Bool) (p : MemberSpan) (ps left : List MemberSpan) (old mid new : List ℕ)
    → left ≡ p ∷ ps → mid ≡ old ++ comma_if needs_comma → new ≡ mid ++ span_text texts p
    → new ++ members_text texts true ps ≡ old ++ members_text texts needs_comma left
next_joined texts needs_comma p ps left old mid new is comma text =
    let s = span_text texts p in
    let more = members_text texts true ps in
    ap (λ l. l ++ more) (text ∙ ap (λ l. l ++ s) comma)
    ∙ append_assoc (old ++ comma_if needs_comma) s more ∙ append_assoc old (comma_if needs_comma) (s ++ more)
    ∙ ap (λ l. old ++ members_text texts needs_comma l) (sym is)

pub next_ascends : (last : Option (List ℕ)) (p : MemberSpan) (ps left : List MemberSpan) → left ≡ p ∷ ps
    → KeyIsGreater last (span_key p) → SpanKeysAscend (Some (span_key p)) ps → SpanKeysAscend last left
next_ascends last p ps left is follows up = subst (SpanKeysAscend last) (sym is) (follows, up)

-- pieces ascend whose keys do
pub span_keys_ascend : (last : Option (List ℕ)) (ks : List (Bor (List ℕ))) (member_starts : List ℕ) (end : ℕ)
    → KeysAscendFrom last (map (λ k. k.now) ks) → SpanKeysAscend last (spans_from ks member_starts end)
span_keys_ascend last [] member_starts end up = tt
span_keys_ascend last (k ∷ ks) [] end up = tt
span_keys_ascend last (k ∷ ks) (s ∷ member_starts) end up = (up.0, span_keys_ascend (Some k.now) ks member_starts end up.1)

least_of : (values : ValuesByStart) (k l : List ℕ) (ps : List MemberSpan) → slice_cmp nat_cmp k l ≡ Less → SpanKeysAscend (Some l) ps
    → IsBelowKeys k (pairs_of span_key (value_of_span values) ps)
least_of values k l [] less up = tt
least_of values k l (p ∷ ps) less up =
    let first = nat_list_cmp_total.trans k l (span_key p) less up.0 in
    (first, least_of values k (span_key p) ps first up.1)

ascending_pairs : (values : ValuesByStart) (last : Option (List ℕ)) (ps : List MemberSpan) → SpanKeysAscend last ps
    → KeysAscend (pairs_of span_key (value_of_span values) ps)
ascending_pairs values last [] up = tt
ascending_pairs values last (p ∷ ps) up =
    (least_after values (span_key p) ps up.1, ascending_pairs values (Some (span_key p)) ps up.1)
  where
    least_after : (values : ValuesByStart) (k : List ℕ) (ps : List MemberSpan) → SpanKeysAscend (Some k) ps
        → IsBelowKeys k (pairs_of span_key (value_of_span values) ps)
    least_after values k [] up = tt
    least_after values k (p ∷ ps) up = (up.0, least_of values k (span_key p) ps up.0 up.1)

-- ---- the last of each key

pub passed_one : (p : MemberSpan) (ps left : List MemberSpan) → left ≡ p ∷ ps → next_has_key (span_key p) ps ≡ true
    → last_of_each_key left ≡ last_of_each_key ps
passed_one p ps left is again = ap last_of_each_key is ∙ rw again refl

pub kept_one : (p : MemberSpan) (ps left : List MemberSpan) → left ≡ p ∷ ps → next_has_key (span_key p) ps ≡ false
    → last_of_each_key left ≡ p ∷ last_of_each_key ps
kept_one p ps left is once = ap last_of_each_key is ∙ rw once refl

module _ (values : ValuesByStart) where
  abbrev put_spans : List MemberSpan → Pairs → Pairs
  put_spans = insert_each span_key (value_of_span values)

  -- one whose key occurs again is inserted without effect
  put_again : (p : MemberSpan) (ps : List MemberSpan) (qs : Pairs) → next_has_key (span_key p) ps ≡ true
      → put_spans ps (insert_sorted_pair (span_key p) (value_of_span values p) qs) ≡ put_spans ps qs
  put_again p [] qs again = cc
  put_again p (q ∷ ps) qs again =
      let same = (bytes_eq-Decides (span_key q) (span_key p)).0 again in
      let v = value_of_span values p in
      let w = value_of_span values q in
      ap (put_spans ps) (ap (λ k. insert_sorted_pair (span_key q) w (insert_sorted_pair k v qs)) (sym same)
      ∙ put_twice (span_key q) w v qs)

  put_at : (b : Bool) (p : MemberSpan) (ps : List MemberSpan) (qs : Pairs) → next_has_key (span_key p) ps ≡ b
      → ((rs : Pairs) → put_spans ps rs ≡ put_spans (last_of_each_key ps) rs)
      → put_spans (p ∷ ps) qs ≡ put_spans (last_of_each_key (p ∷ ps)) qs
  put_at true p ps qs h is = rw h (put_again p ps qs h ∙ is qs)
  put_at false p ps qs h is = rw h (is (insert_sorted_pair (span_key p) (value_of_span values p) qs))

  put_last_ones : (ps : List MemberSpan) (qs : Pairs) → put_spans ps qs ≡ put_spans (last_of_each_key ps) qs
  put_last_ones [] qs = refl
  put_last_ones (p ∷ ps) qs = put_at _ p ps qs refl (put_last_ones ps)

all_last_at : (b : Bool) (P : MemberSpan → Type 0) (p : MemberSpan) (ps : List MemberSpan) → next_has_key (span_key p) ps ≡ b → P p
    → All P (last_of_each_key ps) → All P (last_of_each_key (p ∷ ps))
all_last_at true P p ps h here is = rw h is
all_last_at false P p ps h here is = rw h (All-cons P p (last_of_each_key ps) here is)

pub all_last : (P : MemberSpan → Type 0) (ps : List MemberSpan) → All P ps → All P (last_of_each_key ps)
all_last P [] h = h
all_last P (p ∷ ps) h = all_last_at _ P p ps refl (All-head P p ps h) (all_last P ps (All-tail P p ps h))

stands_once : (k : List ℕ) (ps : List MemberSpan) → SpanKeysAscend (Some k) ps → next_has_key k ps ≡ false
stands_once k [] up = refl
stands_once k (p ∷ ps) up = reported _ refl
  where
    reported : (b : Bool) → bytes_eq (span_key p) k ≡ b → bytes_eq (span_key p) k ≡ false
    reported false h = h
    reported true h =
        let same = (bytes_eq-Decides (span_key p) k).0 h in
        let tied : slice_cmp nat_cmp k k ≡ Equal = tied_itself nat_list_cmp_total k in
        let less : slice_cmp nat_cmp k k ≡ Less = subst (λ l. slice_cmp nat_cmp k l ≡ Less) same up.0 in
        cc

-- where the keys ascend each piece is its key's last
last_of_ascending : (last : Option (List ℕ)) (ps : List MemberSpan) → SpanKeysAscend last ps → last_of_each_key ps ≡ ps
last_of_ascending last [] up = refl
last_of_ascending last (p ∷ ps) up =
    rw (stands_once (span_key p) ps up.1) (ap (λ l. p ∷ l) (last_of_ascending (Some (span_key p)) ps up.1))

pub closed : (texts : List ℕ) (needs_comma : Bool) (ps : List MemberSpan)
    → unfinished_text texts needs_comma ps ++ 125 ∷ [] ≡ members_text texts needs_comma ps
closed texts needs_comma [] = refl
closed texts needs_comma (p ∷ ps) =
    let s = span_text texts p in
    append_assoc (comma_if needs_comma) (s ++ unfinished_text texts true ps) (125 ∷ [])
    ∙ ap (λ l. comma_if needs_comma ++ l) (append_assoc s (unfinished_text texts true ps) (125 ∷ [])
    ∙ ap (λ l. s ++ l) (closed texts true ps))

-- an object whose keys ascend is ended by its brace
pub ended_in_place : (old texts new : List ℕ) (ps : List MemberSpan) → IsUnfinishedObject old texts ps → SpanKeysAscend None ps
    → new ≡ texts ++ 125 ∷ [] → IsObjectWritten ps old texts new
ended_in_place old texts new ps began_document up is =
    let same = last_of_ascending None ps up in (
      object_text texts ps,
      (
        ps,
        λ p. refl,
        IsPermutation-refl ps,
        subst (SpanKeysAscend None) (sym same) up,
        ap (object_text texts) (sym same),
      ),
      is ∙ ap (λ l. l ++ 125 ∷ []) began_document ∙ append_assoc old (123 ∷ unfinished_text texts false ps) (125 ∷ [])
          ∙ ap (λ l. old ++ 123 ∷ l) (closed texts false ps),
    )

-- ---- the object

-- an object was ended with these members after the old text, by ascending key, whose pairs are those that were inserted
pub record HasMembers (IsText : List ℕ → Value → List ℕ → Type 0) (old texts new : List ℕ) (put : Pairs) : Type 0 where
  pub values : ValuesByStart
  pub members : List MemberSpan
  pub up : SpanKeysAscend None members
  pub all : All (IsMemberSpan IsText texts values) members
  pub pairs : put ≡ pairs_of span_key (value_of_span values) members
  pub text : new ≡ old ++ object_text texts members

pub object_in_order : (IsText : List ℕ → Value → List ℕ → Type 0) (old texts new : List ℕ) (values : ValuesByStart)
    (ps : List MemberSpan) → All (IsMemberSpan IsText texts values) ps → IsObjectWritten ps old texts new
    → HasMembers IsText old texts new (insert_each span_key (value_of_span values) ps no_pairs)
object_in_order IsText old texts new values ps h (written, (qs, stable, same, up, is), needs_comma) =
    let ks = last_of_each_key qs in
    record {
      values = values;
      members = ks;
      up = up;
      all = all_last (IsMemberSpan IsText texts values) qs (All-permutation (IsMemberSpan IsText texts values) ps qs same h);
      pairs = turned span_key (value_of_span values) ps qs no_pairs stable
          ∙ put_last_ones values qs no_pairs
          ∙ put_ascending span_key (value_of_span values) ks (ascending_pairs values None ks up);
      text = needs_comma ∙ ap (λ l. old ++ l) is;
    }
