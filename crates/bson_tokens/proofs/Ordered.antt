-- Pieces in their order, and what holds of each of them.
use Rattle.std.proofs.Common.{◌≡◌, ℕ, Bool, true, false, nat_lt, List, [], ◌∷◌, length, take, map, refl, sym, ap, ◌∙◌, subst}
use Rattle.std.proofs.Common.{◌≤◌, ◌<◌, arith, bytes_eq}
use Rattle.std.proofs.lemmas.Bool.Decides.{nat_tests}
use Rattle.std.proofs.lemmas.List.{length-map, length-take-le}
use Rattle.std.proofs.lemmas.List.Elements.{All-head, All-tail, All-cons}
use Rattle.std.proofs.lemmas.List.Sorted.{All-permutation}
use Rattle.std.proofs.lemmas.Slice.Eq.{bytes_eq-Decides}
use Rattle.std.specs.List.{All}
use Rattle.json.specs.Json.{Members, member}
use Rattle.bson_tokens.specs.Normalized.{put_member}
use Rattle.bson_tokens.specs.NormalizerStates.{AreSpansOrdered, AreSpansArranged, JsonMember, IsMemberSpanOf, IsMemberSpanWithin, MemberSpanValues, entry_at, merge}
use Rattle.bson_tokens.specs.NormalizerStates.{json_entry_key, entry_members, json_entry_value, member_text, member_span_key, span_value}
use Rattle.bson_tokens.specs.NormalizerStates.{has_entries}
use Rattle.bson_tokens.specs.PutMembers.{members_of, merged, merged_from, put_all_members}
use Rattle.bson_model.specs.declared.options.KeyOrder.{KeyOrder}
use Rattle.bson_model.specs.declared.options.KeyOrder.TheVariants.{AsGiven, Ascending}
use Rattle.bson_tokens.specs.declared.member_order.MemberSpan.{MemberSpan}

module _ (P : MemberSpan → Type 0) (joins : (p q : MemberSpan) → member_span_key q ≡ member_span_key p → P q → P (merge p q)) where
  run_at : (b : Bool) (p q : MemberSpan) (qs : List MemberSpan) → bytes_eq (member_span_key q) (member_span_key p) ≡ b → P p → All P (q ∷ qs)
      → (P (merge p q) → All P (merged_from member_span_key merge (merge p q) qs))
      → (P q → All P (merged_from member_span_key merge q qs)) → All P (merged_from member_span_key merge p (q ∷ qs))
  run_at true p q qs is here all one other =
      rw is (one (joins p q ((bytes_eq-Decides (member_span_key q) (member_span_key p)).0 is) (All-head P q qs all)))
  run_at false p q qs is here all one other =
      rw is (All-cons P p (merged_from member_span_key merge q qs) here (other (All-head P q qs all)))

  all_from : (p : MemberSpan) (qs : List MemberSpan) → P p → All P qs → All P (merged_from member_span_key merge p qs)
  all_from p [] here all = All-cons P p [] here all
  all_from p (q ∷ qs) here all =
      run_at _ p q qs refl here all (λ h. all_from (merge p q) qs h (All-tail P q qs all))
      (λ h. all_from q qs h (All-tail P q qs all))

  all_merged : (ps : List MemberSpan) → All P ps → All P (merged member_span_key merge ps)
  all_merged [] all = all
  all_merged (p ∷ ps) all = all_from p ps (All-head P p ps all) (All-tail P p ps all)

  all_placed : (a : KeyOrder) (ms zs : List MemberSpan) → AreSpansArranged a ms zs → All P ms → All P zs
  all_placed AsGiven ms zs placed all = All-permutation P ms zs placed.0 all
  all_placed Ascending ms zs placed all = subst (All P) (sym placed) all

  -- what holds of each and of what is merged of two holds of each in order
  pub all_ordered : (a : KeyOrder) (xs zs : List MemberSpan) → AreSpansOrdered a xs zs → All P xs → All P zs
  all_ordered a xs zs o all =
      all_placed a (merged member_span_key merge o.sorted_spans) zs o.placed
      (all_merged o.sorted_spans (All-permutation P xs o.sorted_spans o.same all))

pub all_within : (body : List ℕ) (a : KeyOrder) (xs zs : List MemberSpan) → AreSpansOrdered a xs zs → All (IsMemberSpanWithin body) xs
    → All (IsMemberSpanWithin body) zs
all_within body a xs zs o all = all_ordered (IsMemberSpanWithin body) (λ p q same within. within) a xs zs o all

pub all_spans : (body : List ℕ) (values : MemberSpanValues) (a : KeyOrder) (xs zs : List MemberSpan) → AreSpansOrdered a xs zs
    → All (IsMemberSpanOf body values) xs → All (IsMemberSpanOf body values) zs
all_spans body values a xs zs o all =
    all_ordered (IsMemberSpanOf body values)
    (λ p q same span. (span.0, span.1 ∙ ap (λ k. member_text (k, values q.start)) same)) a xs zs o all

-- ---- pieces as entries

pub as_entries : (values : MemberSpanValues) (ps : List MemberSpan)
    → entry_members (map (entry_at values) ps) ≡ members_of member_span_key (span_value values) ps
as_entries values [] = refl
as_entries values (p ∷ ps) = ap (member (member_span_key p) (values p.start)) (as_entries values ps)

pub put_as_entries : (values : MemberSpanValues) (a : KeyOrder) (ps : List MemberSpan) (found : Members)
    → put_all_members json_entry_key json_entry_value a (map (entry_at values) ps) found
    ≡ put_all_members member_span_key (span_value values) a ps found
put_as_entries values a [] found = refl
put_as_entries values a (p ∷ ps) found = put_as_entries values a ps (put_member a (member_span_key p) (values p.start) found)

-- some were removed
above_none : (n : ℕ) → 0 < n → nat_lt 0 n ≡ true
above_none n more = grind (arith, nat_tests)

some_of : (es : List JsonMember) → nat_lt 0 (length es) ≡ has_entries es
some_of [] = refl
some_of (e ∷ es) = above_none (length (e ∷ es)) (omega arith)

pub some_taken : (values : MemberSpanValues) (at : ℕ) (ps : List MemberSpan) → at ≤ length ps
    → nat_lt 0 at ≡ has_entries (map (entry_at values) (take at ps))
some_taken values at ps less =
    let es = map (entry_at values) (take at ps) in
    let long : length es ≡ at = length-map (take at ps) (entry_at values) ∙ length-take-le at ps less in
    ap (nat_lt 0) (sym long) ∙ some_of es
