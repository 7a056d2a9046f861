-- Pieces joined one after the other, and pieces of one key made one.
use Rattle.std.proofs.Common.{◌≡◌, ℕ, suc, ◌+◌, ◌<◌, true, false, nat_lt, List, [], ◌∷◌, ◌++◌, drop, get_or, length, map, take}
use Rattle.std.proofs.Common.{bytes_eq, refl, sym, ap, ◌∙◌, subst, arith, add-one, append_assoc}
use Rattle.std.proofs.Math.ListN.{set}
use Rattle.std.proofs.Math.Seq.{drop-cons, take-suc, take-length}
use Rattle.std.proofs.lemmas.List.{map-append, take_more_set}
use Rattle.std.specs.List.{All}
use Rattle.serde_json.specs.Written.{comma_if}
use Rattle.bson_tokens.specs.NormalizerStates.{IsMemberSpanOf, IsMemberSpanWithin, SpansMatch, MemberSpanValues, entry_at, member_text, merge}
use Rattle.bson_tokens.specs.NormalizerStates.{member_span_key, member_span_text, has_entries}
use Rattle.bson_tokens.specs.PutMembers.{merged, merged_from}
use Rattle.bson_tokens.specs.declared.member_order.MemberSpan.{MemberSpan}
use Rattle.bson_tokens.proofs.Ordered.{some_taken}
use Rattle.bson_tokens.proofs.Standing.{stand_more}

heads : (p q : MemberSpan) (ps qs : List MemberSpan) → p ∷ ps ≡ q ∷ qs → (p ≡ q) × (ps ≡ qs)
heads p q ps qs e = (cc, cc)

-- of those that are left the next, and those after it
pub next_left : (all now : List MemberSpan) (at : ℕ) (p : MemberSpan) → at < length all → drop at now ≡ drop at all
    → drop at now ≡ p ∷ drop (suc at) now → (drop at all ≡ p ∷ drop (at + 1) all) × (drop (at + 1) now ≡ drop (at + 1) all)
next_left all now at p less left is =
    let first : drop at all ≡ get_or all at p ∷ drop (suc at) all = drop-cons all at p less in
    let both = heads p (get_or all at p) (drop (suc at) now) (drop (suc at) all) (sym is ∙ left ∙ first) in
    rw (add-one at) (first ∙ ap (λ q. q ∷ drop (suc at) all) (sym both.0), both.1)

at_left : (all : List MemberSpan) (at : ℕ) (p : MemberSpan) → at < length all → drop at all ≡ p ∷ drop (at + 1) all
    → get_or all at p ≡ p
at_left all at p less is =
    (heads (get_or all at p) p (drop (suc at) all) (drop (at + 1) all) (sym (drop-cons all at p less) ∙ is)).0

pub within_left : (body : List ℕ) (all now : List MemberSpan) (at : ℕ) (p : MemberSpan) → All (IsMemberSpanWithin body) all → at < length all
    → drop at now ≡ drop at all → drop at now ≡ p ∷ drop (suc at) now → IsMemberSpanWithin body p
within_left body all now at p within less left is =
    subst (IsMemberSpanWithin body) (at_left all at p less (next_left all now at p less left is).0) (within at p less)

one_taken : (values : MemberSpanValues) (all : List MemberSpan) (at : ℕ) (p : MemberSpan) → at < length all
    → drop at all ≡ p ∷ drop (at + 1) all
    → map (entry_at values) (take (at + 1) all) ≡ map (entry_at values) (take at all) ++ entry_at values p ∷ []
one_taken values all at p less is =
    let e : take (at + 1) all ≡ take at all ++ p ∷ [] =
    rw (add-one at) (take-suc all at p less ∙ ap (λ q. take at all ++ q ∷ []) (at_left all at p less is)) in
    ap (map (entry_at values)) e ∙ map-append (entry_at values) (take at all) (p ∷ [])

-- one more is joined
pub span_joined : (body : List ℕ) (all now : List MemberSpan) (at : ℕ) (p q : MemberSpan) (values : MemberSpanValues) (old mid later : List ℕ)
    → at < length all → drop at all ≡ p ∷ drop (at + 1) all → All (IsMemberSpanOf body values) all
    → SpansMatch old (take at now) (map (entry_at values) (take at all)) → mid ≡ old ++ comma_if (nat_lt 0 at)
    → later ≡ mid ++ member_span_text body p → member_span_key q ≡ member_span_key p → q.offset_in_object ≡ q.start → q.start ≡ length mid
    → q.end ≡ length later → length now ≡ length all
    → SpansMatch later (take (at + 1) (set now at q)) (map (entry_at values) (take (at + 1) all))
span_joined body all now at p q values old mid later less is spans stand comma text key offset_in_object start end long =
    let es = map (entry_at values) (take at all) in
    let j = values p.start in
    let here : IsMemberSpanOf body values p = subst (IsMemberSpanOf body values) (at_left all at p less is) (spans at p less) in
    let some : nat_lt 0 at ≡ has_entries es = some_taken values at all (omega (arith, less)) in
    let begun : mid ≡ old ++ comma_if (has_entries es) = comma ∙ ap (λ b. old ++ comma_if b) some in
    let own : member_span_text body p ≡ member_text (member_span_key q, j) = here.1 ∙ ap (λ k. member_text (k, j)) (sym key) in
    let whole : later ≡ old ++ (comma_if (has_entries es) ++ member_text (member_span_key q, j)) =
    text ∙ ap (λ l. l ++ member_span_text body p) begun ∙ ap (λ l. (old ++ comma_if (has_entries es)) ++ l) own
    ∙ append_assoc old (comma_if (has_entries es)) (member_text (member_span_key q, j)) in
    let more = stand_more old (take at now) es q j stand (start ∙ ap length begun) offset_in_object (end ∙ ap length whole) in
    let inside : at < length now = omega (arith, less, long) in
    let all_text = old ++ (comma_if (has_entries es) ++ member_text (member_span_key q, j)) in
    subst (λ t. SpansMatch t (take (at + 1) (set now at q)) (map (entry_at values) (take (at + 1) all))) (sym whole)
    (subst (λ ps. SpansMatch all_text ps (map (entry_at values) (take (at + 1) all))) (sym (take_more_set now at q inside))
    (subst (λ fs. SpansMatch all_text (take at now ++ q ∷ []) fs)
    (ap (λ k. es ++ (k, j) ∷ []) key ∙ sym (one_taken values all at p less is)) more))

pub all_taken : (all now : List MemberSpan) (at : ℕ) (values : MemberSpanValues) (text : List ℕ) → at ≡ length all
    → length now ≡ length all → SpansMatch text (take at now) (map (entry_at values) (take at all))
    → SpansMatch text now (map (entry_at values) all)
all_taken all now at values text end long stand =
    subst (λ ps. SpansMatch text ps (map (entry_at values) all)) (ap (λ n. take n now) (end ∙ sym long) ∙ take-length now)
    (subst (λ ps. SpansMatch text (take at now) (map (entry_at values) ps)) (ap (λ n. take n all) end ∙ take-length all) stand)

-- ---- those of one key

pub runs_begin : (all : List MemberSpan) (p : MemberSpan) → 0 < length all → get_or all 0 p ≡ p
    → merged_from member_span_key merge p (drop 1 all) ≡ merged member_span_key merge all
runs_begin [] p less is = absurd (omega (arith, less))
runs_begin (q ∷ all) p less is = ap (λ r. merged_from member_span_key merge r all) (sym is)

pub run_goes_on : (last p : MemberSpan) (all : List MemberSpan) (at : ℕ) → drop at all ≡ p ∷ drop (at + 1) all
    → bytes_eq (member_span_key p) (member_span_key last) ≡ true
    → merged_from member_span_key merge (merge last p) (drop (at + 1) all) ≡ merged_from member_span_key merge last (drop at all)
run_goes_on last p all at is same = sym (ap (merged_from member_span_key merge last) is ∙ rw same refl)

pub run_ends : (kept : List MemberSpan) (last p : MemberSpan) (all : List MemberSpan) (at : ℕ) → drop at all ≡ p ∷ drop (at + 1) all
    → bytes_eq (member_span_key p) (member_span_key last) ≡ false
    → (kept ++ last ∷ []) ++ merged_from member_span_key merge p (drop (at + 1) all)
    ≡ kept ++ merged_from member_span_key merge last (drop at all)
run_ends kept last p all at is other =
    append_assoc kept (last ∷ []) (merged_from member_span_key merge p (drop (at + 1) all))
    ∙ ap (λ l. kept ++ l) (sym (ap (merged_from member_span_key merge last) is ∙ rw other refl))
