-- The texts of members, one after the other.
use Rattle.std.proofs.Common.{◌≡◌, ℕ, ◌+◌, ◌-◌, ◌<◌, ◌≤◌, ◌==◌, Bool, true, false, cond, List, [], ◌∷◌, ◌++◌, length}
use Rattle.std.proofs.Common.{Bor, drop, take, map, refl, sym, ap, ◌∙◌, subst, arith, append_assoc, append-nil, slice_index_or}
use Rattle.std.proofs.lemmas.Bool.{eq-eqb, ne_eqb}
use Rattle.std.proofs.lemmas.List.{take-append-le, drop-append-le, length-append, length-drop, map-append}
use Rattle.std.proofs.lemmas.List.Elements.{All-nil, All-head, All-tail, All-cons, All-weaker, All-append}
use Rattle.std.proofs.Math.Seq.{drop-append_seam, take-length}
use Rattle.std.specs.List.{All}
use Rattle.json.specs.Json.{Json, null}
use Rattle.json.specs.Print.{quoted, print}
use Rattle.json.specs.Tree.{json_tokens}
use Rattle.serde_json.specs.Written.{comma_if}
use Rattle.bson_tokens.specs.NormalizerStates.{JsonMember, IsMemberSpanOf, SpansMatch, MemberSpanValues, entry_at, member_text}
use Rattle.bson_tokens.specs.NormalizerStates.{member_span_key, span_offset, member_span_text, has_entries, comma_if_then_member_texts}
use Rattle.bson_tokens.specs.NormalizerStates.{IsMemberSpanWithin, MemberOpened, ValueAppended}
use Rattle.bson_tokens.specs.PutMembers.{PositionsAscend}
use Rattle.bson_tokens.specs.declared.normalizer.Normalizer.{Normalizer}
use Rattle.bson_tokens.specs.declared.member_order.MemberSpan.{MemberSpan}

-- the text between a front and a rest
pub slice_between : (text front s rest : List ℕ) (start end : ℕ) → text ≡ front ++ (s ++ rest) → start ≡ length front
    → end ≡ length front + length s → take (end - start) (drop start text) ≡ s
slice_between text front s rest start end is first last =
    let long : end - start ≡ length s = omega (arith, first, last) in
    ap (λ n. take n (drop start text)) long
    ∙ ap (λ n. take (length s) (drop n text)) first
    ∙ ap (λ l. take (length s) (drop (length front) l)) is
    ∙ ap (take (length s)) (drop-append_seam front (s ++ rest))
    ∙ take-append-le (length s) s rest (omega arith) ∙ take-length s

-- what was within a text is in it as it grows
slice_grows : (body more : List ℕ) (start end : ℕ) → start < end → end ≤ length body
    → take (end - start) (drop start (body ++ more)) ≡ take (end - start) (drop start body)
slice_grows body more start end less within =
    ap (take (end - start)) (drop-append-le start body more (omega (arith, less, within)))
    ∙ take-append-le (end - start) (drop start body) more (omega (arith, length-drop start body, less, within))

-- ---- one more

spelled_behind : (es : List JsonMember) (e : JsonMember)
    → comma_if_then_member_texts true (es ++ e ∷ []) ≡ comma_if_then_member_texts true es ++ (comma_if true ++ member_text e)
spelled_behind [] e = ap (λ l. comma_if true ++ l) (append-nil (member_text e))
spelled_behind (d ∷ es) e =
    let more = comma_if true ++ member_text e in
    ap (λ l. comma_if true ++ (member_text d ++ l)) (spelled_behind es e)
    ∙ ap (λ l. comma_if true ++ l) (sym (append_assoc (member_text d) (comma_if_then_member_texts true es) more))
    ∙ sym (append_assoc (comma_if true) (member_text d ++ comma_if_then_member_texts true es) more)

spelled_last : (es : List JsonMember) (e : JsonMember)
    → comma_if_then_member_texts false (es ++ e ∷ []) ≡ comma_if_then_member_texts false es ++ (comma_if (has_entries es) ++ member_text e)
spelled_last [] e = append-nil (member_text e)
spelled_last (d ∷ es) e =
    ap (λ l. member_text d ++ l) (spelled_behind es e)
    ∙ sym (append_assoc (member_text d) (comma_if_then_member_texts true es) (comma_if true ++ member_text e))

module _ (values : MemberSpanValues) (j : Json) (at : ℕ) where
  abbrev with_value : MemberSpanValues
  with_value i = cond (i == at) j (values i)

  value_here : with_value at ≡ j
  value_here = ap (λ b. cond b j (values at)) (eq-eqb at at refl)

  value_there : (i : ℕ) → i < at → with_value i ≡ values i
  value_there i less = ap (λ b. cond b j (values i)) (ne_eqb i at (λ e. omega (arith, e, less)))

  entries_there : (ps : List MemberSpan) → All (λ p. p.start < at) ps
      → map (entry_at with_value) ps ≡ map (entry_at values) ps
  entries_there [] h = refl
  entries_there (p ∷ ps) h =
      ap (λ v. (member_span_key p, v) ∷ map (entry_at with_value) ps) (value_there p.start (All-head (λ q. q.start < at) p ps h))
      ∙ ap (λ l. entry_at values p ∷ l) (entries_there ps (All-tail (λ q. q.start < at) p ps h))

rise_last : (low : ℕ) (ps : List MemberSpan) (p : MemberSpan) → PositionsAscend span_offset low ps → low ≤ p.offset_in_object
    → All (λ q. q.offset_in_object < p.offset_in_object) ps → PositionsAscend span_offset low (ps ++ p ∷ [])
rise_last low [] p rise first above = (first, tt)
rise_last low (q ∷ ps) p rise first above = (
  rise.0,
  rise_last (q.offset_in_object + 1) ps p rise.1 (omega (arith, All-head (λ r. r.offset_in_object < p.offset_in_object) q ps above))
      (All-tail (λ r. r.offset_in_object < p.offset_in_object) q ps above),
)

pub stand_more : (body : List ℕ) (ps : List MemberSpan) (es : List JsonMember) (p : MemberSpan) (j : Json) → SpansMatch body ps es
    → p.start ≡ length (body ++ comma_if (has_entries es)) → p.offset_in_object ≡ p.start
    → p.end ≡ length (body ++ (comma_if (has_entries es) ++ member_text (member_span_key p, j)))
    → SpansMatch (body ++ (comma_if (has_entries es) ++ member_text (member_span_key p, j))) (ps ++ p ∷ [])
    (es ++ (member_span_key p, j) ∷ [])
stand_more body ps es p j stand start offset_in_object end =
    let comma = comma_if (has_entries es) in
    let s = member_text (member_span_key p, j) in
    let more = comma ++ s in
    let all = body ++ more in
    let values = with_value stand.values j p.start in
    let e1 = length-append body comma in
    let e2 = length-append body more in
    let e3 = length-append comma s in
    let e4 = length-append (quoted (member_span_key p)) (58 ∷ print (json_tokens j)) in
    let before : All (λ q. q.start < p.start) ps = All-weaker (IsMemberSpanOf body stand.values) (λ q. q.start < p.start)
    (λ q h. omega (arith, h.0.0, h.0.1, start, e1)) ps stand.all in
    let old : All (IsMemberSpanOf all values) ps = still_spans before stand.all in
    let own : member_span_text all p ≡ s = slice_between all (body ++ comma) s [] p.start p.end
    (sym (append_assoc body comma s) ∙ ap (λ l. (body ++ comma) ++ l) (sym (append-nil s))) start
    (omega (arith, end, e1, e2, e3)) in
    let this : IsMemberSpanOf all values p = (
      (omega (arith, start, end, e1, e2, e3, e4), omega (arith, end)),
      own ∙ ap (λ v. member_text (member_span_key p, v)) (sym (value_here stand.values j p.start)),
    ) in
    record {
      values = values;
      body_is_member_texts = ap (λ l. l ++ more) stand.body_is_member_texts ∙ sym (spelled_last es (member_span_key p, j));
      entries = map-append (entry_at values) ps (p ∷ [])
          ∙ ap (λ l. l ++ entry_at values p ∷ []) (entries_there stand.values j p.start ps before ∙ stand.entries)
          ∙ ap (λ v. es ++ (member_span_key p, v) ∷ []) (value_here stand.values j p.start);
      all = All-append (IsMemberSpanOf all values) ps (p ∷ []) old (All-cons (IsMemberSpanOf all values) p [] this (All-nil (IsMemberSpanOf all values)));
      rise = rise_last 0 ps p stand.rise (omega arith)
          (All-weaker (λ q. q.offset_in_object < length body) (λ q. q.offset_in_object < p.offset_in_object)
          (λ q h. omega (arith, h, offset_in_object, start, e1)) ps stand.below);
      below = All-append (λ q. q.offset_in_object < length all) ps (p ∷ [])
          (All-weaker (λ q. q.offset_in_object < length body) (λ q. q.offset_in_object < length all) (λ q h. omega (arith, h, e2)) ps stand.below)
          (All-cons (λ q. q.offset_in_object < length all) p [] (omega (arith, offset_in_object, start, e1, e2, e3, e4))
          (All-nil (λ q. q.offset_in_object < length all)));
    }
  where
    still_spans : All (λ q. q.start < p.start) ps → All (IsMemberSpanOf body stand.values) ps
        → All (IsMemberSpanOf (body ++ (comma_if (has_entries es) ++ member_text (member_span_key p, j)))
        (with_value stand.values j p.start)) ps
    still_spans before all = λ i d less.
        let h = all i d less in
        let more = comma_if (has_entries es) ++ member_text (member_span_key p, j) in
        let q = slice_index_or ps i d in (
          (h.0.0, omega (arith, h.0.1, length-append body more)),
          slice_grows body more q.start q.end h.0.0 h.0.1 ∙ h.1
              ∙ ap (λ v. member_text (member_span_key q, v)) (sym (value_there stand.values j p.start q.start (before i d less))),
        )

pub text_more : (first body old mid later : List ℕ) (b c : Bool) (k : List ℕ) (j : Json) → old ≡ first ++ body
    → mid ≡ old ++ (comma_if b ++ (quoted k ++ 58 ∷ [])) → c ≡ false → later ≡ mid ++ (comma_if c ++ print (json_tokens j))
    → later ≡ first ++ (body ++ (comma_if b ++ member_text (k, j)))
text_more first body old mid later b c k j stands keyed off valued =
    let s = print (json_tokens j) in
    let comma = comma_if b in
    valued ∙ ap (λ x. mid ++ (comma_if x ++ s)) off ∙ ap (λ l. l ++ s) keyed
    ∙ append_assoc old (comma ++ (quoted k ++ 58 ∷ [])) s
    ∙ ap (λ l. old ++ l) (append_assoc comma (quoted k ++ 58 ∷ []) s
    ∙ ap (λ l. comma ++ l) (append_assoc (quoted k) (58 ∷ []) s))
    ∙ ap (λ l. l ++ (comma ++ member_text (k, j))) stands
    ∙ append_assoc first body (comma ++ member_text (k, j))

-- ---- how far after the start

pub place_behind : (first body old comma : List ℕ) (start offset_in_object : ℕ) → start ≡ length first → old ≡ first ++ body
    → offset_in_object ≡ length (old ++ comma) - start → offset_in_object ≡ length (body ++ comma)
place_behind first body old comma start offset_in_object begun stands is =
    omega (arith, begun, is, ap length stands, length-append old comma, length-append first body, length-append body comma)

pub end_behind : (first body text : List ℕ) (start end : ℕ) → start ≡ length first → text ≡ first ++ body
    → end ≡ length text - start → end ≡ length body
end_behind first body text start end begun stands is =
    omega (arith, begun, is, ap length stands, length-append first body)

pub none_stand : (text : List ℕ) (ps : List MemberSpan) → text ≡ [] → ps ≡ [] → SpansMatch text ps []
none_stand text ps no_text no_spans =
    subst (λ t. SpansMatch t ps []) (sym no_text) (subst (λ l. SpansMatch [] l []) (sym no_spans) record {
      values = λ i. null;
      body_is_member_texts = refl;
      entries = refl;
      all = All-nil (IsMemberSpanOf [] (λ i. null));
      rise = tt;
      below = All-nil (λ q. q.offset_in_object < 0);
    })

pub one_stands : (es : List JsonMember) (e : JsonMember) → true ≡ has_entries (es ++ e ∷ [])
one_stands [] e = refl
one_stands (d ∷ es) e = refl

-- ---- an open object

-- the text after the first is that of the pieces
pub record Grown (first text : List ℕ) (needs_comma : Bool) (ps : List MemberSpan) (es : List JsonMember) : Type 0 where
  pub body : List ℕ
  pub text_is : text ≡ first ++ body
  pub stand : SpansMatch body ps es
  pub behind_is : needs_comma ≡ has_entries es

pub grown_more : (first : List ℕ) (w mid later : Normalizer) (start offset_in_object end : ℕ) (ps qs : List MemberSpan) (es : List JsonMember)
    (k : Bor (List ℕ)) (j : Json) → Grown first w.text.items w.needs_comma ps es → start ≡ length first
    → MemberOpened w start k.now offset_in_object mid → ValueAppended mid j later → end ≡ length later.text.items - start
    → qs ≡ ps ++ record { key = k; offset_in_object = offset_in_object; start = offset_in_object; end = end } ∷ []
    → Grown first later.text.items later.needs_comma qs (es ++ (k.now, j) ∷ [])
grown_more first w mid later start offset_in_object end ps qs es k j g begun (at, named) added ended held =
    let b = w.needs_comma in
    let own = member_text (k.now, j) in
    let text = text_more first g.body w.text.items mid.text.items later.text.items b mid.needs_comma k.now j g.text_is
    named.text named.needs_comma added.text in
    let here = place_behind first g.body w.text.items (comma_if b) start offset_in_object begun g.text_is at in
    let there = end_behind first (g.body ++ (comma_if b ++ own)) later.text.items start end begun text ended in
    let p : MemberSpan = record { key = k; offset_in_object = offset_in_object; start = offset_in_object; end = end } in
    let more = stand_more g.body ps es p j g.stand (here ∙ ap (λ x. length (g.body ++ comma_if x)) g.behind_is) refl
    (there ∙ ap (λ x. length (g.body ++ (comma_if x ++ own))) g.behind_is) in
    record {
      body = g.body ++ (comma_if (has_entries es) ++ own);
      text_is = text ∙ ap (λ x. first ++ (g.body ++ (comma_if x ++ own))) g.behind_is;
      stand = subst (λ ls. SpansMatch (g.body ++ (comma_if (has_entries es) ++ own)) ls (es ++ (k.now, j) ∷ [])) (sym held) more;
      behind_is = added.needs_comma ∙ one_stands es (k.now, j);
    }

pub grown_inside : (first text : List ℕ) (b : Bool) (ps : List MemberSpan) (es : List JsonMember) (start : ℕ)
    → Grown first text b ps es → start ≡ length first → start ≤ length text
grown_inside first text b ps es start g begun =
    omega (arith, begun, ap length g.text_is, length-append first g.body)

pub grown_within : (first text : List ℕ) (b : Bool) (ps : List MemberSpan) (es : List JsonMember) (start : ℕ)
    → Grown first text b ps es → start ≡ length first → All (IsMemberSpanWithin (drop start text)) ps
grown_within first text b ps es start g begun =
    let body : drop start text ≡ g.body =
    ap (drop start) g.text_is ∙ ap (λ n. drop n (first ++ g.body)) begun ∙ drop-append_seam first g.body in
    subst (λ t. All (IsMemberSpanWithin t) ps) (sym body)
    (All-weaker (IsMemberSpanOf g.body g.stand.values) (IsMemberSpanWithin g.body) (λ p h. h.0) ps g.stand.all)
