use Rattle.std.proofs.Common.{◌≡◌, suc, ◌<◌, ◌∷◌, ◌++◌, [], drop, length, option_map, sym, ap, ◌∙◌, subst, arith}
use Rattle.std.proofs.Common.{add-one}
use Rattle.std.specs.Prelude.{is_some}
use Rattle.std.proofs.lemmas.List.{drop_all}
use Rattle.serde_json.specs.Written.{comma_if}
use Rattle.bson_text.specs.MemberSpans.{span_key, span_text, members_text, last_of_each_key, spans_from, spans_at, span_at_or_empty, SpanKeysAscend}
use Rattle.bson_text.proofs.SpansInOrder.{kept_one, passed_one, next_joined, next_ascends}
use Rattle.bson_text.proofs.Placing.{next_there, next_picked, place_below}
use Rattle.bson_text.proofs.member_spans.join_spans.Goals as goal

pub span_at-start-requires-clause-within : goal.span_at-start-requires-clause-within
span_at-start-requires-clause-within c =
    place_below c.args.keys.now c.args.indexes.now.items c.loop-position.position c.index.result.now (grind arith) c.index.ensures
    c.requires.indexes

pub loop-position-preserved : goal.loop-position-preserved
loop-position-preserved c =
    let ks = c.args.keys.now in
    let member_starts = c.args.member_starts.now in
    let buffer = c.args.buffer.now.items in
    let indexes = c.args.indexes.now.items in
    let ps = spans_from ks member_starts (length buffer) in
    let position = c.loop-position.position in
    let p = c.span_at-start.result in
    let rest = spans_at ps (drop (suc position) indexes) in
    let last_key = option_map (λ s. s.now) c.loop-position.last_key in
    let needs_comma = is_some c.loop-position.last_key in
    let within : position < length indexes = grind arith in
    let long : c.len-in-loop-position.result ≡ length buffer = grind arith in
    let span = c.span_at-start.ensures ∙ ap (λ l. span_at_or_empty (spans_from ks member_starts l) c.index.result.now) long in
    let left : spans_at ps (drop position indexes) ≡ p ∷ rest =
    next_picked ps indexes position c.index.result.now p within c.index.ensures span in
    let again = sym (next_there ks member_starts (length buffer) (span_key p) (drop (suc position) indexes) c.requires.paired)
    ∙ sym c.next_index_has_key.ensures ∙ c.if-next_index_has_key.false in
    let kept = kept_one p rest (spans_at ps (drop position indexes)) left again in
    let old = c.loop-position.joined_bytes.items in
    let mid = c.put_comma.new.text.items in
    let new = c.extend_from_slice.new.self.items in
    let comma = c.in_ok-put_comma.ensures.text ∙ ap (λ b. old ++ comma_if b) c.is_some.ensures in
    let text : new ≡ mid ++ span_text buffer p = grind arith in
    rw (add-one position)
    record {
      text = next_joined buffer needs_comma p (last_of_each_key rest) (last_of_each_key (spans_at ps (drop position indexes))) old mid new kept comma text
          ∙ c.loop-position.invariant.text;
      ascend = λ up. c.loop-position.invariant.ascend
          (next_ascends last_key p (last_of_each_key rest) (last_of_each_key (spans_at ps (drop position indexes))) kept
          (c.key_follows.ensures.0 c.if-not-key_follows.false) up);
    }

-- one that occurs again is passed over
pub loop-position-preserved-then-next_index_has_key : goal.loop-position-preserved-then-next_index_has_key
loop-position-preserved-then-next_index_has_key c =
    let ks = c.args.keys.now in
    let member_starts = c.args.member_starts.now in
    let buffer = c.args.buffer.now.items in
    let indexes = c.args.indexes.now.items in
    let ps = spans_from ks member_starts (length buffer) in
    let position = c.loop-position.position in
    let p = c.span_at-start.result in
    let rest = spans_at ps (drop (suc position) indexes) in
    let last_key = option_map (λ s. s.now) c.loop-position.last_key in
    let within : position < length indexes = grind arith in
    let long : c.len-in-loop-position.result ≡ length buffer = grind arith in
    let span = c.span_at-start.ensures ∙ ap (λ l. span_at_or_empty (spans_from ks member_starts l) c.index.result.now) long in
    let left : spans_at ps (drop position indexes) ≡ p ∷ rest =
    next_picked ps indexes position c.index.result.now p within c.index.ensures span in
    let again = sym (next_there ks member_starts (length buffer) (span_key p) (drop (suc position) indexes) c.requires.paired)
    ∙ sym c.next_index_has_key.ensures ∙ c.if-next_index_has_key.true in
    let same = passed_one p rest (spans_at ps (drop position indexes)) left again in
    rw (add-one position)
    record {
      text = ap (λ l. c.loop-position.joined_bytes.items ++ members_text buffer (is_some c.loop-position.last_key) l) (sym same)
          ∙ c.loop-position.invariant.text;
      ascend = λ up. c.loop-position.invariant.ascend (subst (SpanKeysAscend last_key) (sym same) up);
    }

pub returns : goal.returns
returns c =
    let buffer = c.args.buffer.now.items in
    let indexes = c.args.indexes.now.items in
    let ps = spans_from c.args.keys.now c.args.member_starts.now (length buffer) in
    let position = c.loop-position.position in
    let none : drop position indexes ≡ [] = drop_all position indexes (grind arith) in
    let last_key = option_map (λ s. s.now) c.loop-position.last_key in (
      c.loop-position.invariant.ascend (subst (λ l. SpanKeysAscend last_key (last_of_each_key (spans_at ps l))) (sym none) tt),
      c.in_ok-push-2.ensures.items
          ∙ ap (λ left. c.loop-position.joined_bytes.items ++ members_text buffer (is_some c.loop-position.last_key) (last_of_each_key (spans_at ps left))) (sym none)
          ∙ c.loop-position.invariant.text,
    )
