use Rattle.std.proofs.Common.{◌≡◌, suc, ◌+◌, ◌<◌, ◌∷◌, ◌++◌, [], drop, length, nat_lt, refl, sym, ap, ◌∙◌, arith}
use Rattle.std.proofs.Math.Seq.{drop-cons}
use Rattle.std.proofs.lemmas.List.{drop-set-lt, length-set}
use Rattle.serde_json.specs.Written.{comma_if}
use Rattle.bson_tokens.specs.NormalizerStates.{member_span_text}
use Rattle.bson_tokens.specs.declared.member_order.MemberSpan.{MemberSpan}
use Rattle.bson_tokens.proofs.Joining.{all_taken, next_left, span_joined, within_left}
use Rattle.bson_tokens.proofs.Standing.{none_stand}
use Rattle.bson_tokens.proofs.member_order.join_spans.Goals as goal

pub spans-init : goal.spans-init
spans-init c = record {
  within = omega arith;
  long = refl;
  left = refl;
  stand = λ values all. none_stand c.in_ok-text.text.items [] c.in_ok-text.ensures.items refl;
}

pub slice_bounds-extend_from_slice-count : goal.slice_bounds-extend_from_slice-count
slice_bounds-extend_from_slice-count c =
    let w = within_left c.args.body.now c.args.spans.now.items c.spans.spans.items c.spans.span_index c.index.result.now
    c.requires (grind arith) c.spans.invariant.left (drop-cons c.spans.spans.items c.spans.span_index c.index.result.now
    (grind arith) ∙ ap (λ q. q ∷ drop (suc c.spans.span_index) c.spans.spans.items) (sym c.index.ensures)) in
    omega (arith, w)

pub slice_bounds-extend_from_slice-start : goal.slice_bounds-extend_from_slice-start
slice_bounds-extend_from_slice-start c =
    let w = within_left c.args.body.now c.args.spans.now.items c.spans.spans.items c.spans.span_index c.index.result.now
    c.requires (grind arith) c.spans.invariant.left (drop-cons c.spans.spans.items c.spans.span_index c.index.result.now
    (grind arith) ∙ ap (λ q. q ∷ drop (suc c.spans.span_index) c.spans.spans.items) (sym c.index.ensures)) in
    grind (arith, w)

pub slice_bounds-extend_from_slice-end : goal.slice_bounds-extend_from_slice-end
slice_bounds-extend_from_slice-end c =
    let w = within_left c.args.body.now c.args.spans.now.items c.spans.spans.items c.spans.span_index c.index.result.now
    c.requires (grind arith) c.spans.invariant.left (drop-cons c.spans.spans.items c.spans.span_index c.index.result.now
    (grind arith) ∙ ap (λ q. q ∷ drop (suc c.spans.span_index) c.spans.spans.items) (sym c.index.ensures)) in
    grind (arith, w)

pub spans-preserved : goal.spans-preserved
spans-preserved c =
    let all = c.args.spans.now.items in
    let now = c.spans.spans.items in
    let span_index = c.spans.span_index in
    let p = c.index.result.now in
    let old = c.spans.text.items in
    let mid = c.put_comma.new.text.items in
    let later = c.extend_from_slice.new.self.items in
    let less : span_index < length all = grind arith in
    let q : MemberSpan = record { key = p.key; offset_in_object = c.len-offset_in_object.result; start = c.len-offset_in_object.result; end = c.len.result } in
    let first = next_left all now span_index p less c.spans.invariant.left
    (drop-cons now span_index p (omega (arith, less, c.spans.invariant.long)) ∙ ap (λ r. r ∷ drop (suc span_index) now) (sym c.index.ensures)) in
    let comma : mid ≡ old ++ comma_if (nat_lt 0 span_index) = grind arith in
    let text : later ≡ mid ++ member_span_text c.args.body.now p = grind arith in
    let offset_in_object : c.len-offset_in_object.result ≡ length mid = grind arith in
    let end : c.len.result ≡ length later = grind arith in
    record {
      within = omega (arith, less);
      long = length-set now span_index q ∙ c.spans.invariant.long;
      left = drop-set-lt (span_index + 1) now span_index q (omega arith) ∙ first.1;
      stand = λ values spans. span_joined c.args.body.now all now span_index p q values old mid later less first.0 spans
          (c.spans.invariant.stand values spans) comma text refl refl offset_in_object end c.spans.invariant.long;
    }

pub returns : goal.returns
returns c = λ values spans.
    all_taken c.args.spans.now.items c.spans.spans.items c.spans.span_index values c.spans.text.items (grind arith)
    c.spans.invariant.long (c.spans.invariant.stand values spans)
