use Rattle.std.proofs.Common.{◌≡◌, suc, ◌∷◌, [], drop, map, option_map, sym, ap, ◌∙◌, subst, arith, add-one}
use Rattle.std.proofs.Math.Seq.{drop-cons}
use Rattle.std.proofs.lemmas.List.{drop_all}
use Rattle.bson_tokens.specs.NormalizerStates.{member_span_key}
use Rattle.bson_tokens.specs.PutMembers.{KeysAscendFrom}
use Rattle.bson_tokens.proofs.member_order.span_keys_ascend.Goals as goal

pub loop-span_index-preserved : goal.loop-span_index-preserved
loop-span_index-preserved c =
    let ps = c.args.spans.now.items in
    let span_index = c.loop-span_index.span_index in
    let p = c.index.result.now in
    let rest = drop (suc span_index) ps in
    let last_key = option_map (λ s. s.now) c.loop-span_index.last_key in
    let left : drop span_index ps ≡ p ∷ rest = drop-cons ps span_index p (grind arith) ∙ ap (λ q. q ∷ rest) (sym c.index.ensures) in
    rw (add-one span_index)
    (λ up. c.loop-span_index.invariant
    (subst (λ l. KeysAscendFrom last_key (map member_span_key l)) (sym left) (c.key_follows.ensures c.if-not-key_follows.false, up)))

pub returns : goal.returns
returns c = λ is.
    let ps = c.args.spans.now.items in
    let last_key = option_map (λ s. s.now) c.loop-span_index.last_key in
    let none : drop c.loop-span_index.span_index ps ≡ [] = drop_all c.loop-span_index.span_index ps (grind arith) in
    c.loop-span_index.invariant (subst (λ l. KeysAscendFrom last_key (map member_span_key l)) (sym none) tt)
