use Rattle.std.proofs.Common.{◌≡◌, ◌+◌, [], ◌∷◌, take, drop, string_bytes, refl, sym, ap, ◌∙◌, subst, arith, of_calls}
use Rattle.std.proofs.lemmas.List.{drop_all, take_all, append-nil}
use Rattle.bson_store.proofs.Offered.{drop-at}
use Rattle.bson.specs.ChangedValues.{ChangesValue, ChangesEach}
use Rattle.bson.proofs.Places.{pair_from}
use Rattle.bson.proofs.Changed.{length-with, drop-next, drop-with, take-with}
use Rattle.bson.proofs.document.Document.change_values.Goals as goal

pub loop-pair_index-preserved : goal.loop-pair_index-preserved
loop-pair_index-preserved g c =
    let at = c.loop-pair_index.pair_index in
    let now = c.loop-pair_index.self.pairs in
    let old = c.args.self.now.pairs in
    let lent = c.pair_at_mut-value.result in
    let k = string_bytes lent.0.now in
    let v = lent.1.now in
    let w = c.change.new.arg3 in
    let here = pair_from now at k v c.pair_at_mut-value.ensures.key c.pair_at_mut-value.ensures.value in
    let lookahead = drop-next now old at c.loop-pair_index.invariant.lookahead in
    let there : drop at old ≡ (k, v) ∷ drop (at + 1) old
    = sym c.loop-pair_index.invariant.lookahead ∙ drop-at now at (k, v) here ∙ ap (λ l. (k, v) ∷ l) lookahead in
    let call : ChangesValue g.F.FnMut c.loop-pair_index.change k v c.change.new.self w
    = record {
      key_reference = lent.0;
      value_reference = lent.1;
      final_reference = _;
      key_matches = refl;
      value_matches = refl;
      closure_called = c.change.ensures;
      leaves_value = refl;
    } in
    record {
      callable = let can = c.loop-pair_index.invariant.callable in search of_calls;
      same_length = length-with now at w ∙ c.loop-pair_index.invariant.same_length;
      lookahead = drop-with now at w ∙ lookahead;
      done =
          λ last rest h.
          subst (λ xs. ChangesEach g.F.FnMut c.args.change old last xs) (sym (take-with now rest at k v w here))
          (c.loop-pair_index.invariant.done last ((k, w) ∷ rest)
          (subst (λ xs. ChangesEach g.F.FnMut c.loop-pair_index.change xs last ((k, w) ∷ rest)) (sym there)
          (w, c.change.new.self, rest, call, h, refl)));
    }

pub returns : goal.returns
returns g c =
    let at = c.loop-pair_index.pair_index in
    let now = c.loop-pair_index.self.pairs in
    let old = c.args.self.now.pairs in
    let same = c.loop-pair_index.invariant.same_length in
    let counted = c.len-pair_index-end.ensures.len in
    let over = c.loop-pair_index-test.false in
    let last = c.loop-pair_index.change in (
      last,
      subst (λ xs. ChangesEach g.F.FnMut c.args.change old last xs)
          (append-nil (take at now) ∙ take_all at now (omega arith))
          (c.loop-pair_index.invariant.done last []
          (subst (λ xs. ChangesEach g.F.FnMut last xs last []) (sym (drop_all at old (omega arith))) (refl, refl))),
    )
