use Rattle.std.proofs.Common.{[], sym, ◌∙◌}
use Rattle.std.proofs.lemmas.Result.{err_from_is_err_and}
use Rattle.bson.specs.View.{contents}
use Rattle.bson_codec.proofs.Distinct.{key_bad, key_twice, key_once}
use Rattle.bson_bytes.specs.Source.{reversed_keys}
use Rattle.bson_codec.proofs.pair_list.DistinctPairsPairList.read_key.Goals as goal

pub returns-in_err-name-clause-outcome : goal.returns-in_err-name-clause-outcome
returns-in_err-name-clause-outcome c = λ ps h.
    let p = err_from_is_err_and c.from_residual.result c.from_residual.ensures.1 in
    rw (p.1, p.2) (key_bad (reversed_keys ps []) c.args.bytes.now _ c.in_err-name.ensures.outcome)

pub returns-then-contains_key-clause-outcome : goal.returns-then-contains_key-clause-outcome
returns-then-contains_key-clause-outcome c = λ ps h.
    rw c.fault_at.ensures (key_twice (reversed_keys ps []) (contents c.args.self.now.inserted) c.args.bytes.now c.in_ok-name.name.now
    c.in_ok-name.rest.now h.1 c.in_ok-name.ensures.outcome (sym c.contains_key.ensures ∙ c.if-contains_key.true))

pub returns-clause-outcome : goal.returns-clause-outcome
returns-clause-outcome c = λ ps h.
    key_once (reversed_keys ps []) (contents c.args.self.now.inserted) c.args.bytes.now c.in_ok-name.name.now c.in_ok-name.rest.now
    h.1 c.in_ok-name.ensures.outcome (sym c.contains_key.ensures ∙ c.if-contains_key.false)
