use Rattle.bson_bytes.proofs.Iterating.{items_more, items_none, fewer}
use Rattle.bson_bytes.proofs.raw_iter.RawArrayIterIterator.next.Goals as goal

pub returns-in-Some-clause-steps : goal.returns-in-Some-clause-steps
returns-in-Some-clause-steps c = items_more _ _ _ _ c.in-Some.ensures.steps

pub returns-in-Some-clause-goes : goal.returns-in-Some-clause-goes
returns-in-Some-clause-goes c = record {
  on = λ f. (tt, tt, fewer _ _ _ (items_more _ _ _ _ c.in-Some.ensures.steps));
  keeps = tt;
  rests = λ f. tt;
}

pub returns-in-None-clause-steps : goal.returns-in-None-clause-steps
returns-in-None-clause-steps c = (items_none _ c.in-None.ensures.steps.0, items_none _ c.in-None.ensures.steps.1)
