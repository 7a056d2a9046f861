use Rattle.std.proofs.Common.{ap}
use Rattle.std.specs.Result.{is_ok}
use Rattle.bson_bytes.specs.RawIterators.{pairs_list}
use Rattle.bson_bytes.proofs.Finding.{elements_there}
use Rattle.bson_bytes.proofs.Iterating.{goes, goes_list, fewer}
use Rattle.bson_bytes.proofs.raw_iter.RawIterIterator.next.Goals as goal

pub returns-in_default-clause-steps : goal.returns-in_default-clause-steps
returns-in_default-clause-steps c =
    let none = ap pairs_list (c.in_default.ensures.is_first_element _ _ (elements_there c.args.self.now.depth c.args.self.now.bytes.now
    c.args.self.now.is_read)) in
    (none, none)

pub read_valid_value-value-requires : goal.read_valid_value-value-requires
read_valid_value-value-requires c =
    ap is_ok (goes c.args.self.now.depth c.args.self.now.bytes.now c.args.self.now.is_read c.in-Some.element c.in-Some.ensures.is_first_element).read

pub valid_key-key-requires : goal.valid_key-key-requires
valid_key-key-requires c =
    (goes c.args.self.now.depth c.args.self.now.bytes.now c.args.self.now.is_read c.in-Some.element c.in-Some.ensures.is_first_element).utf8

pub invariant_of-self : goal.invariant_of-self
invariant_of-self c = record {
  is_read = (goes c.args.self.now.depth c.args.self.now.bytes.now c.args.self.now.is_read c.in-Some.element c.in-Some.ensures.is_first_element).others;
}

pub returns-clause-steps : goal.returns-clause-steps
returns-clause-steps c =
    goes_list c.args.self.now.depth c.args.self.now.bytes.now c.in-Some.element
    (goes c.args.self.now.depth c.args.self.now.bytes.now c.args.self.now.is_read c.in-Some.element c.in-Some.ensures.is_first_element) _ _
    c.valid_key-key.ensures c.read_valid_value-value.ensures

pub returns-clause-goes : goal.returns-clause-goes
returns-clause-goes c =
    let steps = goes_list c.args.self.now.depth c.args.self.now.bytes.now c.in-Some.element
    (goes c.args.self.now.depth c.args.self.now.bytes.now c.args.self.now.is_read c.in-Some.element c.in-Some.ensures.is_first_element)
    c.valid_key-key.result.now _ c.valid_key-key.ensures c.read_valid_value-value.ensures in
    record {
      on = λ f. (tt, tt, fewer _ _ _ steps);
      keeps = tt;
      rests = λ f. tt;
    }
