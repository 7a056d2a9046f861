use Rattle.std.proofs.Common.{◌+◌, length, sym, arith}
use Rattle.bson_bytes.proofs.Finding.{first_is_element}
use Rattle.bson_bytes.proofs.Passing.{emptied, sliced}
use Rattle.bson_bytes.proofs.raw_element.first_element.Goals as goal

pub returns-in_default-clause-is_first_element : goal.returns-in_default-clause-is_first_element
returns-in_default-clause-is_first_element c = λ d ps h. emptied d c.args.bytes.now 0 ps h (omega (arith, c.in_default.len_below))

pub returns-clause-is_first_element : goal.returns-clause-is_first_element
returns-clause-is_first_element c =
    λ d ps h. first_is_element d c.args.bytes.now ps c.type_of-kind.result c.in-Some.key _ _ _ h
    c.type_of-kind.ensures (c.in-Some.ensures.outcome d ps h)
    (sliced c.args.bytes.now (length c.in-Some.key.now + 2) (omega (arith, c.in-Some.ensures.in_bounds)))
    (sym (sliced c.args.bytes.now c.in-Some.value_end (omega (arith, c.in-Some.ensures.in_bounds))))
