use Rattle.std.proofs.Common.{subst, sym}
use Rattle.bson_convert.specs.Convert.{Converts}
use Rattle.bson_pairs.proofs.OnceMore.{once_more}
use Rattle.bson_pairs.proofs.second_conversion.convert_twice.Goals as goal

pub returns : goal.returns
returns c =
    let mode = c.args.mode in
    let first_output = c.in_ok-first_output.first_output.items in
    let second_output = c.in_ok-second_output.second_output.items in
    let at = c.deref.ensures.value in
    record {
      same = λ form. once_more mode first_output second_output form c.in_ok-first_output.ensures.again
          (subst (λ b. Converts mode b second_output) at c.in_ok-second_output.ensures.ok)
          (λ other x. c.in_ok-second_output.ensures.unique other (subst (λ b. Converts mode b other) (sym at) x));
    }
