use Rattle.std.proofs.Common.{Ok, subst}
use Rattle.bson_scalar.specs.Doubles.{double_tree}
use Rattle.bson_scalar.specs.Tokens.{IsSinkResult}
use Rattle.bson_scalar.specs.Written.{or_finite_double_fault, ◌>>=◌}
use Rattle.bson_scalar.proofs.doubles.write_special_double.Goals as goal

pub returns-in_ok-write_text_object-in-Some-clause-written : goal.returns-in_ok-write_text_object-in-Some-clause-written
returns-in_ok-write_text_object-in-Some-clause-written g c =
    subst (λ o. IsSinkResult (λ d t. g.S.Sink.wrote_tree c.args.sink.now d t c.write_text_object.new.sink)
    (Ok c.in_ok-write_text_object-in-Some.field-0) (or_finite_double_fault o >>= λ s. Ok (double_tree s))) c.in-Some.ensures
    c.in_ok-write_text_object-in-Some.ensures.written
