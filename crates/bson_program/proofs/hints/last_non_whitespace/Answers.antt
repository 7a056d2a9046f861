use Rattle.std.proofs.Common.{rules, tests, not, ◌∙◌}
use Rattle.std.proofs.lemmas.Iterator.Adapters.{YieldsList-from_rev_slice}
use Rattle.std.proofs.lemmas.Iterator.Search.{find_from_yields_List}
use Rattle.bson_program.specs.Hints.{is_whitespace}
use Rattle.bson_program.proofs.hints.last_non_whitespace.Goals as goal

pub returns : goal.returns
returns c =
    c.copied.ensures ∙ find_from_yields_List (λ b. not (is_whitespace b)) _ _ c.find.result c.find.ensures.ran
    (YieldsList-from_rev_slice c.args.bytes.now cc) (λ x b q k. search (rules, tests))
