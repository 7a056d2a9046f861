use Rattle.std.proofs.Common.{◌≡◌, ◌==◌, arith, length, not, rules, tests}
use Rattle.std.specs.Prelude.{reverse, take_while}
use Rattle.std.proofs.lemmas.Iterator.Adapters.{YieldsList-from_rev_slice}
use Rattle.std.proofs.lemmas.Iterator.Consumers.{count_from_yields_List}
use Rattle.std.proofs.lemmas.Iterator.Search.{YieldsList-from_take_while}
use Rattle.bson_run.specs.ErrorMessages.{bytes_before}
use Rattle.bson_run.proofs.position.column_at.Goals as goal

pub returns : goal.returns
returns c =
    let line = bytes_before c.args.offset c.args.bytes.now in
    let count : c.count.result ≡ length (take_while (λ x. not (x == 10)) (reverse line)) =
    count_from_yields_List _ c.count.result c.count.ensures.ran (YieldsList-from_take_while _ (λ x. not (x == 10))
    (YieldsList-from_rev_slice line cc) c.take_while.ensures.closure c.take_while.ensures.done
    (λ x b q k. search (rules, tests))) in
    omega (arith, count)
