use Rattle.std.specs.Prelude.{IsUtf8, ⊤}
use Rattle.std.proofs.lemmas.Result.{err_from_is_err_and}
use Rattle.bson_text.proofs.TextDenials.{refused}
use Rattle.std.proofs.Common.{arith}
use Rattle.std.proofs.lemmas.Str.{IsUtf8-from_is_utf8}
use Rattle.bson_text.proofs.ShownTexts.{text_shown}
use Rattle.bson_text.proofs.filter.show_text.Goals as goal

pub returns : goal.returns
returns c =
    let utf8 : IsUtf8 c.args.text.now = grind arith in
    record {
      ok = text_shown c.args.options.doubles c.args.options.key_order c.args.text.now c.in_ok-writer.writer
          c.in_ok-finished_writer.finished_writer utf8 c.in_ok-finished_writer.ensures.ok c.in_ok-writer.ensures.order
          c.in_ok-writer.ensures.empty.1 c.in_ok-writer.ensures.empty.0;
      utf8 = IsUtf8-from_is_utf8 c.in_ok-finished_writer.finished_writer.text.items c.in_ok-finished_writer.finished_writer.utf8;
      accepts = tt;
    }

pub returns-in_err-finished_writer-clause-accepts : goal.returns-in_err-finished_writer-clause-accepts
returns-in_err-finished_writer-clause-accepts c =
    let p = err_from_is_err_and c.from_residual-in_err-finished_writer.result c.from_residual-in_err-finished_writer.ensures.1 in
    rw (p.1, p.2) (refused c.args.options.doubles ⊥ ⊤ c.args.text.now _ c.in_err-finished_writer.ensures.stops)
