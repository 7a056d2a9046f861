use Rattle.std.specs.Prelude.{IsUtf8, ⊤}
use Rattle.bson_scalar.specs.declared.form.Doubles.TheVariants.{Finite}
use Rattle.std.proofs.lemmas.Result.{err_from_is_err_and}
use Rattle.bson_text.proofs.TextDenials.{refused}
use Rattle.std.proofs.Common.{◌≡◌, arith}
use Rattle.std.proofs.lemmas.Str.{IsUtf8-from_is_utf8}
use Rattle.bson_text.proofs.Sorting.{text_sorted}
use Rattle.bson_text.proofs.filter.sort_text.Goals as goal

pub returns : goal.returns
returns c =
    let D = c.args.doubles in
    let utf8 : IsUtf8 c.args.text.now = grind arith in
    let f = c.args.form in
    record {
      ok = text_sorted D f c.args.text.now c.in_ok-writer.writer c.in_ok-finished_writer.finished_writer utf8
          c.in_ok-finished_writer.ensures.ok c.in_ok-writer.ensures.modes.0 c.in_ok-writer.ensures.modes.1
          c.in_ok-writer.ensures.empty.1 c.in_ok-writer.ensures.empty.0;
      utf8 = IsUtf8-from_is_utf8 c.in_ok-finished_writer.finished_writer.text.items c.in_ok-finished_writer.finished_writer.utf8;
      accepts = tt;
    }

pub returns-in_err-finished_writer-clause-accepts : goal.returns-in_err-finished_writer-clause-accepts
returns-in_err-finished_writer-clause-accepts c =
    let p = err_from_is_err_and c.from_residual-in_err-finished_writer.result c.from_residual-in_err-finished_writer.ensures.1 in
    rw (p.1, p.2) (refused c.args.doubles (c.args.doubles ≡ Finite) ⊤ c.args.text.now _ c.in_err-finished_writer.ensures.stops)
