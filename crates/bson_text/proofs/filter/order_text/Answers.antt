use Rattle.bson_scalar.specs.declared.form.Doubles.TheVariants.{Finite}
use Rattle.std.proofs.lemmas.Result.{err_from_is_err_and}
use Rattle.bson_text.proofs.TextDenials.{refused}
use Rattle.std.proofs.Common.{◌≡◌, [], ◌∙◌, sym, subst, arith, IsUtf8}
use Rattle.json.specs.Print.{print}
use Rattle.bson_text.proofs.Sending.{text_sent}
use Rattle.bson_text.proofs.filter.order_text.Goals as goal

pub returns : goal.returns
returns c =
    let D = c.args.doubles in
    let utf8 : IsUtf8 c.args.text.now = grind arith in
    let f = c.args.form in
    let old = c.in_ok-writer.writer in
    let new = c.in_ok-finished_writer.finished_writer in
    let done = c.in_ok-finished_writer.ensures.ok in
    let before : new.json_writer.before ≡ [] = done.2.2.2 ∙ c.in_ok-writer.ensures.empty.0 in
    let written : c.into_inner.result.items ≡ print new.json_writer.tokens = grind (arith, before) in
    record {
      ok = text_sent D f c.args.text.now c.into_inner.result.items old new utf8 done c.in_ok-writer.ensures.modes.0
          c.in_ok-writer.ensures.modes.1 c.in_ok-writer.ensures.empty.1 written;
      utf8 = subst IsUtf8 (sym written) c.into_inner.ensures.utf8;
      accepts = tt;
    }

pub returns-in_err-finished_writer-clause-accepts : goal.returns-in_err-finished_writer-clause-accepts
returns-in_err-finished_writer-clause-accepts c =
    let p = err_from_is_err_and c.from_residual-in_err-finished_writer.result c.from_residual-in_err-finished_writer.ensures.1 in
    rw (p.1, p.2) (refused c.args.doubles (c.args.doubles ≡ Finite) ⊥ c.args.text.now _ c.in_err-finished_writer.ensures.stops)
