use Rattle.std.proofs.Common.{string_bytes, subst}
use Rattle.std.specs.Prelude.{IfOk}
use Rattle.bson_convert.specs.Convert.{IsConvertedText}
use Rattle.bson_run.specs.Indent.{IsIndentedOutput}
use Rattle.bson_run.proofs.LinesLaws.{oks_with}
use Rattle.bson_run.proofs.TwiceIndented.{indented, indented_kept}
use Rattle.bson_run.proofs.indented.convert_indented.Goals as goal

pub returns-clause-ok : goal.returns-clause-ok
returns-clause-ok c =
    let o = c.args.options in
    let bytes = c.args.bytes.now in
    let text = string_bytes c.in_ok-text.text in
    let is = subst (λ mode. IsConvertedText o.key_order o mode bytes text) c.mode_of.ensures c.in_ok-text.ensures.ok in
    oks_with c.indented_output.result c.indented_output.ensures.ok (λ output indented_text.
    indented o.key_order o c.args.form c.args.spaces bytes text is output.items
    (subst (λ s. IsIndentedOutput c.args.spaces s output.items) c.deref.ensures indented_text))

pub returns-clause-again : goal.returns-clause-again
returns-clause-again c =
    let o = c.args.options in
    let bytes = c.args.bytes.now in
    let text = string_bytes c.in_ok-text.text in
    let is = subst (λ mode. IsConvertedText o.key_order o mode bytes text) c.mode_of.ensures c.in_ok-text.ensures.ok in
    indented_kept o.key_order o c.args.form c.args.spaces bytes text is c.indented_output.result
    (subst (λ s. IfOk c.indented_output.result (λ output. IsIndentedOutput c.args.spaces s output.items)) c.deref.ensures c.indented_output.ensures.ok)
    c.indented_output.ensures.utf8
