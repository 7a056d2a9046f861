use Rattle.std.proofs.Common.{string_bytes, subst}
use Rattle.bson_convert.proofs.Offered.{text_converts_by}
use Rattle.bson_convert.specs.Attempts.{IsAttemptResult, IsUtf8Attempt}
use Rattle.bson_convert.specs.InOrder.{ConvertsBy}
use Rattle.bson_run.proofs.AcceptedTexts.{at_once, outputs_alike}
use Rattle.bson_run.proofs.accepted.Accepted.of.Goals as goal

pub returns-in_ok-end_line-in-Written-clause-ok : goal.returns-in_ok-end_line-in-Written-clause-ok
returns-in_ok-end_line-in-Written-clause-ok c =
    let o = c.args.options in
    let mode = c.args.mode in
    let bytes = c.args.bytes.now in
    let output = c.in_ok-end_line-in-Written.field-0 in
    let written = subst (IsAttemptResult o mode bytes) c.in-Written.is c.in_ok-text.ensures.ok in
    at_once o (ConvertsBy o.key_order o mode bytes) output
    (text_converts_by o.key_order o mode bytes c.in-Written.text.items output.items written
    c.in_ok-end_line-in-Written.ensures.ok)

pub returns-in_ok-end_line-in-Written-clause-utf8 : goal.returns-in_ok-end_line-in-Written-clause-utf8
returns-in_ok-end_line-in-Written-clause-utf8 c =
    c.in_ok-end_line-in-Written.ensures.utf8 (subst IsUtf8Attempt c.in-Written.is c.in_ok-text.ensures.utf8)

pub returns-in-Normalized-clause-ok : goal.returns-in-Normalized-clause-ok
returns-in-Normalized-clause-ok c =
    let o = c.args.options in
    let mode = c.args.mode in
    let bytes = c.args.bytes.now in
    let normalized = string_bytes c.in-Normalized.text in
    let tried = subst (IsAttemptResult o mode bytes) c.in-Normalized.is c.in_ok-text.ensures.ok in
    record {
      is_accepted = tried.2;
      each_output = λ output is. outputs_alike o.key_order o mode bytes normalized output tried.0 tried.1 is;
    }
