use Rattle.bson_tokens.proofs.Offered.{if_ok}
use Rattle.bson_convert.proofs.EitherOrder.{converts_one_by, kept_ok_by, text_converts_by}
use Rattle.bson_convert.proofs.convert.convert_line.Goals as goal

pub returns-clause-ok : goal.returns-clause-ok
returns-clause-ok c =
    let o = c.args.options in
    let text = c.in_ok-text.text.items in
    if_ok c.end_line.result c.end_line.ensures.ok
    (λ output line. text_converts_by o.key_order o c.args.mode c.args.bytes.now text output.items c.in_ok-text.ensures.ok line)

pub returns-clause-again : goal.returns-clause-again
returns-clause-again c =
    let o = c.args.options in
    kept_ok_by o.key_order o c.args.mode c.args.bytes.now c.in_ok-text.text.items c.end_line.result c.in_ok-text.ensures.ok
    c.in_ok-text.ensures.utf8 c.end_line.ensures.ok c.end_line.ensures.utf8

pub returns-clause-unique : goal.returns-clause-unique
returns-clause-unique c =
    let o = c.args.options in
    let mode = c.args.mode in
    let bytes = c.args.bytes.now in
    let text = c.in_ok-text.text.items in
    if_ok c.end_line.result c.end_line.ensures.ok (λ output line other x.
    converts_one_by o.key_order o mode bytes output.items other
    (text_converts_by o.key_order o mode bytes text output.items c.in_ok-text.ensures.ok line) x)
