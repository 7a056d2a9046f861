use Rattle.std.proofs.Common.{get_or, sym, ap, ◌∙◌}
use Rattle.bson_text.proofs.Placing.{no_key, span_there}
use Rattle.bson_text.proofs.member_spans.span_at.Goals as goal

pub returns : goal.returns
returns c =
    let ks = c.args.keys.now in
    let member_starts = c.args.member_starts.now in
    let position = c.args.position in
    ap (λ n. record { key = get_or ks position no_key; start = get_or member_starts position 0; end = n }) c.member_end.ensures
    ∙ sym (span_there ks member_starts c.args.output_end position c.requires.paired c.requires.within)
