use Rattle.std.proofs.Common.{◌≡◌, ◌++◌, IfOk, append_assoc, codes, string_bytes, subst}
use Rattle.std.specs.Fmt.{decimal}
use Rattle.bson_program.proofs.messages.counts_summary.Goals as goal

pub returns : goal.returns
returns c =
    subst (λ kind_name. IfOk c.format.result (λ line. string_bytes line ≡ codes "bson: " ++ decimal c.args.counts.lines
    ++ codes " " ++ kind_name ++ codes ", " ++ decimal c.args.counts.refused ++ codes " refused"))
    c.input_kind_name-kind_name.ensures (simp append_assoc c.format.ensures.ok)
