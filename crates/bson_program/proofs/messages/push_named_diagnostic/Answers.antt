use Rattle.std.proofs.Common.{sym, ◌∙◌, ◌++◌, ap}
use Rattle.std.proofs.lemmas.List.{take_rest}
use Rattle.bson_program.proofs.Verdicts.{named_behind}
use Rattle.bson_program.proofs.messages.push_named_diagnostic.Goals as goal

pub returns-then-starts_with : goal.returns-then-starts_with
returns-then-starts_with c =
    named_behind c.extend_from_slice-then-starts_with.result c.args.named_diagnostics.now.items _ _ _ c.args.file_name.now c.args.diagnostic.now _
    (c.in_ok-extend_from_slice.ensures.items ∙ ap (λ n. c.args.named_diagnostics.now.items ++ n) c.as_bytes.ensures.value) c.in_ok-push.ensures.items
    c.extend_from_slice-then-starts_with.ensures.items (take_rest c.args.diagnostic.now 11) (sym c.starts_with.ensures.value ∙ c.if-starts_with.true)
