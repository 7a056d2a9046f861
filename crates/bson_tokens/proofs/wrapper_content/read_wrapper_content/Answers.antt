use Rattle.std.proofs.Common.{subst, sym}
use Rattle.bson_tokens.specs.WrapperContent.{WrappersReadAlike}
use Rattle.bson_tokens.proofs.Pruned.{pruned_stands}
use Rattle.bson_tokens.proofs.HeldRounds.{if_ok}
use Rattle.bson_tokens.proofs.wrapper_content.read_wrapper_content.Goals as goal

pub returns-clause-ok : goal.returns-clause-ok
returns-clause-ok c =
    if_ok c.pruned_value.result c.pruned_value.ensures.ok (λ content_tree m.
    (m.0, m.1, subst (WrappersReadAlike m.0) (sym m.2) (pruned_stands m.0)))
