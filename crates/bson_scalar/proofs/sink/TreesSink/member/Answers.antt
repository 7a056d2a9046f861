use Rattle.std.proofs.Common.{ap, ◌∙◌}
use Rattle.serde_json.specs.Data.{put}
use Rattle.serde_json.specs.View.{members_view}
use Rattle.serde_json.proofs.Views.{members_view-insert_entry}
use Rattle.bson_scalar.proofs.sink.TreesSink.member.Goals as goal

pub returns-clause-written : goal.returns-clause-written
returns-clause-written c = λ start mid ms k d begun wrote_tree last.
    ap members_view c.in_ok-insert.ensures.entries
    ∙ members_view-insert_entry c.args.key.0.entries c.args.key.1 c.args.tree
    ∙ (λ i. put (begun.1 i) (wrote_tree i) (begun.0 i)) ∙ last
