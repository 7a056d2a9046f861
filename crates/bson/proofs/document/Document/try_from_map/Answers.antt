use Rattle.serde_json.specs.View.{members_view}
use Rattle.bson.specs.View.{document_view}
use Rattle.bson_model.proofs.Offered.{document_read, document_read_ascends}
use Rattle.bson.proofs.document.Document.try_from_map.Goals as goal

pub returns-clause-ok : goal.returns-clause-ok
returns-clause-ok c =
    (document_read document_view
    (members_view c.args.map.entries) c.read_members.result c.read_members.ensures.read_result).ok

pub returns-clause-accepts : goal.returns-clause-accepts
returns-clause-accepts c =
    (document_read document_view
    (members_view c.args.map.entries) c.read_members.result c.read_members.ensures.read_result).accepts

pub returns-clause-fault : goal.returns-clause-fault
returns-clause-fault c =
    (document_read document_view
    (members_view c.args.map.entries) c.read_members.result c.read_members.ensures.read_result).fault

pub returns-clause-ascends : goal.returns-clause-ascends
returns-clause-ascends c = document_read_ascends document_view (members_view c.args.map.entries) c.read_members.result
    c.read_members.ensures.read_result c.keys_ascend.ensures
