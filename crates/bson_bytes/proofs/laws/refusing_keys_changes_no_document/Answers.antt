use Rattle.bson_bytes.proofs.Forgets.{read_in_order}
use Rattle.bson_bytes.proofs.laws.refusing_keys_changes_no_document.Goals as goal

pub returns : goal.returns
returns c = read_in_order
