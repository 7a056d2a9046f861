use Rattle.std.proofs.Common.{[], ◌∙◌, sym}
use Rattle.bson.proofs.Entered.{as_pairs}
use Rattle.bson.proofs.document.Document.from_entries.Goals as goal

pub returns : goal.returns
returns c = c.in_ok-pairs.ensures ∙ sym (as_pairs c.args.entries.items [])
