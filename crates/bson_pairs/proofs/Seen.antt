-- A document as a value is seen as the pairs of the document.
use Rattle.std.proofs.Common.{◌≡◌, rules}
use Rattle.bson.specs.Value.{document}
use Rattle.bson.specs.View.{bson_view, document_view}
use Rattle.bson.specs.declared.bson.Bson.{the_lemmas}
use Rattle.bson.specs.declared.bson.Bson.TheVariants.{Document as held}
use Rattle.bson.specs.declared.document.Document.{Document}

pub document_seen : (d : Document) → bson_view (held d) ≡ document (document_view d)
document_seen d = search (rules, the_lemmas)
