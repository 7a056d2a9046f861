-- A document is seen as its pairs, and code with its scope as that.
use Rattle.std.proofs.Common.{◌≡◌, rules}
use Rattle.bson.specs.View.{bson_view, code_with_scope_view, document_view, pairs_view, contents}
use Rattle.bson.specs.declared.bson.Bson.{the_lemmas as of_values}
use Rattle.bson.specs.declared.bson.Bson.TheVariants.{JavaScriptCodeWithScope as scoped}
use Rattle.bson.specs.declared.bson.JavaScriptCodeWithScope.{JavaScriptCodeWithScope}
use Rattle.bson.specs.declared.document.Document.{Document, the_lemmas}

pub document_view-pairs : (d : Document) → document_view d ≡ pairs_view (contents d)
document_view-pairs d = search (rules, the_lemmas)

pub scoped_seen : (s : JavaScriptCodeWithScope) → bson_view (scoped s) ≡ code_with_scope_view s
scoped_seen s = search (rules, of_values)
