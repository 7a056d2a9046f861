use Rattle.std.proofs.Common.{ap, sym, subst, ◌∙◌}
use Rattle.bson_model.specs.Value.{document}
use Rattle.bson_model.specs.Normal.{NumbersInRange}
use Rattle.bson.specs.View.{document_of_pairs}
use Rattle.bson.proofs.Seen.{bson_view-Document, document_view-pairs}
use Rattle.bson.proofs.extjson.builder.BsonBuilderValueBuilder.document.Goals as goal

pub returns : goal.returns
returns c = λ ps paired.
    let d = document_of_pairs c.args.pairs in
    let seen = bson_view-Document d ∙ ap document (document_view-pairs d) in
    (seen ∙ ap document paired.0, subst NumbersInRange (sym seen) paired.1)
