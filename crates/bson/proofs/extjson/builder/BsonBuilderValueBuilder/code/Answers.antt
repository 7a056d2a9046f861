use Rattle.std.proofs.Common.{string_bytes, ap, sym, subst, ◌∙◌}
use Rattle.bson_model.specs.Value.{code_scope}
use Rattle.bson_model.specs.Normal.{NumbersInRange}
use Rattle.bson.specs.View.{document_of_pairs}
use Rattle.bson.proofs.Seen.{document_view-pairs}
use Rattle.bson.proofs.extjson.builder.BsonBuilderValueBuilder.code.Goals as goal

pub returns : goal.returns
returns c = λ ps paired.
    let s = string_bytes c.args.code in
    let seen = c.with_scope.ensures ∙ ap (code_scope s) (document_view-pairs (document_of_pairs c.args.scope)) in
    (seen ∙ ap (code_scope s) paired.0, subst NumbersInRange (sym seen) paired.1)
