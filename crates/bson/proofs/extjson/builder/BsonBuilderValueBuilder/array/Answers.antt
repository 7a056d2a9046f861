use Rattle.std.proofs.Common.{ap, sym, subst, ◌∙◌}
use Rattle.bson_model.specs.Value.{array}
use Rattle.bson_model.specs.Normal.{NumbersInRange}
use Rattle.bson.proofs.Seen.{bson_view-Array}
use Rattle.bson.proofs.extjson.builder.BsonBuilderValueBuilder.array.Goals as goal

pub returns : goal.returns
returns c = λ vs listed.
    let seen = bson_view-Array c.args.items in
    (seen ∙ ap array listed.0, subst NumbersInRange (sym seen) listed.1)
