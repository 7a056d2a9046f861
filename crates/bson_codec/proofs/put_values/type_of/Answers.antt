use Rattle.std.proofs.Common.{◌∙◌}
use Rattle.bson.specs.View.{bson_view}
use Rattle.bson_codec.proofs.ElementLaws.{same_type}
use Rattle.bson_codec.proofs.put_values.type_of.Goals as goal

pub returns : goal.returns
returns c = c.element_type.ensures ∙ same_type (bson_view c.args.value.now)
