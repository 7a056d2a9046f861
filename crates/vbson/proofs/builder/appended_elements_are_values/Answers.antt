use Rattle.vbson.proofs.Elements.{and_item, and_more, begun}
use Rattle.vbson.proofs.builder.appended_elements_are_values.Goals as goal

pub returns-clause-begun : goal.returns-clause-begun
returns-clause-begun c = λ front name a b h s. (begun front name a b h s, begun front name a b h s)

pub returns-clause-appended : goal.returns-clause-appended
returns-clause-appended c = λ front ps k v a b h s. and_more front ps k v a b h s

pub returns-clause-in_array : goal.returns-clause-in_array
returns-clause-in_array c = λ front vs v a b h s. and_item front vs v a b h s
