use Rattle.bson_scalar.specs.declared.form.Doubles.TheVariants.{Special}
use Rattle.bson_tree.proofs.Agrees.{means_nothing, one_fault, one_path}
use Rattle.bson_tree.proofs.laws.one_place.Goals as goal

pub returns-clause-has_no_meaning : goal.returns-clause-has_no_meaning
returns-clause-has_no_meaning c = λ f t path m. means_nothing Special m

pub returns-clause-fault : goal.returns-clause-fault
returns-clause-fault c = λ f g t path other m n. one_fault Special m n

pub returns-clause-path : goal.returns-clause-path
returns-clause-path c = λ f g t path other m n. one_path Special m n
