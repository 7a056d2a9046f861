use Rattle.bson_json.proofs.Elements.{elements_are, elements_found}
use Rattle.bson_json.proofs.laws.arrays_have_one_reading.Goals as goal

pub returns-clause-all_elements_found : goal.returns-clause-all_elements_found
returns-clause-all_elements_found c = λ content ts h. elements_found h

pub returns-clause-are_elements : goal.returns-clause-are_elements
returns-clause-are_elements c = λ content h. elements_are content h
