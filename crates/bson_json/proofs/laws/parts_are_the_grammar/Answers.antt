use Rattle.bson_json.proofs.Parts.{number_from, number_to, string_from, string_to}
use Rattle.bson_json.proofs.laws.parts_are_the_grammar.Goals as goal

pub returns-clause-numbers : goal.returns-clause-numbers
returns-clause-numbers c = λ text. (number_to text, number_from text)

pub returns-clause-strings : goal.returns-clause-strings
returns-clause-strings c = λ after bytes. (string_to after bytes, string_from after bytes)
