use Rattle.bson_json.proofs.Reading.{json_from, json_to, one_value, value_from, value_to}
use Rattle.bson_json.proofs.laws.reading_is_the_grammar.Goals as goal

pub returns-clause-value_is_read : goal.returns-clause-value_is_read
returns-clause-value_is_read c = λ text j. (json_to text j, λ h. json_from text j h.0 h.1)

pub returns-clause-one_value : goal.returns-clause-one_value
returns-clause-one_value c = λ text j k h i. one_value text j k h i

pub returns-clause-value_within_depth : goal.returns-clause-value_within_depth
returns-clause-value_within_depth c = λ limit text j. (value_to limit text j, λ h. value_from limit text j h.0 h.1)
