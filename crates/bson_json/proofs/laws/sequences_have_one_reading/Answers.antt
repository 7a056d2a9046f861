use Rattle.std.proofs.Common.{sym, ◌∙◌}
use Rattle.bson_json.proofs.FoundTexts.{texts_are}
use Rattle.bson_json.proofs.Sequences.{texts_found}
use Rattle.bson_json.proofs.laws.sequences_have_one_reading.Goals as goal

pub returns-clause-all_texts_found : goal.returns-clause-all_texts_found
returns-clause-all_texts_found c = λ content ts h. texts_found h

pub returns-clause-one_sequence : goal.returns-clause-one_sequence
returns-clause-one_sequence c = λ content ts us h k. sym (texts_found h) ∙ texts_found k

pub returns-clause-are_texts : goal.returns-clause-are_texts
returns-clause-are_texts c = λ content h. texts_are content h
