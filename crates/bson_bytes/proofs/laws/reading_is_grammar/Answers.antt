use Rattle.bson_bytes.proofs.GrammarLaws.{grammar_from, is_read}
use Rattle.bson_bytes.proofs.laws.reading_is_grammar.Goals as goal

pub returns : goal.returns
returns c = λ keys d bytes ps fits. (λ e. grammar_from keys d bytes ps fits e, λ h. is_read keys d bytes ps h)
