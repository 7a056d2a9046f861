use Rattle.bson_json.proofs.Characters.{characters_from, characters_to}
use Rattle.bson_json.proofs.laws.unescaped_is_by_character.Goals as goal

pub returns : goal.returns
returns c = λ text. (characters_from text, characters_to text)
