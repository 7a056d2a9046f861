use Rattle.bson_tokens.proofs.Places.{at_first_places, by_ascending_key, with_last_values}
use Rattle.bson_tokens.proofs.laws.normalized_places.Goals as goal

pub returns : goal.returns
returns c = record { first_positions = at_first_places; ascending_keys = by_ascending_key; last_values = with_last_values }
