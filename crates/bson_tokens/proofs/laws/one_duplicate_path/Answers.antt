use Rattle.bson_tokens.proofs.Converse.{one_path, twice, some_path}
use Rattle.bson_tokens.proofs.laws.one_duplicate_path.Goals as goal

pub returns-clause-has_duplicate_key : goal.returns-clause-has_duplicate_key
returns-clause-has_duplicate_key c = λ j path m. twice j path m

pub returns-clause-path : goal.returns-clause-path
returns-clause-path c = λ j path other m n. one_path j path other m n

pub returns-clause-path_exists : goal.returns-clause-path_exists
returns-clause-path_exists c = λ j other. some_path j other
