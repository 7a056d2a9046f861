use Rattle.bson_types.proofs.Sorting.{ascending_meaning}
use Rattle.bson_types.proofs.regex.Regex.new.Goals as goal

pub returns-clause-ascending : goal.returns-clause-ascending
returns-clause-ascending c = ascending_meaning

pub returns-in_err-from_str-clause-ascending : goal.returns-in_err-from_str-clause-ascending
returns-in_err-from_str-clause-ascending c = ascending_meaning

pub returns-in_err-sort_characters-clause-ascending : goal.returns-in_err-sort_characters-clause-ascending
returns-in_err-sort_characters-clause-ascending c = ascending_meaning
