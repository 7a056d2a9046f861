use Rattle.std.proofs.Common.{◌≡◌, ◌⊎◌, subst}
use Rattle.bson_double.proofs.Words.{word_first}
use Rattle.bson_double.proofs.parse.begins_with_i_or_n.Goals as goal

pub returns-in-105-clause-some : goal.returns-in-105-clause-some
returns-in-105-clause-some c =
    λ _. word_first c.args.unsigned.now c.in-len1-up.len_at_least
    (subst (λ r. (r ≡ 105) ⊎ (r ≡ 110)) c.to_ascii_lowercase.ensures.value c.in-105.is)
