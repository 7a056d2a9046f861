use Rattle.std.proofs.Common.{◌≡◌, ◌+◌, ◌++◌, List, length, sum_by}
use Rattle.json.specs.Lex.{tokens}
use Rattle.json.specs.Token.{Token}
use Rattle.bson_run.specs.ErrorMessages.{closes, opens}
use Rattle.bson_run.proofs.broken_rule.find_broken_rule.Given as goal

abbrev pub decreases-loop-token : goal.decreases-loop-token
decreases-loop-token l = length l.reader

-- the tokens that were passed, and that so many brackets of them are open
abbrev pub invariant-loop-token : goal.invariant-loop-token
invariant-loop-token l =
    (front : List Token) × (tokens l.fn.text ≡ front ++ l.reader)
    × (l.open_brackets.depth + sum_by closes front ≡ sum_by opens front)
