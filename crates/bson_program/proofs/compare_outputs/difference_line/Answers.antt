use Rattle.std.proofs.Common.{◌≡◌, ◌++◌, IfOk, append_assoc, codes, string_bytes, subst, sym}
use Rattle.std.specs.Fmt.{decimal}
use Rattle.bson_program.specs.Comparison.{difference_message}
use Rattle.bson_program.proofs.compare_outputs.difference_line.Goals as goal

pub returns-in-AtValue : goal.returns-in-AtValue
returns-in-AtValue c =
    let first_name = c.args.first_name.now in
    let second_name = c.args.second_name.now in
    subst (λ it. IfOk c.format.result (λ line. string_bytes line ≡ difference_message first_name second_name it)) (sym c.in-AtValue.is)
    (simp append_assoc c.format.ensures.ok)

pub returns-in_ok-values-in-UnequalCounts : goal.returns-in_ok-values-in-UnequalCounts
returns-in_ok-values-in-UnequalCounts c =
    let first_name = c.args.first_name.now in
    let second_name = c.args.second_name.now in
    let result = c.format-in-UnequalCounts.result in
    subst (λ it. IfOk result (λ line. string_bytes line ≡ difference_message first_name second_name it)) (sym c.in-UnequalCounts.is)
    (subst (λ words. IfOk result (λ line. string_bytes line ≡ codes "bson: " ++ first_name ++ codes " has " ++ words
    ++ codes ", and " ++ second_name ++ codes " has " ++ decimal c.in-UnequalCounts.second_count)) c.in_ok-values-in-UnequalCounts.ensures
    (simp append_assoc c.format-in-UnequalCounts.ensures.ok))

pub returns-in_ok-values-in-EqualCounts : goal.returns-in_ok-values-in-EqualCounts
returns-in_ok-values-in-EqualCounts c =
    let first_name = c.args.first_name.now in
    let second_name = c.args.second_name.now in
    let result = c.format-in-EqualCounts.result in
    subst (λ it. IfOk result (λ line. string_bytes line ≡ difference_message first_name second_name it)) (sym c.in-EqualCounts.is)
    (subst (λ words. IfOk result (λ line. string_bytes line ≡ codes "bson: " ++ first_name ++ codes " and " ++ second_name
    ++ codes " differ: each has " ++ words)) c.in_ok-values-in-EqualCounts.ensures
    (simp append_assoc c.format-in-EqualCounts.ensures.ok))
