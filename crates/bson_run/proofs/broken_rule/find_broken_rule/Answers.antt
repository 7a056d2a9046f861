use Rattle.std.proofs.Common.{◌≡◌, ◌++◌, [], ◌∷◌, ap, sym, ◌∙◌, arith, append_assoc, rules}
use Rattle.std.proofs.lemmas.List.Sums.{sum_by_push}
use Rattle.json.specs.Reads.{token_of}
use Rattle.json.specs.Token.{bad}
use Rattle.bson_run.specs.ErrorMessages.{closes, opens}
use Rattle.bson_run.proofs.LinesLaws.{oks_with}
use Rattle.bson_run.proofs.Rules.{at_bad, at_token}
use Rattle.bson_run.proofs.broken_rule.find_broken_rule.Goals as goal

pub returns-in-Some : goal.returns-in-Some
returns-in-Some c =
    let i = c.loop-token.invariant in
    let rest = c.next.new.self in
    let next : c.loop-token.reader ≡ bad ∷ rest = search rules in
    oks_with c.error_at_invalid_token.result c.error_at_invalid_token.ensures
    (λ error h. at_bad c.args.text.now c.utf8.text c.requires error.1 i.0 rest (i.1 ∙ ap (λ ts. i.0 ++ ts) next) h)

pub returns-in-Some-pass_token : goal.returns-in-Some-pass_token
returns-in-Some-pass_token c =
    let i = c.loop-token.invariant in
    let t = token_of c.in-Some.token in
    let rest = c.next.new.self in
    let next : c.loop-token.reader ≡ t ∷ rest = search rules in
    at_token c.args.text.now c.utf8.text c.requires c.in-Some-pass_token.rule c.loop-token.open_brackets.depth t i.0 rest (i.1 ∙ ap (λ ts. i.0 ++ ts) next) i.2 c.in-Some-pass_token.ensures

pub loop-token-preserved : goal.loop-token-preserved
loop-token-preserved c =
    let i = c.loop-token.invariant in
    let t = token_of c.in-Some.token in
    let rest = c.next.new.self in
    let next : c.loop-token.reader ≡ t ∷ rest = search rules in (
      i.0 ++ t ∷ [],
      i.1 ∙ ap (λ ts. i.0 ++ ts) next ∙ sym (append_assoc i.0 (t ∷ []) rest),
      omega (arith, i.2, c.in_default-pass_token.ensures, sum_by_push closes i.0 t, sum_by_push opens i.0 t),
    )
