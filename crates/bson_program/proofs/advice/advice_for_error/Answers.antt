use Rattle.std.proofs.Common.{inr, refl, rules, subst, sym}
use Rattle.bson_program.specs.Hints.{IsAdviceFor, IsReadWithV1, IsSyntaxAdvice}
use Rattle.bson_program.specs.declared.advice.Advice.TheVariants.{NotFinite, NotFiniteV1}
use Rattle.bson_program.proofs.advice.advice_for_error.Goals as goal

pub returns-in-Some-NotFinite : goal.returns-in-Some-NotFinite
returns-in-Some-NotFinite c =
    let invocation = c.args.invocation.now in
    let text = c.args.text.now in
    let not_json : IsSyntaxAdvice invocation text NotFinite = search rules in
    let with_v1 : IsReadWithV1 invocation text = search rules in
    subst (λ fault. IsAdviceFor invocation fault text NotFiniteV1) (sym c.in-NotJson.is) (inr (refl, not_json, with_v1))
