use Rattle.std.proofs.Common.{◌≡◌, ℕ, List, subst}
use Rattle.std.proofs.lemmas.Result.{IfOk-weaker}
use Rattle.std.specs.Prelude.{IfSome}
use Rattle.bson_run.proofs.EncodeLaws.{encoded_one}
use Rattle.bson_run.specs.Encode.{Encodes}
use Rattle.bson_run.proofs.encode.encode_line.Goals as goal

pub returns-in-Some-clause-unique : goal.returns-in-Some-clause-unique
returns-in-Some-clause-unique c = λ other is.
    let o = c.args.options in
    let text = c.args.bytes.now in
    encoded_one o.key_order o text c.in-Some.document.items other
    (subst (λ found. IfSome found (λ out. Encodes o.key_order o text out.items)) c.in-Some.is c.in_ok-document.ensures.ok) is

pub returns-in-None-clause-unique : goal.returns-in-None-clause-unique
returns-in-None-clause-unique c =
    let o = c.args.options in
    let text = c.args.bytes.now in
    IfOk-weaker c.encode_whole.result (λ out. Encodes o.key_order o text out.items)
    (λ out. (other : List ℕ) → Encodes o.key_order o text other → other ≡ out.items)
    (λ out mine other is. encoded_one o.key_order o text out.items other mine is) c.encode_whole.ensures.ok
