use Rattle.std.proofs.Common.{arith, sym, rules, to_z-of_z, FitsSigned, w64}
use Rattle.std.proofs.lemmas.Grind.{common_steps}
use Rattle.bson_datetime.proofs.NamesLaws.{denotes-names, denotes-none, names-one}
use Rattle.bson_datetime.proofs.RoundTrip.{named_moment-rfc}
use Rattle.bson_datetime.proofs.datetime.DateTime.parse_rfc3339_str.Goals as goal

pub returns-in-Some-clause-ok : goal.returns-in-Some-clause-ok
returns-in-Some-clause-ok c =
    let named = (denotes-names _ c.in-Some.millis).0 (sym c.in-Some.ensures) in
    let fits : FitsSigned w64 c.in-Some.millis = search rules in
    rw (c.from_millis.ensures, to_z-of_z fits, ← c.as_bytes.ensures.value) named

pub returns-in-None-clause-refused : goal.returns-in-None-clause-refused
returns-in-None-clause-refused c =
    let none = denotes-none _ (sym c.in-None.ensures) in
    rw (← c.as_bytes.ensures.value) (tt, none)

pub returns-in-Some-clause-one : goal.returns-in-Some-clause-one
returns-in-Some-clause-one c = λ a b. names-one _ a b

pub returns-in-None-clause-one : goal.returns-in-None-clause-one
returns-in-None-clause-one c = λ a b. names-one _ a b

pub returns-in-Some-clause-round_trip : goal.returns-in-Some-clause-round_trip
returns-in-Some-clause-round_trip c = λ ms h same.
    let e = rw (← same) at (named_moment-rfc ms h) in
    grind (arith, common_steps, e)

pub returns-in-None-clause-round_trip : goal.returns-in-None-clause-round_trip
returns-in-None-clause-round_trip c = λ ms h same.
    let e = rw (← same) at (named_moment-rfc ms h) in
    grind (arith, common_steps, e)

pub returns-in-Some-clause-grammar : goal.returns-in-Some-clause-grammar
returns-in-Some-clause-grammar c = λ ms. denotes-names _ ms

pub returns-in-None-clause-grammar : goal.returns-in-None-clause-grammar
returns-in-None-clause-grammar c = λ ms. denotes-names _ ms
