use Rattle.std.proofs.Common.{◌≡◌, arith, inl, refl, pos, ◌<ℤ◌, ◌≤ℤ◌, sym, ◌∙◌}
use Rattle.std.proofs.lemmas.Result.{IfOk-weaker}
use Rattle.jiff.proofs.SpanFacts.{signed_arith}
use Rattle.jiff.proofs.Family.{civil_nanos_range}
use Rattle.bson_datetime.proofs.MillisText.{millis-denoted, millis-fields, millis-jiff, millis-whole}
use Rattle.bson_datetime.proofs.NamesLaws.{denotes-names}
use Rattle.bson_datetime.proofs.MomentLemmas.{moment-negative, moment-natural, natural_year}
use Rattle.bson_datetime.proofs.datetime.DateTime.try_to_rfc3339_millis_string.Goals as goal

pub returns-then-year-lt0-clause-err : goal.returns-then-year-lt0-clause-err
returns-then-year-lt0-clause-err c =
    let low : c.in-Some.jiff_time.date.year <ℤ pos 0 = omega (arith, signed_arith) in
    let below = moment-negative c.args.self c.in-Some.jiff_time c.in-Some.ensures.value low in
    inl (refl, λ h. omega (arith, signed_arith, h.0))

in_years : goal.returns-in-Ok-clause-in_years
in_years c =
    let high : pos 0 ≤ℤ c.in-Some.jiff_time.date.year = omega (arith, signed_arith) in
    let is = c.in-Some.ensures.value in
    let above = moment-natural c.args.self c.in-Some.jiff_time is high in
    let range = civil_nanos_range c.in-Some.jiff_time in
    (above, omega (arith, signed_arith))

pub returns-in-Ok-clause-in_years : goal.returns-in-Ok-clause-in_years
returns-in-Ok-clause-in_years c = in_years c

pub returns-then-plain_time-eq0-clause-ok : goal.returns-then-plain_time-eq0-clause-ok
returns-then-plain_time-eq0-clause-ok c =
    let none : c.in-Some.jiff_time.time.subsec_nanosecond ≡ 0 = grind arith in
    let same = millis-whole c.args.self c.in-Some.jiff_time c.in-Some.ensures.value none in
    rw same c.try_to_rfc3339_string.ensures.ok

pub returns-then-plain_time-eq0-clause-fields : goal.returns-then-plain_time-eq0-clause-fields
returns-then-plain_time-eq0-clause-fields c =
    let none : c.in-Some.jiff_time.time.subsec_nanosecond ≡ 0 = grind arith in
    let same = millis-whole c.args.self c.in-Some.jiff_time c.in-Some.ensures.value none in
    IfOk-weaker c.try_to_rfc3339_string.result _ _
    (λ text is fields civil. is ∙ sym same ∙ millis-fields c.args.self fields civil) c.try_to_rfc3339_string.ensures.ok

written : goal.returns-in-Ok-clause-ok
written c =
    let high : pos 0 ≤ℤ c.in-Some.jiff_time.date.year = omega (arith, signed_arith) in
    let year = natural_year c.in-Some.jiff_time.date.year high in
    let some : c.in-Some.jiff_time.time.subsec_nanosecond ≡ 0 → ⊥ = λ e. grind (arith, e) in
    let of_jiff = millis-jiff c.args.self c.in-Some.jiff_time year.0 c.in-Some.ensures.value year.1 some in
    c.in-Ok.ensures.ok ∙ grind (arith, of_jiff)

pub returns-in-Ok-clause-ok : goal.returns-in-Ok-clause-ok
returns-in-Ok-clause-ok c = written c

pub returns-in-Ok-clause-fields : goal.returns-in-Ok-clause-fields
returns-in-Ok-clause-fields c = λ fields is. written c ∙ millis-fields c.args.self fields is

pub returns-in-Ok-clause-reads_back : goal.returns-in-Ok-clause-reads_back
returns-in-Ok-clause-reads_back c =
    let some : c.in-Some.jiff_time.time.subsec_nanosecond ≡ 0 → ⊥ = λ e. grind (arith, e) in
    let denotes = millis-denoted c.args.self c.in-Some.jiff_time c.in-Some.ensures.value (in_years c) some in
    rw (written c) ((denotes-names _ c.args.self).0 denotes)
