use Rattle.std.proofs.Common.{arith, inl, refl, pos, ◌<ℤ◌, ◌≤ℤ◌, sym, ◌∙◌}
use Rattle.jiff.proofs.SpanFacts.{signed_arith}
use Rattle.jiff.proofs.Family.{civil_nanos_range}
use Rattle.bson_datetime.proofs.RfcLemmas.{rfc-jiff}
use Rattle.bson_datetime.proofs.DisplayedLemmas.{rfc-fields}
use Rattle.bson_datetime.proofs.NamesLaws.{denotes-names}
use Rattle.bson_datetime.proofs.RoundTrip.{named_moment-rfc}
use Rattle.bson_datetime.proofs.MomentLemmas.{moment-negative, moment-natural, natural_year}
use Rattle.bson_datetime.proofs.datetime.DateTime.try_to_rfc3339_string.Goals as goal

pub returns-then-year-lt0-clause-err : goal.returns-then-year-lt0-clause-err
returns-then-year-lt0-clause-err c =
    let low : c.in-Some.jiff_time.date.year <ℤ pos 0 = omega (arith, signed_arith) in
    let below = moment-negative c.args.self c.in-Some.jiff_time c.in-Some.ensures.value low in
    inl (refl, λ h. omega (arith, signed_arith, h.0))

-- what was written, and in which years
written : goal.returns-in-Ok-clause-ok
written c =
    let high : pos 0 ≤ℤ c.in-Some.jiff_time.date.year = omega (arith, signed_arith) in
    let year = natural_year c.in-Some.jiff_time.date.year high in
    c.in-Ok.ensures.ok ∙ sym (rfc-jiff c.args.self c.in-Some.jiff_time year.0 c.in-Some.ensures.value year.1)

in_years : goal.returns-in-Ok-clause-in_years
in_years c =
    let high : pos 0 ≤ℤ c.in-Some.jiff_time.date.year = omega (arith, signed_arith) in
    let is = c.in-Some.ensures.value in
    let above = moment-natural c.args.self c.in-Some.jiff_time is high in
    let range = civil_nanos_range c.in-Some.jiff_time in
    (above, omega (arith, signed_arith))

pub returns-in-Ok-clause-ok : goal.returns-in-Ok-clause-ok
returns-in-Ok-clause-ok c = written c

pub returns-in-Ok-clause-fields : goal.returns-in-Ok-clause-fields
returns-in-Ok-clause-fields c = λ fields is. written c ∙ rfc-fields c.args.self fields is

pub returns-in-Ok-clause-reads_back : goal.returns-in-Ok-clause-reads_back
returns-in-Ok-clause-reads_back c =
    let denotes = named_moment-rfc c.args.self (in_years c) in
    rw (written c) ((denotes-names _ c.args.self).0 denotes)

pub returns-in-Ok-clause-in_years : goal.returns-in-Ok-clause-in_years
returns-in-Ok-clause-in_years c = in_years c
