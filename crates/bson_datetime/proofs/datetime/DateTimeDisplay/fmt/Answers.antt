use Rattle.std.proofs.Common.{rules, to_z-of_z, FitsSigned, w64}
use Rattle.bson_datetime.proofs.DisplayedLemmas.{display_text-outside, display_text-moment}
use Rattle.bson_datetime.proofs.datetime.DateTimeDisplay.fmt.Goals as goal

pub returns-in_default-clause-writes : goal.returns-in_default-clause-writes
returns-in_default-clause-writes g c = λ plain ok.
    let fits : FitsSigned w64 c.self.inside.millis = search rules in
    let e = display_text-outside c.self.inside.millis (λ range. cc (c.in_default.ensures.exists.1 range)) in
    let h = rw (to_z-of_z fits) at (c.write.ensures.writes plain ok) in
    rw (← c.self.view_is, e) h

pub returns-clause-writes : goal.returns-clause-writes
returns-clause-writes g c = λ plain ok.
    let e = display_text-moment c.self.inside.millis c.in-Some.jiff_time c.in-Some.ensures.value in
    rw (← c.self.view_is, e) (c.write-2.ensures.writes plain ok)
