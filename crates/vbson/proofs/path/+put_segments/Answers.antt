use Rattle.std.proofs.Common.{◌≡◌, ◌∷◌, length, rules, subst, sym}
use Rattle.std.proofs.lemmas.Result.{err_from_is_err_and}
use Rattle.bson_bytes.specs.PutSteps.{PutResult, PutsBytes}
use Rattle.vbson.proofs.Paths.{no_segments, segment_put, segments_stop}
use Rattle.vbson.proofs.path.+put_segments.Goals as goal

pub returns-in_default-clause-puts_bytes : goal.returns-in_default-clause-puts_bytes
returns-in_default-clause-puts_bytes t c =
    let none : length c.args.segments.now ≡ 0 = search rules in
    no_segments c.args.segments.now c.args.bytes.now.items none

pub returns-in_err-put_segments-clause-puts_bytes : goal.returns-in_err-put_segments-clause-puts_bytes
returns-in_err-put_segments-clause-puts_bytes t c =
    let p = err_from_is_err_and c.from_residual.result c.from_residual.ensures.1 in
    let some : c.args.segments.now ≡ c.in-Some.segment.now ∷ c.in-Some.outer_segments.now = search rules in
    rw (p.1, p.2) (segments_stop c.in_err-put_segments.field-0.0 c.args.segments.now c.in-Some.outer_segments.now c.in-Some.segment.now
    c.args.bytes.now.items some c.in_err-put_segments.ensures.puts_bytes)

pub returns-clause-puts_bytes : goal.returns-clause-puts_bytes
returns-clause-puts_bytes t c =
    let some : c.args.segments.now ≡ c.in-Some.segment.now ∷ c.in-Some.outer_segments.now = search rules in
    let put = segment_put c.args.segments.now c.in-Some.outer_segments.now c.in-Some.segment.now c.args.bytes.now.items
    c.put_segments.new.bytes.items some c.in_ok-put_segments.ensures.puts_bytes in
    subst (λ (r : PutResult). PutsBytes c.put_segment.result c.put_segment.new.bytes.items r) (sym put) c.put_segment.ensures.puts_bytes
