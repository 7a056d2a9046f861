use Rattle.std.proofs.Common.{◌≡◌, arith, ap, ◌∙◌}
use Rattle.std.proofs.KnownBytes.{Consumes-trans}
use Rattle.bson_codec.specs.Streams.{declared_length}
use Rattle.bson_codec.proofs.Streams.{take_front, take_short, on_three, on_some}
use Rattle.bson_codec.proofs.stream.read_document_bytes.Goals as goal

pub returns-then-len-lt-LENGTH_BYTES-clause-front : goal.returns-then-len-lt-LENGTH_BYTES-clause-front
returns-then-len-lt-LENGTH_BYTES-clause-front g c = λ all known.
    take_short all _ c.fill_to.new.bytes.items _ _ known c.clear.ensures.items c.in_ok-fill_to.ensures.bytes_read
    c.in_ok-fill_to.ensures.reader_at_end c.in_ok-fill_to.ensures.bound
    (omega (arith, c.if-len-lt-LENGTH_BYTES.true, c.len.ensures, c.fill_to.new.bytes.ok))

pub returns-clause-front : goal.returns-clause-front
returns-clause-front g c = λ all known.
    let says : c.declared_size-size.result ≡ declared_length c.fill_to.new.bytes.items =
    c.declared_size-size.ensures.value ∙ ap declared_length c.as_slice.ensures.value in
    on_three c.fill_to-2.result c.fill_to-2.ensures.bytes_read c.fill_to-2.ensures.reader_at_end c.fill_to-2.ensures.bound
    (λ bytes_read reader_at_end bound. take_front all _ c.fill_to.new.bytes.items c.fill_to-2.new.bytes.items _ _ _
    c.declared_size-size.result known c.clear.ensures.items c.in_ok-fill_to.ensures.bytes_read c.in_ok-fill_to.ensures.reader_at_end
    c.in_ok-fill_to.ensures.bound says bytes_read reader_at_end bound)

pub returns-clause-reader_at_end : goal.returns-clause-reader_at_end
returns-clause-reader_at_end g c =
    on_some c.fill_to-2.result _ _ c.fill_to.new.bytes.items c.fill_to-2.new.bytes.items _ c.fill_to-2.ensures.bytes_read
    (omega (arith, c.if-len-lt-LENGTH_BYTES.false, c.len.ensures, c.fill_to.new.bytes.ok))

pub returns-clause-bytes_consumed : goal.returns-clause-bytes_consumed
returns-clause-bytes_consumed g c =
    let h = Consumes-trans _ _ _ _ _ c.in_ok-fill_to.ensures.bytes_consumed.1 c.fill_to-2.ensures.bytes_consumed.1 in
    (_, h)
