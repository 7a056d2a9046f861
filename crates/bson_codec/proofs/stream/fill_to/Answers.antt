use Rattle.std.proofs.KnownBytes.{Consumes-trans}
use Rattle.bson_codec.proofs.stream.fill_to.Goals as goal

pub returns-in_default-extend_from_slice-clause-bytes_consumed :
    goal.returns-in_default-extend_from_slice-clause-bytes_consumed
returns-in_default-extend_from_slice-clause-bytes_consumed g c =
    let h = Consumes-trans _ _ _ _ _ c.loop-bytes.invariant.2.2 c.in-Ok.ensures.bytes.0 in
    (_, h)
