use Rattle.std.proofs.Common.{Ok, ◌+◌, length, take, sym, ap, ◌∙◌, arith}
use Rattle.std.proofs.lemmas.Slice.{between_to_end}
use Rattle.std.proofs.lemmas.Str.{IsUtf8-from_ascii, is_utf8-from_IsUtf8}
use Rattle.bson_bytes.proofs.Passed.{passed_name, passed_short}
use Rattle.bson_bytes.proofs.Splits.{no_zero, zero_here}
use Rattle.bson_bytes.proofs.read_parts.skip_name.Goals as goal

pub returns-then-byte-eq0-clause-outcome : goal.returns-then-byte-eq0-clause-outcome
returns-then-byte-eq0-clause-outcome c =
    let bytes = c.args.bytes.now in
    let index = c.loop-index.index in
    let name = take index bytes in
    passed_name bytes name _ (zero_here bytes index _ c.loop-index-test.true c.if-byte-eq0.true c.loop-index.invariant.0)
    (is_utf8-from_IsUtf8 name (IsUtf8-from_ascii name c.loop-index.invariant.1))
    ∙ ap (λ rest. Ok rest) (sym (between_to_end bytes (index + 1) (length bytes) (omega arith)))

pub returns-clause-outcome : goal.returns-clause-outcome
returns-clause-outcome c =
    rw c.fault_at.ensures (passed_short c.args.bytes.now
    (no_zero c.args.bytes.now c.loop-index.index _ (omega (arith, c.loop-index-test.false)) c.loop-index.invariant.0))
