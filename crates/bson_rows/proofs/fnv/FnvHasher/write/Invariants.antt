use Rattle.std.proofs.Common.{◌≡◌, ◌*◌, ◌%◌, ◌^◌, take, fold}
use lib.Bits.{bit_xor}
use Rattle.bson_rows.proofs.fnv.FnvHasher.write.Given as goal

-- the state after the bytes so far
abbrev pub invariant-loop-byte : goal.invariant-loop-byte
invariant-loop-byte l =
    l.self.0 ≡ fold (λ h b. (bit_xor h b * 1099511628211) % 2 ^ 64) l.initial.self.0 (take l.byte-index l.bytes)
