use Rattle.std.proofs.Common.{◌++◌}
use Rattle.vbson.proofs.Appending.{both}
use Rattle.vbson.proofs.builder.push_value.Goals as goal

pub returns-clause-push_bytes : goal.returns-clause-push_bytes
returns-clause-push_bytes c =
    let e = c.args.element in
    let first = c.push_bytes.new.builder in
    let last = c.push_bytes-3.new.builder in
    both e.value_head.now (e.value_body.now ++ e.value_tail.now) c.args.builder.now first last c.push_bytes.ensures.push_bytes (both e.value_body.now e.value_tail.now first c.push_bytes-2.new.builder last c.push_bytes-2.ensures.push_bytes c.push_bytes-3.ensures.push_bytes)
