use Rattle.std.proofs.Common.{ap, sym}
use Rattle.std.specs.Result.{is_ok}
use Rattle.bson_bytes.proofs.Finding.{got, got_none, same_value}
use Rattle.bson_bytes.proofs.raw_document.RawDocument.get.Goals as goal

pub returns-in_default : goal.returns-in_default
returns-in_default c =
    sym (got_none c.args.self.now.depth c.args.self.now.bytes.now c.as_bytes.result.now c.args.key.now c.args.self.now.is_read
    c.as_bytes.ensures.value c.in_default.ensures.last_value)

pub overflow_sub-self : goal.overflow_sub-self
overflow_sub-self c =
    (got c.args.self.now.depth c.args.self.now.bytes.now c.as_bytes.result.now c.args.key.now c.args.self.now.is_read
    c.as_bytes.ensures.value c.in-Some.element c.in-Some.ensures.last_value).deep

pub read_valid_value-requires : goal.read_valid_value-requires
read_valid_value-requires c =
    ap is_ok (got c.args.self.now.depth c.args.self.now.bytes.now c.as_bytes.result.now c.args.key.now c.args.self.now.is_read
    c.as_bytes.ensures.value c.in-Some.element c.in-Some.ensures.last_value).read

pub returns : goal.returns
returns c =
    same_value (got c.args.self.now.depth c.args.self.now.bytes.now c.as_bytes.result.now c.args.key.now c.args.self.now.is_read
    c.as_bytes.ensures.value c.in-Some.element c.in-Some.ensures.last_value) _ c.read_valid_value.ensures
