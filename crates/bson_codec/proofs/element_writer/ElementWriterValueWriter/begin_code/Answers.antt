use Rattle.std.proofs.Common.{◌≡◌, ◌≤◌, length, length-append, Ok, ap, ◌∙◌, arith, subst}
use Rattle.std.proofs.lemmas.Str.{is_utf8-from_IsUtf8}
use Rattle.bson_types.specs.declared.spec.ElementType.TheVariants as tag
use Rattle.bson_bytes.specs.PutSteps.{put_length_placeholder, put_text}
use Rattle.bson_bytes.specs.Writing.{name_bytes}
use Rattle.bson_codec.proofs.Put.{turned, room}
use Rattle.bson_codec.proofs.element_writer.ElementWriterValueWriter.begin_code.Goals as goal

pub returns-clause-written : goal.returns-clause-written
returns-clause-written c =
    let s = c.args.code.now in
    let named = c.put_name.new.output.items in
    let mark = c.begin_document.new.self.bytes.items in
    let new = c.put_text.new.output.items in
    let name = c.in_ok-put_name.ensures.put in
    let begins = c.in_ok-length_start.ensures.written in
    let diagnostics_before = rw c.in_ok-map_err.was at (turned {P = (put_text s mark ≡ Ok new) × (length mark ≤ length new)}
    c.put_text.result c.map_err.result new (put_text s mark) c.map_err.ensures.variant c.put_text.ensures.put
    c.put_text.ensures.grows (λ put grows. (put, grows))) in
    let here = room c.in_ok-length_start.length_start named mark begins in
    let longer = length-append c.args.self.now.bytes.items (name_bytes tag.JavaScriptCodeWithScope c.args.name.now) in
    let is = ap length name in (
      is_utf8-from_IsUtf8 s c.utf8.code,
      begins.0 ∙ is,
      subst (λ b. put_text s b ≡ Ok new) (begins.1 ∙ ap put_length_placeholder name) diagnostics_before.0,
      omega (arith, here, begins.0, longer, is, diagnostics_before.1),
      omega (arith, here, diagnostics_before.1),
    )
