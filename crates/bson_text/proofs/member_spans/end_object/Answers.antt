use Rattle.std.proofs.Common.{◌++◌, length, None, take, ap, ◌∙◌, subst}
use Rattle.std.specs.Prelude.{IfSome}
use Rattle.bson_text.specs.MemberSpans.{spans_from, IsSortedObject, EndsWithBrace, IsObjectWritten}
use Rattle.bson_text.proofs.SpansInOrder.{ended_in_place, span_keys_ascend}
use Rattle.std.proofs.lemmas.Str.{is_utf8-from_IsUtf8}
use Rattle.std.specs.Str.{is_utf8}
use Rattle.bson_text.proofs.Utf8Texts.{before_utf8, braced_utf8, ended_utf8}
use Rattle.bson_text.proofs.member_spans.end_object.Goals as goal

pub returns-then-keys_ascend : goal.returns-then-keys_ascend
returns-then-keys_ascend c =
    let buffer = c.args.text.now.items in
    let end = length buffer in
    let braced : EndsWithBrace c.extend_from_slice.new.self.items =
    (buffer, c.requires.utf8, c.in_ok-extend_from_slice.ensures.items) in
    record {
      ended = ended_in_place (take c.args.object_start buffer) buffer c.extend_from_slice.new.self.items
          (spans_from c.args.keys.now c.args.member_starts.now end) c.requires.began_document
          (span_keys_ascend None c.args.keys.now c.args.member_starts.now end (c.keys_ascend.ensures.0 c.if-keys_ascend.true))
          c.in_ok-extend_from_slice.ensures.items;
      braced = braced;
      utf8 = braced_utf8 c.extend_from_slice.new.self.items braced;
      stops = tt;
    }

-- what precedes the object is left
pub returns-in_err-extend_from_slice-2-clause-utf8 : goal.returns-in_err-extend_from_slice-2-clause-utf8
returns-in_err-extend_from_slice-2-clause-utf8 c =
    let buffer = c.args.text.now.items in
    let before = take c.args.object_start buffer in
    ap is_utf8 (c.in_err-extend_from_slice-2.ensures.items ∙ c.truncate.ensures.items)
    ∙ is_utf8-from_IsUtf8 before
    (before_utf8 before buffer (spans_from c.args.keys.now c.args.member_starts.now (length buffer)) c.requires.began_document c.requires.utf8)

pub returns : goal.returns
returns c =
    let buffer = c.args.text.now.items in
    let object_bytes = c.in_ok-object_bytes.object_bytes.items in
    let before = take c.args.object_start buffer in
    let new = c.extend_from_slice-2.new.self.items in
    let spans = spans_from c.args.keys.now c.args.member_starts.now (length buffer) in
    let ended : IsObjectWritten spans before buffer new = (
      object_bytes,
      subst (λ s. IfSome s (λ t. IsSortedObject spans buffer t.items)) c.in_ok-object_bytes.ensures.ok_part c.in_ok-sorted_object.ensures,
      c.in_ok-extend_from_slice-2.ensures.items ∙ ap (λ l. l ++ c.deref.result.now) c.truncate.ensures.items
          ∙ ap (λ l. before ++ l) c.deref.ensures.value,
    ) in
    let braced = ended_utf8 before buffer new spans c.requires.began_document c.requires.utf8 ended in
    record { ended = ended; braced = braced; utf8 = braced_utf8 new braced; stops = tt }
