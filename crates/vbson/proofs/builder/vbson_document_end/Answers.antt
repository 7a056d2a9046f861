use Rattle.std.proofs.Common.{◌≡◌, ◌+◌, ◌-◌, ◌^◌, ◌≤◌, ◌<◌, ap, arith, rules, subst}
use Rattle.bson_bytes.specs.Writing.{elements_bytes, array_elements_bytes}
use Rattle.vbson.specs.Builder.{IsDocumentEnded}
use Rattle.vbson.proofs.Elements.{ended, is_ended, sized}
use Rattle.vbson.proofs.builder.vbson_document_end.Goals as goal

success : (c : goal.After-set_length) → IsDocumentEnded c.args.start_offset c.args.builder.now c.set_length.new.builder
success c =
    let before : c.has_room.new.builder ≡ c.args.builder.now = search rules in
    let starts : c.args.start_offset + 4 ≤ c.args.builder.now.len = search rules in
    let counts : c.args.builder.now.len - c.args.start_offset + 1 < 2 ^ 31 = search rules in
    let same = ap (λ b. b.len) before in
    subst (λ b. IsDocumentEnded c.args.start_offset b c.set_length.new.builder) before
    (is_ended c.args.start_offset c.has_room.new.builder c.push_bytes.new.builder c.set_length.new.builder (omega (arith, starts, same)) (omega (arith, counts, same))
    c.push_bytes.ensures.push_bytes c.set_length.ensures.written_bytes c.set_length.ensures.rest_unchanged c.set_length.ensures.size c.set_length.ensures.len)

pub returns-clause-success : goal.returns-clause-success
returns-clause-success c = λ ok. success c

pub returns-clause-document : goal.returns-clause-document
returns-clause-document c =
    λ front ps ok is h. (ended front (elements_bytes ps) c.args.start_offset _ _ is h (success c), sized front (elements_bytes ps) c.args.start_offset _ _ is h (success c))

pub returns-clause-array : goal.returns-clause-array
returns-clause-array c = λ front vs ok is h. ended front (array_elements_bytes 0 vs) c.args.start_offset _ _ is h (success c)
