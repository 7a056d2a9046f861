use Rattle.std.proofs.Common.{◌≡◌, ℕ, List, [], ◌+◌, ◌*◌, ◌∙◌, ap, arith, length-set, sym, refl, Some, Result, slice_index}
use Rattle.std.specs.Result.{result_unwrap_or}
use Rattle.hex.specs.declared.error.FromHexError.{FromHexError}
use Rattle.hex.proofs.Pairs.{decode_start, decode_step, decode_done, decode_err, decode_sized-pairs}
use Rattle.bson_types.proofs.HexLaws.{twice, sized_from, sized_to, digits_read, digits_refused}
use Rattle.bson_types.proofs.oid.parse_id_bytes.Goals as goal

pub returns-then-text-ne24-clause-every_valid : goal.returns-then-text-ne24-clause-every_valid
returns-then-text-ne24-clause-every_valid c = λ id is. absurd (omega (arith, twice is.0, is.1, c.if-text-ne24.true))

pub bytes-init : goal.bytes-init
bytes-init c = (refl, decode_start c.args.text.now [])

pub returns-in_err-bytes-clause-every_valid : goal.returns-in_err-bytes-clause-every_valid
returns-in_err-bytes-clause-every_valid c = λ id is.
    let text = c.args.text.now in
    let byte_index = 2 * c.bytes.byte_index in
    let refused = digits_refused (slice_index text byte_index) (slice_index text (byte_index + 1)) byte_index (sym c.byte_of_digit_pair.ensures ∙ c.in_err-bytes.was) in
    let unread = decode_err text c.bytes.bytes c.bytes.byte_index refused.0 (omega arith) refused.1 c.bytes.invariant.1 in
    cc (sym (sized_to 12 text id is.0 is.1) ∙ decode_sized-pairs text 12 (omega arith) (omega arith) ∙ unread)

pub bytes-preserved : goal.bytes-preserved
bytes-preserved c =
    let text = c.args.text.now in
    let byte_index = 2 * c.bytes.byte_index in
    let read = digits_read (slice_index text byte_index) (slice_index text (byte_index + 1)) byte_index _
    (sym c.byte_of_digit_pair.ensures ∙ c.in_ok-bytes.was) in (
      length-set _ _ _ ∙ c.bytes.invariant.0,
      decode_step _ _ c.bytes.byte_index _ (omega arith) (omega arith) read c.bytes.invariant.1,
    )

pub returns-clause-some : goal.returns-clause-some
returns-clause-some c =
    let text = c.args.text.now in
    let read = decode_done text c.bytes.bytes c.bytes.byte_index (omega arith) (omega arith) c.bytes.invariant.1 in
    sized_from 12 text c.bytes.bytes (decode_sized-pairs text 12 (omega arith) (omega arith) ∙ read)

pub returns-clause-every_valid : goal.returns-clause-every_valid
returns-clause-every_valid c = λ id is.
    let text = c.args.text.now in
    let read = decode_done text c.bytes.bytes c.bytes.byte_index (omega arith) (omega arith) c.bytes.invariant.1 in
    let same = sym read ∙ sym (decode_sized-pairs text 12 (omega arith) (omega arith)) ∙ sized_to 12 text id is.0 is.1 in
    ap Some (ap (λ (r : Result (List ℕ) FromHexError). result_unwrap_or r []) same)
