use Rattle.std.proofs.Common.{◌≡◌, ◌≤◌, ◌<◌, ◌-◌, ◌&&◌, ℕ, zero, suc, List, Bool, true, length, ap, sym, ◌∙◌, arith, subst}
use Rattle.std.specs.Prelude.{slice_index, nat_le}
use Rattle.bson_v1.specs.Upgraded.{has_minutes_before, lacks_seconds, offset_length}
use Rattle.bson_v1.proofs.date.rfc_3339_date.Goals as goal

first_true : (n : ℕ) (b : Bool) → (nat_le 1 n && b) ≡ true → 1 ≤ n
first_true zero b h = cc
first_true (suc n) b h = omega arith

offset_before_seconds : (text : List ℕ) → lacks_seconds text ≡ true → 1 ≤ offset_length text
offset_before_seconds text h =
    first_true (offset_length text) (has_minutes_before text (length text - offset_length text)) h

pub inserted-requires-clause-ascii : goal.inserted-requires-clause-ascii
inserted-requires-clause-ascii c =
    let text = c.args.text.now in
    let bytes = c.as_bytes-2.result.now in
    let lacks : lacks_seconds bytes ≡ true =
    ap lacks_seconds (c.as_bytes-2.ensures.value ∙ sym c.as_bytes.ensures.value) ∙ sym c.if-not-lacks_seconds.ensures in
    let some : 1 ≤ offset_length bytes = offset_before_seconds bytes lacks in
    let found : 1 ≤ c.offset_length.result = subst (λ n. 1 ≤ n) (sym c.offset_length.ensures.length) some in
    subst (λ ys. slice_index ys (length ys - c.offset_length.result) < 128) c.as_bytes-2.ensures.value
    (c.offset_length.ensures.ascii found)
