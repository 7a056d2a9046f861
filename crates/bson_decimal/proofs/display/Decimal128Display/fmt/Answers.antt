use Rattle.std.proofs.Common.{arith, ◌≡◌, ◌++◌, List, ℕ, ap, subst, ◌∙◌, ◌-◌, drop, take, take_all, length-drop}
use Rattle.std.proofs.lemmas.Fmt.{IsAscii-decimal_wide}
use Rattle.std.proofs.lemmas.Str.{IsUtf8-from_ascii}
use Rattle.std.specs.Fmt.{decimal, sign_text, HasWritten}
use Rattle.bson_decimal.specs.Exponents.{unbiased_exponent}
use Rattle.bson_decimal.specs.DecimalText.{decoded_decimal_text, finite_text, decimal128_text}
use Rattle.bson_decimal.proofs.display.Decimal128Display.fmt.Goals as goal

pub write_signed-requires-clause-ascii : goal.write_signed-requires-clause-ascii
write_signed-requires-clause-ascii g c =
    let w = c.write_digits-start in
    let text : c.in-Ok.digits.now ≡ decimal c.in-Finite.coefficient = c.in-Ok.ensures.cases.0
    ∙ take_all _ (drop w.result w.new.buffer) (omega (arith, length-drop w.result w.new.buffer))
    ∙ w.ensures.written in
    rw text (IsAscii-decimal_wide c.in-Finite.coefficient (omega arith))

pub returns-in-Ok-clause-writes : goal.returns-in-Ok-clause-writes
unfolding decimal128_text
returns-in-Ok-clause-writes g c =
    let w = c.write_digits-start in
    let text : c.in-Ok.digits.now ≡ decimal c.in-Finite.coefficient = c.in-Ok.ensures.cases.0
    ∙ take_all _ (drop w.result w.new.buffer) (omega (arith, length-drop w.result w.new.buffer))
    ∙ w.ensures.written in
    let is : sign_text c.in-Finite.negative ++ finite_text (decimal c.in-Finite.coefficient)
    (unbiased_exponent c.in-Finite.stored_exponent) ≡ decimal128_text c.args.self.now =
    ap decoded_decimal_text c.in-Finite.ensures in
    λ plain ok. subst (λ (t : List ℕ). HasWritten g.W.Write.write_str_gives c.args.formatter.now t c.write_signed.new.formatter) is
    (rw text at (c.write_signed.ensures plain ok))

pub unreachable-requires : goal.unreachable-requires
unreachable-requires g c =
    let w = c.write_digits-start in
    let all = drop w.result w.new.buffer in
    let text : take (34 - w.result) all ≡ decimal c.in-Finite.coefficient =
    take_all (34 - w.result) all (omega (arith, length-drop w.result w.new.buffer))
    ∙ w.ensures.written in
    c.in-Err.ensures.cases.0
    (rw text (IsUtf8-from_ascii _ (IsAscii-decimal_wide c.in-Finite.coefficient (omega arith))))
