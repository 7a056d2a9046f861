use Rattle.std.proofs.Common.{◌≡◌, ℕ, ◌-◌, ◌^◌, false, Some, append-nil, ap, arith, [], length, refl}
use Rattle.std.specs.Fmt.{padded_integral, format_spec, digits, char_count, styled_digits_output}
use Rattle.bson_scalar.specs.Displayed.{sixteen_hex_digits}
use Rattle.bson_scalar.proofs.scalar_ref.show_double.Goals as goal

-- `{p:016x}` writes sixteen digits
sixteen : (p : ℕ)
    → padded_integral (format_spec 32 0 4 16 (2 ^ 64 - 1)) false [] (digits 16 false p) ≡ sixteen_hex_digits p
unfolding padded_integral char_count
sixteen p = let none : 16 - length (digits 16 false p) - 0 - 0 ≡ 16 - length (digits 16 false p) = omega arith in
    rw (none, append-nil (digits 16 false p)) refl

pub returns : goal.returns
returns g c = λ p ok.
    let digits : styled_digits_output c.in_radix.result c.laid_out.result ≡ Some (sixteen_hex_digits c.args.pattern) =
    rw (c.in_radix.ensures, c.laid_out.ensures) (ap Some (sixteen c.args.pattern)) in
    (rw digits at c.write.ensures.writes) p ok
