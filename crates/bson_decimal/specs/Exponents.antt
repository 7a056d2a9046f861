-- The exponents of decimal128 (IEEE 754-2008, table 3.6: 34 digits, the largest exponent emax 6144, the bias 6176).
-- An exponent here is that of the last digit, so it goes from 1 - emax - 33 to emax - 33.
use Rattle.std.specs.Prelude.{ℕ, ℤ, pos, neg_ℤ, ◌-ℤ◌}

abbrev pub least_exponent : ℤ
least_exponent = neg_ℤ (pos 6176)

abbrev pub greatest_exponent : ℤ
greatest_exponent = pos 6111

-- what is added to an exponent when it is stored
abbrev pub bias : ℕ
bias = 6176

-- the exponent of a stored exponent
abbrev pub unbiased_exponent : (stored_exponent : ℕ) → ℤ
unbiased_exponent stored_exponent = pos stored_exponent -ℤ pos bias
