-- Texts that begin with a letter of `inf` or `nan`, and texts that don't.
use Rattle.std.proofs.Common.{◌≡◌, ℕ, ◌+◌, ◌<◌, ◌≤◌, ◌⊎◌, List, [], ◌∷◌, length, false, inl, inr, refl, ap, ◌∙◌, arith}
use Rattle.std.proofs.Common.{rules}
use Rattle.std.proofs.lemmas.Bool.{cases_Bool, cases_lt, lt-ltb, le-ltb}
use Rattle.std.specs.Prelude.{slice_index}
use Rattle.std.specs.Char.{to_ascii_lowercase, is_ascii_digit}
use Rattle.fast_float.specs.Parse.{completes_number, float_scan_step}

-- what is no number so far stays none
stays : (c : ℕ) → float_scan_step 7 c ≡ 7
stays c = elim (cases_Bool (is_ascii_digit c)) [
  | inl d ↦ rw d refl
  | inr d ↦ rw d (search rules)
]

never : (s : List ℕ) → completes_number 7 s ≡ false
never [] = refl
never (c ∷ cs) = ap (λ n. completes_number n cs) (stays c) ∙ never cs

-- a letter is a small one, or a capital
small : (c n : ℕ) → 97 ≤ n → to_ascii_lowercase c ≡ n → (c ≡ n) ⊎ (c + 32 ≡ n)
small c n l h =
    elim (cases_lt c 65) [
      | inl b ↦ absurd (let e : to_ascii_lowercase c ≡ c = rw (lt-ltb c 65 b) refl in omega arith)
      | inr b ↦ elim (cases_lt c 91) [
        | inl d ↦ inr (let e : to_ascii_lowercase c ≡ c + 32 = rw (le-ltb c 65 b, lt-ltb c 91 d) refl in omega arith)
        | inr d ↦ inl (let e : to_ascii_lowercase c ≡ c = rw (le-ltb c 65 b, le-ltb c 91 d) refl in omega arith)
      ]
    ]

starts_none : (c : ℕ) (cs : List ℕ) → float_scan_step 0 c ≡ 7 → completes_number 0 (c ∷ cs) ≡ false
starts_none c cs h = ap (λ n. completes_number n cs) h ∙ never cs

i_is_none : (c : ℕ) (cs : List ℕ) → to_ascii_lowercase c ≡ 105 → completes_number 0 (c ∷ cs) ≡ false
i_is_none c cs h = starts_none c cs (elim (small c 105 (omega arith) h) [
  | inl e ↦ rw e refl
  | inr e ↦ (let f : c ≡ 73 = omega arith in rw f refl)
])

n_is_none : (c : ℕ) (cs : List ℕ) → to_ascii_lowercase c ≡ 110 → completes_number 0 (c ∷ cs) ≡ false
n_is_none c cs h = starts_none c cs (elim (small c 110 (omega arith) h) [
  | inl e ↦ rw e refl
  | inr e ↦ (let f : c ≡ 78 = omega arith in rw f refl)
])

pub word_first : (s : List ℕ) → 0 < length s
    → (to_ascii_lowercase (slice_index s 0) ≡ 105) ⊎ (to_ascii_lowercase (slice_index s 0) ≡ 110)
    → completes_number 0 s ≡ false
word_first [] l h = absurd (omega arith)
word_first (c ∷ cs) l (inl h) = i_is_none c cs h
word_first (c ∷ cs) l (inr h) = n_is_none c cs h
