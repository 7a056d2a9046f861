-- Numbers: the reader passes over what the grammar says, and what it passed over is in the grammar.
use Rattle.std.proofs.Common.{◌≡◌, ℕ, suc, ◌+◌, Bool, true, false, cond, ◌||◌, ◌==◌, List, [], ◌∷◌, ◌++◌, length, take, drop, Option, Some, None, option_and_then, refl, sym, ap, ap₂, ◌∙◌, subst, append_assoc, append-nil, arith, ◌≢◌, ◌⊎◌, inl, inr}
use Rattle.std.proofs.lemmas.Bool.{ne_eqb, and_from, and_parts, le-leb, leb-true, or_from, or_cases, cond_both, eqb-true, eqb-false}
use Rattle.std.proofs.lemmas.List.{take-append-drop}
use Rattle.std.specs.Char.{is_ascii_digit}
use Rattle.std.specs.List.{prefix_len}
use Rattle.json.specs.Word.{head, after_digits, after_minus, after_sign, after_whole, after_fraction, after_exponent, after_number}
use Rattle.json.specs.Print.{IsNumber as IsRead}
use Rattle.bson_json.specs.Grammar.{IsDigit, AreDigits, no_digits, digit, IsDigits, digits, IsMinus, no_minus, minus, IsInt, zero_alone, from_one, IsFrac, no_frac, frac}
use Rattle.bson_json.specs.Grammar.{IsSign, no_sign, minus_sign, plus_sign, IsExp, no_exp, lower_exp, upper_exp, IsNumber, number}

is_digit : {d : ℕ} → IsDigit d → is_ascii_digit d ≡ true
is_digit {d = d} h = and_from _ _ (le-leb 48 d h.0) (le-leb d 57 h.1)

digit_is : {d : ℕ} → is_ascii_digit d ≡ true → IsDigit d
digit_is {d = d} e = let p = and_parts _ _ e in (leb-true 48 d p.0, leb-true d 57 p.1)

abbrev NoDigit : List ℕ → Type 0
NoDigit r = is_ascii_digit (head r) ≡ false

-- ---- from the grammar to the reader

none_here : (r : List ℕ) → NoDigit r → prefix_len is_ascii_digit r ≡ 0
none_here [] h = refl
none_here (x ∷ xs) h = ap (λ b. cond b (1 + prefix_len is_ascii_digit xs) 0) h

counted : {t : List ℕ} (r : List ℕ) → NoDigit r → AreDigits t → prefix_len is_ascii_digit (t ++ r) ≡ length t
counted r free no_digits = none_here r free
counted r free (digit {later_digits = t} h k) =
    ap (λ b. cond b (1 + prefix_len is_ascii_digit (t ++ r)) 0) (is_digit h) ∙ omega (arith, counted r free k)

drop-front : (t r : List ℕ) → drop (length t) (t ++ r) ≡ r
drop-front [] r = refl
drop-front (x ∷ t) r = drop-front t r

abbrev after_count : List ℕ → ℕ → Option (List ℕ)
after_count t n = cond (n == 0) None (Some (drop n t))

past_digits : {t : List ℕ} (r : List ℕ) → NoDigit r → IsDigits t → after_digits (t ++ r) ≡ Some r
past_digits r free (digits {digit_byte = d} {later_digits = t} h k) =
    ap (after_count (d ∷ (t ++ r))) (counted r free (digit h k))
    ∙ ap (λ b. cond b None (Some (drop (length t) (t ++ r)))) (ne_eqb (suc (length t)) 0 (λ e. omega arith)) ∙ ap Some (drop-front t r)

last_digits : {t : List ℕ} → IsDigits t → after_digits t ≡ Some []
last_digits {t = t} h = ap after_digits (sym (append-nil t)) ∙ past_digits [] refl h

past_sign : {s t : List ℕ} → IsSign s → IsDigits t → after_sign (s ++ t) ≡ t
past_sign no_sign (digits {digit_byte = d} {later_digits = t} h k) =
    ap (λ b. cond b t (d ∷ t)) (or_from _ _ (ne_eqb d 45 (λ e. omega (arith, h.0))) (ne_eqb d 43 (λ e. omega (arith, h.0))))
past_sign minus_sign h = refl
past_sign plus_sign h = refl

last_exp : {e : List ℕ} → IsExp e → after_exponent e ≡ Some []
last_exp no_exp = refl
last_exp (lower_exp h k) = ap after_digits (past_sign h k) ∙ last_digits k
last_exp (upper_exp h k) = ap after_digits (past_sign h k) ∙ last_digits k

exp_no_digit : {e : List ℕ} → IsExp e → NoDigit e
exp_no_digit no_exp = refl
exp_no_digit (lower_exp h k) = refl
exp_no_digit (upper_exp h k) = refl

past_frac : {f e : List ℕ} → IsFrac f → IsExp e → after_fraction (f ++ e) ≡ Some e
past_frac no_frac no_exp = refl
past_frac no_frac (lower_exp h k) = refl
past_frac no_frac (upper_exp h k) = refl
past_frac (frac h) k = past_digits _ (exp_no_digit k) h

frac_no_digit : {f e : List ℕ} → IsFrac f → IsExp e → NoDigit (f ++ e)
frac_no_digit no_frac k = exp_no_digit k
frac_no_digit (frac h) k = refl

past_int : {i : List ℕ} (r : List ℕ) → NoDigit r → IsInt i → after_whole (i ++ r) ≡ Some r
past_int r free zero_alone = refl
past_int r free (from_one {digit_byte = d} {later_digits = t} h ne k) =
    ap (λ b. cond b (Some (t ++ r)) (after_digits (d ∷ (t ++ r)))) (ne_eqb d 48 ne) ∙ past_digits r free (digits h k)

past_minus : {m i : List ℕ} (r : List ℕ) → IsMinus m → IsInt i → after_minus (m ++ (i ++ r)) ≡ i ++ r
past_minus r no_minus zero_alone = refl
past_minus r no_minus (from_one {digit_byte = d} {later_digits = t} h ne k) = ap (λ b. cond b (t ++ r) (d ∷ (t ++ r))) (ne_eqb d 45 (λ e. omega (arith, h.0)))
past_minus r minus h = refl

pub is_read : {t : List ℕ} → IsNumber t → IsRead t
unfolding after_number
is_read (number {int_text = i} {frac_text = f} {exp_text = e} m h k l) =
    ap (λ t. option_and_then after_exponent (option_and_then after_fraction (after_whole t))) (past_minus (f ++ e) m h)
    ∙ ap (λ o. option_and_then after_exponent (option_and_then after_fraction o)) (past_int (f ++ e) (frac_no_digit k l) h)
    ∙ ap (option_and_then after_exponent) (past_frac k l) ∙ last_exp l

-- ---- and back

-- what was passed over of t, where there is a rest
abbrev pub Passed : (List ℕ → Type 0) → List ℕ → Option (List ℕ) → Type 0
Passed P t None = Unit {0}
Passed P t (Some r) = (s : List ℕ) × (t ≡ s ++ r) × P s

digits_at : (x : ℕ) (xs : List ℕ) (n : ℕ) (b : Bool) → is_ascii_digit x ≡ b → AreDigits (take n xs) → AreDigits (take (cond b (1 + n) 0) (x ∷ xs))
digits_at x xs n false e k = no_digits
digits_at x xs n true e k =
    let one : suc n ≡ 1 + n = omega arith in
    subst (λ m. AreDigits (take m (x ∷ xs))) one (digit (digit_is e) k)

digits_there : (t : List ℕ) → AreDigits (take (prefix_len is_ascii_digit t) t)
digits_there [] = no_digits
digits_there (x ∷ xs) = digits_at x xs (prefix_len is_ascii_digit xs) (is_ascii_digit x) refl (digits_there xs)

some_passed : (x : ℕ) (xs : List ℕ) (n : ℕ) (b : Bool) → is_ascii_digit x ≡ b → AreDigits (take n xs) → Passed IsDigits (x ∷ xs) (after_count (x ∷ xs) (cond b (1 + n) 0))
some_passed x xs n false e k = tt
some_passed x xs n true e k =
    let one : suc n ≡ 1 + n = omega arith in
    subst (λ m. Passed IsDigits (x ∷ xs) (after_count (x ∷ xs) m)) one
    (cond_both (suc n == 0) None (Some (drop n xs)) (Passed IsDigits (x ∷ xs)) (λ z. tt)
    (λ z. (x ∷ take n xs, ap (λ l. x ∷ l) (sym (take-append-drop n xs)), digits (digit_is e) k)))

digits_passed : (t : List ℕ) → Passed IsDigits t (after_digits t)
digits_passed [] = tt
digits_passed (x ∷ xs) = some_passed x xs (prefix_len is_ascii_digit xs) (is_ascii_digit x) refl (digits_there xs)

-- a part that may be absent
abbrev Past : (List ℕ → Type 0) → List ℕ → List ℕ → Type 0
Past P t r = (s : List ℕ) × (t ≡ s ++ r) × P s

minus_passed : (t : List ℕ) → Past IsMinus t (after_minus t)
minus_passed [] = ([], refl, no_minus)
minus_passed (x ∷ xs) =
    cond_both (x == 45) xs (x ∷ xs) (Past IsMinus (x ∷ xs)) (λ e. (45 ∷ [], ap (λ y. y ∷ xs) (eqb-true x 45 e), minus)) (λ e. ([], refl, no_minus))

sign_passed : (t : List ℕ) → Past IsSign t (after_sign t)
sign_passed [] = ([], refl, no_sign)
sign_passed (x ∷ xs) =
    cond_both ((x == 45) || (x == 43)) xs (x ∷ xs) (Past IsSign (x ∷ xs)) (λ e. go (or_cases (x == 45) (x == 43) e)) (λ e. ([], refl, no_sign))
  where
    go : ((x == 45) ≡ true) ⊎ ((x == 43) ≡ true) → Past IsSign (x ∷ xs) xs
    go (inl e) = (45 ∷ [], ap (λ y. y ∷ xs) (eqb-true x 45 e), minus_sign)
    go (inr e) = (43 ∷ [], ap (λ y. y ∷ xs) (eqb-true x 43 e), plus_sign)

as_int : (x : ℕ) (xs : List ℕ) (o : Option (List ℕ)) → x ≢ 48 → Passed IsDigits (x ∷ xs) o → Passed IsInt (x ∷ xs) o
as_int x xs None ne h = tt
as_int x xs (Some r) ne (s, e, digits h k) = (s, e, from_one h (λ z. ne (ap head e ∙ z)) k)

int_passed : (t : List ℕ) → Passed IsInt t (after_whole t)
int_passed [] = tt
int_passed (x ∷ xs) =
    cond_both (x == 48) (Some xs) (after_digits (x ∷ xs)) (Passed IsInt (x ∷ xs)) (λ e. (48 ∷ [], ap (λ y. y ∷ xs) (eqb-true x 48 e), zero_alone))
    (λ e. as_int x xs _ (eqb-false x 48 e) (digits_passed (x ∷ xs)))

as_frac : (x : ℕ) (xs : List ℕ) (o : Option (List ℕ)) → x ≡ 46 → Passed IsDigits xs o → Passed IsFrac (x ∷ xs) o
as_frac x xs None is h = tt
as_frac x xs (Some r) is (s, e, h) = (46 ∷ s, ap₂ (λ y l. y ∷ l) is e, frac h)

frac_passed : (t : List ℕ) → Passed IsFrac t (after_fraction t)
frac_passed [] = ([], refl, no_frac)
frac_passed (x ∷ xs) =
    cond_both (x == 46) (after_digits xs) (Some (x ∷ xs)) (Passed IsFrac (x ∷ xs)) (λ e. as_frac x xs _ (eqb-true x 46 e) (digits_passed xs)) (λ e. ([], refl, no_frac))

as_exp : (x : ℕ) (xs u : List ℕ) (o : Option (List ℕ)) → ((x == 101) ≡ true) ⊎ ((x == 69) ≡ true) → Past IsSign xs u → Passed IsDigits u o → Passed IsExp (x ∷ xs) o
as_exp x xs u None is sign h = tt
as_exp x xs u (Some r) (inl is) (s, e, h) (t, f, k) =
    (101 ∷ (s ++ t), ap₂ (λ y l. y ∷ l) (eqb-true x 101 is) (e ∙ ap (λ l. s ++ l) f ∙ sym (append_assoc s t r)), lower_exp h k)
as_exp x xs u (Some r) (inr is) (s, e, h) (t, f, k) =
    (69 ∷ (s ++ t), ap₂ (λ y l. y ∷ l) (eqb-true x 69 is) (e ∙ ap (λ l. s ++ l) f ∙ sym (append_assoc s t r)), upper_exp h k)

exp_passed : (t : List ℕ) → Passed IsExp t (after_exponent t)
exp_passed [] = ([], refl, no_exp)
exp_passed (x ∷ xs) =
    cond_both ((x == 101) || (x == 69)) (after_digits (after_sign xs)) (Some (x ∷ xs)) (Passed IsExp (x ∷ xs))
    (λ e. as_exp x xs (after_sign xs) _ (or_cases (x == 101) (x == 69) e) (sign_passed xs) (digits_passed (after_sign xs))) (λ e. ([], refl, no_exp))

-- one part after another
abbrev Both : (List ℕ → Type 0) → (List ℕ → Type 0) → List ℕ → Type 0
Both A B s = (a : List ℕ) × (b : List ℕ) × (s ≡ a ++ b) × A a × B b

both : (A B : List ℕ → Type 0) (t u : List ℕ) (p : Option (List ℕ)) → Past A t u → Passed B u p → Passed (Both A B) t p
both A B t u None x y = tt
both A B t u (Some r) (a, e, h) (b, f, k) = (a ++ b, e ∙ ap (λ l. a ++ l) f ∙ sym (append_assoc a b r), (a, b, refl, h, k))

then_passed : (A B : List ℕ → Type 0) (t : List ℕ) (f : List ℕ → Option (List ℕ)) → ((u : List ℕ) → Passed B u (f u)) → (o : Option (List ℕ)) → Passed A t o
    → Passed (Both A B) t (option_and_then f o)
then_passed A B t f g None h = tt
then_passed A B t f g (Some u) h = both A B t u (f u) h (g u)

as_number : (t : List ℕ) (o : Option (List ℕ)) → Passed (Both IsMinus (Both (Both IsInt IsFrac) IsExp)) t o → Passed IsNumber t o
as_number t None h = tt
as_number t (Some r) (s, e, (m, u, split, h, (n, x, cut, (i, f, part, j, k), l))) =
    (s, e, subst IsNumber (sym (split ∙ ap (λ z. m ++ z) (cut ∙ ap (λ z. z ++ x) part ∙ append_assoc i f x))) (number h j k l))

pub number_passed : (t : List ℕ) → Passed IsNumber t (after_number t)
unfolding after_number
number_passed t =
    let u = after_minus t in
    as_number t _ (both IsMinus (Both (Both IsInt IsFrac) IsExp) t u _ (minus_passed t)
    (then_passed (Both IsInt IsFrac) IsExp u after_exponent exp_passed _ (then_passed IsInt IsFrac u after_fraction frac_passed _ (int_passed u))))
