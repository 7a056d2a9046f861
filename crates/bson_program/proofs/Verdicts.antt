-- Diagnostics, one line after another.
use Rattle.std.proofs.Common.{◌≡◌, ◌<◌, ◌≤◌, ◌+◌, ◌==◌, ◌++◌, ℕ, suc, List, [], ◌∷◌, Bool, true, false, cond, length, take, drop, refl, sym, ap}
use Rattle.std.proofs.Common.{◌∙◌, arith, append_assoc, codes, not, nat_lt, nat_eq, Option, Some, None, Result, Ok, Err, OnOk}
use Rattle.std.specs.Prelude.{position, encode_utf8, encode_utf8_all}
use Rattle.std.specs.Char.Iter.{escape_rest, escape_steps}
use Rattle.std.specs.Result.{is_ok}
use Rattle.std.proofs.lemmas.Bool.Decides.{nat_tests}
use Rattle.std.specs.List.{flat_map, position_or_len, starts_with}
use Rattle.bson_run.specs.Lines.{prepend_to_first_line}
use Rattle.bson_codec.specs.declared.diagnostic.DiagnosticFormat.{DiagnosticFormat}
use Rattle.bson_codec.specs.declared.diagnostic.DiagnosticFormat.TheVariants.{Text}
use Rattle.bson_program.specs.Messages.{with_file_names, line_prefix, line_len, split_lines, with_file_name}

is_newline : (x : ℕ) → (x == 10) ≡ true → x ≡ 10
is_newline x e = grind (arith, nat_tests)

by_test : (b : Bool) (x : ℕ) (xs : List ℕ) → (b ≡ true → x ≡ 10)
    → (b ≡ false → prepend_to_first_line x (split_lines xs) ≡ (x ∷ take (line_len xs) xs) ∷ split_lines (drop (line_len xs) xs))
    → cond b ((10 ∷ []) ∷ split_lines xs) (prepend_to_first_line x (split_lines xs))
    ≡ take (cond b 1 (suc (line_len xs))) (x ∷ xs) ∷ split_lines (drop (cond b 1 (suc (line_len xs))) (x ∷ xs))
by_test true x xs is other = ap (λ y. (y ∷ []) ∷ split_lines xs) (sym (is refl))
by_test false x xs is other = other refl

-- the first line of bytes that begin with x
pub first : (x : ℕ) (xs : List ℕ)
    → split_lines (x ∷ xs) ≡ take (line_len (x ∷ xs)) (x ∷ xs) ∷ split_lines (drop (line_len (x ∷ xs)) (x ∷ xs))
first x [] = by_test (x == 10) x [] (is_newline x) (λ e. refl)
first x (y ∷ ys) = by_test (x == 10) x (y ∷ ys) (is_newline x) (λ e. ap (prepend_to_first_line x) (first y ys))

pub under_first : (format : DiagnosticFormat) (name xs : List ℕ) → 0 < length xs
    → with_file_names format name xs
    ≡ with_file_name format name (take (line_len xs) xs) ++ with_file_names format name (drop (line_len xs) xs)
under_first format name [] some = absurd (omega arith)
under_first format name (x ∷ xs) some = ap (λ ys. flat_map (with_file_name format name) ys) (first x xs)

-- a diagnostic was appended to those before it
pub named_on : (format : DiagnosticFormat) (name rest diagnostic others old new whole : List ℕ) (n : ℕ) → 0 < length rest → n ≡ line_len rest
    → diagnostic ≡ take n rest → others ≡ drop n rest → new ≡ old ++ with_file_name format name diagnostic
    → old ++ with_file_names format name rest ≡ whole → new ++ with_file_names format name others ≡ whole
named_on format name rest diagnostic others old new whole n some len front back added before =
    ap (λ l. l ++ with_file_names format name others) (added ∙ ap (λ v. old ++ with_file_name format name v) (front ∙ ap (λ k. take k rest) len))
    ∙ ap (λ l. (old ++ with_file_name format name (take (line_len rest) rest)) ++ with_file_names format name l) (back ∙ ap (λ k. drop k rest) len)
    ∙ append_assoc old (with_file_name format name (take (line_len rest) rest)) (with_file_names format name (drop (line_len rest) rest))
    ∙ ap (λ l. old ++ l) (sym (under_first format name rest some)) ∙ before

-- ---- the length of the first line

by_place : (b : Bool) (k n l : ℕ) → l ≡ cond (nat_lt k n) (k + 1) n
    → cond b 1 (suc l) ≡ cond (nat_lt (cond (not b) (1 + k) 0) (suc n)) (cond (not b) (1 + k) 0 + 1) (suc n)
by_place true k n l e = grind (arith, nat_tests)
by_place false k n l e = grind (arith, nat_tests)

line_len_is : (xs : List ℕ) → line_len xs ≡ cond (nat_lt (position_or_len (λ b. b == 10) xs) (length xs))
    (position_or_len (λ b. b == 10) xs + 1) (length xs)
line_len_is [] = refl
line_len_is (x ∷ xs) = by_place (x == 10) (position_or_len (λ b. b == 10) xs) (length xs) (line_len xs) (line_len_is xs)

found_by : (b : Bool) (k n i l : ℕ) → l ≡ cond b (k + 1) n → cond b (Some k) None ≡ Some i → i + 1 ≡ l
found_by true k n i l e f = cc
found_by false k n i l e f = absurd cc

none_by : (b : Bool) (k n l : ℕ) → l ≡ cond b (k + 1) n → cond b (Some k) None ≡ None → n ≡ l
none_by true k n l e f = absurd cc
none_by false k n l e f = sym e

pub line_to : (xs : List ℕ) (i : ℕ) → position (λ b. b == 10) xs ≡ Some i → i + 1 ≡ line_len xs
line_to xs i e = found_by _ _ _ i (line_len xs) (line_len_is xs) e

pub line_whole : (xs : List ℕ) → position (λ b. b == 10) xs ≡ None → length xs ≡ line_len xs
line_whole xs e = none_by _ _ _ (line_len xs) (line_len_is xs) e

pub named_behind : {E : Type 0} (r : Result (Unit {0}) E) (old a b new name diagnostic rest : List ℕ) → a ≡ old ++ name
    → b ≡ a ++ 58 ∷ [] → new ≡ cond (is_ok r) (b ++ rest) b → rest ≡ drop (length line_prefix) diagnostic
    → starts_with nat_eq diagnostic line_prefix ≡ true → OnOk r (new ≡ old ++ with_file_name Text name diagnostic)
named_behind (Err x) old a b new name diagnostic rest p q e is starts = tt
named_behind (Ok x) old a b new name diagnostic rest p q e is starts =
    let joined : ((old ++ name) ++ 58 ∷ []) ++ rest ≡ old ++ (name ++ (58 ∷ rest)) = simp append_assoc in
    e ∙ ap (λ l. l ++ rest) (q ∙ ap (λ l. l ++ 58 ∷ []) p) ∙ joined
    ∙ ap (λ l. old ++ (name ++ (58 ∷ l))) is
    ∙ ap (λ t. old ++ (name ++ cond t (58 ∷ drop (length line_prefix) diagnostic) (codes ": " ++ diagnostic))) (sym starts)

-- ---- escapes, a letter after the other

pub escape_goes_on : (s t : _) (r : Option ℕ) (x : ℕ) (old new whole : List ℕ) → escape_steps s r t → r ≡ Some x
    → old ++ encode_utf8_all (escape_rest s) ≡ whole → new ≡ old ++ encode_utf8 x
    → new ++ encode_utf8_all (escape_rest t) ≡ whole
escape_goes_on s t None x old new whole steps is e n = absurd cc
escape_goes_on s t (Some y) x old new whole steps is e n =
    let same : x ≡ y = cc in
    ap (λ l. l ++ encode_utf8_all (escape_rest t)) (n ∙ ap (λ z. old ++ encode_utf8 z) same)
    ∙ append_assoc old (encode_utf8 y) (encode_utf8_all (escape_rest t))
    ∙ ap (λ l. old ++ encode_utf8_all l) (sym steps.1.0) ∙ e

-- ---- bounds of the first line

at_test : (b : Bool) (l n : ℕ) → l ≤ n → (cond b 1 (suc l) ≤ suc n) × (0 < cond b 1 (suc l))
at_test true l n h = (omega arith, omega arith)
at_test false l n h = (omega arith, omega arith)

pub line_within : (xs : List ℕ) → line_len xs ≤ length xs
line_within [] = omega arith
line_within (x ∷ xs) = (at_test (x == 10) (line_len xs) (length xs) (line_within xs)).0

pub line_moves : (xs : List ℕ) → 0 < length xs → 0 < line_len xs
line_moves [] some = absurd (omega arith)
line_moves (x ∷ xs) some = (at_test (x == 10) (line_len xs) (length xs) (line_within xs)).1
