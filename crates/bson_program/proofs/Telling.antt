-- The parts of a message, one after another.
use Rattle.std.proofs.Common.{◌≡◌, ◌++◌, ◌∙◌, ap, List, ℕ, Bool, true, false, cond, Result, Ok, Err, IfOk, codes, string_bytes}
use Rattle.std.specs.Prelude.{String}
use Rattle.std.specs.declared.alloc.Global.{Global}

pub parts : {E : Type 0} (r : Result (String Global) E) (head words place h w p : List ℕ)
    → IfOk r (λ s. string_bytes s ≡ head ++ codes ": " ++ words ++ place) → head ≡ h → words ≡ w → place ≡ p
    → IfOk r (λ s. string_bytes s ≡ h ++ codes ": " ++ w ++ p)
parts (Err x) head words place h w p is e f g = tt
parts (Ok s) head words place h w p is e f g =
    is ∙ ap (λ l. l ++ codes ": " ++ words ++ place) e ∙ ap (λ l. h ++ codes ": " ++ l ++ place) f
    ∙ ap (λ l. h ++ codes ": " ++ w ++ l) g

-- of two texts the one that a test chooses
pub when_not : {E : Type 0} (r : Result (String Global) E) (b : Bool) (x y : List ℕ) → b ≡ false
    → IfOk r (λ s. string_bytes s ≡ y) → IfOk r (λ s. string_bytes s ≡ cond b x y)
when_not r true x y e h = absurd cc
when_not r false x y e h = h

pub four : {E : Type 0} (r : Result (String Global) E) (a b c d a' b' c' d' : List ℕ)
    → IfOk r (λ s. string_bytes s ≡ a ++ b ++ c ++ d) → a ≡ a' → b ≡ b' → c ≡ c' → d ≡ d'
    → IfOk r (λ s. string_bytes s ≡ a' ++ b' ++ c' ++ d')
four (Err x) a b c d a' b' c' d' is e f g h = tt
four (Ok s) a b c d a' b' c' d' is e f g h =
    is ∙ ap (λ l. l ++ b ++ c ++ d) e ∙ ap (λ l. a' ++ l ++ c ++ d) f ∙ ap (λ l. a' ++ b' ++ l ++ d) g
    ∙ ap (λ l. a' ++ b' ++ c' ++ l) h
