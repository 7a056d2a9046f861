-- Tokens, a part after another.
use Rattle.std.proofs.Common.{◌≡◌, ◌++◌, ◌∙◌, List, append_assoc, ap}
use Rattle.json.specs.Token.{Token}

pub two_added : (old x y one two : List Token) → one ≡ old ++ x → two ≡ one ++ y → two ≡ old ++ (x ++ y)
two_added old x y one two e f = f ∙ ap (λ l. l ++ y) e ∙ append_assoc old x y

pub three_added : (old x y z one two three : List Token) → one ≡ old ++ x → two ≡ one ++ y → three ≡ two ++ z
    → three ≡ old ++ (x ++ y ++ z)
three_added old x y z one two three e f g = two_added old (x ++ y) z two three (two_added old x y one two e f) g
