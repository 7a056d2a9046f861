-- Tokens that are written one after another.
use Rattle.std.proofs.Common.{◌≡◌, List, ◌++◌, Result, Ok, Err, OnOk, ap, ◌∙◌, append_assoc}
use Rattle.json.specs.Token.{Token}

pub in_turn : (old one near two new : List Token) → near ≡ old ++ one → new ≡ near ++ two → new ≡ old ++ (one ++ two)
in_turn old one near two new p q = q ∙ ap (λ l. l ++ two) p ∙ append_assoc old one two

-- what an Ok holds, brought further
pub on_ok : {X E : Type 0} {P Q : Type 0} (r : Result X E) → (P → Q) → OnOk r P → OnOk r Q
on_ok (Ok x) f h = f h
on_ok (Err e) f h = tt
