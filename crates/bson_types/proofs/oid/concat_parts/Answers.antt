use Rattle.std.proofs.Common.{◌≡◌, ℕ, List, [], ◌∷◌, ◌++◌, length, get_or, refl, sym, ap, ◌∙◌, arith, append_assoc}
use Rattle.bson_types.proofs.oid.concat_parts.Goals as goal

-- the reads of four numbers are the numbers
four : (a r : List ℕ) → length a ≡ 4 → get_or a 0 0 ∷ get_or a 1 0 ∷ get_or a 2 0 ∷ get_or a 3 0 ∷ r ≡ a ++ r
four (w ∷ x ∷ y ∷ z ∷ []) r h = refl
four [] r h = absurd (omega arith)
four (w ∷ []) r h = absurd (omega arith)
four (w ∷ x ∷ []) r h = absurd (omega arith)
four (w ∷ x ∷ y ∷ []) r h = absurd (omega arith)
four (w ∷ x ∷ y ∷ z ∷ v ∷ rest) r h = absurd (omega arith)

five : (a r : List ℕ) → length a ≡ 5
    → get_or a 0 0 ∷ get_or a 1 0 ∷ get_or a 2 0 ∷ get_or a 3 0 ∷ get_or a 4 0 ∷ r ≡ a ++ r
five (v ∷ w ∷ x ∷ y ∷ z ∷ []) r h = refl
five [] r h = absurd (omega arith)
five (w ∷ []) r h = absurd (omega arith)
five (w ∷ x ∷ []) r h = absurd (omega arith)
five (w ∷ x ∷ y ∷ []) r h = absurd (omega arith)
five (w ∷ x ∷ y ∷ z ∷ []) r h = absurd (omega arith)
five (u ∷ w ∷ x ∷ y ∷ z ∷ v ∷ rest) r h = absurd (omega arith)

three : (a : List ℕ) → length a ≡ 3 → get_or a 0 0 ∷ get_or a 1 0 ∷ get_or a 2 0 ∷ [] ≡ a
three (x ∷ y ∷ z ∷ []) h = refl
three [] h = absurd (omega arith)
three (w ∷ []) h = absurd (omega arith)
three (w ∷ x ∷ []) h = absurd (omega arith)
three (w ∷ x ∷ y ∷ v ∷ rest) h = absurd (omega arith)

all : (a b c : List ℕ) → length a ≡ 4 → length b ≡ 5 → length c ≡ 3
    → get_or a 0 0 ∷ get_or a 1 0 ∷ get_or a 2 0 ∷ get_or a 3 0 ∷ get_or b 0 0 ∷ get_or b 1 0 ∷ get_or b 2 0
    ∷ get_or b 3 0 ∷ get_or b 4 0 ∷ get_or c 0 0 ∷ get_or c 1 0 ∷ get_or c 2 0 ∷ [] ≡ (a ++ b) ++ c
all a b c ha hb hc =
    four a _ ha ∙ ap (λ r. a ++ r) (five b _ hb ∙ ap (λ r. b ++ r) (three c hc)) ∙ sym (append_assoc a b c)

pub returns : goal.returns
returns c = all c.args.seconds.now c.args.process_id.now c.args.counter.now c.requires.seconds_len c.requires.process_id_len c.requires.counter_len
