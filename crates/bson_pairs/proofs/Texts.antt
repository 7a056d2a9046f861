-- Equal texts, from what the writers say of each.
use Rattle.std.proofs.Common.{◌≡◌, true, ℕ, List, sym, ◌∙◌}
use Rattle.std.specs.Prelude.{◌↔◌}
use Rattle.bson.specs.Texts.{IsTextWithDoubles}
use Rattle.bson.specs.Doubles.{Doubles}
use Rattle.bson.specs.Form.{Form}
use Rattle.bson.specs.Same.{same}
use Rattle.bson.specs.Value.{Value}
use Rattle.bson.specs.Normal.{normal_form, as_read_back, plain, NumbersInRange}

pub texts_equal : (D : Doubles) (f : Form) (v w : Value) (s t : List ℕ) → IsTextWithDoubles D f v s → IsTextWithDoubles D f w t
    → NumbersInRange w → plain v ≡ true → plain w ≡ true
    → (s ≡ t) ↔ (same (as_read_back f (normal_form v)) (as_read_back f (normal_form w)) ≡ true)
texts_equal D f v w s t a b r p q =
    let equal = (a.reads_again p).equal_texts w b.tree q r b.is_tree.written in (
      λ is. equal.0 (sym a.compact ∙ is ∙ b.compact),
      λ is. a.compact ∙ equal.1 is ∙ sym b.compact,
    )
