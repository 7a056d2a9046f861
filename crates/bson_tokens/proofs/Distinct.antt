-- Pieces of which no two have one key.
use Rattle.std.proofs.Common.{◌≡◌, ◌<◌, ℕ, zero, suc, List, [], ◌∷◌, length, get_or, map, refl, sym, ◌∙◌, arith}
use Rattle.std.proofs.lemmas.List.{length-map}
use Rattle.json.specs.Strict.{AreDistinct}
use Rattle.bson_tokens.specs.NormalizerStates.{IsFirstSpanOfKey, member_span_key}
use Rattle.bson_tokens.specs.declared.member_order.MemberSpan.{MemberSpan}

key_at : (ps : List MemberSpan) (i : ℕ) (d : MemberSpan) (k : List ℕ) → i < length ps
    → get_or (map member_span_key ps) i k ≡ member_span_key (get_or ps i d)
key_at [] i d k less = absurd (omega (arith, less))
key_at (p ∷ ps) zero d k less = refl
key_at (p ∷ ps) (suc i) d k less = key_at ps i d k (omega (arith, less))

none : MemberSpan
none = record { key = record { ref_ptr = (0, 0); now = [] }; offset_in_object = 0; start = 0; end = 0 }

pub differ_distinct : (ps : List MemberSpan) → ((j : ℕ) → j < length ps → IsFirstSpanOfKey ps j) → AreDistinct (map member_span_key ps)
differ_distinct ps differ i j k less within e =
    let long : j < length ps = omega (arith, within, length-map ps member_span_key) in
    differ j long i none less
    (sym (key_at ps i none k (omega (arith, less, long))) ∙ e ∙ key_at ps j none k long)
