use Rattle.std.proofs.Common.{◌≡◌, ◌++◌, List, ℕ, true, cond, ap, sym, ◌∙◌, IfOk, string_bytes, drop, append_assoc}
use Rattle.std.specs.Prelude.{codes, slice_range}
use Rattle.std.proofs.lemmas.Result.{IfOk-weaker}
use Rattle.bson_v1.specs.Upgraded.{is_plain_uuid, hyphenated}
use Rattle.bson_v1.proofs.hexadecimal.hyphenated.Goals as goal

-- five parts with hyphens
abbrev parts : (a b c d e : List ℕ) → List ℕ
parts a b c d e = a ++ codes "-" ++ b ++ codes "-" ++ c ++ codes "-" ++ d ++ codes "-" ++ e

same_parts : (a b c d e v w x y z : List ℕ) → a ≡ v → b ≡ w → c ≡ x → d ≡ y → e ≡ z → parts a b c d e ≡ parts v w x y z
same_parts a b c d e v w x y z p q r s t =
    ap (λ h. parts h b c d e) p ∙ ap (λ h. parts v h c d e) q ∙ ap (λ h. parts v w h d e) r
    ∙ ap (λ h. parts v w x h e) s ∙ ap (λ h. parts v w x y h) t

pub returns : goal.returns
returns c =
    let text = c.args.text.now in
    let first = slice_range text 0 8 in
    let second = slice_range text 8 12 in
    let third = slice_range text 12 16 in
    let fourth = slice_range text 16 20 in
    let fifth = drop 20 text in
    let yes : is_plain_uuid text ≡ true =
    ap is_plain_uuid (sym c.as_bytes.ensures.value) ∙ sym c.if-not-is_plain_uuid.ensures in
    let said : IfOk c.format.result (λ s. string_bytes s ≡ parts c.range-first.result.now c.range-second.result.now
    c.range-third.result.now c.range-fourth.result.now c.range_from-fifth.result.now) = simp append_assoc c.format.ensures.ok in
    IfOk-weaker c.format.result _ (λ s. string_bytes s ≡ hyphenated text)
    (λ s is. is ∙ same_parts _ _ _ _ _ first second third fourth fifth c.range-first.ensures.value c.range-second.ensures.value
    c.range-third.ensures.value c.range-fourth.ensures.value c.range_from-fifth.ensures.value
    ∙ sym (ap (λ b. cond b (parts first second third fourth fifth) text) yes)) said
