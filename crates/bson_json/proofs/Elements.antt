-- The elements of an array are the parts between its commas.
use Rattle.std.proofs.Common.{◌≡◌, inl, inr, ℕ, zero, suc, ◌≤◌, List, [], ◌∷◌, ◌++◌, length, refl, sym, ap, ◌∙◌, subst, append-nil, arith}
use Rattle.std.proofs.lemmas.Bool.{eqb-true}
use Rattle.json.specs.Json.{Json}
use Rattle.bson_json.specs.Grammar.{IsJson}
use Rattle.bson_json.specs.declared.sequence.Separator.TheVariants.{Comma}
use Rattle.bson_json.specs.Sequence.{AreElements, last_element, more_elements, outside, parts, texts_of_parts, texts_in}
use Rattle.bson_json.proofs.Scanned.{put_before, put_first, then, pass_ws_of_array, Passes}
use Rattle.bson_json.proofs.Sequences.{core_in}
use Rattle.bson_json.proofs.FoundTexts.{first_of, no_room, separated, shorter, AreJson, Rest}

-- each part is a text
pub all_texts : (ps : List (List ℕ)) → texts_of_parts Comma ps ≡ ps
unfolding texts_of_parts
all_texts [] = refl
all_texts (p ∷ ps) = ap (λ qs. p ∷ qs) (all_texts ps)

pub element_passes : {t : List ℕ} {j : Json} → IsJson t j → Passes Comma (outside zero) t (outside zero)
element_passes {t = t} h =
    let c = core_in {k = Comma} h in
    subst (λ s. Passes Comma (outside zero) s (outside zero)) (sym c.split)
    (then (pass_ws_of_array c.is_front) (then c.passes (pass_ws_of_array c.is_back)))

last_part : (t : List ℕ) → put_before t (parts Comma (outside zero) []) ≡ t ∷ []
unfolding parts
last_part t = put_first t [] [] ∙ ap (λ s. s ∷ []) (append-nil t)

next_part : (t u : List ℕ) → put_before t (parts Comma (outside zero) (0x2C ∷ u)) ≡ t ∷ parts Comma (outside zero) u
next_part t u =
    ap (put_before t) (separated Comma (outside zero) 0x2C u refl) ∙ put_first t [] (parts Comma (outside zero) u)
    ∙ ap (λ s. s ∷ parts Comma (outside zero) u) (append-nil t)

parts_found : {content : List ℕ} {ts : List (List ℕ)} → AreElements content ts → parts Comma (outside zero) content ≡ ts
parts_found (last_element {last_text = t} j) =
    ap (parts Comma (outside zero)) (sym (append-nil t)) ∙ (element_passes j).passed [] ∙ last_part t
parts_found (more_elements {first_text = t} {later_content = u} j h) =
    (element_passes j).passed (0x2C ∷ u) ∙ next_part t u ∙ ap (λ ts. t ∷ ts) (parts_found h)

pub elements_found : {content : List ℕ} {ts : List (List ℕ)} → AreElements content ts → texts_in Comma content ≡ ts
elements_found {content = content} h = all_texts (parts Comma (outside zero) content) ∙ parts_found h

by_part : (n : ℕ) (xs part : List ℕ) (more : List (List ℕ)) → length xs ≤ n → Rest Comma xs part more
    → AreJson (part ∷ more) → AreElements xs (part ∷ more)
by_part n xs part more few (inl h) all =
    subst (λ z. AreElements z (part ∷ more)) (sym h.0) (subst (λ ps. AreElements part (part ∷ ps)) (sym h.1) (last_element all.0.1))
by_part zero xs part more few (inr h) all = absurd (no_room xs part h.0 h.1 h.2 few)
by_part (suc n) xs part more few (inr h) all =
    let f = first_of Comma (outside zero) h.1 in
    let later : more ≡ f.part ∷ f.more = h.4 ∙ f.is in
    let split : xs ≡ part ++ 0x2C ∷ h.1 = h.2 ∙ ap (λ x. part ++ x ∷ h.1) (eqb-true h.0 0x2C h.3) in
    subst (λ z. AreElements z (part ∷ more)) (sym split) (subst (λ ps. AreElements (part ++ 0x2C ∷ h.1) (part ∷ ps)) (sym later)
    (more_elements all.0.1 (by_part n h.1 f.part f.more (shorter n xs part h.0 h.1 h.2 few) f.rest (subst AreJson later all.1))))

pub elements_are : (xs : List ℕ) → AreJson (texts_in Comma xs) → AreElements xs (texts_in Comma xs)
elements_are xs all =
    let f = first_of Comma (outside zero) xs in
    let found : texts_in Comma xs ≡ f.part ∷ f.more = all_texts (parts Comma (outside zero) xs) ∙ f.is in
    subst (AreElements xs) (sym found) (by_part (length xs) xs f.part f.more (omega arith) f.rest (subst AreJson found all))
