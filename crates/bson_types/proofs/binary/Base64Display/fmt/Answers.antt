use Rattle.std.proofs.Common.{◌≡◌, ℕ, List, [], ◌∷◌, ◌++◌, arith, length, refl, sym, ◌∙◌, append_assoc}
use Rattle.std.proofs.lemmas.List.{take-append-drop}
use Rattle.std.proofs.Output.{has_written_append, has_written_of_eq}
use Rattle.bson_types.specs.Base64.{padded_base64}
use Rattle.bson_types.proofs.binary.Base64Display.fmt.Goals as goal

-- a text is that of its first three bytes and that of the rest
cut : (all front back : List ℕ) → all ≡ front ++ back → length front ≡ 3
    → padded_base64 all ≡ padded_base64 front ++ padded_base64 back
cut all front back e three = rw e (after-three front back three)
  where
    after-three : (front back : List ℕ) → length front ≡ 3
        → padded_base64 (front ++ back) ≡ padded_base64 front ++ padded_base64 back
    after-three [] back three = absurd cc
    after-three (a ∷ []) back three = absurd cc
    after-three (a ∷ b ∷ []) back three = absurd cc
    after-three (a ∷ b ∷ c ∷ []) back three = refl
    after-three (a ∷ b ∷ c ∷ d ∷ remaining_bytes) back three = absurd (omega arith)

pub groups-preserved : goal.groups-preserved
groups-preserved g c = λ p.
    let inv = c.groups.invariant p in
    let wrote = c.in_ok-write_str.ensures.writes inv.1.plain refl in
    let whole : c.groups.remaining_bytes.now ≡ c.split_at.result.0.now ++ c.split_at.result.1.now =
    rw (c.split_at.ensures.front, c.split_at.ensures.back) (sym (take-append-drop 3 c.groups.remaining_bytes.now)) in
    let parts = cut c.groups.remaining_bytes.now c.split_at.result.0.now c.split_at.result.1.now whole
    c.split_at.ensures.front_len in
    let text = rw (parts, ← c.base64_group_text.ensures) at inv.2 in (
      inv.0 ++ c.base64_group_text.result.now,
      has_written_append _ _ _ _ _ _ inv.1 wrote,
      append_assoc inv.0 c.base64_group_text.result.now (padded_base64 c.split_at.result.1.now) ∙ text,
    )

pub returns-clause-writes : goal.returns-clause-writes
returns-clause-writes g c = λ p ok.
    let inv = c.groups.invariant p in
    let wrote = c.write_str-2.ensures.writes inv.1.plain ok in
    let text = rw (← c.base64_group_text-2.ensures) at inv.2 in
    has_written_of_eq _ _ _ _ _ text (has_written_append _ _ _ _ _ _ inv.1 wrote)
