use Rattle.std.proofs.Common.{◌≡◌, ◌<◌, ◌⊎◌, ℕ, inl, inr, arith, sym, ap, ◌∙◌}
use Rattle.bson_types.specs.IgnoredBits.{ignored_bits}
use Rattle.bson_types.proofs.ClearedBits.{cleared_bytes-zero}
use Rattle.bson_types.proofs.packed_bits.PackedBitVector.with_cleared_bits.Goals as goal

-- the third cause falls away where the ignored bits are zero, and the second speaks of as many bytes
two_left : (P : Type 0) (padding len len_before bits : ℕ) → len ≡ len_before → bits ≡ 0
    → (P → (7 < padding) ⊎ ((len ≡ 0) × (0 < padding)) ⊎ (0 < bits))
    × ((7 < padding) ⊎ ((len ≡ 0) × (0 < padding)) ⊎ (0 < bits) → P)
    → (P → (7 < padding) ⊎ ((len_before ≡ 0) × (0 < padding)))
    × ((7 < padding) ⊎ ((len_before ≡ 0) × (0 < padding)) → P)
two_left P padding len len_before bits same zero h = (
  λ p. elim (h.0 p) [
    | inl wide ↦ inl wide
    | inr (inl none) ↦ inr (sym same ∙ none.0, none.1)
    | inr (inr set) ↦ absurd (omega arith)
  ],
  λ w. elim w [
    | inl wide ↦ h.1 (inl wide)
    | inr none ↦ h.1 (inr (inl (same ∙ none.0, none.1)))
  ],
)

pub returns-clause-refused : goal.returns-clause-refused
returns-clause-refused c =
    let bits = c.with_zero_bits in
    let zero : ignored_bits bits.result.items c.args.padding ≡ 0 =
    ap (λ bytes. ignored_bits bytes c.args.padding) bits.ensures.items
    ∙ cleared_bytes-zero c.args.bytes.items c.args.padding in
    two_left _ c.args.padding _ _ _ bits.ensures.len zero c.new.ensures.refused
