-- Bytes that are appended in their turn.
use Rattle.std.proofs.Common.{◌≡◌, ℕ, ◌+◌, List, ◌++◌, length, drop, ap, sym, subst, ◌∙◌, ◌^◌, ◌-◌, arith, append_assoc, length-append, drop-drop}
use Rattle.std.specs.Str.{is_utf8}
use Rattle.std.proofs.Common.{IsUtf8, Bool, false, true, cond, eqb, Option, None, Some, [], ◌∷◌, refl}
use Rattle.std.specs.Prelude.{is_none, min, option_map}
use Rattle.std.proofs.lemmas.Bool.{eqb-false, false_from_ne_true, ne_eqb}
use Rattle.bson_bytes.specs.Grammar.{HasNoNulByte}
use Rattle.bson_bytes.specs.PutSteps.{has_no_nul}
use Rattle.bson_bytes.specs.Reading.{prepend_byte, split_at_nul}
use Rattle.std.proofs.lemmas.Str.{IsUtf8-from_is_utf8}
use Rattle.vbson.specs.Builder.{IsAppended, IsBuilderTooSmall, written_bytes}
use Rattle.vbson.specs.declared.builder.Builder.{Builder}

-- what follows the first i bytes is the same, so what follows more is
drop_more : (i j k : ℕ) (x y : List ℕ) → k ≡ i + j → drop i x ≡ drop i y → drop k x ≡ drop k y
drop_more i j k x y is e =
    subst (λ n. drop n x ≡ drop n y) (sym is) (sym (drop-drop j i x) ∙ ap (drop j) e ∙ drop-drop j i y)

pub both : (p q : List ℕ) (a b c : Builder) → IsAppended p a b → IsAppended q b c → IsAppended (p ++ q) a c
both p q a b c s t =
    record {
      fits = omega (arith, t.fits, s.len, s.size, length-append p q);
      written_bytes = t.written_bytes ∙ ap (λ (x : List ℕ). x ++ q) s.written_bytes ∙ append_assoc (written_bytes a) p q;
      len = omega (arith, t.len, s.len, length-append p q);
      rest_unchanged = t.rest_unchanged ∙ drop_more b.len (length q) c.len b.bytes.now a.bytes.now t.len s.rest_unchanged;
      size = t.size ∙ s.size;
    }

pub not_utf8 : (s : List ℕ) → (IsUtf8 s → ⊥) → is_utf8 s ≡ false
not_utf8 s none = false_from_ne_true (is_utf8 s) (λ h. none (IsUtf8-from_is_utf8 s h))

-- bytes that do not split at a 0 begin with none
unsplit : (b : ℕ) (k : List ℕ) (is : Bool) → is_none (cond is (Some ([], k)) (option_map (prepend_byte b) (split_at_nul k))) ≡ true
    → (is ≡ false) × (is_none (split_at_nul k) ≡ true)
unsplit b k true e = absurd cc
unsplit b k false e = (refl, kept (split_at_nul k) e)
  where
    kept : (o : Option (List ℕ × List ℕ)) → is_none (option_map (prepend_byte b) o) ≡ true → is_none o ≡ true
    kept None h = refl
    kept (Some p) h = absurd cc

no_zero : (k : List ℕ) → has_no_nul k ≡ true → HasNoNulByte k
no_zero [] e = tt
no_zero (b ∷ k) e = let parts = unsplit b k (eqb b 0) e in (eqb-false b 0 parts.0, no_zero k parts.1)

unsplit_again : (k : List ℕ) → HasNoNulByte k → split_at_nul k ≡ None
unsplit_again [] h = refl
unsplit_again (b ∷ k) h = rw (ne_eqb b 0 h.0, unsplit_again k h.1) refl

pub free_from : (k : List ℕ) → true ≡ has_no_nul k → HasNoNulByte k
free_from k e = no_zero k (sym e)

pub zero_from : (k : List ℕ) → false ≡ has_no_nul k → HasNoNulByte k → ⊥
zero_from k e free = let is : false ≡ true = e ∙ ap is_none (unsplit_again k free) in absurd cc

pub too_small : (n size : ℕ) (a b : Builder) → size ≡ min n (2 ^ 64 - 1) → IsBuilderTooSmall size a b → IsBuilderTooSmall n a b
too_small n size a b is t =
    record {
      too_short = omega (arith, is, t.too_short);
      needed = omega (arith, is, t.needed);
    }
