-- The type that a byte names.
use Rattle.std.proofs.Common.{◌≡◌, ◌↔◌, ◌≤◌, ℕ, eqb, List, [], ◌∷◌, Option, Some, None, refl, sym, ap, ◌∙◌, inl, inr}
use Rattle.std.proofs.Common.{arith}
use Rattle.std.proofs.lemmas.Bool.{eqb-true}
use Rattle.bson_types.specs.declared.spec.ElementType.{ElementType}
use Rattle.bson_types.specs.declared.spec.ElementType.TheVariants as kind
use Rattle.bson_types.specs.ElementTags.{tag_of}
use Rattle.bson_bytes.specs.TypeTags.{type_with_tag, all_types, type_of_tag}
use Rattle.bson_bytes.proofs.PartLaws.{chosen}

named_from : (t : ℕ) (ks : List ElementType) (k : ElementType) → type_with_tag t ks ≡ Some k → tag_of k ≡ t
named_from t [] k e = absurd cc
named_from t (j ∷ ks) k e =
    elim (chosen (eqb t (tag_of j)) (Some j) (type_with_tag t ks) (Some k) e) [
      | inl y ↦ let same : j ≡ k = cc in ap tag_of (sym same) ∙ sym (eqb-true t (tag_of j) y.0)
      | inr m ↦ named_from t ks k m.1
    ]

pub kind_again : (k : ElementType) → type_of_tag (tag_of k) ≡ Some k
unfolding type_of_tag
kind_again kind.Double = refl
kind_again kind.String = refl
kind_again kind.EmbeddedDocument = refl
kind_again kind.Array = refl
kind_again kind.Binary = refl
kind_again kind.Undefined = refl
kind_again kind.ObjectId = refl
kind_again kind.Boolean = refl
kind_again kind.DateTime = refl
kind_again kind.Null = refl
kind_again kind.RegularExpression = refl
kind_again kind.DbPointer = refl
kind_again kind.JavaScriptCode = refl
kind_again kind.Symbol = refl
kind_again kind.JavaScriptCodeWithScope = refl
kind_again kind.Int32 = refl
kind_again kind.Timestamp = refl
kind_again kind.Int64 = refl
kind_again kind.Decimal128 = refl
kind_again kind.MaxKey = refl
kind_again kind.MinKey = refl

named_is : (t : ℕ) (r o : Option ElementType) → o ≡ type_of_tag t → ((k : ElementType) → (r ≡ Some k) ↔ (tag_of k ≡ t)) → ((k : ElementType) → o ≡ Some k → tag_of k ≡ t) → r ≡ o
named_is t (Some k) o e h f = sym (e ∙ ap type_of_tag (sym ((h k).0 refl)) ∙ kind_again k)
named_is t None (Some k) e h f = (h k).1 (f k refl)
named_is t None None e h f = refl

pub kind_is : (t : ℕ) (r : Option ElementType) → ((k : ElementType) → (r ≡ Some k) ↔ (tag_of k ≡ t)) → r ≡ type_of_tag t
unfolding type_of_tag
kind_is t r h = named_is t r (type_of_tag t) refl h (λ k e. named_from t all_types k e)

pub tag_from : (t : ℕ) (k : ElementType) → type_of_tag t ≡ Some k → tag_of k ≡ t
unfolding type_of_tag
tag_from t k e = named_from t all_types k e

no_high : (t : ℕ) (k : ElementType) → 20 ≤ t → (t ≡ 127 → ⊥) → (t ≡ 255 → ⊥) → tag_of k ≡ t → ⊥
no_high t kind.Double low n m e = omega (arith, low, e)
no_high t kind.String low n m e = omega (arith, low, e)
no_high t kind.EmbeddedDocument low n m e = omega (arith, low, e)
no_high t kind.Array low n m e = omega (arith, low, e)
no_high t kind.Binary low n m e = omega (arith, low, e)
no_high t kind.Undefined low n m e = omega (arith, low, e)
no_high t kind.ObjectId low n m e = omega (arith, low, e)
no_high t kind.Boolean low n m e = omega (arith, low, e)
no_high t kind.DateTime low n m e = omega (arith, low, e)
no_high t kind.Null low n m e = omega (arith, low, e)
no_high t kind.RegularExpression low n m e = omega (arith, low, e)
no_high t kind.DbPointer low n m e = omega (arith, low, e)
no_high t kind.JavaScriptCode low n m e = omega (arith, low, e)
no_high t kind.Symbol low n m e = omega (arith, low, e)
no_high t kind.JavaScriptCodeWithScope low n m e = omega (arith, low, e)
no_high t kind.Int32 low n m e = omega (arith, low, e)
no_high t kind.Timestamp low n m e = omega (arith, low, e)
no_high t kind.Int64 low n m e = omega (arith, low, e)
no_high t kind.Decimal128 low n m e = omega (arith, low, e)
no_high t kind.MaxKey low n m e = n (sym e)
no_high t kind.MinKey low n m e = m (sym e)

-- a byte above the low tags, and not one of the two high ones
pub no_kind : (t : ℕ) → 20 ≤ t → (t ≡ 127 → ⊥) → (t ≡ 255 → ⊥) → None ≡ type_of_tag t
no_kind t low n m = kind_is t None (λ k. (λ e. absurd cc, λ e. absurd (no_high t k low n m e)))
