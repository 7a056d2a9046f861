-- Texts one after another, with a separator between them.
use Rattle.std.proofs.Common.{◌≡◌, ℕ, zero, suc, ◌+◌, ◌<◌, ◌≤◌, ◌==◌, List, [], ◌∷◌, ◌++◌, length, map, take, get_or}
use Rattle.std.proofs.Common.{slice_get, Some, cond, refl, sym, ap, ◌∙◌, append_assoc, append-nil, arith}
use Rattle.std.proofs.lemmas.Bool.{ne_eqb}
use Rattle.std.proofs.lemmas.Grind.{flat_map-append, put_three}
use Rattle.std.proofs.lemmas.List.{take_all, take_more}
use Rattle.std.proofs.lemmas.List.Folds.{flat_map-map}
use Rattle.std.specs.Fmt.{HasWritten, IsPlainFormatter}
use Rattle.std.specs.List.{flat_map, join_by}
use Rattle.std.specs.declared.fmt.Formatter.{Formatter}
use Rattle.bson_model.specs.Displayed.{bracketed_text}

module _ {X : Type 0} where
  join_by-map : (f : X → List ℕ) (sep : List ℕ) (xs : List X) → join_by (λ t. t) sep (map f xs) ≡ join_by f sep xs
  join_by-map f sep [] = refl
  join_by-map f sep (x ∷ xs) = ap (λ l. f x ++ l) (flat_map-map (λ t. sep ++ t) f xs)

  -- what precedes the text that follows these
  between : List ℕ → List X → List ℕ
  between sep [] = []
  between sep (x ∷ xs) = sep

  join_last : (f : X → List ℕ) (sep : List ℕ) (xs : List X) (x : X)
      → join_by f sep (xs ++ x ∷ []) ≡ join_by f sep xs ++ (between sep xs ++ f x)
  unfolding between
  join_last f sep [] x = append-nil (f x)
  join_last f sep (y ∷ ys) x =
      ap (λ l. f y ++ l) (flat_map-append (λ z. sep ++ f z) ys (x ∷ [])
      ∙ ap (λ l. flat_map (λ z. sep ++ f z) ys ++ l) (append-nil (sep ++ f x)))
      ∙ sym (append_assoc (f y) (flat_map (λ z. sep ++ f z) ys) (sep ++ f x))

  between-take : (sep : List ℕ) (xs : List X) (i : ℕ) → i < length xs → between sep (take i xs) ≡ cond (i == 0) [] sep
  unfolding between
  between-take sep [] i h = absurd (omega arith)
  between-take sep (x ∷ xs) zero h = refl
  between-take sep (x ∷ xs) (suc i) h = ap (λ b. cond b [] sep) (sym (ne_eqb (suc i) 0 (λ e. omega (arith, e))))

  pub at_get : (xs : List X) (i : ℕ) (x : X) → slice_get xs i ≡ Some x → x ≡ get_or xs i x
  at_get [] i x e = cc
  at_get (y ∷ ys) zero x e = cc
  at_get (y ∷ ys) (suc i) x e = at_get ys i x e

  -- the text of one element more
  pub join_more : (f : X → List ℕ) (sep : List ℕ) (xs : List X) (i : ℕ) (x : X) → i < length xs → x ≡ get_or xs i x
      → join_by f sep (take i xs) ++ (cond (i == 0) [] sep ++ f x) ≡ join_by f sep (take (i + 1) xs)
  join_more f sep xs i x h is =
      ap (λ s. join_by f sep (take i xs) ++ (s ++ f x)) (sym (between-take sep xs i h))
      ∙ sym (join_last f sep (take i xs) x)
      ∙ ap (λ y. join_by f sep (take i xs ++ y ∷ [])) is ∙ ap (join_by f sep) (sym (take_more xs i x h))

  enclosed_some : (f : X → List ℕ) (empty opening sep closing : List ℕ) (xs : List X) → 0 < length xs
      → opening ++ (join_by f sep xs ++ closing) ≡ bracketed_text empty opening sep closing (map f xs)
  enclosed_some f empty opening sep closing [] h = absurd (omega arith)
  enclosed_some f empty opening sep closing (x ∷ xs) h =
      ap (λ l. opening ++ (l ++ closing)) (sym (join_by-map f sep (x ∷ xs)))

  -- the whole text, where none is left
  pub enclosed_all : (f : X → List ℕ) (empty opening sep closing : List ℕ) (xs : List X) (i : ℕ) (texts : List (List ℕ))
      → texts ≡ map f xs → 0 < length xs → length xs ≤ i
      → opening ++ (join_by f sep (take i xs) ++ closing) ≡ bracketed_text empty opening sep closing texts
  enclosed_all f empty opening sep closing xs i texts is some all =
      ap (λ l. opening ++ (join_by f sep l ++ closing)) (take_all i xs all)
      ∙ enclosed_some f empty opening sep closing xs some ∙ ap (bracketed_text empty opening sep closing) (sym is)

-- a text to which three are appended in turn
pub appended : (o m a b s t u : List ℕ) → s ≡ o ++ m → t ≡ s ++ a → u ≡ t ++ b → u ≡ o ++ (m ++ (a ++ b))
appended o m a b s t u p q r = r ∙ ap (λ l. l ++ b) (q ∙ ap (λ l. l ++ a) p) ∙ append_assoc (o ++ m) a b
    ∙ append_assoc o m (a ++ b)

-- the same of three writings to a plain formatter
pub written : {W : Type 0} (took : W → List ℕ → W → Type 0) (f g h i : Formatter W) (a b c all : List ℕ)
    → (IsPlainFormatter f → HasWritten took f a g) → (IsPlainFormatter g → HasWritten took g b h)
    → (IsPlainFormatter h → HasWritten took h c i) → a ++ (b ++ c) ≡ all → IsPlainFormatter f → HasWritten took f all i
written took f g h i a b c all p q r is plain =
    let first = p plain in
    let second = q first.plain in
    put_three took f g h i a b c all first second (r second.plain) is
