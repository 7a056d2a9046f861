-- Bytes that have a meaning are not refused, and what they mean is in range and comes back.
use Rattle.std.proofs.Common.{◌≡◌, ℕ, List, Result, Ok, Err, Some, None, IfOk, IfErr, refl, subst}
use Rattle.serde_json.specs.Data.{Data}
use Rattle.serde_json.specs.Read.{read}
use Rattle.bson_scalar.specs.declared.form.Doubles.{Doubles}
use Rattle.bson_model.specs.Means.{MeansIn}
use Rattle.bson_model.specs.Normal.{NumbersInRange}
use Rattle.bson_model.specs.Texts.{ValueRoundTripsIn}
use Rattle.bson_model.specs.Value.{Value}
use Rattle.bson_model.proofs.Offered.{in_range_in, read_comes_back_in, read_tree, tree_one}
use Rattle.bson.specs.TextMeaning.{IsTextOf, HasTextMeaningIn, IsTextFaultIn}
use Rattle.bson.specs.declared.extjson.text_error.TextError.{TextError}
use Rattle.bson.specs.declared.extjson.text_error.TextError.TheVariants.{NotJson, NotExtendedJson, OutOfMemory}

module _ (D : Doubles) where
  memory_alone : (bytes : List ℕ) (t : Data) (v : Value) → IsTextOf bytes t → MeansIn D t v → (e : TextError)
      → IsTextFaultIn D bytes e → e ≡ OutOfMemory
  memory_alone bytes t v is m OutOfMemory f = refl
  memory_alone bytes t v is m NotJson f =
      let none : read bytes ≡ None = f is.utf8 in let some : read bytes ≡ Some t = is.tree_read in cc
  memory_alone bytes t v is m (NotExtendedJson place) f =
      absurd (f.2.nothing v (subst (λ u. MeansIn D u v) (tree_one bytes t f.0 is f.1) m))

  pub accepted : {X : Type 0} (bytes : List ℕ) (r : Result X TextError) → IfErr r (λ e. IsTextFaultIn D bytes e)
      → (t : Data) (v : Value) → IsTextOf bytes t → MeansIn D t v → IfErr r (λ e. e ≡ OutOfMemory)
  accepted bytes (Ok x) f t v is m = tt
  accepted bytes (Err e) f t v is m = memory_alone bytes t v is m e f

  pub came_back : {X E : Type 0} (see : X → Value) (bytes : List ℕ) (r : Result X E)
      → IfOk r (λ x. HasTextMeaningIn D bytes (see x)) → IfOk r (λ x. ValueRoundTripsIn D (see x))
  came_back see bytes (Ok x) h = read_comes_back_in D h.tree (see x) (read_tree bytes h.tree h.text.tree_read)
      h.meaning.means
  came_back see bytes (Err e) h = tt

  pub is_ranged : {X E : Type 0} (see : X → Value) (bytes : List ℕ) (r : Result X E)
      → IfOk r (λ x. HasTextMeaningIn D bytes (see x)) → IfOk r (λ x. NumbersInRange (see x))
  is_ranged see bytes (Ok x) h = in_range_in D h.meaning.means (read_tree bytes h.tree h.text.tree_read)
  is_ranged see bytes (Err e) h = tt
