-- A text whose tree in order means a value means it, and by default the same value sorted.
use Rattle.std.proofs.Common.{◌≡◌, ℕ, List, Some, Ok, option_map, sym, ap, ◌∙◌, subst}
use Rattle.serde_json.specs.Data.{Data}
use Rattle.bson_scalar.specs.declared.form.Doubles.{Doubles}
use Rattle.bson_model.specs.Means.{MeansIn}
use Rattle.bson_model.specs.Sorted.{sorted}
use Rattle.bson_model.specs.Value.{Value}
use Rattle.bson_model.proofs.Offered.{means_to_in, value_read_in}
use Rattle.bson_model.specs.OrderedTrees.{read_in_order, tree_sorted_by_key}
use Rattle.bson_model.specs.OrderedMeans.{MeansInOrder}
use Rattle.bson_model.specs.OrderedTexts.{HasMeaningInOrder, MeansByDefault}
use Rattle.bson_model.proofs.Forgets.{forgets}
use Rattle.bson_model.proofs.Forgetting.{read_forgotten}
use Rattle.bson_model.proofs.KeptTrees.{read_is_kept}
use Rattle.bson_model.proofs.OrderedMeansLaws.{meant_in_order, one_in_order}
use Rattle.bson_model.proofs.OptionalValues.{mapped}
use Rattle.bson_model.proofs.OrderedReadForm.{form, in_range, distinct}

module _ (D : Doubles) where
  default_meaning : (text : List ℕ) (t : Data) (v : Value) → read_in_order text ≡ Some t → MeansInOrder D t v
      → MeansByDefault D text (sorted v)
  default_meaning text t v h m =
      let of = value_read_in D (λ w. w) (tree_sorted_by_key t) (Ok (sorted v)) (means_to_in D (forgets D m)) in
      (tree_sorted_by_key t, read_forgotten text ∙ ap (option_map tree_sorted_by_key) h, of.ok)

  pub text_means : (text : List ℕ) (t : Data) (v : Value) → read_in_order text ≡ Some t → MeansInOrder D t v
      → HasMeaningInOrder D text v
  text_means text t v h m =
      let is = read_is_kept text t h in
      record {
        tree = t;
        tree_read = h;
        means = m;
        one = λ w n. one_in_order D t w v is n m;
        read_form = form D m;
        within_type_range = in_range D m is;
        distinct = distinct D m is;
        by_default = default_meaning text t v h m;
      }

  -- ---- what has a meaning by default has one in order

  pub meant_by_text : (text : List ℕ) (w : Value) → MeansByDefault D text w
      → (v : Value) × HasMeaningInOrder D text v × (sorted v ≡ w)
  meant_by_text text w m =
      let it = mapped tree_sorted_by_key (read_in_order text) m.0 (sym (read_forgotten text) ∙ m.1) in
      let meant = meant_in_order D it.0 w (read_is_kept text it.0 it.1)
      (subst (λ u. MeansIn D u w) (sym it.2) m.2.means) in
      (meant.0, text_means text it.0 meant.0 it.1 meant.1, meant.2)
