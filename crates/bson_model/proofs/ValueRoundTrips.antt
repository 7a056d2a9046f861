-- A value that was read comes back from its text.
use Rattle.std.proofs.Common.{◌≡◌, true, Result, Ok, Err, refl, ap, ◌∙◌}
use Rattle.std.specs.Prelude.{IfOk, is_ok}
use Rattle.serde_json.specs.Data.{Data}
use Rattle.bson_scalar.specs.TreeText.{tree_text}
use Rattle.bson_scalar.specs.Faults.{IsReadResult}
use Rattle.bson_scalar.specs.Written.{WriteFault}
use Rattle.bson_scalar.specs.declared.error.Error.{Error}
use Rattle.bson_scalar.specs.declared.form.Form.{Form}
use Rattle.bson_model.specs.Means.{MeansIn}
use Rattle.bson_model.specs.Reading.{reads_tree_in}
use Rattle.bson_model.specs.Texts.{IsTree, HasEqualTextsIn, HasTextIn, ValueRoundTripsIn}
use Rattle.bson_model.specs.Same.{same}
use Rattle.bson_model.specs.Value.{Value}
use Rattle.bson_model.specs.Normal.{normal_form, as_read_back, plain, writable_in, NumbersInRange}
use Rattle.bson_model.specs.Written.{WrittenIn}
use Rattle.bson_model.specs.Writing.{writes_value_in}
use Rattle.bson_model.proofs.MeansLaws.{means_from}
use Rattle.bson_model.proofs.NoFloats.{has_no_float}
use Rattle.bson_model.proofs.RangeLaws.{in_range}
use Rattle.bson_model.proofs.ReadBack.{reads_back_is, equal_is, same_trees, as_read_form}
use Rattle.bson_model.proofs.ReadForm.{form}
use Rattle.bson_model.proofs.SameSorted.{same_to}
use Rattle.bson_model.proofs.TextLaws.{text_back, one_tree}
use Rattle.bson_model.proofs.TreeLaws.{tree_is}
use Rattle.bson_model.proofs.WriteLaws.{canon_from, canon_to, writable_is}
use Rattle.bson_scalar.specs.declared.form.Doubles.{Doubles}

module _ (D : Doubles) where
  some_ok : (r : Result Data WriteFault) → is_ok r ≡ true → (u : Data) × (r ≡ Ok u)
  some_ok (Ok u) h = (u, refl)
  some_ok (Err e) h = cc

  -- a writable value has a tree
  tree_of : (f : Form) (v : Value) → writable_in D v ≡ true → (u : Data) × (writes_value_in D f v ≡ Ok u)
  tree_of f v h = some_ok (writes_value_in D f v) (writable_is D f v ∙ h)

  pub has_tree : (f : Form) (v : Value) → writable_in D v ≡ true → (t : Data) × WrittenIn D f (normal_form v) t
  has_tree f v h = let t = tree_of f v h in (t.0, canon_from D f v t.0 t.1)

  -- the value that a tree of v means has that tree
  same_tree : (f : Form) (v : Value) (u : Data) (w : Value) → writes_value_in D f v ≡ Ok u → MeansIn D u w
      → same w (as_read_back f (normal_form v)) ≡ true → WrittenIn D f (normal_form w) u
  same_tree f v u w h m is =
      let own = tree_of f w (form D m).1 in
      let one : own.0 ≡ u =
      same_trees D f w (as_read_back f (normal_form v)) own.0 u own.1 (as_read_form D f v u h)
      (same_to w (as_read_back f (normal_form v)) is) in
      canon_from D f w u (own.1 ∙ ap Ok one)

  equal_texts : (f : Form) (v : Value) (u : Data) (w : Value) (x : Data) → writes_value_in D f v ≡ Ok u → plain v ≡ true → NumbersInRange v
      → HasEqualTextsIn D f v u w x
  equal_texts f v u w x h p r q s c =
      let g = canon_to D f w x c in
      let trees = equal_is D f v u w x h r p q s c in (
        λ e. trees.0 (one_tree D f u x (has_no_float D f v u h) (tree_is D f v u h r) (has_no_float D f w x g)
            (tree_is D f w x g s) e),
        λ e. ap (tree_text D f) (trees.1 e),
      )

  pub has_text : (f : Form) (v : Value) (u : Data) → writes_value_in D f v ≡ Ok u → plain v ≡ true → NumbersInRange v → HasTextIn D f v u
  has_text f v u h p r = record {
    written = canon_from D f v u h;
    is_tree = tree_is D f v u h r;
    read_again = text_back D f u (has_no_float D f v u h) (tree_is D f v u h r);
    means = let b = reads_back_is D f v u h r p in (b.0, b.1, b.2, same_tree f v u b.0 h b.1 b.2);
    equal_texts = λ w x. equal_texts f v u w x h p r;
  }

  pub comes_back : (v : Value) → plain v ≡ true → writable_in D v ≡ true → NumbersInRange v → ValueRoundTripsIn D v
  comes_back v p w r f = let t = tree_of f v w in (t.0, has_text f v t.0 t.1 p r)

  -- what a tree means comes back
  pub read_comes_back : (t : Data) (v : Value) → IsTree t → MeansIn D t v → ValueRoundTripsIn D v
  read_comes_back t v is m = let f = form D m in comes_back v f.0 f.1 (in_range D m is)

  -- what a reader gave comes back
  pub read_back_ok : {X : Type 0} (see : X → Value) (t : Data) (r : Result X Error) → IsReadResult see r (reads_tree_in D t)
      → IfOk r (λ v. NumbersInRange (see v)) → IfOk r (λ v. ValueRoundTripsIn D (see v))
  read_back_ok see t (Ok x) h within_type_range = let f = form D (means_from D t (see x) h) in comes_back (see x) f.0 f.1 within_type_range
  read_back_ok see t (Err e) h within_type_range = tt
