-- The tree of a scalar with its order forgotten, and that each of its objects has each key once.
use Rattle.std.proofs.Common.{◌≡◌, ◌<◌, ◌^◌, ℕ, List, Bool, true, false, refl, sym, ap, ◌∙◌, subst, arith}
use Rattle.std.specs.Prelude.{codes}
use Rattle.serde_json.specs.Data.{Data, member, no_members}
use Rattle.serde_json.specs.Data as tree
use Rattle.bson_types.specs.Regex.{sorted_regex_options}
use Rattle.bson_scalar.specs.Forms.{is_mongodb}
use Rattle.bson_scalar.specs.Ids.{oid_tree, pointer_tree}
use Rattle.bson_scalar.specs.Normal.{normal_scalar}
use Rattle.bson_scalar.specs.OrderedScalars.{WrittenScalarInOrder, pair_object}
use Rattle.bson_scalar.specs.Regexes.{regex_tree}
use Rattle.bson_scalar.specs.Scalar.{Scalar, db_pointer, regex, timestamp}
use Rattle.bson_scalar.specs.Table.{key_of}
use Rattle.bson_scalar.specs.Timestamps.{timestamp_tree}
use Rattle.bson_scalar.specs.TreeParts.{natural, one_key_object}
use Rattle.bson_scalar.specs.Written.{WrittenScalarIn}
use Rattle.bson_scalar.specs.declared.form.Doubles.{Doubles}
use Rattle.bson_scalar.specs.declared.form.Form.{Form}
use Rattle.bson_scalar.specs.declared.wrapper.Wrapper.TheVariants.{DbPointer, RegularExpression, Timestamp}
use Rattle.bson_model.specs.Normal.{NumbersInRange}
use Rattle.bson_model.specs.OrderedTrees.{IsTreeInOrder, has_key, tree_sorted_by_key}
use Rattle.bson_model.specs.Value.{scalar}
use Rattle.bson_model.proofs.Scalars.{is_tree}
use Rattle.bson_model.proofs.Settled.{settled, tree_kept}

-- two keys of a wrapper, as they are or the other way round
regex_sorted : (b : Bool) (p o : List ℕ) → tree_sorted_by_key (one_key_object (key_of RegularExpression)
    (pair_object b (codes "options") (tree.string o) (codes "pattern") (tree.string p))) ≡ regex_tree p o
regex_sorted true p o = refl
regex_sorted false p o = refl

timestamp_sorted : (b : Bool) (s i : ℕ) → tree_sorted_by_key (one_key_object (key_of Timestamp)
    (pair_object b (codes "i") (natural i) (codes "t") (natural s))) ≡ timestamp_tree s i
timestamp_sorted true s i = refl
timestamp_sorted false s i = refl

pointer_sorted : (b : Bool) (s id : List ℕ) → tree_sorted_by_key (one_key_object (key_of DbPointer)
    (pair_object b (codes "$id") (oid_tree id) (codes "$ref") (tree.string s))) ≡ pointer_tree s id
pointer_sorted true s id = refl
pointer_sorted false s id = refl

pair_kept : (b : Bool) (k l : List ℕ) (t u : Data) → has_key k (member l u no_members) ≡ false
    → has_key l (member k t no_members) ≡ false → IsTreeInOrder t → IsTreeInOrder u → IsTreeInOrder (pair_object b k t l u)
pair_kept true k l t u p q x y = ((q, (refl, tt)), (y, (x, tt)))
pair_kept false k l t u p q x y = ((p, (refl, tt)), (x, (y, tt)))

module _ (D : Doubles) (f : Form) where
  plain_sorted : (x : Scalar) (t : Data) → WrittenScalarIn D f (normal_scalar x) t → NumbersInRange (scalar x)
      → WrittenScalarIn D f (normal_scalar x) (tree_sorted_by_key t)
  plain_sorted x t h r = subst (WrittenScalarIn D f (normal_scalar x)) (sym (settled t (is_tree D f x t h r))) h

  pub scalar_sorted : (x : Scalar) (t : Data) → WrittenScalarInOrder D f (normal_scalar x) t → NumbersInRange (scalar x)
      → WrittenScalarIn D f (normal_scalar x) (tree_sorted_by_key t)
  scalar_sorted (regex p o) t h r = ap tree_sorted_by_key h ∙ regex_sorted (is_mongodb f) p (sorted_regex_options o)
  scalar_sorted (timestamp s i) t h r = ap tree_sorted_by_key h ∙ timestamp_sorted (is_mongodb f) s i
  scalar_sorted (db_pointer s id) t h r = ap tree_sorted_by_key h ∙ pointer_sorted (is_mongodb f) s id
  scalar_sorted x t h r = plain_sorted x t h r

  plain_kept : (x : Scalar) (t : Data) → WrittenScalarIn D f (normal_scalar x) t → NumbersInRange (scalar x) → IsTreeInOrder t
  plain_kept x t h r = tree_kept t (is_tree D f x t h r)

  pub scalar_kept : (x : Scalar) (t : Data) → WrittenScalarInOrder D f (normal_scalar x) t → NumbersInRange (scalar x)
      → IsTreeInOrder t
  scalar_kept (regex p o) t h r =
      subst IsTreeInOrder (sym h) ((refl, tt), (pair_kept (is_mongodb f) _ _ _ _ refl refl tt tt, tt))
  scalar_kept (timestamp s i) t h r =
      let a : s < 2 ^ 32 = r.0 in
      let b : i < 2 ^ 32 = r.1 in
      subst IsTreeInOrder (sym h)
      ((refl, tt), (pair_kept (is_mongodb f) _ _ (natural i) (natural s) refl refl (omega arith) (omega arith), tt))
  scalar_kept (db_pointer s id) t h r =
      subst IsTreeInOrder (sym h)
      ((refl, tt), (pair_kept (is_mongodb f) _ _ (oid_tree id) (tree.string s) refl refl ((refl, tt), (tt, tt)) tt, tt))
  scalar_kept x t h r = plain_kept x t h r
