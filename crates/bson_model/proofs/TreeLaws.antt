-- What is written is a tree that `serde_json` has.
use Rattle.std.proofs.Common.{◌≡◌, ◌<◌, ◌^◌, ℕ, ℤ, pos, negsuc, List, Bool, true, false, Ok, Ordering, Less, Equal}
use Rattle.std.proofs.Common.{Greater, refl, sym, subst, arith, w32, w64, inl, inr}
use Rattle.std.specs.Prelude.{FitsSigned, codes}
use Rattle.std.specs.Ordering.{match_ordering}
use Rattle.std.proofs.lemmas.Cmp.{nat_list_cmp_total}
use lib.Signed.{mag}
use Rattle.serde_json.specs.Data.{Data, Items, no_items, item, Members, no_members, member, put}
use Rattle.serde_json.specs.Data as tree
use Rattle.serde_json.specs.Find.{of_integer}
use Rattle.bson_scalar.specs.Dates.{is_in_years_1970_to_9999, relaxed_date_tree}
use Rattle.bson_scalar.specs.Normal.{ScalarInRange}
use Rattle.bson_scalar.specs.Scalar.{Scalar, null, undefined, min_key, max_key, boolean, double, int32, int64, text}
use Rattle.bson_scalar.specs.Scalar.{symbol, code, regex, timestamp, binary, object_id, date, decimal, db_pointer}
use Rattle.bson_scalar.specs.TreeParts.{two_key_object}
use Rattle.bson_scalar.specs.Written.{writes_scalar_in, int32_form, int64_form, date_form}
use Rattle.bson_scalar.specs.declared.form.Form.{Form}
use Rattle.bson_scalar.specs.declared.form.Form.TheVariants.{Canonical, MongoDbCanonical, MongoDbRelaxed, Relaxed}
use Rattle.bson_scalar.proofs.Offered.{IsDoubleTree, double_tree_of, pattern_is_double}
use Rattle.bson_model.specs.Texts.{IsBelowMemberKeys, MemberKeysAscend, IsTree, ItemsAreTrees, MembersAreTrees}
use Rattle.bson_model.specs.Value.{Value, scalar, code_scope, array, document, Values, no_values, value, Pairs}
use Rattle.bson_model.specs.Value.{no_pairs, pair}
use Rattle.bson_model.specs.Normal.{NumbersInRange, ItemsInRange, PairsInRange}
use Rattle.bson_model.specs.Writing.{writes_value_in, writes_items_in, writes_pairs_in}
use Rattle.bson_model.proofs.PutSwap.{cmp, flipped}
use Rattle.bson_model.proofs.Binds.{bind_ok, un_ok}
use Rattle.bson_scalar.specs.declared.form.Doubles.{Doubles}

-- ---- a map stays one

below_more : (k l : List ℕ) (ms : Members) → cmp k l ≡ Less → IsBelowMemberKeys l ms → IsBelowMemberKeys k ms
below_more k l no_members h b = tt
below_more k l (member a d ms) h b = (nat_list_cmp_total.trans k l a h b.0, below_more k l ms h b.1)

below_put_at : (o : Ordering) (q k l : List ℕ) (d e : Data) (ms : Members) → cmp q k ≡ Less → cmp q l ≡ Less
    → IsBelowMemberKeys q ms → IsBelowMemberKeys q (put k d ms)
    → IsBelowMemberKeys q (match_ordering o (member k d (member l e ms)) (member l d ms) (member l e (put k d ms)))
below_put_at Less q k l d e ms a b h is = (a, (b, h))
below_put_at Equal q k l d e ms a b h is = (b, h)
below_put_at Greater q k l d e ms a b h is = (b, is)

below_put : (q k : List ℕ) (d : Data) (ms : Members) → cmp q k ≡ Less → IsBelowMemberKeys q ms → IsBelowMemberKeys q (put k d ms)
below_put q k d no_members a h = (a, tt)
below_put q k d (member l e ms) a h = below_put_at (cmp k l) q k l d e ms a h.0 h.1 (below_put q k d ms a h.1)

ascends_put_at : (o : Ordering) (k l : List ℕ) (d e : Data) (ms : Members) → cmp k l ≡ o → IsBelowMemberKeys l ms → MemberKeysAscend ms
    → MemberKeysAscend (put k d ms)
    → MemberKeysAscend (match_ordering o (member k d (member l e ms)) (member l d ms) (member l e (put k d ms)))
ascends_put_at Less k l d e ms c b h is = ((c, below_more k l ms c b), (b, h))
ascends_put_at Equal k l d e ms c b h is = (b, h)
ascends_put_at Greater k l d e ms c b h is = (below_put l k d ms (flipped k l Greater c) b, is)

pub ascends_put : (k : List ℕ) (d : Data) (ms : Members) → MemberKeysAscend ms → MemberKeysAscend (put k d ms)
ascends_put k d no_members h = (tt, tt)
ascends_put k d (member l e ms) h = ascends_put_at _ k l d e ms refl h.0 h.1 (ascends_put k d ms h.1)

trees_put_at : (o : Ordering) (k l : List ℕ) (d e : Data) (ms : Members) → IsTree d → IsTree e → MembersAreTrees ms
    → MembersAreTrees (put k d ms)
    → MembersAreTrees (match_ordering o (member k d (member l e ms)) (member l d ms) (member l e (put k d ms)))
trees_put_at Less k l d e ms a b h is = (a, (b, h))
trees_put_at Equal k l d e ms a b h is = (a, h)
trees_put_at Greater k l d e ms a b h is = (b, is)

pub trees_put : (k : List ℕ) (d : Data) (ms : Members) → IsTree d → MembersAreTrees ms → MembersAreTrees (put k d ms)
trees_put k d no_members a h = (a, tt)
trees_put k d (member l e ms) a h = trees_put_at (cmp k l) k l d e ms a h.0 h.1 (trees_put k d ms a h.1)

-- ---- scalars

two_is : (k l : List ℕ) (d e : Data) → cmp k l ≡ Less → IsTree d → IsTree e → IsTree (two_key_object k d l e)
two_is k l d e c h g = (((c, tt), (tt, tt)), (h, (g, tt)))

whole_is : (z : ℤ) → mag z < 2 ^ 63 → IsTree (tree.number (of_integer z))
whole_is (pos n) h = omega arith
whole_is (negsuc n) h = h

int32_is : (f : Form) (z : ℤ) → FitsSigned w32 z → IsTree (int32_form f z)
int32_is Canonical z r = ((tt, tt), (tt, tt))
int32_is Relaxed z r = whole_is z (let small : mag z < 2 ^ 31 = r.sfits in omega arith)
int32_is MongoDbCanonical z r = ((tt, tt), (tt, tt))
int32_is MongoDbRelaxed z r = whole_is z (let small : mag z < 2 ^ 31 = r.sfits in omega arith)

int64_is : (f : Form) (z : ℤ) → FitsSigned w64 z → IsTree (int64_form f z)
int64_is Canonical z r = ((tt, tt), (tt, tt))
int64_is Relaxed z r = whole_is z r.sfits
int64_is MongoDbCanonical z r = ((tt, tt), (tt, tt))
int64_is MongoDbRelaxed z r = whole_is z r.sfits

long_date_is : (z : ℤ) → IsTree (date_form Canonical z)
long_date_is z = ((tt, tt), (((tt, tt), (tt, tt)), tt))

recent_is : (s : List ℕ) (b : Bool) (z : ℤ) → is_in_years_1970_to_9999 z ≡ b → IsTree (relaxed_date_tree s z)
recent_is s true z e = rw e ((tt, tt), (tt, tt))
recent_is s false z e = rw e (long_date_is z)

date_is : (f : Form) (z : ℤ) → IsTree (date_form f z)
date_is Canonical z = long_date_is z
date_is Relaxed z = recent_is _ _ z refl
date_is MongoDbCanonical z = long_date_is z
date_is MongoDbRelaxed z = recent_is _ _ z refl

double_is : (D : Doubles) (f : Form) (p : ℕ) (t : Data) → p < 2 ^ 64 → IsDoubleTree D f p t → IsTree t
double_is D f p t r (inl (s, has, is)) = rw is ((tt, tt), (tt, tt))
double_is D f p t r (inr (finite_doubles, relaxed, finite, is)) = rw is (pattern_is_double p r finite)

module _ (D : Doubles) where
  scalar_is : (f : Form) (x : Scalar) (t : Data) → writes_scalar_in D f x ≡ Ok t → ScalarInRange x → IsTree t
  scalar_is f null t h r = rw (un_ok _ _ h) tt
  scalar_is f undefined t h r = rw (un_ok _ _ h) ((tt, tt), (tt, tt))
  scalar_is f min_key t h r = rw (un_ok _ _ h) ((tt, tt), (omega arith, tt))
  scalar_is f max_key t h r = rw (un_ok _ _ h) ((tt, tt), (omega arith, tt))
  scalar_is f (boolean b) t h r = rw (un_ok _ _ h) tt
  scalar_is f (double p) t h r = double_is D f p t r (double_tree_of D f p t h)
  scalar_is f (int32 z) t h r = rw (un_ok _ _ h) (int32_is f z r)
  scalar_is f (int64 z) t h r = rw (un_ok _ _ h) (int64_is f z r)
  scalar_is f (text s) t h r = rw (un_ok _ _ h) tt
  scalar_is f (symbol s) t h r = rw (un_ok _ _ h) ((tt, tt), (tt, tt))
  scalar_is f (code s) t h r = rw (un_ok _ _ h) ((tt, tt), (tt, tt))
  scalar_is f (regex p o) t h r = rw (un_ok _ _ h) ((tt, tt), ((((refl, tt), (tt, tt)), (tt, (tt, tt))), tt))
  scalar_is f (timestamp s i) t h r =
      let a : s < 2 ^ 32 = r.0 in
      let b : i < 2 ^ 32 = r.1 in
      rw (un_ok _ _ h) ((tt, tt), ((((refl, tt), (tt, tt)), (omega arith, (omega arith, tt))), tt))
  scalar_is f (binary k bytes) t h r = rw (un_ok _ _ h) ((tt, tt), ((((refl, tt), (tt, tt)), (tt, (tt, tt))), tt))
  scalar_is f (object_id id) t h r = rw (un_ok _ _ h) ((tt, tt), (tt, tt))
  scalar_is f (date z) t h r = rw (un_ok _ _ h) (date_is f z)
  scalar_is f (decimal b) t h r = rw (un_ok _ _ h) ((tt, tt), (tt, tt))
  scalar_is f (db_pointer s id) t h r =
      rw (un_ok _ _ h) ((tt, tt), ((((refl, tt), (tt, tt)), (((tt, tt), (tt, tt)), (tt, tt))), tt))

  -- ---- values

  mutual
    pub tree_is : (f : Form) (v : Value) (t : Data) → writes_value_in D f v ≡ Ok t → NumbersInRange v → IsTree t
    tree_is f (scalar x) t h r = scalar_is f x t h r
    tree_is f (code_scope s ps) t h r =
        let b = bind_ok (writes_pairs_in D f ps) _ t h in
        rw (un_ok _ _ b.2)
        (two_is (codes "$code") (codes "$scope") (tree.string s) (tree.object b.0) refl tt (pairs_are f ps b.0 b.1 r))
    tree_is f (array vs) t h r =
        let b = bind_ok (writes_items_in D f vs) _ t h in rw (un_ok _ _ b.2) (items_are f vs b.0 b.1 r)
    tree_is f (document ps) t h r =
        let b = bind_ok (writes_pairs_in D f ps) _ t h in rw (un_ok _ _ b.2) (pairs_are f ps b.0 b.1 r)

    items_are : (f : Form) (vs : Values) (ds : Items) → writes_items_in D f vs ≡ Ok ds → ItemsInRange vs → ItemsAreTrees ds
    items_are f no_values ds h r = rw (un_ok _ _ h) tt
    items_are f (value v vs) ds h r =
        let b = bind_ok (writes_value_in D f v) _ ds h in
        let c = bind_ok (writes_items_in D f vs) _ ds b.2 in
        rw (un_ok _ _ c.2) (tree_is f v b.0 b.1 r.0, items_are f vs c.0 c.1 r.1)

    pairs_are : (f : Form) (ps : Pairs) (ms : Members) → writes_pairs_in D f ps ≡ Ok ms → PairsInRange ps
        → MemberKeysAscend ms × MembersAreTrees ms
    pairs_are f no_pairs ms h r = rw (un_ok _ _ h) (tt, tt)
    pairs_are f (pair k v ps) ms h r =
        let b = bind_ok (writes_value_in D f v) _ ms h in
        let c = bind_ok (writes_pairs_in D f ps) _ ms b.2 in
        let rest = pairs_are f ps c.0 c.1 r.1 in
        subst (λ m. MemberKeysAscend m × MembersAreTrees m) (sym (un_ok _ _ c.2))
        (ascends_put k b.0 c.0 rest.0, trees_put k b.0 c.0 (tree_is f v b.0 b.1 r.0) rest.1)
