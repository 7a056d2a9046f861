-- What is known of a tree from which something was read.
use Rattle.std.proofs.Common.{◌≡◌, ℕ, List, Bool, true, false, cond, Option, Some, None, Result, Ok, Err, refl, sym, ap}
use Rattle.std.proofs.Common.{◌∙◌, subst}
use Rattle.std.proofs.lemmas.Bool.{and_parts}
use Rattle.std.proofs.lemmas.Slice.Eq.{bytes_eq-Decides}
use Rattle.std.specs.Str.{bytes_eq}
use Rattle.serde_json.specs.Data.{Data, Members, no_members, member}
use Rattle.serde_json.specs.Data as tree
use Rattle.serde_json.specs.Find.{as_str}
use Rattle.bson_scalar.specs.Faults.{Fault, ◌>>=◌, or_wrong_shape}
use Rattle.bson_scalar.specs.Means.{MeansScalar}
use Rattle.bson_scalar.specs.Reading.{single_key_member, two_members, on_text, on_single_key, on_two_keys}
use Rattle.bson_scalar.specs.Scalar.{Scalar}
use Rattle.bson_scalar.specs.TreeParts.{one_key_object, two_key_object}

pub un_ok : {A : Type 0} (x y : A) → ◌≡◌ {A = Result A Fault} (Ok x) (Ok y) → y ≡ x
un_ok x y h = cc

pub un_some : {A : Type 0} (x y : A) → Some x ≡ Some y → x ≡ y
un_some x y h = cc

pub then_ok : {A B : Type 0} (r : Result A Fault) (f : A → Result B Fault) (y : B) → (r >>= f) ≡ Ok y
    → (x : A) × (r ≡ Ok x) × (f x ≡ Ok y)
then_ok (Ok x) f y h = (x, refl, h)
then_ok (Err e) f y h = cc

pub or_bad_ok : {A : Type 0} (o : Option A) (x : A) → or_wrong_shape o ≡ Ok x → o ≡ Some x
or_bad_ok (Some y) x h = ap Some (sym (un_ok _ _ h))
or_bad_ok None x h = cc

pub some_then : {A B : Type 0} (o : Option A) (f : A → Result B Fault) (y : B) → (or_wrong_shape o >>= f) ≡ Ok y
    → (x : A) × (o ≡ Some x) × (f x ≡ Ok y)
some_then (Some x) f y h = (x, refl, h)
some_then None f y h = cc

pub if_some : {A : Type 0} (b : Bool) (x y : A) → cond b (Some x) None ≡ Some y → (b ≡ true) × (x ≡ y)
if_some true x y h = (refl, un_some x y h)
if_some false x y h = cc

pub key_is : (xs ys : List ℕ) → bytes_eq xs ys ≡ true → xs ≡ ys
key_is xs ys h = (bytes_eq-Decides xs ys).0 h

pub string_is : (d : Data) (s : List ℕ) → as_str d ≡ Some s → d ≡ tree.string s
string_is tree.null s h = cc
string_is (tree.boolean b) s h = cc
string_is (tree.number n) s h = cc
string_is (tree.string t) s h = ap tree.string (un_some _ _ h)
string_is (tree.array ds) s h = cc
string_is (tree.object ns) s h = cc

pub lone_is : (a : List ℕ) (d e : Data) → single_key_member a d ≡ Some e → d ≡ one_key_object a e
lone_is a tree.null e h = cc
lone_is a (tree.boolean b) e h = cc
lone_is a (tree.number n) e h = cc
lone_is a (tree.string t) e h = cc
lone_is a (tree.array ds) e h = cc
lone_is a (tree.object no_members) e h = cc
lone_is a (tree.object (member k d no_members)) e h = let g = if_some _ d e h in
    rw (key_is k a g.0) (ap (λ x. one_key_object a x) g.1)
lone_is a (tree.object (member k d (member l f ms))) e h = cc

pub two_are : (a b : List ℕ) (d : Data) (p : Data × Data) → two_members a b d ≡ Some p → d ≡ two_key_object a p.0 b p.1
two_are a b tree.null p h = cc
two_are a b (tree.boolean t) p h = cc
two_are a b (tree.number n) p h = cc
two_are a b (tree.string t) p h = cc
two_are a b (tree.array ds) p h = cc
two_are a b (tree.object no_members) p h = cc
two_are a b (tree.object (member k d no_members)) p h = cc
two_are a b (tree.object (member k d (member l e no_members))) p h =
    let g = if_some _ (d, e) p h in
    let keys = and_parts _ _ g.0 in
    rw (key_is k a keys.0, key_is l b keys.1) (ap (λ (q : Data × Data). two_key_object a q.0 b q.1) g.1)
two_are a b (tree.object (member k d (member l e (member m f ms)))) p h = cc

pub text_then : {X : Type 0} (d : Data) (f : List ℕ → Result X Fault) (x : X) → on_text d f ≡ Ok x
    → (s : List ℕ) × (d ≡ tree.string s) × (f s ≡ Ok x)
text_then d f x h = let t = some_then (as_str d) f x h in (t.0, string_is d t.0 t.1, t.2)

pub lone_then : {X : Type 0} (a : List ℕ) (d : Data) (f : Data → Result X Fault) (x : X) → on_single_key a d f ≡ Ok x
    → (e : Data) × (d ≡ one_key_object a e) × (f e ≡ Ok x)
lone_then a d f x h = let t = some_then (single_key_member a d) f x h in (t.0, lone_is a d t.0 t.1, t.2)

pub two_then : {X : Type 0} (a b : List ℕ) (d : Data) (f : Data → Data → Result X Fault) (x : X) → on_two_keys a b d f ≡ Ok x
    → (e : Data) × (g : Data) × (d ≡ two_key_object a e b g) × (f e g ≡ Ok x)
two_then a b d f x h = let t = some_then (two_members a b d) (λ p. f p.0 p.1) x h in
    (t.0.0, t.0.1, two_are a b d t.0 t.1, t.2)

pub two_same : (a b : List ℕ) {d e f g : Data} → d ≡ e → f ≡ g → two_key_object a d b f ≡ two_key_object a e b g
two_same a b {d} {e} {f} {g} p q = ap (λ x. two_key_object a x b f) p ∙ ap (λ x. two_key_object a e b x) q

-- what the tree is, and what the scalar is, in a production
pub means_by : (k : List ℕ) (d e : Data) (x y : Scalar) → d ≡ e → x ≡ y → MeansScalar (one_key_object k e) y
    → MeansScalar (one_key_object k d) x
means_by k d e x y p q m =
    subst (λ t. MeansScalar (one_key_object k t) x) (sym p) (subst (λ z. MeansScalar (one_key_object k e) z) (sym q) m)
