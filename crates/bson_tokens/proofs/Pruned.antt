-- What a wrapper reads of a tree it reads of the pruned one.
use Rattle.std.proofs.Common.{◌≡◌, ℕ, zero, suc, ◌-◌, List, Option, Some, None, Result, Ok, Err, option_map, Bool, true, false}
use Rattle.std.proofs.Common.{cond, refl, ap, ◌∙◌, codes, ◌&&◌, bytes_eq, ℤ, option_and_then}
use Rattle.std.proofs.Common.{◌<◌, ◌≤◌, [], ◌∷◌, length, String, Global, arith}
use Rattle.std.proofs.Common.{Ordering, Less, Equal, Greater, nat_cmp}
use Rattle.std.specs.Cmp.Lexicographic.{slice_cmp}
use Rattle.std.specs.Ordering.{match_ordering}
use Rattle.serde_json.specs.Data.{Data, Num, Members, no_members, member, put}
use Rattle.serde_json.specs.Data as tree
use Rattle.serde_json.specs.View.{members_view}
use Rattle.serde_json.specs.declared.value.Value.{Value}
use Rattle.serde_json.specs.Find.{as_i64, as_str, as_number}
use Rattle.bson_scalar.specs.Faults.{Fault, wrong_shape, ◌>>=◌, or_wrong_shape}
use Rattle.bson_scalar.specs.Reading.{wrapper_read_in, optional_wrapper_read_in, single_key_member, two_members, on_text, on_single_key, on_two_keys}
use Rattle.bson_scalar.specs.Reading.{date_millis_of, is_number_one}
use Rattle.bson_scalar.specs.Reading.{number_one_read, undefined_read}
use Rattle.bson_scalar.specs.Scalar.{Scalar, date, min_key, max_key}
use Rattle.bson_scalar.specs.TreeParts.{i64_at, u32_at, number_as_u32}
use Rattle.bson_scalar.specs.declared.wrapper.Wrapper.{Wrapper}
use Rattle.bson_scalar.specs.declared.wrapper.Wrapper.TheVariants.{Oid, Symbol, RegularExpression, NumberInt}
use Rattle.bson_scalar.specs.declared.wrapper.Wrapper.TheVariants.{NumberLong, NumberDouble, NumberDecimal, Binary}
use Rattle.bson_scalar.specs.declared.wrapper.Wrapper.TheVariants.{Uuid, Code, Timestamp, Date, MinKey, MaxKey}
use Rattle.bson_scalar.specs.declared.wrapper.Wrapper.TheVariants.{DbPointer, Undefined}
use Rattle.bson_scalar.specs.declared.form.Doubles.{Doubles}
use Rattle.bson_tokens.specs.ValueStart.{primitive_tree}
use Rattle.bson_tokens.specs.declared.value_start.Primitive.{Primitive}
use Rattle.bson_tokens.specs.declared.value_start.Primitive.TheVariants.{Null, Bool as Truth, Number, String as Text}
use Rattle.bson_tokens.specs.WrapperContent.{WrappersReadAlike, at_most_two_members, members_or_empty, pruned, pruned_members, pruned_members_or_none, member_added}

-- ---- one more member

module _ (n : ℕ) (k : List ℕ) (d : Data) where
  put_at : (o : Ordering) (l : List ℕ) (e : Data) (ms : Members)
      → pruned_members n (put k d ms) ≡ put k (pruned n d) (pruned_members n ms)
      → pruned_members n (match_ordering o (member k d (member l e ms)) (member l d ms) (member l e (put k d ms)))
      ≡ match_ordering o (member k (pruned n d) (member l (pruned n e) (pruned_members n ms)))
      (member l (pruned n d) (pruned_members n ms))
      (member l (pruned n e) (put k (pruned n d) (pruned_members n ms)))
  put_at Less l e ms more = refl
  put_at Equal l e ms more = refl
  put_at Greater l e ms more = ap (member l (pruned n e)) more

  pruned_put : (ms : Members) → pruned_members n (put k d ms) ≡ put k (pruned n d) (pruned_members n ms)
  pruned_put no_members = refl
  pruned_put (member l e ms) = put_at (slice_cmp nat_cmp k l) l e ms (pruned_put ms)

-- three members stay three at least
module _ (k : List ℕ) (d : Data) where
  behind_two : (a : List ℕ) (x : Data) (b : List ℕ) (y : Data) (ms : Members)
      → at_most_two_members (member a x (member b y (put k d ms))) ≡ None
  behind_two a x b y no_members = refl
  behind_two a x b y (member c z ms) = at (slice_cmp nat_cmp k c)
    where
      at : (o : Ordering)
          → at_most_two_members (member a x (member b y (match_ordering o (member k d (member c z ms)) (member c d ms)
          (member c z (put k d ms))))) ≡ None
      at Less = refl
      at Equal = refl
      at Greater = refl

  behind_one : (a : List ℕ) (x : Data) (b : List ℕ) (y : Data) (c : List ℕ) (z : Data) (ms : Members)
      → at_most_two_members (member a x (put k d (member b y (member c z ms)))) ≡ None
  behind_one a x b y c z ms = at (slice_cmp nat_cmp k b)
    where
      at : (o : Ordering)
          → at_most_two_members (member a x (match_ordering o (member k d (member b y (member c z ms))) (member b d (member c z ms))
          (member b y (put k d (member c z ms))))) ≡ None
      at Less = refl
      at Equal = refl
      at Greater = behind_two a x b y (member c z ms)

  more_than_two : (a : List ℕ) (x : Data) (b : List ℕ) (y : Data) (c : List ℕ) (z : Data) (ms : Members)
      → at_most_two_members (put k d (member a x (member b y (member c z ms)))) ≡ None
  more_than_two a x b y c z ms = at (slice_cmp nat_cmp k a)
    where
      at : (o : Ordering)
          → at_most_two_members (match_ordering o (member k d (member a x (member b y (member c z ms))))
          (member a d (member b y (member c z ms))) (member a x (put k d (member b y (member c z ms))))) ≡ None
      at Less = refl
      at Equal = refl
      at Greater = behind_one a x b y c z ms

  few_put : (ms : Members) → at_most_two_members (put k d ms) ≡ member_added k d (at_most_two_members ms)
  few_put no_members = refl
  few_put (member a x no_members) = refl
  few_put (member a x (member b y no_members)) = refl
  few_put (member a x (member b y (member c z ms))) = more_than_two a x b y c z ms

less_one : (n : ℕ) → n ≡ suc n - 1
less_one n = omega arith

pub kept_put : (n : ℕ) (k : List ℕ) (d : Data) (ms : Members)
    → pruned_members_or_none n (put k d ms) ≡ member_added k (pruned (n - 1) d) (pruned_members_or_none n ms)
kept_put zero k d ms = refl
kept_put (suc n) k d ms = ap at_most_two_members (pruned_put n k d ms) ∙ few_put k (pruned n d) (pruned_members n ms)
    ∙ ap (λ m. member_added k (pruned m d) (at_most_two_members (pruned_members n ms))) (less_one n)

-- entries by their number
pub few_long : (es : List (String Global × Value)) → 2 < length es → at_most_two_members (members_view es) ≡ None
few_long [] long = absurd (omega (arith, long))
few_long (a ∷ []) long = absurd (omega (arith, long))
few_long (a ∷ b ∷ []) long = absurd (omega (arith, long))
few_long (a ∷ b ∷ c ∷ es) long = refl

pub few_short : (es : List (String Global × Value)) → length es ≤ 2 → at_most_two_members (members_view es) ≡ Some (members_view es)
few_short [] short = refl
few_short (a ∷ []) short = refl
few_short (a ∷ b ∷ []) short = refl
few_short (a ∷ b ∷ c ∷ es) short = absurd (omega (arith, short))

-- an object of what is kept of its members
pub pruned_object : (n : ℕ) (ms : Members) → pruned n (tree.object ms) ≡ tree.object (members_or_empty (pruned_members_or_none n ms))
pruned_object zero ms = refl
pruned_object (suc n) ms = refl

-- ---- what is read

same_text : (n : ℕ) (d : Data) → as_str (pruned n d) ≡ as_str d
same_text n tree.null = refl
same_text n (tree.boolean b) = refl
same_text n (tree.number m) = refl
same_text n (tree.string s) = refl
same_text n (tree.array ds) = refl
same_text zero (tree.object ms) = refl
same_text (suc n) (tree.object ms) = refl

same_number : (n : ℕ) (d : Data) → as_number (pruned n d) ≡ as_number d
same_number n tree.null = refl
same_number n (tree.boolean b) = refl
same_number n (tree.number m) = refl
same_number n (tree.string s) = refl
same_number n (tree.array ds) = refl
same_number zero (tree.object ms) = refl
same_number (suc n) (tree.object ms) = refl

same_whole : (n : ℕ) (d : Data) → i64_at (pruned n d) ≡ i64_at d
same_whole n d = ap (option_and_then as_i64) (same_number n d)

same_small : (n : ℕ) (d : Data) → u32_at (pruned n d) ≡ u32_at d
same_small n d = ap number_as_u32 (same_whole n d)

if_some : {A B : Type 0} (f : A → B) (b : Bool) (a : A)
    → cond b (Some (f a)) None ≡ option_map f (cond b (Some a) None)
if_some f true a = refl
if_some f false a = refl

lone : (a : List ℕ) (n : ℕ) (d : Data) → single_key_member a (pruned (suc n) d) ≡ option_map (pruned n) (single_key_member a d)
lone a n tree.null = refl
lone a n (tree.boolean b) = refl
lone a n (tree.number m) = refl
lone a n (tree.string s) = refl
lone a n (tree.array ds) = refl
lone a n (tree.object no_members) = refl
lone a n (tree.object (member k d no_members)) = if_some (pruned n) (bytes_eq k a) d
lone a n (tree.object (member k d (member l e no_members))) = refl
lone a n (tree.object (member k d (member l e (member m f ms)))) = refl

two : (a b : List ℕ) (n : ℕ) (d : Data)
    → two_members a b (pruned (suc n) d) ≡ option_map (λ (p : Data × Data). (pruned n p.0, pruned n p.1)) (two_members a b d)
two a b n tree.null = refl
two a b n (tree.boolean c) = refl
two a b n (tree.number m) = refl
two a b n (tree.string s) = refl
two a b n (tree.array ds) = refl
two a b n (tree.object no_members) = refl
two a b n (tree.object (member k d no_members)) = refl
two a b n (tree.object (member k d (member l e no_members))) =
    if_some (λ (p : Data × Data). (pruned n p.0, pruned n p.1)) (bytes_eq k a && bytes_eq l b) (d, e)
two a b n (tree.object (member k d (member l e (member m f ms)))) = refl

-- ---- what is done with it

map_then : {X Y Z : Type 0} (h : X → Y) (f : Y → Result Z Fault) (g : X → Result Z Fault) (x : Option X)
    → ((y : X) → f (h y) ≡ g y) → (or_wrong_shape (option_map h x) >>= f) ≡ (or_wrong_shape x >>= g)
map_then h f g None same = refl
map_then h f g (Some y) same = same y

then_same : {X Z : Type 0} (f g : X → Result Z Fault) (x : Option X) → ((y : X) → f y ≡ g y)
    → (or_wrong_shape x >>= f) ≡ (or_wrong_shape x >>= g)
then_same f g None same = refl
then_same f g (Some y) same = same y

text_then : {X : Type 0} (n : ℕ) (d : Data) (f g : List ℕ → Result X Fault) → ((s : List ℕ) → f s ≡ g s)
    → on_text (pruned n d) f ≡ on_text d g
text_then n d f g same = ap (λ o. or_wrong_shape o >>= f) (same_text n d) ∙ then_same f g (as_str d) same

text_same : {X : Type 0} (n : ℕ) (d : Data) (f : List ℕ → Result X Fault) → on_text (pruned n d) f ≡ on_text d f
text_same n d f = ap (λ o. or_wrong_shape o >>= f) (same_text n d)

lone_then : {X : Type 0} (a : List ℕ) (n : ℕ) (d : Data) (f : List ℕ → Result X Fault)
    → on_single_key a (pruned (suc n) d) (λ t. on_text t f) ≡ on_single_key a d (λ t. on_text t f)
lone_then a n d f = ap (λ o. or_wrong_shape o >>= (λ t. on_text t f)) (lone a n d)
    ∙ map_then (pruned n) (λ t. on_text t f) (λ t. on_text t f) (single_key_member a d) (λ t. text_same n t f)

two_then : {X : Type 0} (a b : List ℕ) (n : ℕ) (d : Data) (f : Data → Data → Result X Fault)
    → ((x y : Data) → f (pruned n x) (pruned n y) ≡ f x y) → on_two_keys a b (pruned (suc n) d) f ≡ on_two_keys a b d f
two_then a b n d f same =
    ap (λ o. or_wrong_shape o >>= (λ (p : Data × Data). f p.0 p.1)) (two a b n d)
    ∙ map_then (λ (p : Data × Data). (pruned n p.0, pruned n p.1)) (λ (p : Data × Data). f p.0 p.1)
    (λ (p : Data × Data). f p.0 p.1) (two_members a b d) (λ p. same p.0 p.1)

same_millis : (n : ℕ) (d : Data) → date_millis_of (pruned (suc n) d) ≡ date_millis_of d
same_millis n tree.null = refl
same_millis n (tree.boolean b) = refl
same_millis n (tree.number m) = refl
same_millis n (tree.string s) = refl
same_millis n (tree.array ds) = refl
same_millis n (tree.object ms) = lone_then (codes "$numberLong") n (tree.object ms) _

same_one : (y : Scalar) (n : ℕ) (d : Data) → number_one_read y (pruned n d) ≡ number_one_read y d
same_one y n d = ap (λ z. cond (is_number_one z) (Ok y) (Err wrong_shape)) (same_whole n d)

same_undefined : (n : ℕ) (d : Data) → undefined_read (pruned n d) ≡ undefined_read d
same_undefined n tree.null = refl
same_undefined n (tree.boolean b) = refl
same_undefined n (tree.number m) = refl
same_undefined n (tree.string s) = refl
same_undefined n (tree.array ds) = refl
same_undefined zero (tree.object ms) = refl
same_undefined (suc n) (tree.object ms) = refl

same_single : (D : Doubles) (w : Wrapper) (d : Data) → wrapper_read_in D w (pruned 2 d) ≡ wrapper_read_in D w d
same_single D Oid d = text_same 2 d _
same_single D Symbol d = text_same 2 d _
same_single D RegularExpression d =
    two_then (codes "options") (codes "pattern") 1 d _ (λ o p. text_then 1 o _ _ (λ s. text_same 1 p _))
same_single D NumberInt d = text_same 2 d _
same_single D NumberLong d = text_same 2 d _
same_single D NumberDouble d = text_same 2 d _
same_single D NumberDecimal d = text_same 2 d _
same_single D Binary d =
    two_then (codes "base64") (codes "subType") 1 d _ (λ b k. text_then 1 b _ _ (λ s. text_same 1 k _))
same_single D Uuid d = text_same 2 d _
same_single D Code d = text_same 2 d _
same_single D Timestamp d = two_then (codes "i") (codes "t") 1 d _ (λ i t. rw (same_small 1 i, same_small 1 t) refl)
same_single D Date d = ap (λ (m : Result ℤ Fault). m >>= (λ z. Ok (date z))) (same_millis 1 d)
same_single D MinKey d = same_one min_key 2 d
same_single D MaxKey d = same_one max_key 2 d
same_single D DbPointer d =
    two_then (codes "$id") (codes "$ref") 1 d _ (λ i r. text_then 1 r _ _ (λ name. lone_then (codes "$oid") 0 i _))
same_single D Undefined d = same_undefined 2 d

same_at_key : (D : Doubles) (w : Option Wrapper) (d : Data) → optional_wrapper_read_in D w (pruned 2 d) ≡ optional_wrapper_read_in D w d
same_at_key D (Some w) d = same_single D w d
same_at_key D None d = refl

pub pruned_stands : (t : Data) → WrappersReadAlike t (pruned 2 t)
pruned_stands t = (λ D w. same_at_key D w t, same_text 2 t)

pub pruned_primitive : (n : ℕ) (p : Primitive) → pruned n (primitive_tree p) ≡ primitive_tree p
pruned_primitive n Null = refl
pruned_primitive n (Truth b) = refl
pruned_primitive n (Number x) = refl
pruned_primitive n (Text s) = refl
