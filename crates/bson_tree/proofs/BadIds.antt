-- Reading finds a bad id where the productions of `HasInvalidObjectId` have one, and nowhere else.
use Rattle.std.proofs.Common.{◌≡◌, ℕ, List, [], ◌∷◌, Bool, true, false, cond, Option, Some, None, Result, Ok, Err}
use Rattle.std.proofs.Common.{◌++◌, inl, arith, refl, sym, ap, subst, ◌∙◌}
use Rattle.std.specs.Prelude.{codes}
use Rattle.serde_json.specs.Data.{Data, member}
use Rattle.serde_json.specs.Data as tree
use Rattle.serde_json.specs.Find.{as_i64, as_str}
use Rattle.bson_types.specs.HexText.{IsHexText, nothing, digit_pair}
use Rattle.bson_types.specs.UuidByteOrder.{parsed_hyphenated}
use Rattle.bson_scalar.specs.Doubles.{double_bits_of_text}
use Rattle.bson_scalar.specs.Faults.{Fault, wrong_shape, wrong_id, ◌>>=◌, or_wrong_shape}
use Rattle.bson_scalar.specs.Means.{MeansScalar, IsOidText}
use Rattle.bson_scalar.specs.Means as means
use Rattle.bson_scalar.specs.Reading.{wrapper_read_in, optional_wrapper_read_in, on_text}
use Rattle.bson_scalar.specs.Reading.{parsed_object_id, id_or_fault, oid_read, pointer_read, two_members, single_key_member, on_single_key, parsed_int}
use Rattle.bson_scalar.specs.Reading.{date_millis_of, undefined_read, decimal_pattern, decoded_base64, byte_of_hex}
use Rattle.bson_scalar.specs.Scalar.{Scalar}
use Rattle.bson_scalar.specs.Scalar as kind
use Rattle.bson_scalar.specs.TreeParts.{one_key_object, two_key_object, u32_at}
use Rattle.bson_scalar.specs.Table.{wrapper_of}
use Rattle.bson_scalar.specs.declared.wrapper.Wrapper.{Wrapper}
use Rattle.bson_scalar.specs.declared.wrapper.Wrapper.TheVariants.{Oid, Symbol, RegularExpression, NumberInt}
use Rattle.bson_scalar.specs.declared.wrapper.Wrapper.TheVariants.{NumberLong, NumberDouble, NumberDecimal, Binary}
use Rattle.bson_scalar.specs.declared.wrapper.Wrapper.TheVariants.{Uuid, Code, Timestamp, Date, MinKey, MaxKey}
use Rattle.bson_scalar.specs.declared.wrapper.Wrapper.TheVariants.{DbPointer, Undefined}
use Rattle.bson_scalar.specs.declared.form.Doubles.{Doubles}
use Rattle.bson_scalar.specs.declared.form.Doubles.TheVariants.{Special}
use Rattle.bson_scalar.proofs.Offered.{lone_is, scalar_from, scalar_to, string_is, two_are}
use Rattle.bson_model.specs.Reading.{reads_tree_in}
use Rattle.bson_model.specs.Reading.{scalar_result_as_value}
use Rattle.bson_tree.specs.Place.{HasInvalidObjectId, oid, db_pointer}

-- ---- readings that never find a bad id

abbrev NoId : {X : Type 0} → Result X Fault → Type 0
NoId r = (s : List ℕ) → r ≡ Err (wrong_id s) → ⊥

then_no_id : {A X : Type 0} (o : Option A) (f : A → Result X Fault) → ((x : A) → NoId (f x))
    → NoId (or_wrong_shape o >>= f)
then_no_id (Some x) f h = h x
then_no_id None f h = λ s e. cc

ok_no_id : {X : Type 0} (x : X) → NoId (Ok x)
ok_no_id x = λ s e. cc

if_no_id : (b : Bool) (x : Scalar) → NoId (cond b (Ok x) (Err wrong_shape))
if_no_id true x = λ s e. cc
if_no_id false x = λ s e. cc

some_no_id : {A : Type 0} (o : Option A) → NoId (or_wrong_shape o)
some_no_id (Some x) = λ s e. cc
some_no_id None = λ s e. cc

bind_no_id : {A X : Type 0} (r : Result A Fault) (g : A → X) → NoId r → NoId (r >>= λ x. Ok (g x))
bind_no_id (Ok x) g h = λ s e. cc
bind_no_id (Err wrong_shape) g h = λ s e. cc
bind_no_id (Err (wrong_id t)) g h = λ s e. h t refl

lone_no_id : (d : Data) → NoId (on_single_key (codes "$numberLong") d (λ t. on_text t (λ s. or_wrong_shape (parsed_int 63 s))))
lone_no_id d =
    then_no_id (single_key_member (codes "$numberLong") d) _ (λ t. then_no_id (as_str t) _ (λ s. some_no_id (parsed_int 63 s)))

millis_no_id : (d : Data) → NoId (date_millis_of d)
millis_no_id tree.null = lone_no_id tree.null
millis_no_id (tree.boolean b) = lone_no_id (tree.boolean b)
millis_no_id (tree.number n) = some_no_id (as_i64 n)
millis_no_id (tree.string s) = some_no_id _
millis_no_id (tree.array ds) = lone_no_id (tree.array ds)
millis_no_id (tree.object ms) = lone_no_id (tree.object ms)

undefined_no_id : (d : Data) → NoId (undefined_read d)
undefined_no_id tree.null = λ s e. cc
undefined_no_id (tree.boolean b) = if_no_id b kind.undefined
undefined_no_id (tree.number n) = λ s e. cc
undefined_no_id (tree.string t) = λ s e. cc
undefined_no_id (tree.array ds) = λ s e. cc
undefined_no_id (tree.object ms) = λ s e. cc

-- ---- the tree in which a bad id is found

-- a step that finds one has something to look at
some_bad : {A X : Type 0} (o : Option A) (f : A → Result X Fault) (s : List ℕ)
    → (or_wrong_shape o >>= f) ≡ Err (wrong_id s) → (x : A) × (o ≡ Some x) × (f x ≡ Err (wrong_id s))
some_bad (Some x) f s h = (x, refl, h)
some_bad None f s h = cc

oid_text : {s id : List ℕ} → MeansScalar (one_key_object (codes "$oid") (tree.string s)) (kind.object_id id)
    → IsOidText s id
oid_text (means.oid s id is) = is

-- a text that is read as an id is one
id_text : (s id : List ℕ) → parsed_object_id s ≡ Ok id → IsOidText s id
id_text s id h =
    oid_text (scalar_from Special (one_key_object (codes "$oid") (tree.string s)) (kind.object_id id)
    (ap (λ r. r >>= λ x. Ok (kind.object_id x)) h))

-- the text at fault is the one that is read
id_fault : (t s : List ℕ) (r : _) → id_or_fault t r ≡ Err (wrong_id s) → t ≡ s
id_fault t s (Ok id) h = cc
id_fault t s (Err e) h = cc

-- a text is never of the wrong shape
shape_no_id : (t : List ℕ) (r : _) → id_or_fault t r ≡ Err wrong_shape → ⊥
shape_no_id t (Ok id) h = cc
shape_no_id t (Err e) h = cc

-- a text that is not read as an id is none
no_text : (s : List ℕ) (f : Fault) → parsed_object_id s ≡ Err f → (id : List ℕ) → IsOidText s id → ⊥
no_text s f h id is =
    let read = scalar_to Special (one_key_object (codes "$oid") (tree.string s)) (kind.object_id id)
    (means.oid s id is) in
    let bad = ap (λ r. r >>= λ x. Ok (kind.object_id x)) h in
    let clash = sym read ∙ bad in cc

id_bad : (t s : List ℕ) (g : List ℕ → Scalar) (r : Result (List ℕ) Fault) → parsed_object_id t ≡ r
    → (r >>= λ id. Ok (g id)) ≡ Err (wrong_id s) → (t ≡ s) × ((id : List ℕ) → IsOidText t id → ⊥)
id_bad t s g (Ok id) is h = cc
id_bad t s g (Err wrong_shape) is h = cc
id_bad t s g (Err (wrong_id u)) is h =
    let same : u ≡ s = cc in
    (id_fault t u _ is ∙ same, no_text t (wrong_id u) is)

-- ---- the trees with a bad id

oid_at : (d : Data) (t s : List ℕ) → d ≡ tree.string t → t ≡ s → ((id : List ℕ) → IsOidText t id → ⊥)
    → HasInvalidObjectId (one_key_object (codes "$oid") d) s
oid_at d t s is same none = rw is (subst (HasInvalidObjectId (one_key_object (codes "$oid") (tree.string t))) same (oid t none))

pointer_at : (d i r u : Data) (name t s : List ℕ) → d ≡ two_key_object (codes "$id") i (codes "$ref") r
    → i ≡ one_key_object (codes "$oid") u → u ≡ tree.string t → r ≡ tree.string name → t ≡ s
    → ((id : List ℕ) → IsOidText t id → ⊥) → HasInvalidObjectId (one_key_object (codes "$dbPointer") d) s
pointer_at d i r u name t s two under text named same none =
    rw (two, under, text, named) (subst (HasInvalidObjectId _) same (db_pointer name t none))

oid_bad : (d : Data) (s : List ℕ) → oid_read d ≡ Err (wrong_id s) → HasInvalidObjectId (one_key_object (codes "$oid") d) s
oid_bad d s h =
    let t = some_bad (as_str d) _ s h in
    let bad = id_bad t.0 s kind.object_id _ refl t.2 in
    oid_at d t.0 s (string_is d t.0 t.1) bad.0 bad.1

pointer_bad : (d : Data) (s : List ℕ) → pointer_read d ≡ Err (wrong_id s)
    → HasInvalidObjectId (one_key_object (codes "$dbPointer") d) s
pointer_bad d s h =
    let two = some_bad (two_members (codes "$id") (codes "$ref") d) _ s h in
    let name = some_bad (as_str two.0.1) _ s two.2 in
    let id = some_bad (single_key_member (codes "$oid") two.0.0) _ s name.2 in
    let t = some_bad (as_str id.0) _ s id.2 in
    let bad = id_bad t.0 s (kind.db_pointer name.0) _ refl t.2 in
    pointer_at d two.0.0 two.0.1 id.0 name.0 t.0 s (two_are _ _ d two.0 two.1) (lone_is _ two.0.0 id.0 id.1)
    (string_is id.0 t.0 t.1) (string_is two.0.1 name.0 name.1) bad.0 bad.1

-- ---- the key at which an id is read

zero_byte : {text bytes : List ℕ} → IsHexText text bytes → IsHexText (48 ∷ 48 ∷ text) (0 ∷ bytes)
zero_byte h = digit_pair 0 0 48 48 _ _ (inl (omega arith, refl)) (inl (omega arith, refl)) h

zero_bytes : {text bytes : List ℕ} → IsHexText text bytes
    → IsHexText (codes "00000000" ++ text) (0 ∷ 0 ∷ 0 ∷ 0 ∷ bytes)
zero_bytes h = zero_byte (zero_byte (zero_byte (zero_byte h)))

abbrev zero_text : List ℕ
zero_text = codes "000000000000000000000000"

abbrev zero_id : List ℕ
zero_id = 0 ∷ 0 ∷ 0 ∷ 0 ∷ 0 ∷ 0 ∷ 0 ∷ 0 ∷ 0 ∷ 0 ∷ 0 ∷ 0 ∷ []

is_zero_id : IsOidText zero_text zero_id
is_zero_id = (zero_bytes (zero_bytes (zero_bytes nothing)), refl)

oid_production : {k id : List ℕ} {d : Data} → MeansScalar (one_key_object k d) (kind.object_id id) → k ≡ codes "$oid"
oid_production (means.oid s id is) = refl

pointer_production : {k name id : List ℕ} {d : Data} → MeansScalar (one_key_object k d) (kind.db_pointer name id)
    → k ≡ codes "$dbPointer"
pointer_production (means.db_pointer name s id is) = refl

oid_key : (k : List ℕ) → wrapper_of k ≡ Some Oid → k ≡ codes "$oid"
oid_key k is =
    let d = tree.string zero_text in
    let x = kind.object_id zero_id in
    let read = scalar_to Special (one_key_object (codes "$oid") d) x (means.oid zero_text zero_id is_zero_id) in
    oid_production (scalar_from Special (one_key_object k d) x (ap (λ w. optional_wrapper_read_in Special w d) is ∙ read))

pointer_key : (k : List ℕ) → wrapper_of k ≡ Some DbPointer → k ≡ codes "$dbPointer"
pointer_key k is =
    let id = one_key_object (codes "$oid") (tree.string zero_text) in
    let d = two_key_object (codes "$id") id (codes "$ref") (tree.string []) in
    let x = kind.db_pointer [] zero_id in
    let read = scalar_to Special (one_key_object (codes "$dbPointer") d) x
    (means.db_pointer [] zero_text zero_id is_zero_id) in
    pointer_production (scalar_from Special (one_key_object k d) x (ap (λ w. optional_wrapper_read_in Special w d) is ∙ read))

module _ (D : Doubles) where
  single_bad : (k : List ℕ) (d : Data) (s : List ℕ) (w : Wrapper) → wrapper_of k ≡ Some w
      → wrapper_read_in D w d ≡ Err (wrong_id s) → HasInvalidObjectId (one_key_object k d) s
  single_bad k d s Oid is h = rw (oid_key k is) (oid_bad d s h)
  single_bad k d s DbPointer is h = rw (pointer_key k is) (pointer_bad d s h)
  single_bad k d s Symbol is h = absurd (then_no_id (as_str d) _ (λ t. ok_no_id _) s h)
  single_bad k d s RegularExpression is h =
      absurd (then_no_id (two_members (codes "options") (codes "pattern") d) _
      (λ p. then_no_id (as_str p.0) _ (λ o. then_no_id (as_str p.1) _ (λ t. ok_no_id _))) s h)
  single_bad k d s NumberInt is h =
      absurd (then_no_id (as_str d) _ (λ t. then_no_id (parsed_int 31 t) _ (λ z. ok_no_id _)) s h)
  single_bad k d s NumberLong is h =
      absurd (then_no_id (as_str d) _ (λ t. then_no_id (parsed_int 63 t) _ (λ z. ok_no_id _)) s h)
  single_bad k d s NumberDouble is h =
      absurd (then_no_id (as_str d) _ (λ t. then_no_id (double_bits_of_text D t) _ (λ p. ok_no_id _)) s h)
  single_bad k d s NumberDecimal is h =
      absurd (then_no_id (as_str d) _ (λ t. then_no_id (decimal_pattern t) _ (λ b. ok_no_id _)) s h)
  single_bad k d s Binary is h =
      absurd (then_no_id (two_members (codes "base64") (codes "subType") d) _
      (λ p. then_no_id (as_str p.0) _ (λ t. then_no_id (as_str p.1) _ (λ u. then_no_id (decoded_base64 t) _
      (λ b. then_no_id (byte_of_hex u) _ (λ n. ok_no_id _))))) s h)
  single_bad k d s Uuid is h =
      absurd (then_no_id (as_str d) _ (λ t. then_no_id (parsed_hyphenated t) _ (λ id. ok_no_id _)) s h)
  single_bad k d s Code is h = absurd (then_no_id (as_str d) _ (λ t. ok_no_id _) s h)
  single_bad k d s Timestamp is h =
      absurd (then_no_id (two_members (codes "i") (codes "t") d) _
      (λ p. then_no_id (u32_at p.0) _ (λ m. then_no_id (u32_at p.1) _ (λ n. ok_no_id _))) s h)
  single_bad k d s Date is h = absurd (bind_no_id (date_millis_of d) kind.date (millis_no_id d) s h)
  single_bad k d s MinKey is h = absurd (if_no_id _ kind.min_key s h)
  single_bad k d s MaxKey is h = absurd (if_no_id _ kind.max_key s h)
  single_bad k d s Undefined is h = absurd (undefined_no_id d s h)

  -- what reading finds at a key is a bad id
  pub single_at_bad : (k : List ℕ) (d : Data) (s : List ℕ) (w : Option Wrapper) → wrapper_of k ≡ w
      → optional_wrapper_read_in D w d ≡ Err (wrong_id s) → HasInvalidObjectId (one_key_object k d) s
  single_at_bad k d s (Some w) is h = single_bad k d s w is h
  single_at_bad k d s None is h = cc

  no_id : (t : List ℕ) (g : List ℕ → Scalar) (r : Result (List ℕ) Fault) → parsed_object_id t ≡ r
      → ((id : List ℕ) → IsOidText t id → ⊥) → (r >>= λ id. Ok (g id)) ≡ Err (wrong_id t)
  no_id t g (Ok id) is none = absurd (none id (id_text t id is))
  no_id t g (Err wrong_shape) is none = absurd (shape_no_id t _ is)
  no_id t g (Err (wrong_id u)) is none = ap (λ x. Err (wrong_id x)) (sym (id_fault t u _ is))

  -- a bad id is what reading finds
  pub bad_read : {t : Data} {s : List ℕ} → HasInvalidObjectId t s → reads_tree_in D t ≡ Err (wrong_id s)
  bad_read (oid s none) = ap scalar_result_as_value (no_id s kind.object_id (parsed_object_id s) refl none)
  bad_read (db_pointer name s none) = ap scalar_result_as_value (no_id s (kind.db_pointer name) (parsed_object_id s) refl none)
