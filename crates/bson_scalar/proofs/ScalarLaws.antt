-- One lemma a law, for all scalars.
use Rattle.std.proofs.Common.{◌≡◌, ◌<◌, ◌^◌, ℕ, ℤ, List, [], ◌∷◌, Bool, true, false, ◌&&◌, cond, Option}
use Rattle.std.proofs.Common.{Some, None, Result, Ok, Err, inl, inr, refl, sym, ap, ◌∙◌, subst, w32, w64, arith}
use Rattle.std.specs.Prelude.{FitsSigned, is_ok, codes}
use Rattle.std.specs.Str.{bytes_eq}
use Rattle.std.proofs.lemmas.Bool.{and_parts}
use Rattle.hex.specs.Hex.{encode_lower}
use Rattle.serde_json.specs.Data.{Data, no_members, member}
use Rattle.serde_json.specs.Data as tree
use Rattle.serde_json.specs.Find.{of_integer}
use Rattle.bson_types.specs.Base64.{padded_base64}
use Rattle.bson_scalar.specs.TreeParts.{one_key_object, two_key_object}
use Rattle.bson_types.specs.BinarySubtypes.{subtype_byte, subtype_of}
use Rattle.bson_decimal.specs.DecimalBits.{canonical_decimal}
use Rattle.bson_decimal.proofs.Offered.{display_text-canon, parses-form}
use Rattle.bson_scalar.specs.Dates.{is_in_years_1970_to_9999, relaxed_date_text, relaxed_date_tree}
use lib.Signed.{mag}
use Rattle.bson_scalar.specs.Decimals.{decimal_tree}
use Rattle.bson_scalar.specs.Doubles.{normal_double}
use Rattle.bson_scalar.specs.Faults.{Fault, wrong_shape}
use Rattle.bson_scalar.specs.Ints.{fits_bits}
use Rattle.bson_scalar.specs.Means.{MeansScalar, MeansScalarIn, MeansFinite}
use Rattle.bson_scalar.specs.Means as means
use Rattle.bson_scalar.specs.Normal.{normal_scalar, scalar_as_read_back, int64_as_read_back, writable_scalar_in, ScalarInRange}
use Rattle.bson_scalar.specs.Normal.{IsReadScalarIn}
use Rattle.bson_scalar.specs.Reading.{code_if_scope_is_null, wrapper_read_in, optional_wrapper_read_in, scalar_read_in}
use Rattle.bson_scalar.specs.Regexes.{regex_tree}
use Rattle.bson_scalar.specs.Scalar.{Scalar, null, undefined, min_key, max_key, boolean, double, int32, int64, text}
use Rattle.bson_scalar.specs.Scalar.{symbol, code, regex, timestamp, binary, object_id, date, decimal, db_pointer}
use Rattle.bson_scalar.specs.Table.{key_of, wrapper_of}
use Rattle.bson_scalar.specs.Written.{WrittenScalarIn, writes_scalar_in, int32_form}
use Rattle.bson_scalar.specs.Written.{int64_form, date_form}
use Rattle.bson_scalar.specs.declared.form.Doubles.{Doubles}
use Rattle.bson_scalar.specs.declared.form.Doubles.TheVariants.{Special, Finite}
use Rattle.bson_scalar.specs.Forms.{is_relaxed}
use Rattle.bson_scalar.specs.declared.form.Form.{Form}
use Rattle.bson_scalar.specs.declared.form.Form.TheVariants.{Canonical, MongoDbCanonical, MongoDbRelaxed, Relaxed}
use Rattle.bson_scalar.specs.declared.wrapper.Wrapper.{Wrapper}
use Rattle.bson_scalar.specs.declared.wrapper.Wrapper.TheVariants.{Oid, Symbol, RegularExpression, NumberInt}
use Rattle.bson_scalar.specs.declared.wrapper.Wrapper.TheVariants.{NumberLong, NumberDouble, NumberDecimal, Binary}
use Rattle.bson_scalar.specs.declared.wrapper.Wrapper.TheVariants.{Uuid, Code, Timestamp, Date, MinKey, MaxKey}
use Rattle.bson_scalar.specs.declared.wrapper.Wrapper.TheVariants.{DbPointer, Undefined}
use Rattle.bson_scalar.proofs.InverseLemmas as inverse
use Rattle.bson_scalar.proofs.IntText.{fits_true, int_of_some}
use Rattle.bson_scalar.proofs.BinaryLaws.{binary_from, uuid_from, bytes_to, bytes_again, byte_again, subtype_byte-of}
use Rattle.bson_datetime.proofs.Offered.{denotes-names}
use Rattle.bson_types.proofs.Offered.{hyphenated_to, sized_to, sorted_regex_options-again}
use Rattle.bson_scalar.proofs.DateLaws.{date_from, relaxed_denoted}
use Rattle.bson_scalar.proofs.DecimalLaws.{decimal_from, decimal_of-some, decimal_of-display_text, canon-again}
use Rattle.bson_scalar.proofs.DoubleLaws.{nan_form-again}
use Rattle.bson_scalar.proofs.DoubleModes.{in_each, double_from, double_to, finite_to, finite_form, double_form_in}
use Rattle.bson_scalar.proofs.DoubleModes.{again, all_writable}
use Rattle.bson_scalar.proofs.FiniteDoubles.{text_finite, pattern_finite}
use Rattle.bson_scalar.proofs.IdLaws.{oid_from, pointer_from, id_again}
use Rattle.bson_scalar.proofs.IntLaws.{int32_from, int64_from, number_from_in, narrow_read, wide_read, int32_again}
use Rattle.bson_scalar.proofs.IntLaws.{int64_again, number_again}
use Rattle.bson_scalar.proofs.LoneLaws.{min_key_from, max_key_from, undefined_from}
use Rattle.bson_scalar.proofs.RegexLaws.{regex_from}
use Rattle.bson_scalar.proofs.TextLaws.{symbol_from, code_from}
use Rattle.bson_scalar.proofs.TimestampLaws.{timestamp_from, natural_again}
use Rattle.bson_scalar.proofs.WrittenDoubles.{IsDoubleTree, double_tree_of, double_normal, double_ok, number_back, un_ok}
use Rattle.bson_scalar.proofs.WrittenDoubles.{double_from as double_from_tree, double_to as double_to_tree}

-- ---- what is read is the meaning

under : (m : Doubles) (w : Wrapper) (d : Data) (x : Scalar) → wrapper_read_in m w d ≡ Ok x
    → MeansScalarIn m (one_key_object (key_of w) d) x
under m Oid d x h = in_each m (oid_from d x h)
under m Symbol d x h = in_each m (symbol_from d x h)
under m RegularExpression d x h = in_each m (regex_from d x h)
under m NumberInt d x h = in_each m (int32_from d x h)
under m NumberLong d x h = in_each m (int64_from d x h)
under m NumberDouble d x h = double_from m d x h
under m NumberDecimal d x h = in_each m (decimal_from d x h)
under m Binary d x h = in_each m (binary_from d x h)
under m Uuid d x h = in_each m (uuid_from d x h)
under m Code d x h = in_each m (code_from d x h)
under m Timestamp d x h = in_each m (timestamp_from d x h)
under m Date d x h = in_each m (date_from d x h)
under m MinKey d x h = in_each m (min_key_from d x h)
under m MaxKey d x h = in_each m (max_key_from d x h)
under m DbPointer d x h = in_each m (pointer_from d x h)
under m Undefined d x h = in_each m (undefined_from d x h)

-- the key of a wrapper that the table finds
key_at : (k : List ℕ) (a : Wrapper) (b : Bool) (r : Option Wrapper) (w : Wrapper) → (b ≡ true → k ≡ key_of a)
    → (r ≡ Some w → k ≡ key_of w) → cond b (Some a) r ≡ Some w → k ≡ key_of w
key_at k a true r w this rest h = let same : a ≡ w = cc in this refl ∙ ap key_of same
key_at k a false r w this rest h = rest h

pub key_from : (k : List ℕ) (w : Wrapper) → wrapper_of k ≡ Some w → k ≡ key_of w
key_from k w =
    let is = λ (a : Wrapper). inverse.key_is k (key_of a) in
    key_at k Oid _ _ w (is Oid) (key_at k Symbol _ _ w (is Symbol)
    (key_at k RegularExpression _ _ w (is RegularExpression) (key_at k Binary _ _ w (is Binary)
    (key_at k Uuid _ _ w (is Uuid) (key_at k Code _ _ w (is Code) (key_at k DbPointer _ _ w (is DbPointer)
    (key_at k NumberInt _ _ w (is NumberInt) (key_at k NumberLong _ _ w (is NumberLong)
    (key_at k NumberDouble _ _ w (is NumberDouble) (key_at k NumberDecimal _ _ w (is NumberDecimal)
    (key_at k Timestamp _ _ w (is Timestamp) (key_at k Date _ _ w (is Date) (key_at k MinKey _ _ w (is MinKey)
    (key_at k MaxKey _ _ w (is MaxKey) (key_at k Undefined _ _ w (is Undefined) (λ h. cc))))))))))))))))

single_from : (m : Doubles) (k : List ℕ) (d : Data) (o : Option Wrapper) (x : Scalar) → o ≡ wrapper_of k
    → optional_wrapper_read_in m o d ≡ Ok x → MeansScalarIn m (one_key_object k d) x
single_from m k d (Some w) x is h =
    subst (λ a. MeansScalarIn m (one_key_object a d) x) (sym (key_from k w (sym is))) (under m w d x h)
single_from m k d None x is h = cc

guarded : (b : Bool) (r : Result Scalar Fault) (x : Scalar) → cond b r (Err wrong_shape) ≡ Ok x
    → (b ≡ true) × (r ≡ Ok x)
guarded true r x h = (refl, h)
guarded false r x h = cc

code_text : (e d : Data) (x : Scalar) → code_if_scope_is_null e d ≡ Ok x
    → MeansScalar (two_key_object (codes "$code") d (codes "$scope") e) x
code_text tree.null d x h =
    let t = inverse.text_then d _ x h in
    subst (λ e. MeansScalar (two_key_object (codes "$code") e (codes "$scope") tree.null) x) (sym t.1)
    (subst (λ y. MeansScalar (two_key_object (codes "$code") (tree.string t.0) (codes "$scope") tree.null) y)
    (sym (inverse.un_ok _ _ t.2)) (means.code_without_scope t.0))
code_text (tree.boolean b) d x h = cc
code_text (tree.number n) d x h = cc
code_text (tree.string s) d x h = cc
code_text (tree.array ds) d x h = cc
code_text (tree.object ms) d x h = cc

scope_from : (k l : List ℕ) (d e : Data) (x : Scalar)
    → cond (bytes_eq k (codes "$code") && bytes_eq l (codes "$scope")) (code_if_scope_is_null e d) (Err wrong_shape) ≡ Ok x
    → MeansScalar (two_key_object k d l e) x
scope_from k l d e x h =
    let g = guarded _ _ x h in
    let keys = and_parts _ _ g.0 in
    subst (λ a. MeansScalar (two_key_object a d l e) x) (sym (inverse.key_is k _ keys.0))
    (subst (λ a. MeansScalar (two_key_object (codes "$code") d a e) x) (sym (inverse.key_is l _ keys.1))
    (code_text e d x g.1))

pub scalar_from : (m : Doubles) (t : Data) (x : Scalar) → scalar_read_in m t ≡ Ok x → MeansScalarIn m t x
scalar_from m tree.null x h = in_each m (rw (inverse.un_ok _ _ h) means.null)
scalar_from m (tree.boolean b) x h = in_each m (rw (inverse.un_ok _ _ h) (means.boolean b))
scalar_from m (tree.number n) x h = number_from_in m n x h
scalar_from m (tree.string s) x h = in_each m (rw (inverse.un_ok _ _ h) (means.text s))
scalar_from m (tree.array ds) x h = cc
scalar_from m (tree.object no_members) x h = cc
scalar_from m (tree.object (member k d no_members)) x h = single_from m k d (wrapper_of k) x refl h
scalar_from m (tree.object (member k d (member l e no_members))) x h = in_each m (scope_from k l d e x h)
scalar_from m (tree.object (member k d (member l e (member n f ms)))) x h = cc

-- a production of today's grammar is read so in each mode
to_each : (m : Doubles) {t : Data} {x : Scalar} → MeansScalar t x → scalar_read_in m t ≡ Ok x
to_each m means.null = refl
to_each m (means.boolean b) = refl
to_each m (means.text s) = refl
to_each m (means.narrow_number n z is fits) = narrow_read m n z is fits
to_each m (means.wide_number n z is never) = wide_read m n z is never
to_each m (means.number_int s z is) = rw (int_of_some w32 s z is) refl
to_each m (means.number_long s z is) = rw (int_of_some w64 s z is) refl
to_each m (means.number_double s p is) = rw (double_to m s p is) refl
to_each m (means.number_decimal s b is) = rw (decimal_of-some s b is) refl
to_each m (means.symbol s) = refl
to_each m (means.code s) = refl
to_each m (means.code_without_scope s) = refl
to_each m (means.regular_expression p o) = refl
to_each m (means.oid s id is) = rw (sized_to 12 s id is.0 is.1) refl
to_each m (means.db_pointer name s id is) = rw (sized_to 12 s id is.0 is.1) refl
to_each mode (means.timestamp i t m n i_is t_is) = rw (i_is, t_is) refl
to_each m (means.date_of_millis s z is) = rw (int_of_some w64 s z is) refl
to_each m (means.date_of_text s z is) = rw ((denotes-names s z).1 is) refl
to_each m (means.date_of_number n z is) = rw is refl
to_each m (means.binary s k bytes n is at) = rw (bytes_to s bytes is, sized_to 1 k (n ∷ []) at refl) refl
to_each m (means.uuid s id is) = rw (hyphenated_to s id is) refl
to_each m (means.min_key d is) = rw is refl
to_each m (means.max_key d is) = rw is refl
to_each m means.undefined = refl

to_finite : {t : Data} {x : Scalar} → MeansFinite t x → scalar_read_in Finite t ≡ Ok x
to_finite (means.nearest_to_text s p is) = rw (finite_to s p is) refl
to_finite (means.nearest_to_number n p none is) = rw none (rw is refl)

pub scalar_to : (m : Doubles) (t : Data) (x : Scalar) → MeansScalarIn m t x → scalar_read_in m t ≡ Ok x
scalar_to Special t x h = to_each Special h
scalar_to Finite t x (inl h) = to_each Finite h
scalar_to Finite t x (inr h) = to_finite h

pub scalar_one : (m : Doubles) (t : Data) (x y : Scalar) → MeansScalarIn m t x → MeansScalarIn m t y → x ≡ y
scalar_one m t x y h g = inverse.un_ok _ _ (sym (scalar_to m t y g) ∙ scalar_to m t x h)

-- a scalar that is read is writable, and in normal form, or a NaN of a decimal
form_each : (m : Doubles) {t : Data} {x : Scalar} → MeansScalar t x → IsReadScalarIn m x
form_each m (means.number_double s p is) = double_form_in m s p is
form_each m (means.regular_expression p o) = (refl, ap (regex p) (sorted_regex_options-again o))
form_each m (means.binary s k bytes n is at) = (refl, ap (λ k. binary (subtype_of k) bytes) (subtype_byte-of n))
form_each m (means.number_decimal s b is) = (refl, parses-form s b is)
form_each m means.null = (refl, refl)
form_each m (means.boolean b) = (refl, refl)
form_each m (means.text s) = (refl, refl)
form_each m (means.narrow_number n z is fits) = (refl, refl)
form_each m (means.wide_number n z is never) = (refl, refl)
form_each m (means.number_int s z is) = (refl, refl)
form_each m (means.number_long s z is) = (refl, refl)
form_each m (means.symbol s) = (refl, refl)
form_each m (means.code s) = (refl, refl)
form_each m (means.code_without_scope s) = (refl, refl)
form_each m (means.oid s id is) = (refl, refl)
form_each m (means.db_pointer name s id is) = (refl, refl)
form_each mode (means.timestamp i t m n i_is t_is) = (refl, refl)
form_each m (means.date_of_millis s z is) = (refl, refl)
form_each m (means.date_of_text s z is) = (refl, refl)
form_each m (means.date_of_number n z is) = (refl, refl)
form_each m (means.uuid s id is) = (refl, refl)
form_each m (means.min_key d is) = (refl, refl)
form_each m (means.max_key d is) = (refl, refl)
form_each m means.undefined = (refl, refl)

form_finite : {t : Data} {x : Scalar} → MeansFinite t x → IsReadScalarIn Finite x
form_finite (means.nearest_to_text s p is) = finite_form p (text_finite s p is).1
form_finite (means.nearest_to_number n p none is) = finite_form p (pattern_finite _ p is).1

pub scalar_form : (m : Doubles) (t : Data) (x : Scalar) → MeansScalarIn m t x → IsReadScalarIn m x
scalar_form Special t x h = form_each Special h
scalar_form Finite t x (inl h) = form_each Finite h
scalar_form Finite t x (inr h) = form_finite h

pub finite_range : {t : Data} {x : Scalar} → MeansFinite t x → ScalarInRange x
finite_range (means.nearest_to_text s p is) = (text_finite s p is).0
finite_range (means.nearest_to_number n p none is) = (pattern_finite _ p is).0

-- ---- what is written is the grammar's one tree

decimal_same : (b : List ℕ) → decimal_tree (canonical_decimal b) ≡ decimal_tree b
decimal_same b = ap (λ s. one_key_object (codes "$numberDecimal") (tree.string s)) (display_text-canon b)

-- a scalar's tree is that of its normal form
pub nf_written : (m : Doubles) (f : Form) (x : Scalar) → writes_scalar_in m f (normal_scalar x) ≡ writes_scalar_in m f x
nf_written m f (double p) = double_normal m f p
nf_written m f (regex p o) = ap (λ s. Ok (regex_tree p s)) (sorted_regex_options-again o)
nf_written m f (binary k bytes) =
    ap (λ n. Ok (one_key_object (codes "$binary")
    (two_key_object (codes "base64") (tree.string (padded_base64 bytes)) (codes "subType")
    (tree.string (encode_lower (n ∷ [])))))) (subtype_byte-of (subtype_byte k))
nf_written m f (decimal b) = ap Ok (decimal_same b)
nf_written m f x = refl

pub nf_again : (x : Scalar) → normal_scalar (normal_scalar x) ≡ normal_scalar x
nf_again (double p) = ap double (nan_form-again p)
nf_again (regex p o) = ap (regex p) (sorted_regex_options-again o)
nf_again (binary k bytes) = ap (λ n. binary (subtype_of n) bytes) (subtype_byte-of (subtype_byte k))
nf_again (decimal b) = ap decimal (canon-again b)
nf_again x = refl

-- of a scalar in normal form: the function and the relation
written_at : (m : Doubles) (f : Form) (x : Scalar) (t : Data) → writes_scalar_in m f (normal_scalar x) ≡ Ok t
    → WrittenScalarIn m f (normal_scalar x) t
written_at m f (double p) t h = double_from_tree m f (normal_double p) t h
written_at m f (regex p o) t h = un_ok _ _ h ∙ ap (regex_tree p) (sorted_regex_options-again o)
written_at m f x t h = un_ok _ _ h

writes_at : (m : Doubles) (f : Form) (x : Scalar) (t : Data) → WrittenScalarIn m f (normal_scalar x) t
    → writes_scalar_in m f (normal_scalar x) ≡ Ok t
writes_at m f (double p) t h = double_to_tree m f (normal_double p) t h
writes_at m f (regex p o) t h = ap Ok (ap (regex_tree p) (sorted_regex_options-again o) ∙ sym h)
writes_at m f x t h = ap Ok (sym h)

pub written_from : (m : Doubles) (f : Form) (x : Scalar) (t : Data) → writes_scalar_in m f x ≡ Ok t → WrittenScalarIn m f (normal_scalar x) t
written_from m f x t h = written_at m f x t (nf_written m f x ∙ h)

pub written_to : (m : Doubles) (f : Form) (x : Scalar) (t : Data) → WrittenScalarIn m f (normal_scalar x) t → writes_scalar_in m f x ≡ Ok t
written_to m f x t h = sym (nf_written m f x) ∙ writes_at m f x t h

pub writable_is : (m : Doubles) (f : Form) (x : Scalar) → is_ok (writes_scalar_in m f x) ≡ writable_scalar_in m x
writable_is m f (double p) = double_ok m f p
writable_is m f x = refl

pub all_writable_is : (x : Scalar) → ScalarInRange x → writable_scalar_in Finite x ≡ true
all_writable_is (double p) r = all_writable p r
all_writable_is x r = refl

-- ---- a tree is read as the normal form, narrowed where it is a relaxed one

wider : (z : ℤ) → FitsSigned w32 z → FitsSigned w64 z
wider z r = record { sfits = (let small : mag z < 2 ^ 31 = r.sfits in omega arith) }

int32_back : (m : Doubles) (f : Form) (z : ℤ) → FitsSigned w32 z → scalar_read_in m (int32_form f z) ≡ Ok (int32 z)
int32_back m Canonical z r = rw (int32_again z r) refl
int32_back m MongoDbCanonical z r = rw (int32_again z r) refl
int32_back m Relaxed z r = number_again m z (wider z r) ∙ ap (λ b. Ok (cond b (int32 z) (int64 z))) (fits_true 31 z r.sfits)
int32_back m MongoDbRelaxed z r = number_again m z (wider z r) ∙ ap (λ b. Ok (cond b (int32 z) (int64 z))) (fits_true 31 z r.sfits)

int64_back : (m : Doubles) (f : Form) (z : ℤ) → FitsSigned w64 z → scalar_read_in m (int64_form f z) ≡ Ok (int64_as_read_back f z)
int64_back m Canonical z r = rw (int64_again z r) refl
int64_back m MongoDbCanonical z r = rw (int64_again z r) refl
int64_back m Relaxed z r = number_again m z r
int64_back m MongoDbRelaxed z r = number_again m z r

recent_back : (m : Doubles) (f : Form) (b : Bool) (z : ℤ) → is_in_years_1970_to_9999 z ≡ b → FitsSigned w64 z
    → scalar_read_in m (relaxed_date_tree (relaxed_date_text f z) z) ≡ Ok (date z)
recent_back m f true z e r = rw e (rw (relaxed_denoted f z e) refl)
recent_back m f false z e r = rw e (rw (int64_again z r) refl)

date_back : (m : Doubles) (f : Form) (z : ℤ) → FitsSigned w64 z → scalar_read_in m (date_form f z) ≡ Ok (date z)
date_back m Canonical z r = rw (int64_again z r) refl
date_back m MongoDbCanonical z r = rw (int64_again z r) refl
date_back m Relaxed z r = recent_back m Relaxed _ z refl r
date_back m MongoDbRelaxed z r = recent_back m MongoDbRelaxed _ z refl r

double_back : (m : Doubles) (f : Form) (p : ℕ) (t : Data) → p < 2 ^ 64 → IsDoubleTree m f p t
    → scalar_read_in m t ≡ Ok (double (normal_double p))
double_back m f p t r (inl (s, has, is)) = rw is (rw (again m p s r has) refl)
double_back m f p t r (inr (finite_doubles, relaxed, finite, is)) = rw (finite_doubles, is) (number_back p r finite)

pub back : (m : Doubles) (f : Form) (x : Scalar) (t : Data) → writes_scalar_in m f x ≡ Ok t → ScalarInRange x
    → scalar_read_in m t ≡ Ok (scalar_as_read_back f (normal_scalar x))
back m f null t h r = rw (un_ok _ _ h) refl
back m f undefined t h r = rw (un_ok _ _ h) refl
back m f min_key t h r = rw (un_ok _ _ h) refl
back m f max_key t h r = rw (un_ok _ _ h) refl
back m f (boolean b) t h r = rw (un_ok _ _ h) refl
back m f (double p) t h r = double_back m f p t r (double_tree_of m f p t h)
back m f (int32 z) t h r = rw (un_ok _ _ h) (int32_back m f z r)
back m f (int64 z) t h r = rw (un_ok _ _ h) (int64_back m f z r)
back m f (text s) t h r = rw (un_ok _ _ h) refl
back m f (symbol s) t h r = rw (un_ok _ _ h) refl
back m f (code s) t h r = rw (un_ok _ _ h) refl
back m f (regex p o) t h r = rw (un_ok _ _ h) (ap (λ s. Ok (regex p s)) (sorted_regex_options-again o))
back m f (timestamp s i) t h r = rw (un_ok _ _ h) (rw (natural_again s r.0, natural_again i r.1) refl)
back m f (binary k bytes) t h r = rw (un_ok _ _ h) (rw (bytes_again bytes r.1, byte_again (subtype_byte k) r.0) refl)
back m f (object_id id) t h r = rw (un_ok _ _ h) (rw (id_again id r.0 r.1) refl)
back m f (date z) t h r = rw (un_ok _ _ h) (date_back m f z r)
back m f (decimal b) t h r = rw (un_ok _ _ h) (rw (decimal_of-display_text b) refl)
back m f (db_pointer s id) t h r = rw (un_ok _ _ h) (rw (id_again id r.0 r.1) refl)

pub reads_back : (m : Doubles) (f : Form) (x : Scalar) (t : Data) → writes_scalar_in m f x ≡ Ok t → ScalarInRange x
    → MeansScalarIn m t (scalar_as_read_back f (normal_scalar x))
reads_back m f x t h r = scalar_from m t _ (back m f x t h r)

-- ---- what reads back is read so again

narrow_at : (b : Bool) (z : ℤ) → fits_bits 31 z ≡ b
    → scalar_as_read_back Relaxed (cond b (int32 z) (int64 z)) ≡ cond b (int32 z) (int64 z)
narrow_at true z e = refl
narrow_at false z e = rw e refl

int64_twice : (f : Form) (z : ℤ) → scalar_as_read_back f (int64_as_read_back f z) ≡ int64_as_read_back f z
int64_twice Canonical z = refl
int64_twice MongoDbCanonical z = refl
int64_twice Relaxed z = narrow_at _ z refl
int64_twice MongoDbRelaxed z = narrow_at _ z refl

pub as_read_again : (f : Form) (x : Scalar) → scalar_as_read_back f (scalar_as_read_back f x) ≡ scalar_as_read_back f x
as_read_again f (int64 z) = int64_twice f z
as_read_again f x = refl

-- in a canonical form nothing is narrowed
pub as_read_canonical : (f : Form) (x : Scalar) → is_relaxed f ≡ false → scalar_as_read_back f x ≡ x
as_read_canonical f (int64 z) is = rw is refl
as_read_canonical f x is = refl

-- the relaxed forms are read back alike
pub as_read_relaxed : (x : Scalar) → scalar_as_read_back MongoDbRelaxed x ≡ scalar_as_read_back Relaxed x
as_read_relaxed (int64 z) = refl
as_read_relaxed x = refl

narrow_number : (m : Doubles) (f : Form) (b : Bool) (z : ℤ) → is_relaxed f ≡ true
    → writes_scalar_in m f (cond b (int32 z) (int64 z)) ≡ Ok (tree.number (of_integer z))
narrow_number m f true z is = rw is refl
narrow_number m f false z is = rw is refl

int64_written : (m : Doubles) (f : Form) (z : ℤ) → writes_scalar_in m f (int64_as_read_back f z) ≡ Ok (int64_form f z)
int64_written m Canonical z = refl
int64_written m MongoDbCanonical z = refl
int64_written m Relaxed z = narrow_number m Relaxed _ z refl
int64_written m MongoDbRelaxed z = narrow_number m MongoDbRelaxed _ z refl

-- what reads back has the same tree
pub as_read_written : (m : Doubles) (f : Form) (x : Scalar) → writes_scalar_in m f (scalar_as_read_back f x) ≡ writes_scalar_in m f x
as_read_written m f (int64 z) = int64_written m f z
as_read_written m f x = refl
