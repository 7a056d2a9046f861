-- The texts of numbers in a tree are read as those numbers, and the text of a tree with no float is the compact one.
use Rattle.std.proofs.Common.{◌≡◌, ◌<◌, ◌^◌, ℕ, List, [], ◌∷◌, ◌++◌, length, get_or, Bool, true, false, Some}
use Rattle.std.proofs.Common.{T, refl, sym, ap, ap₂, ◌∙◌, subst, arith, from_bits, to_bits, ne_eqb, lt-ltb}
use Rattle.std.specs.Prelude.{unwrap_or}
use Rattle.std.specs.Char.{digit_value}
use Rattle.std.specs.Float.{Float, binary64, float_is_finite}
use Rattle.std.specs.Fmt.{sign_text}
use Rattle.std.specs.Str.Parse.{AllDigits}
use Rattle.std.proofs.lemmas.Bool.{or_parts}
use lib.Ieee.Bits.{is_true, of_bits-fits, of_bits-to_bits}
use Rattle.std.specs.Float.Numeral.{Parts, text_of, nearest_float as nearest, IsWellFormed}
use Rattle.std.specs.Float.Parse.{parse_float}
use Rattle.std.proofs.lemmas.Float.Parse.{scan_numeral-text_of as scan-text_of, parse_float-text_of}
use Rattle.json.specs.Json as json
use Rattle.json.specs.Print.{IsNumber, print}
use Rattle.json.specs.Tree.{json_tokens}
use Rattle.json.proofs.Printed.Floats.{IsNumber-plain}
use Rattle.ryu.specs.Plain.{IsPlain, IsPlainNumber}
use Rattle.serde_json.specs.Data.{Num, unsigned, negative, float, Data, Items, no_items, item, Members, no_members}
use Rattle.serde_json.specs.Data.{member}
use Rattle.serde_json.specs.Data as tree
use Rattle.serde_json.specs.Find.{is_float}
use Rattle.serde_json.specs.Read.{number_of, number_from, float_of, is_integer}
use Rattle.serde_json.specs.Written.{has_float, items_have_float, members_have_float}
use Rattle.serde_json.specs.Written as kit
use Rattle.serde_json.proofs.Texts.{print-outline}
use Rattle.bson_double.specs.FiniteDoubles.{is_finite}
use Rattle.bson_double.specs.DoubleText.{IsDoubleText}
use Rattle.bson_double.proofs.Offered.{bits_back, finite_value, json_number, parses}
use Rattle.bson_scalar.specs.Shortest.{finite_double_text}
use Rattle.bson_scalar.specs.TreeText.{float_text, number_text, json_of_tree, json_of_items, json_of_members}
use Rattle.bson_scalar.specs.TreeText as own
use Rattle.bson_scalar.specs.TreeText.{IsDouble, HasNoFloatIn, tree_text}
use Rattle.bson_scalar.specs.declared.form.Doubles.{Doubles}
use Rattle.bson_scalar.specs.declared.form.Doubles.TheVariants.{Special, Finite}
use Rattle.bson_scalar.specs.declared.form.Form.{Form}
use Rattle.bson_scalar.specs.declared.form.Form.TheVariants.{Canonical, MongoDbCanonical, MongoDbRelaxed, Relaxed}
use Rattle.bson_scalar.proofs.FiniteDoubles.{bits_finite, finite_text_to, some_of}
use Rattle.bson_scalar.proofs.ShortestText.{finite_text-some, finite_text_is}
use Rattle.bson_scalar.proofs.InverseLemmas.{un_some}

-- ---- a plain number with a point or an exponent is read as a float

never_minus : (ds rest : List ℕ) → AllDigits 10 ds → 0 < length ds → get_or (ds ++ rest) 0 0 ≡ 45 → ⊥
never_minus [] rest all some e = omega arith
never_minus (d ∷ ds) rest all some e =
    let digit : digit_value d < 10 = all.0 in let minus : d ≡ 45 = e in grind arith

read_parts : (sign : Bool) (p : Parts) → IsWellFormed p → 0 < length p.whole
    → number_of (sign_text sign ++ text_of p) ≡ number_from sign p
unfolding number_of
read_parts true p formed some = ap (number_from true) (scan-text_of p formed)
read_parts false p formed some =
    rw (ne_eqb (get_or (text_of p) 0 0) 45 (never_minus p.whole _ formed.whole_digits some))
    (ap (number_from false) (scan-text_of p formed))

marked : (p : Parts) (point : Bool) → p.point ≡ point → IsPlain p → is_integer p ≡ false
marked p true is plain = rw (is, lt-ltb _ _ plain.whole) refl
marked p false is plain =
    let some = plain.marked is in
    rw (is, lt-ltb _ _ plain.whole, ne_eqb (length p.exponent) 0 (λ z. omega arith)) refl

as_float : (sign : Bool) (p : Parts) → is_integer p ≡ false → number_from sign p ≡ float_of sign p
as_float true p e = rw e refl
as_float false p e = rw e refl

plain_read : (s : List ℕ) (x : Float) → IsPlainNumber s → parse_float binary64 s ≡ Some x
    → float_is_finite x ≡ true → number_of s ≡ Some (float x)
plain_read s x (sign, p, is, plain) parsed finite =
    let formed = plain.well_formed in
    let same : nearest binary64 sign p ≡ x =
    un_some _ _ (sym (parse_float-text_of binary64 sign p formed plain.whole) ∙ ap (parse_float binary64) (sym is) ∙ parsed) in
    ap number_of is ∙ read_parts sign p formed plain.whole ∙ as_float sign p (marked p p.point refl plain)
    ∙ rw same (rw finite refl)

-- ---- the text of a finite double

IsFloatText : Float → List ℕ → Type 0
IsFloatText x s = IsNumber s × (number_of s ≡ Some (float x))

text_at : (p : ℕ) (x : Float) (s : List ℕ) → p < 2 ^ 64 → is_finite p ≡ true → from_bits binary64 p ≡ x
    → IsDoubleText p s → IsFloatText x s
unfolding IsFloatText
text_at p x s small finite is text =
    let plain = json_number p s finite text in (
      IsNumber-plain s plain,
      plain_read s x plain (parses p s small finite text ∙ ap Some is)
          (subst (λ y. float_is_finite y ≡ true) is (finite_value p small finite)),
    )

pub float_text_is : (x : Float) → IsDouble x → IsDoubleText (to_bits binary64 x) (float_text x)
float_text_is x (fit, finite) =
    let p = bits_finite x (subst T (sym fit) tt) finite in
    let t = some_of (finite_double_text (to_bits binary64 x)) (finite_text-some (to_bits binary64 x) ∙ p.1) in
    subst (IsDoubleText (to_bits binary64 x)) (sym (ap (λ o. unwrap_or o []) t.1))
    (finite_text_is (to_bits binary64 x) t.0 t.1).1

float_back : (x : Float) → IsDouble x → IsFloatText x (float_text x)
float_back x (fit, finite) =
    let fits_so = subst T (sym fit) tt in
    let p = bits_finite x fits_so finite in
    text_at (to_bits binary64 x) x (float_text x) p.0 p.1 (of_bits-to_bits binary64 x fits_so)
    (float_text_is x (fit, finite))

pub float_is_number : (x : Float) → IsDouble x → IsNumber (float_text x)
unfolding IsFloatText
float_is_number x is = (float_back x is).0

pub float_is_read : (x : Float) → IsDouble x → number_of (float_text x) ≡ Some (float x)
unfolding IsFloatText
float_is_read x is = (float_back x is).1

-- the float of a pattern has the text of the pattern
pub pattern_text : (p : ℕ) (s : List ℕ) → p < 2 ^ 64 → is_finite p ≡ true → IsDoubleText p s
    → float_text (from_bits binary64 p) ≡ s
pattern_text p s small finite text =
    ap (λ q. unwrap_or (finite_double_text q) []) (bits_back p small finite)
    ∙ ap (λ o. unwrap_or o []) (finite_text_to p s finite text)

pub pattern_is_double : (p : ℕ) → p < 2 ^ 64 → is_finite p ≡ true → IsDouble (from_bits binary64 p)
pattern_is_double p small finite = (is_true _ (of_bits-fits binary64 p), finite_value p small finite)

-- ---- trees with no float

number_same : (n : Num) → is_float n ≡ false → number_text n ≡ kit.number_text n
number_same (unsigned n) h = refl
number_same (negative z) h = refl
number_same (float x) h = cc

mutual
  outline_same : (t : Data) → has_float t ≡ false → json_of_tree t ≡ kit.outline t
  outline_same tree.null h = refl
  outline_same (tree.boolean b) h = refl
  outline_same (tree.number n) h = ap json.number (number_same n h)
  outline_same (tree.string s) h = refl
  outline_same (tree.array ds) h = ap json.array (items_same ds h)
  outline_same (tree.object ms) h = ap json.object (members_same ms h)

  items_same : (ds : Items) → items_have_float ds ≡ false → json_of_items ds ≡ kit.items_outline ds
  items_same no_items h = refl
  items_same (item d ds) h =
      let p = or_parts (has_float d) _ h in ap₂ json.item (outline_same d p.0) (items_same ds p.1)

  members_same : (ms : Members) → members_have_float ms ≡ false → json_of_members ms ≡ kit.members_outline ms
  members_same no_members h = refl
  members_same (member k d ms) h =
      let p = or_parts (has_float d) _ h in ap₂ (json.member k) (outline_same d p.0) (members_same ms p.1)

compact_is : (t : Data) → has_float t ≡ false → kit.compact_text t ≡ own.text_of t
compact_is t h = sym (print-outline t) ∙ ap (λ j. print (json_tokens j)) (sym (outline_same t h))

pub text_is : (D : Doubles) (f : Form) (t : Data) → HasNoFloatIn D f t → tree_text D f t ≡ own.text_of t
text_is Special f t h = compact_is t h
text_is Finite Canonical t h = compact_is t h
text_is Finite MongoDbCanonical t h = compact_is t h
text_is Finite Relaxed t h = refl
text_is Finite MongoDbRelaxed t h = refl
