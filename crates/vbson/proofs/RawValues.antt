-- Values of documents that remain bytes.
use Rattle.std.proofs.Common.{◌≡◌, ℕ, ◌≤◌, List, Option, None, Some, Ok, length, drop, refl, sym, ap, ◌∙◌, subst, arith}
use Rattle.std.specs.Prelude.{◌↔◌, option_map}
use Rattle.std.specs.Borrow.{Bor}
use Rattle.bson_bytes.specs.Reading.{read_value_in, read_document_in}
use Rattle.bson_model.specs.declared.options.DuplicateKeys.TheVariants.{LastWins}
use Rattle.bson_model.specs.Value.{Value, Values, Pairs, no_pairs, scalar, code_scope, array, document}
use Rattle.bson_bytes.specs.RawElements.{HasValue, IsElement, IsValueOfElement}
use Rattle.bson_bytes.specs.TypedGetters.{binary_value, boolean_value, date_value, double_value, int32_value, int64_value, object_id_value, string_value}
use Rattle.bson_bytes.specs.NestedValues.{IsNested}
use Rattle.bson_bytes.specs.ReadElements.{BeginsWithElements}
use Rattle.bson_bytes.specs.declared.raw_element.RawElement.{RawElement}
use Rattle.bson_types.specs.ElementTags.{tag_of}
use Rattle.bson_types.specs.declared.spec.ElementType.{ElementType}
use Rattle.vbson.specs.Raw.{IsLookupResult, IsNextElement, IsTypedResult, IsRawValueOf, IsRawValueOfElement, boolean_number, subtype_and_bytes}
use Rattle.vbson.specs.declared.raw.RawValue.{RawValue}
use Rattle.vbson.specs.declared.raw.Slice.{Slice}

-- ---- what is found

at_value : (d : ℕ) (e : RawElement) (v : Value) (out : RawValue) → HasValue d e v → IsRawValueOfElement e out
    → length e.rest.now ≤ length e.value.now → IsRawValueOf d v out
at_value d e v out read is within = record {
  type = e.kind;
  tag = is.tag;
  read = subst (λ (bytes : List ℕ). read_value_in LastWins (read_document_in LastWins d) e.kind bytes ≡ Ok (v, drop out.len bytes)) (sym is.bytes)
      (subst (λ (n : ℕ). read_value_in LastWins (read_document_in LastWins d) e.kind e.value.now ≡ Ok (v, drop n e.value.now)) (sym is.len) read);
  within = omega (arith, within, is.len, ap length is.bytes);
}

pub got_none : (d : ℕ) (o : Option Value) (out : RawValue) → o ≡ None → IsLookupResult d o 14 out
got_none d o out none = subst (λ (p : Option Value). IsLookupResult d p 14 out) (sym none) refl

pub got_some : (d : ℕ) (o : Option Value) (e : RawElement) (out : RawValue) → IsValueOfElement d (Some e) o → IsRawValueOfElement e out
    → length e.rest.now ≤ length e.value.now → IsLookupResult d o 0 out
got_some d o e out found is within =
    subst (λ (p : Option Value). IsLookupResult d p 0 out) (sym found.1) (refl, at_value d e found.0 out found.2 is within)

pub next_none : (d : ℕ) (ps : Pairs) (cursor key : Slice) (value : RawValue) → ps ≡ no_pairs → IsNextElement d ps 14 cursor key value
next_none d ps cursor key value none = subst (λ (qs : Pairs). IsNextElement d qs 14 cursor key value) (sym none) refl

pub next_some : (d : ℕ) (ps : Pairs) (e : RawElement) (cursor key : Slice) (value : RawValue) → IsElement d e ps
    → IsRawValueOfElement e value → length e.rest.now ≤ length e.value.now → cursor.bytes ≡ e.rest → key.bytes ≡ e.key
    → IsNextElement d ps 0 cursor key value
next_some d ps e cursor key value h is within rest name =
    subst (λ (qs : Pairs). IsNextElement d qs 0 cursor key value) (sym h.pairs) (
      refl,
      ap (λ (b : Bor (List ℕ)). b.now) name,
      at_value d e h.value value h.read is within,
      subst (λ (b : Bor (List ℕ)). BeginsWithElements d b.now h.later_pairs) (sym rest) h.later_elements,
    )

-- ---- a value by its type

pub kind_is : (o : Option ElementType) (byte : ℕ) (t : ElementType) → ((k : ElementType) → (o ≡ Some k) ↔ (tag_of k ≡ byte))
    → byte ≡ tag_of t → o ≡ Some t
kind_is o byte t h is = (h t).1 (sym is)

some_kind : {A : Type 0} (x y : A) → Some x ≡ Some y → x ≡ y
some_kind x y e = cc

pub read_at : (d : ℕ) (v : Value) (value : RawValue) (o : Option ElementType) (k : ElementType)
    → ((k : ElementType) → (o ≡ Some k) ↔ (tag_of k ≡ value.kind)) → o ≡ Some k → IsRawValueOf d v value
    → read_value_in LastWins (read_document_in LastWins d) k value.bytes.now ≡ Ok (v, drop value.len value.bytes.now)
read_at d v value o k h is at =
    let same : at.type ≡ k = some_kind at.type k (sym (kind_is o value.kind at.type h at.tag) ∙ is) in
    subst (λ (t : ElementType). read_value_in LastWins (read_document_in LastWins d) t value.bytes.now ≡ Ok (v, drop value.len value.bytes.now)) same
    at.read

pub no_kind : (d : ℕ) (v : Value) (value : RawValue) (o : Option ElementType)
    → ((k : ElementType) → (o ≡ Some k) ↔ (tag_of k ≡ value.kind)) → o ≡ None → IsRawValueOf d v value → ⊥
no_kind d v value o h none at =
    let some = kind_is o value.kind at.type h at.tag in absurd cc

-- what a nested value is not
abbrev pub IsNever : {A : Type 0} → (Value → Option A) → Type 0
IsNever f = (v : Value) → IsNested v → f v ≡ None

never : {A : Type 0} (f : Value → Option A) → ((s : List ℕ) (ps : Pairs) → f (code_scope s ps) ≡ None)
    → ((vs : Values) → f (array vs) ≡ None) → ((ps : Pairs) → f (document ps) ≡ None) → IsNever f
never f of_scope of_array of_document (scalar s) h = absurd h
never f of_scope of_array of_document (code_scope s ps) h = of_scope s ps
never f of_scope of_array of_document (array vs) h = of_array vs
never f of_scope of_array of_document (document ps) h = of_document ps

pub never_int32 : IsNever int32_value
never_int32 = never int32_value (λ s ps. refl) (λ vs. refl) (λ ps. refl)

pub never_int64 : IsNever int64_value
never_int64 = never int64_value (λ s ps. refl) (λ vs. refl) (λ ps. refl)

pub never_double : IsNever double_value
never_double = never double_value (λ s ps. refl) (λ vs. refl) (λ ps. refl)

pub never_boolean : IsNever boolean_value
never_boolean = never boolean_value (λ s ps. refl) (λ vs. refl) (λ ps. refl)

pub never_string : IsNever string_value
never_string = never string_value (λ s ps. refl) (λ vs. refl) (λ ps. refl)

pub never_object_id : IsNever object_id_value
never_object_id = never object_id_value (λ s ps. refl) (λ vs. refl) (λ ps. refl)

pub never_date_time : IsNever date_value
never_date_time = never date_value (λ s ps. refl) (λ vs. refl) (λ ps. refl)

pub never_binary : IsNever binary_value
never_binary = never binary_value (λ s ps. refl) (λ vs. refl) (λ ps. refl)

pub typed_none : {A : Type 0} (f : Value → Option A) → IsNever f → (v : Value) → IsNested v → (x : A) → IsTypedResult (f v) 15 x
typed_none {A} f never v nested x = subst (λ (o : Option A). IsTypedResult o 15 x) (sym (never v nested)) refl

pub typed_other : {A : Type 0} (f : Value → Option A) (w v : Value) → w ≡ v → None ≡ f w → (x : A) → IsTypedResult (f v) 15 x
typed_other {A} f w v same is x = subst (λ (o : Option A). IsTypedResult o 15 x) (is ∙ ap f same) refl

pub typed_some : {A : Type 0} (f : Value → Option A) (w v : Value) → w ≡ v → (x y : A) → Some x ≡ f w → y ≡ x → IsTypedResult (f v) 0 y
typed_some {A} f w v same x y is e = subst (λ (o : Option A). IsTypedResult o 0 y) (is ∙ ap f same) (refl, e)

-- a boolean as a number, and the number of a subtype with the bytes
abbrev pub boolean_bit : Value → Option ℕ
boolean_bit v = option_map boolean_number (boolean_value v)

pub never_bit : IsNever boolean_bit
never_bit v nested = ap (option_map boolean_number) (never_boolean v nested)

abbrev pub binary_bytes : Value → Option (ℕ × List ℕ)
binary_bytes v = option_map subtype_and_bytes (binary_value v)

pub never_bytes : IsNever binary_bytes
never_bytes v nested = ap (option_map subtype_and_bytes) (never_binary v nested)
