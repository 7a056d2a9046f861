-- Scalars of a token alone, wrappers of one key, and code with its scope.
use Rattle.std.proofs.Common.{◌≡◌, ℕ, suc, ◌-◌, ◌<◌, List, ◌∷◌, length, Option, Some, None, Ok}
use Rattle.std.proofs.Common.{Bool, true, false, refl, sym, ap, ◌∙◌, codes, ◌&&◌, bytes_eq, arith, is_some, option_map}
use Rattle.std.proofs.lemmas.Bool.{and_parts}
use Rattle.std.proofs.lemmas.Option.{same_Some}
use Rattle.std.proofs.lemmas.Slice.Eq.{bytes_eq-Decides}
use Rattle.json.specs.Json as json
use Rattle.json.specs.Json.{read_key, value}
use Rattle.json.specs.Token as token
use Rattle.json.specs.Token.{Token}
use Rattle.json.proofs.Grammar.{value_is, value-begin_object}
use Rattle.serde_json.specs.Data.{Data, Num, null, boolean, number, string, array, object, no_members}
use Rattle.serde_json.specs.Data.{member}
use Rattle.serde_json.specs.Find.{as_str}
use Rattle.serde_json.specs.Read.{of_json, converted, number_of}
use Rattle.bson_scalar.specs.Reading.{number_read_in, optional_wrapper_read_in, wrapper_read_in}
use Rattle.bson_scalar.specs.Scalar.{Scalar, code}
use Rattle.bson_scalar.specs.Table.{wrapper_of}
use Rattle.bson_scalar.specs.declared.form.Doubles.{Doubles}
use Rattle.bson_scalar.specs.declared.wrapper.Wrapper.{Wrapper}
use Rattle.bson_model.specs.Reading.{scalar_result_as_value, code_value}
use Rattle.bson_model.specs.Value as model
use Rattle.bson_model.specs.Value.{Value, Pairs, scalar}
use Rattle.bson_model.specs.OrderedTrees.{tree_of_json, tree_sorted_by_key}
use Rattle.bson_model.specs.OrderedReading.{reads_tree_in_order, reads_scope_in_order}
use Rattle.bson_tokens.specs.WrapperContent.{IsWrapperContent}
use Rattle.bson_tokens.proofs.Offered.{was_read}
use Rattle.bson_text.specs.TraversalResults.{ReadsTree, ReadsObject, ReadsMembers, ReadsScope, ReadsCode, IsEndOfCode, tree_members_in_order}
use Rattle.bson_text.specs.TraversalResults.{members_after_brace, members_after_key}
use Rattle.bson_text.proofs.Objects.{object_of, begins, kept_from, alone, alone_kept, two, two_kept}

a_text : (t : Data) (s : List ℕ) → as_str t ≡ Some s → t ≡ string s
a_text null s is = cc
a_text (boolean b) s is = cc
a_text (number n) s is = cc
a_text (string r) s is = ap string (same_Some r s is)
a_text (array ds) s is = cc
a_text (object ms) s is = cc

module _ (D : Doubles) where
  -- ---- scalars

  pub token_means : (depth : ℕ) (k : Token) (ts s : List Token) (t : Data) (v : Value) (Wrote : Value → Type 0)
      → ts ≡ k ∷ s → converted tree_of_json (value depth (k ∷ s)) ≡ Some (t, s) → reads_tree_in_order D t ≡ Ok v → Wrote v
      → ReadsTree D (converted tree_of_json (value depth ts)) s Wrote
  token_means depth k ts s t v Wrote is read means written =
      (t, v, ap (λ x. converted tree_of_json (value depth x)) is ∙ read, means, written)

  pub number_means : (depth : ℕ) (k : List ℕ) (ts s : List Token) (n : Num) (x : Scalar) (Wrote : Value → Type 0)
      → ts ≡ token.number k ∷ s → number_of k ≡ Some n → number_read_in D n ≡ Ok x → Wrote (scalar x)
      → ReadsTree D (converted tree_of_json (value depth ts)) s Wrote
  number_means depth k ts s n x Wrote is found read written =
      token_means depth (token.number k) ts s (number n) (scalar x) Wrote is
      (ap (converted tree_of_json) (value_is depth (token.number k ∷ s))
      ∙ ap (λ m. option_map (λ d. (d, s)) (option_map number m)) found) (ap scalar_result_as_value read) written

  pub single_means : (depth : ℕ) (k : List ℕ) (wrapper : Wrapper) (ts r s : List Token) (held : Data) (x : Scalar)
      (Wrote : Value → Type 0) → wrapper_of k ≡ Some wrapper
      → IsWrapperContent (converted of_json (value depth ts)) held r → length r < length ts
      → read_key r ≡ Some (None, s) → wrapper_read_in D wrapper held ≡ Ok x → Wrote (scalar x)
      → ReadsObject D (tree_members_in_order (members_after_key depth (Some k) ts)) s Wrote
  single_means depth k wrapper ts r s held x Wrote named read less ended single written =
      let j = was_read of_json (value depth ts) read.0 r read.1 in
      let d = kept_from j.0 read.0 j.2 in
      let is : is_some (wrapper_of k) ≡ true = ap is_some named in
      let means : optional_wrapper_read_in D (wrapper_of k) (tree_sorted_by_key d.0) ≡ Ok x = ap (optional_wrapper_read_in D (wrapper_of k)) d.2
      ∙ sym (read.2.0 D (wrapper_of k)) ∙ ap (λ o. optional_wrapper_read_in D o held) named ∙ single in (
        member k d.0 no_members,
        scalar x,
        ap tree_members_in_order (alone depth k ts r s j.0 less j.1 ended) ∙ alone_kept k j.0 d.0 s d.1,
        rw is (ap scalar_result_as_value means),
        written,
      )

  -- ---- code with its scope

  pub scope_means : (depth : ℕ) (first : Option (List ℕ)) (ts s r : List Token) (Framed : Pairs → Type 0) → 0 < depth
      → read_key ts ≡ Some (first, s) → ReadsMembers D false (tree_members_in_order (members_after_key (depth - 1) first s)) r Framed
      → ReadsScope D depth ts r Framed
  scope_means depth first ts s r Framed left key (ms, ps, read, means, free, wrote_document) =
      (left, (ms, ps, ap tree_members_in_order (begins (depth - 1) first ts s key) ∙ read, means, free, wrote_document))

  pub code_alone : (depth : ℕ) (s : List ℕ) (needs_comma_after : Bool) (ts r rest : List Token) (Wrote : Value → Type 0)
      → ts ≡ token.null ∷ r → IsEndOfCode s needs_comma_after r rest → Wrote (scalar (code s))
      → ReadsCode D depth s needs_comma_after ts rest Wrote
  code_alone depth s needs_comma_after ts r rest Wrote is ended written =
      let length_is : length ts ≡ suc (length r) = ap length is in (
        null,
        None,
        r,
        ap (λ x. converted tree_of_json (value depth x)) is ∙ ap (converted tree_of_json) (value_is depth (token.null ∷ r)),
        omega (arith, length_is),
        ended,
        refl,
        written,
      )

  pub code_scoped : (depth : ℕ) (s : List ℕ) (needs_comma_after : Bool) (ts q r rest : List Token) (Framed : Pairs → Type 0)
      (Wrote : Value → Type 0) → ts ≡ token.begin_object ∷ q → ReadsScope D depth q r Framed → length r < length q
      → IsEndOfCode s needs_comma_after r rest → ((ps : Pairs) → Framed ps → Wrote (model.code_scope s ps))
      → ReadsCode D depth s needs_comma_after ts rest Wrote
  code_scoped depth s needs_comma_after ts q r rest Framed Wrote is (left, (ms, ps, read, means, free, wrote_document)) less ended ends =
      let length_is : length ts ≡ suc (length q) = ap length is in (
        object ms,
        Some ps,
        r,
        ap (λ x. converted tree_of_json (value depth x)) is ∙ ap (converted tree_of_json) (value-begin_object depth q left)
            ∙ object_of (members_after_brace (depth - 1) q) ms r read,
        omega (arith, length_is),
        ended,
        rw means refl,
        ends ps wrote_document,
      )

  code_is : (s : List ℕ) (d e : Data) (scope : Option Pairs) → tree_sorted_by_key d ≡ string s → reads_scope_in_order D e ≡ Ok scope
      → reads_tree_in_order D (object (member (codes "$code") d (member (codes "$scope") e no_members)))
      ≡ Ok (code_value s scope)
  code_is s d e scope is means = rw (is, means) refl

  behind_is : (s : List ℕ) (d : Data) (scope : Option Pairs) → reads_scope_in_order D d ≡ Ok scope
      → reads_tree_in_order D (object (member (codes "$scope") d (member (codes "$code") (string s) no_members)))
      ≡ Ok (code_value s scope)
  behind_is s d scope means = rw means refl

  pub code_means : (depth : ℕ) (k l s : List ℕ) (ts r q rest : List Token) (held : Data) (Wrote : Value → Type 0)
      → IsWrapperContent (converted of_json (value depth ts)) held r → length r < length ts → read_key r ≡ Some (Some l, q)
      → (bytes_eq k (codes "$code") && bytes_eq l (codes "$scope")) ≡ true → held ≡ string s
      → ReadsCode D depth s false q rest Wrote → ReadsObject D (tree_members_in_order (members_after_key depth (Some k) ts)) rest Wrote
  code_means depth k l s ts r q rest held Wrote read less key are text
      (e, scope, end, found, fewer, ended, means, written) =
      let both = and_parts (bytes_eq k (codes "$code")) (bytes_eq l (codes "$scope")) are in
      let first : k ≡ codes "$code" = (bytes_eq-Decides k (codes "$code")).0 both.0 in
      let second : l ≡ codes "$scope" = (bytes_eq-Decides l (codes "$scope")).0 both.1 in
      let j = was_read of_json (value depth ts) read.0 r read.1 in
      let i = was_read tree_of_json (value depth q) e end found in
      let d = kept_from j.0 read.0 j.2 in
      let named : read_key r ≡ Some (Some (codes "$scope"), q) = key ∙ ap (λ x. Some (Some x, q)) second in (
        member (codes "$code") d.0 (member (codes "$scope") e no_members),
        code_value s scope,
        ap (λ x. tree_members_in_order (members_after_key depth (Some x) ts)) first
            ∙ ap tree_members_in_order (two depth (codes "$code") (codes "$scope") ts r q end rest j.0 i.0 less j.1 named i.1 fewer ended)
            ∙ two_kept (codes "$code") (codes "$scope") j.0 i.0 d.0 e rest refl d.1 i.2,
        code_is s d.0 e scope (d.2 ∙ a_text read.0 s (sym read.2.1 ∙ ap as_str text)) means,
        written,
      )

  pub behind_means : (depth : ℕ) (s : List ℕ) (first : Option (List ℕ)) (ts q rest : List Token) (Wrote : Value → Type 0)
      → read_key ts ≡ Some (first, q) → first ≡ Some (codes "$scope") → ReadsCode D depth s true q rest Wrote
      → ReadsObject D (tree_members_in_order (members_after_brace depth ts)) rest Wrote
  behind_means depth s first ts q rest Wrote key is (d, scope, r, found, less, (end, named, ended), means, written) =
      let k = codes "$scope" in
      let l = codes "$code" in
      let j = was_read tree_of_json (value depth q) d r found in
      let mark : members_after_brace depth ts ≡ members_after_key depth (Some k) q =
      begins depth (Some k) ts q (key ∙ ap (λ x. Some (x, q)) is) in
      let needs_comma : value depth (token.string s ∷ end) ≡ Some (json.string s, end) = value_is depth (token.string s ∷ end) in (
        member k d (member l (string s) no_members),
        code_value s scope,
        ap tree_members_in_order (mark
            ∙ two depth k l q r (token.string s ∷ end) end rest j.0 (json.string s) less j.1 named needs_comma (omega arith) ended)
            ∙ two_kept k l j.0 (json.string s) d (string s) rest refl j.2 refl,
        behind_is s d scope means,
        written,
      )
