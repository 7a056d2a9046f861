-- What a failure denies of an object whose brace or first key was read, of code, and of a value.
use Rattle.std.proofs.Common.{◌≡◌, ℕ, zero, suc, ◌-◌, ◌<◌, List, [], ◌∷◌, length, Option, Some, None}
use Rattle.std.proofs.Common.{Ok, Err, Bool, true, false, option_map, refl, sym, ap, ◌∙◌, subst}
use Rattle.std.proofs.Common.{arith, codes, ◌&&◌, bytes_eq}
use Rattle.std.proofs.lemmas.Option.{same_Some}
use Rattle.json.specs.Json as json
use Rattle.json.specs.Json.{Parse, parse_map, read_key, items, members, value, value_with}
use Rattle.json.specs.Token as token
use Rattle.json.specs.Token.{Token}
use Rattle.json.specs.declared.error.Error.{Error}
use Rattle.json.specs.declared.error.Error.TheVariants as json_error
use Rattle.json.proofs.Grammar.{members_no_key, value_is, value-begin_array, value-begin_object}
use Rattle.serde_json.specs.Data.{Data, no_members}
use Rattle.serde_json.specs.Data as tree
use Rattle.serde_json.specs.Find.{as_str}
use Rattle.serde_json.specs.Read.{of_json, converted, number_of}
use Rattle.bson_scalar.specs.Faults.{Fault, IsReadError, wrong_shape}
use Rattle.bson_scalar.specs.Reading.{number_read_in, wrapper_read_in}
use Rattle.bson_scalar.specs.Table.{wrapper_of}
use Rattle.bson_scalar.specs.declared.error.Error.{Error as ReadError}
use Rattle.bson_scalar.specs.declared.error.Error.TheVariants as read_error
use Rattle.bson_scalar.specs.declared.form.Doubles.{Doubles}
use Rattle.bson_scalar.specs.declared.wrapper.Wrapper.{Wrapper}
use Rattle.bson_model.specs.Value as model
use Rattle.bson_model.specs.Value.{Pairs}
use Rattle.bson_model.specs.OrderedTrees.{items_of_json, members_of_json, tree_sorted_by_key}
use Rattle.bson_model.specs.OrderedReading.{reads_tree_in_order, reads_members_in_order, reads_scope_in_order}
use Rattle.bson_model.proofs.OfferedInOrder.{forgotten}
use Rattle.bson_tokens.specs.WrapperContent.{IsWrapperContent}
use Rattle.bson_tokens.specs.ReadOutcomes.{NothingReadIfInvalid}
use Rattle.bson_tokens.proofs.Offered.{was_read as from_tree}
use Rattle.bson_text.specs.TraversalResults.{members_after_brace, members_after_key, ReadsScope}
use Rattle.bson_text.proofs.Objects.{begins}
use Rattle.bson_text.specs.ScopeTokens.{IsNotScopeStart}
use Rattle.bson_text.specs.TraversalErrors.{IsErrorAfterGivingUp, error_of_json, error_of_reading}
use Rattle.bson_text.specs.ErrorDenials.{IsMeaningful, MembersAreMeaningful, ScopeIsMeaningful, EndsObject, ErrorRulesOutEnd, ErrorRulesOutNumber}
use Rattle.bson_text.specs.ErrorDenials.{ErrorRulesOutValueClaim, ErrorRulesOutCodeClaim}
use Rattle.bson_text.specs.RejectedText.{begins_with_scope}
use Rattle.bson_text.specs.ErrorDenials.{ErrorRulesOutValue, ErrorRulesOutItems, ErrorRulesOutObject, ErrorRulesOutMembers, ErrorRulesOutCode, ErrorRulesOutScope}
use Rattle.bson_text.specs.declared.traversal_error.TraversalError.{TraversalError}
use Rattle.bson_text.specs.declared.traversal_error.TraversalError.TheVariants as failure
use Rattle.bson_text.proofs.Denials.{denied, none_lacks, then_parsed, mapped_parse, mapped, was_read, Once, no_key_behind}
use Rattle.bson_text.proofs.Denials.{array_stopped, object_stopped}
use Rattle.bson_text.proofs.ObjectDenials.{document_some, kept_first, kept_stands, alone_means, two_means}
use Rattle.bson_text.proofs.Parsed.{same_parse, first_parsed, after_first, none_behind, one_behind, ended}
use Rattle.bson_text.proofs.Parsed.{held_is}

module _ (D : Doubles) (L S : Type 0) where
  -- ---- documents

  pub document_denied : (e : TraversalError) (depth : ℕ) (first : Option (List ℕ)) (ts s : List Token)
      → read_key ts ≡ Some (first, s) → ((k : List ℕ) → first ≡ Some k → wrapper_of k ≡ None)
      → ErrorRulesOutMembers D L S e true (members_after_key depth first s) → ErrorRulesOutObject D L S e (members_after_brace depth ts)
  document_denied e depth first ts s key plain nothing ms r is d =
      let here : members_after_key depth first s ≡ Some (ms, r) = sym (begins depth first ts s key) ∙ is in
      nothing ms r here (denied e (λ p. (p.0, (p.1.0.1, p.1.1))) (λ u. u)
      (λ u m. document_some D first ms (first_parsed depth first s r ms here) plain u m) d)

  pub no_key_denied : (e : TraversalError) (depth : ℕ) (ts : List Token) → read_key ts ≡ None → ErrorRulesOutObject D L S e (members_after_brace depth ts)
  no_key_denied e depth ts none = none_lacks (members_after_brace depth ts) _ (members_no_key (value depth) (length ts) ts none)

  -- ---- wrappers

  pub held_broken : (err : Error) (depth : ℕ) (k : List ℕ) (ts : List Token)
      → NothingReadIfInvalid (converted of_json (value depth ts)) err → ErrorRulesOutObject D L S (error_of_json err) (members_after_key depth (Some k) ts)
  held_broken json_error.OutOfMemory depth k ts broken ms r is d = d
  held_broken json_error.TooLong depth k ts broken ms r is d = d
  held_broken json_error.DuplicateKey depth k ts broken ms r is d = d
  held_broken json_error.Invalid depth k ts broken ms r is d =
      let g = then_parsed (json.member k) (members (value depth) (length ts)) (value depth ts) ms r is in
      let both = subst (λ x. Once x × IsMeaningful D (json.object x)) g.5 d in
      let t = kept_first D k g.0 g.2 both.0 both.1 in
      let one : of_json g.0 ≡ Some (tree_sorted_by_key t.0) = forgotten g.0 ∙ ap (option_map tree_sorted_by_key) t.1 in
      let there : converted of_json (value depth ts) ≡ Some (tree_sorted_by_key t.0, g.1) =
      ap (converted of_json) g.3 ∙ ap (option_map (λ x. (x, g.1))) one in
      let none : converted of_json (value depth ts) ≡ None = broken refl in cc

  pub no_second : (e : TraversalError) (depth : ℕ) (k : List ℕ) (ts r : List Token) (held : Data)
      → IsWrapperContent (converted of_json (value depth ts)) held r → read_key r ≡ None
      → ErrorRulesOutObject D L S e (members_after_key depth (Some k) ts)
  no_second e depth k ts r held read none =
      let j = held_is depth ts r held read in
      none_lacks (members_after_key depth (Some k) ts) _ (no_key_behind D (value depth) (length ts) k ts r j.0 j.1 none)

  alone_denied : (f : Fault) (depth : ℕ) (k : List ℕ) (w : Wrapper) (ts r s : List Token) (held : Data)
      → wrapper_of k ≡ Some w → IsWrapperContent (converted of_json (value depth ts)) held r → read_key r ≡ Some (None, s)
      → wrapper_read_in D w held ≡ Err f → ErrorRulesOutObject D L S failure.Syntax (members_after_key depth (Some k) ts)
  alone_denied f depth k w ts r s held named read end wrong ms rest is d =
      let h = held_is depth ts r held read in
      let j = h.0 in
      let a = after_first (value depth) (length ts) k ts r rest j ms is h.1 in
      let none = none_behind (value depth) (length ts) r s rest a.0 end a.1 in
      let both = subst (λ x. Once x × IsMeaningful D (json.object x)) (a.2 ∙ ap (json.member k j) none) d in
      let m = alone_means D k w j named both.0 both.1 in
      let same : m.0 ≡ h.2 = same_Some m.0 h.2 (sym m.2 ∙ h.3) in
      let reads : wrapper_read_in D w held ≡ Ok m.1 =
      h.4 D (Some w) ∙ subst (λ t. wrapper_read_in D w (tree_sorted_by_key t) ≡ Ok m.1) same m.3 in cc

  pub scalar_denied : (cause : ReadError) (depth : ℕ) (k : List ℕ) (w : Wrapper) (ts r s : List Token) (held : Data)
      → wrapper_of k ≡ Some w → IsWrapperContent (converted of_json (value depth ts)) held r → read_key r ≡ Some (None, s)
      → IsReadError cause (wrapper_read_in D w held) → ErrorRulesOutObject D L S (error_of_reading cause) (members_after_key depth (Some k) ts)
  scalar_denied read_error.OutOfMemory depth k w ts r s held named read end wrong = λ ms rest is d. d
  scalar_denied (read_error.DeserializationError m) depth k w ts r s held named read end wrong =
      alone_denied _ depth k w ts r s held named read end wrong
  scalar_denied (read_error.InvalidObjectId m) depth k w ts r s held named read end wrong =
      alone_denied _ depth k w ts r s held named read end wrong.1

  -- what two keys make
  two_keys : (depth : ℕ) (k l : List ℕ) (w : Wrapper) (ts r q rest : List Token) (j : json.Json) (ms : json.Members)
      → wrapper_of k ≡ Some w → value depth ts ≡ Some (j, r) → read_key r ≡ Some (Some l, q)
      → members_after_key depth (Some k) ts ≡ Some (ms, rest)
      → (i : json.Json) × (end : List Token) × (os : json.Members) × (value depth q ≡ Some (i, end))
      × (os ≡ json.no_members → read_key end ≡ Some (None, rest)) × (ms ≡ json.member k j (json.member l i os))
  two_keys depth k l w ts r q rest j ms named read key is =
      let a = after_first (value depth) (length ts) k ts r rest j ms is read in
      let b = one_behind (value depth) (length ts) r q rest l a.0 key a.1 in (
        b.1,
        b.2,
        b.3,
        b.4,
        λ none. ended (value depth) b.0 b.2 rest (subst (λ x. members (value depth) b.0 b.2 ≡ Some (x, rest)) none b.5),
        a.2 ∙ ap (json.member k j) b.6,
      )

  pub strange_denied : (depth : ℕ) (k l : List ℕ) (w : Wrapper) (ts r q : List Token) (held : Data)
      → wrapper_of k ≡ Some w → IsWrapperContent (converted of_json (value depth ts)) held r → read_key r ≡ Some (Some l, q)
      → (bytes_eq k (codes "$code") && bytes_eq l (codes "$scope")) ≡ false
      → ErrorRulesOutObject D L S failure.Syntax (members_after_key depth (Some k) ts)
  strange_denied depth k l w ts r q held named read key are ms rest is d =
      let h = held_is depth ts r held read in
      let g = two_keys depth k l w ts r q rest h.0 ms named h.1 key is in
      let both = subst (λ x. Once x × IsMeaningful D (json.object x)) g.5 d in
      let c = two_means D k l w h.0 g.0 g.2 named both.0 both.1 in
      let yes : (bytes_eq k (codes "$code") && bytes_eq l (codes "$scope")) ≡ true = rw (c.first, c.second) refl in cc

  pub textless_denied : (depth : ℕ) (k l : List ℕ) (w : Wrapper) (ts r q : List Token) (held : Data)
      → wrapper_of k ≡ Some w → IsWrapperContent (converted of_json (value depth ts)) held r → read_key r ≡ Some (Some l, q)
      → as_str held ≡ None → ErrorRulesOutObject D L S failure.Syntax (members_after_key depth (Some k) ts)
  textless_denied depth k l w ts r q held named read key none ms rest is d =
      let h = held_is depth ts r held read in
      let g = two_keys depth k l w ts r q rest h.0 ms named h.1 key is in
      let both = subst (λ x. Once x × IsMeaningful D (json.object x)) g.5 d in
      let c = two_means D k l w h.0 g.0 g.2 named both.0 both.1 in
      let same : c.code ≡ h.2 = same_Some c.code h.2 (sym c.code_kept ∙ h.3) in
      let text : as_str held ≡ Some c.text = h.5 ∙ subst (λ t. as_str (tree_sorted_by_key t) ≡ Some c.text) same c.code_text in cc

  pub code_denied : (e : TraversalError) (depth : ℕ) (k l : List ℕ) (w : Wrapper) (ts r q : List Token) (held : Data)
      → wrapper_of k ≡ Some w → IsWrapperContent (converted of_json (value depth ts)) held r → read_key r ≡ Some (Some l, q)
      → ErrorRulesOutCode D L S e false (value depth q) → ErrorRulesOutObject D L S e (members_after_key depth (Some k) ts)
  code_denied e depth k l w ts r q held named read key nothing ms rest is d =
      let h = held_is depth ts r held read in
      let g = two_keys depth k l w ts r q rest h.0 ms named h.1 key is in
      nothing g.0 g.1 g.3 (denied e (λ p. (p.0, p.1.1.1.0)) (λ u. u.1.1.0) (λ u m.
      let c = two_means D k l w h.0 g.0 g.2 named u m in
      (m.0.1.1.0, c.scope, c.pairs, c.scope_kept, c.scope_read, rest, g.4 c.alone))
      (subst (λ x. ErrorRulesOutValueClaim D L S e (json.object x)) g.5 d))

  -- an object that begins with its scope is left
  scope_given_up : (depth : ℕ) (q r : List Token) (ms : json.Members) (f : TraversalError)
      → members_after_key depth (Some (codes "$scope")) q ≡ Some (ms, r) → f ≡ failure.GaveUp → ErrorRulesOutValueClaim D L S f (json.object ms) → ⊥
  scope_given_up depth q r ms f parsed is d =
      let stays = subst (λ x. ErrorRulesOutValueClaim D L S x (json.object ms)) is d in
      let g = then_parsed (json.member (codes "$scope")) (members (value depth) (length q)) (value depth q) ms r parsed in
      let never : true ≡ false = subst (λ x. begins_with_scope x ≡ false) g.5 stays.1.0.0 in cc

  behind_key : (e f : TraversalError) (depth : ℕ) (q : List Token) → IsErrorAfterGivingUp e f → ErrorRulesOutCode D L S e true (value depth q)
      → ErrorRulesOutObject D L S f (members_after_key depth (Some (codes "$scope")) q)
  behind_key failure.OutOfMemory f depth q is nothing ms r parsed d =
      subst (λ x. ErrorRulesOutValueClaim D L S x (json.object ms)) is d
  behind_key failure.GaveUp f depth q is nothing ms r parsed d = scope_given_up depth q r ms f parsed is d
  behind_key failure.Syntax f depth q is nothing ms r parsed d = scope_given_up depth q r ms f parsed is d
  behind_key (failure.Fault place) f depth q is nothing ms r parsed d = scope_given_up depth q r ms f parsed is d
  behind_key failure.DuplicateKey f depth q is nothing ms r parsed d =
      let once = subst (λ x. ErrorRulesOutValueClaim D L S x (json.object ms)) is d in
      let g = then_parsed (json.member (codes "$scope")) (members (value depth) (length q)) (value depth q) ms r parsed in
      nothing g.0 g.1 g.3 (subst Once g.5 once).1.0

  pub behind_denied : (e f : TraversalError) (depth : ℕ) (first : Option (List ℕ)) (ts q : List Token)
      → read_key ts ≡ Some (first, q) → first ≡ Some (codes "$scope") → IsErrorAfterGivingUp e f
      → ErrorRulesOutCode D L S e true (value depth q) → ErrorRulesOutObject D L S f (members_after_brace depth ts)
  behind_denied e f depth first ts q key is needs_comma nothing ms r parsed d =
      let k = codes "$scope" in
      let here : members_after_key depth (Some k) q ≡ Some (ms, r) =
      sym (begins depth (Some k) ts q (key ∙ ap (λ x. Some (x, q)) is)) ∙ parsed in
      behind_key e f depth q needs_comma nothing ms r here d

  -- ---- code with its scope

  ends_of : (b : Bool) (j : json.Json) (r : List Token) → ScopeIsMeaningful D b j r → EndsObject b r
  ends_of true j r means = means
  ends_of false j r (free, t, ps, is, read, end, key) = (end, key)

  -- no scope is there
  array_no_scope : (o : Option (json.Items × List Token)) (j : json.Json) (r : List Token)
      → parse_map json.array o ≡ Some (j, r) → ScopeIsMeaningful D false j r → ⊥
  array_no_scope o j r is means =
      let g = mapped_parse json.array o j r is in
      let (free, t, ps, kept_is, read, end, key) = subst (λ x. ScopeIsMeaningful D false x r) g.2 means in
      let a = mapped tree.array (items_of_json g.0) t kept_is in
      let never : Err wrong_shape ≡ Ok ps = subst (λ x. reads_scope_in_order D x ≡ Ok ps) a.2 read in cc

  primitive_no_scope : (j i : json.Json) (s r : List Token) (o : Option (json.Json × List Token)) → o ≡ Some (j, s)
      → o ≡ Some (i, r) → (ScopeIsMeaningful D false j r → ⊥) → ScopeIsMeaningful D false i r → ⊥
  primitive_no_scope j i s r o here is nothing means =
      nothing (subst (λ x. ScopeIsMeaningful D false x r) (sym (same_parse o j i s r here is).0) means)

  none_at : (depth : ℕ) (ts : List Token) (j : json.Json) (r : List Token) (a : Parse json.Items) (o : Parse json.Members)
      → value_with a o ts ≡ Some (j, r) → IsNotScopeStart ts → ScopeIsMeaningful D false j r → ⊥
  none_at depth [] j r a o is none means = cc
  none_at depth (token.begin_object ∷ ts) j r a o is none means = none
  none_at depth (token.end_object ∷ ts) j r a o is none means = cc
  none_at depth (token.begin_array ∷ ts) j r a o is none means = array_no_scope (a ts) j r is means
  none_at depth (token.end_array ∷ ts) j r a o is none means = cc
  none_at depth (token.key s ∷ ts) j r a o is none means = cc
  none_at depth (token.string s ∷ ts) j r a o is none means = primitive_no_scope (json.string s) j ts r (Some (json.string s, ts)) refl is
      (λ (free, t, ps, kept_is, read, end, key).
      let never : Err wrong_shape ≡ Ok ps = subst (λ x. reads_scope_in_order D x ≡ Ok ps) (sym (same_Some (tree.string s) t kept_is)) read in cc) means
  none_at depth (token.number s ∷ ts) j r a o is none means = primitive_no_scope (json.number s) j ts r (Some (json.number s, ts)) refl is
      (λ (free, t, ps, kept_is, read, end, key).
      let n = mapped tree.number (number_of s) t kept_is in
      let never : Err wrong_shape ≡ Ok ps = subst (λ x. reads_scope_in_order D x ≡ Ok ps) n.2 read in cc) means
  none_at depth (token.boolean b ∷ ts) j r a o is none means = primitive_no_scope (json.boolean b) j ts r (Some (json.boolean b, ts)) refl is
      (λ (free, t, ps, kept_is, read, end, key).
      let never : Err wrong_shape ≡ Ok ps = subst (λ x. reads_scope_in_order D x ≡ Ok ps) (sym (same_Some (tree.boolean b) t kept_is)) read in cc) means
  none_at depth (token.null ∷ ts) j r a o is none means = none
  none_at depth (token.bad ∷ ts) j r a o is none means = cc

  of_behind : (b : Bool) (j : json.Json) (r : List Token) → (ScopeIsMeaningful D false j r → ⊥) → ScopeIsMeaningful D b j r → ⊥
  of_behind true j r nothing means = means
  of_behind false j r nothing means = nothing means

  pub no_scope_denied : (b : Bool) (depth : ℕ) (ts : List Token) → IsNotScopeStart ts → ErrorRulesOutCode D L S failure.Syntax b (value depth ts)
  no_scope_denied b depth ts none j r is d =
      of_behind b j r (none_at depth ts j r _ _ (sym (value_is depth ts) ∙ is) none) d.1

  -- the object does not end after the scope
  pub end_denied : (e : TraversalError) (b : Bool) (depth : ℕ) (ts r : List Token) (j : json.Json) → value depth ts ≡ Some (j, r)
      → ErrorRulesOutEnd e b r → ErrorRulesOutCode D L S e b (value depth ts)
  end_denied e b depth ts r j read nothing i s is d =
      let same = same_parse (value depth ts) i j s r is read in
      nothing (denied e (λ p. tt) (λ u. tt) (λ u m. subst (EndsObject b) same.1 (ends_of b i s m)) d)

  document_of : (b : Bool) (ms : json.Members) (r : List Token) → Once ms → ScopeIsMeaningful D b (json.object ms) r
      → MembersAreMeaningful D false ms
  document_of true ms r u means = absurd means
  document_of false ms r u (free, t, scope, is, read, end, key) =
      let a = mapped tree.object (members_of_json ms no_members) t is in
      let m = subst (λ x. reads_scope_in_order D x ≡ Ok scope) a.2 read in
      let ps = was_read Some (reads_members_in_order D a.0) scope m in
      (free.1, a.0, ps.0, kept_stands ms a.0 u.0 a.1, ps.1, λ yes. cc)

  pub scope_denied : (e : TraversalError) (b : Bool) (depth : ℕ) (ts q : List Token) → ts ≡ token.begin_object ∷ q
      → ErrorRulesOutScope D L S e depth q → ErrorRulesOutCode D L S e b (value depth ts)
  scope_denied e b zero ts q starts nothing i r is d =
      let none : value zero ts ≡ None = ap (value zero) starts ∙ value_is zero (token.begin_object ∷ q) in cc
  scope_denied e b (suc n) ts q starts nothing i r is d =
      let left : 0 < suc n = omega arith in
      let here : parse_map json.object (members_after_brace (suc n - 1) q) ≡ Some (i, r) =
      sym (ap (value (suc n)) starts ∙ value-begin_object (suc n) q left) ∙ is in
      let g = mapped_parse json.object (members_after_brace (suc n - 1) q) i r here in
      let ms = g.0 in
      nothing left ms r g.1 (denied e (λ p. (p.0, (p.1.0.1, p.1.1))) (λ u. u) (λ u m. document_of b ms r u m)
      (subst (λ x. ErrorRulesOutCodeClaim D L S e b x r) g.2 d))

  -- the scope that was read
  pub scope_parsed : (depth : ℕ) (ts q r : List Token) (Framed : Pairs → Type 0) → ts ≡ token.begin_object ∷ q
      → ReadsScope D depth q r Framed → (j : json.Json) × (value depth ts ≡ Some (j, r))
  scope_parsed depth ts q r Framed starts (left, (ms, ps, read, means, free, wrote_document)) =
      let j = from_tree (λ js. members_of_json js no_members) (members_after_brace (depth - 1) q) ms r read in (
        json.object j.0,
        ap (value depth) starts ∙ value-begin_object depth q left ∙ ap (parse_map json.object) j.1,
      )

  -- ---- values

  pub number_denied : (e : TraversalError) (depth : ℕ) (s : List ℕ) (ts r : List Token) → ts ≡ token.number s ∷ r
      → ErrorRulesOutNumber D e s → ErrorRulesOutValue D L S e (value depth ts)
  number_denied e depth s ts r starts nothing j rest is d =
      let read : value depth ts ≡ Some (json.number s, r) = ap (value depth) starts ∙ value_is depth (token.number s ∷ r) in
      let same = same_parse (value depth ts) j (json.number s) rest r is read in
      nothing (denied e (λ p. tt) (λ u. tt) (λ u (free, t, v, kept_is, means).
      let a = mapped tree.number (number_of s) t kept_is in
      let b = was_read model.scalar (number_read_in D a.0) v (subst (λ x. reads_tree_in_order D x ≡ Ok v) a.2 means) in
      (a.0, b.0, a.1, b.1)) (subst (ErrorRulesOutValueClaim D L S e) same.0 d))

  pub array_denied : (e : TraversalError) (depth : ℕ) (ts s : List Token) → ts ≡ token.begin_array ∷ s → 0 < depth
      → ErrorRulesOutItems D L S e (items (value (depth - 1)) (length s) s) → ErrorRulesOutValue D L S e (value depth ts)
  array_denied e depth ts s starts left nothing =
      subst (ErrorRulesOutValue D L S e) (sym (ap (value depth) starts ∙ value-begin_array depth s left))
      (array_stopped D L S e (items (value (depth - 1)) (length s) s) nothing)

  pub object_denied : (e : TraversalError) (depth : ℕ) (ts s : List Token) → ts ≡ token.begin_object ∷ s → 0 < depth
      → ErrorRulesOutObject D L S e (members_after_brace (depth - 1) s) → ErrorRulesOutValue D L S e (value depth ts)
  object_denied e depth ts s starts left nothing =
      subst (ErrorRulesOutValue D L S e) (sym (ap (value depth) starts ∙ value-begin_object depth s left))
      (object_stopped D L S e (members_after_brace (depth - 1) s) nothing)
