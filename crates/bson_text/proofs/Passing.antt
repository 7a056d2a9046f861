-- Passing over the rest of an array, and of an object.
use Rattle.std.proofs.Common.{◌≡◌, ℕ, zero, suc, List, Option, Some, None, Bool, true, false, ◌||◌, is_some}
use Rattle.std.proofs.Common.{option_map, option_and_then, sym, ap, ◌∙◌, subst}
use Rattle.std.proofs.lemmas.Option.{same_Some}
use Rattle.json.specs.Json as json
use Rattle.json.specs.Json.{Parse, parse_map, after_end_array, read_key, items, items_step, members, members_step}
use Rattle.json.specs.Token.{Token}
use Rattle.bson_scalar.specs.Table.{wrapper_of}
use Rattle.bson_tree.specs.declared.place.Place.{Place}
use Rattle.bson_text.specs.ErrorPaths.{has_wrapper_key, IfErrorIsFault}
use Rattle.bson_text.specs.declared.traversal_error.TraversalError.{TraversalError}
use Rattle.bson_text.specs.declared.traversal_error.TraversalError.TheVariants as failure
use Rattle.bson_text.proofs.Denials.{mapped_parse}

then_parsed : {B C : Type 0} (f : json.Json → B → C) (more : Parse B) (o : Option (json.Json × List Token)) (c : C)
    (r mid : List Token) → option_and_then (λ q. parse_map (f q.0) (more q.1)) o ≡ Some (c, r)
    → option_map (λ p. p.1) o ≡ Some mid
    → (j : json.Json) × (b : B) × (more mid ≡ Some (b, r)) × (c ≡ f j b)
then_parsed f more None c r mid h skip = cc
then_parsed f more (Some (j, s)) c r mid h skip =
    let same : s ≡ mid = same_Some s mid skip in
    let g = mapped_parse (f j) (more mid) c r (subst (λ x. parse_map (f j) (more x) ≡ Some (c, r)) same h) in
    (j, g.0, g.1, g.2)

module _ (p : Parse json.Json) where
  pub item_on : (m : ℕ) (ts mid r : List Token) (ks : json.Items) → after_end_array ts ≡ None
      → option_map (λ q. q.1) (p ts) ≡ Some mid → items p m ts ≡ Some (ks, r)
      → (n : ℕ) × (js : json.Items) × (items p n mid ≡ Some (js, r))
  unfolding items
  item_on zero ts mid r ks going skip is = cc
  item_on (suc m) ts mid r ks going skip is =
      let g = then_parsed json.item (items p m) (p ts) ks r mid (sym (ap (items_step p (items p m) ts) going) ∙ is) skip in
      (m, g.1, g.2)

  pub items_off : (m : ℕ) (ts rest r : List Token) (ks : json.Items) → after_end_array ts ≡ Some rest
      → items p m ts ≡ Some (ks, r) → rest ≡ r
  unfolding items
  items_off zero ts rest r ks ended is = cc
  items_off (suc m) ts rest r ks ended is =
      let here : Some (json.no_items, rest) ≡ Some (ks, r) = sym (ap (items_step p (items p m) ts) ended) ∙ is in
      let same : (json.no_items, rest) ≡ (ks, r) = same_Some {A = json.Items × List Token} (json.no_items, rest) (ks, r) here in
      ap (λ q. q.1) same

  pub member_on : (m : ℕ) (k : List ℕ) (ts s mid r : List Token) (ks : json.Members) → read_key ts ≡ Some (Some k, s)
      → option_map (λ q. q.1) (p s) ≡ Some mid → members p m ts ≡ Some (ks, r)
      → (n : ℕ) × (js : json.Members) × (members p n mid ≡ Some (js, r))
      × (has_wrapper_key ks ≡ (is_some (wrapper_of k) || has_wrapper_key js))
  unfolding members
  member_on zero k ts s mid r ks named skip is = cc
  member_on (suc m) k ts s mid r ks named skip is =
      let here = sym (ap (option_and_then (λ q. members_step p (members p m) q.0 q.1)) named) ∙ is in
      let g = then_parsed (json.member k) (members p m) (p s) ks r mid here skip in
      (m, g.1, g.2, ap has_wrapper_key g.3)

  pub members_off : (m : ℕ) (ts rest r : List Token) (ks : json.Members) → read_key ts ≡ Some (None, rest)
      → members p m ts ≡ Some (ks, r) → (rest ≡ r) × (has_wrapper_key ks ≡ false)
  unfolding members
  members_off zero ts rest r ks ended is = cc
  members_off (suc m) ts rest r ks ended is =
      let here : Some (json.no_members, rest) ≡ Some (ks, r) =
      sym (ap (option_and_then (λ q. members_step p (members p m) q.0 q.1)) ended) ∙ is in
      let same : (json.no_members, rest) ≡ (ks, r) = same_Some {A = json.Members × List Token} (json.no_members, rest) (ks, r) here in
      (ap (λ q. q.1) same, ap (λ q. has_wrapper_key q.0) (sym same))

-- of both
pub or_again : (a b c d e : Bool) → d ≡ (a || e) → e ≡ (b || c) → d ≡ ((a || b) || c)
or_again true b c d e h g = h
or_again false b c d e h g = h ∙ g

pub or_none : (a b d : Bool) → d ≡ (a || b) → b ≡ false → a ≡ d
or_none true b d h g = sym h
or_none false b d h g = sym (h ∙ g)

-- from a value at a key on
pub step_on : (p : Parse json.Json) (n : ℕ) (l : List ℕ) (ts mid r : List Token) (ms : json.Members)
    → members_step p (members p n) (Some l) ts ≡ Some (ms, r) → option_map (λ q. q.1) (p ts) ≡ Some mid
    → (ks : json.Members) × (members p n mid ≡ Some (ks, r))
step_on p n l ts mid r ms is skip =
    let g = then_parsed (json.member l) (members p n) (p ts) ms r mid is skip in (g.1, g.2)

-- what holds of the place at a fault has what follows from it
pub at_map : (e : TraversalError) (P Q : Place → Type 0) → ((p : Place) → P p → Q p) → IfErrorIsFault e P → IfErrorIsFault e Q
at_map failure.OutOfMemory P Q f h = tt
at_map failure.DuplicateKey P Q f h = tt
at_map failure.GaveUp P Q f h = tt
at_map failure.Syntax P Q f h = tt
at_map (failure.Fault p) P Q f h = f p.value h
