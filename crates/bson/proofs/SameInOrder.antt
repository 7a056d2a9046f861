-- Equality with the order of keys is equality.
use Rattle.std.proofs.Common.{◌≡◌, Bool, true, ◌&&◌, refl, ap, ap₂, subst}
use Rattle.std.proofs.lemmas.Bool.{and_parts}
use Rattle.std.proofs.lemmas.Slice.Eq.{bytes_eq-Decides}
use Rattle.bson_model.specs.Value.{Value, scalar, code_scope, array, document, Values, no_values, value, Pairs}
use Rattle.bson_model.specs.Value.{no_pairs, pair}
use Rattle.bson_scalar.specs.SameLaws.{scalar_decides}
use Rattle.bson.specs.SameInOrder.{same_in_order, same_items_in_order, same_pairs_in_order}

mutual
  unfolding same_in_order

  pub order_to : (v w : Value) → same_in_order v w ≡ true → v ≡ w
  order_to (scalar x) (scalar y) h = ap scalar ((scalar_decides x y).0 h)
  order_to (code_scope s ps) (code_scope t qs) h =
      let p = and_parts _ _ h in ap₂ code_scope ((bytes_eq-Decides s t).0 p.0) (pairs_to ps qs p.1)
  order_to (array vs) (array ws) h = ap array (items_to vs ws h)
  order_to (document ps) (document qs) h = ap document (pairs_to ps qs h)
  order_to _ _ h = cc

  items_to : (vs ws : Values) → same_items_in_order vs ws ≡ true → vs ≡ ws
  items_to no_values no_values h = refl
  items_to (value v vs) (value w ws) h =
      let p = and_parts _ _ h in ap₂ value (order_to v w p.0) (items_to vs ws p.1)
  items_to _ _ h = cc

  pub pairs_to : (ps qs : Pairs) → same_pairs_in_order ps qs ≡ true → ps ≡ qs
  pairs_to no_pairs no_pairs h = refl
  pairs_to (pair k v ps) (pair l w qs) h =
      let p = and_parts _ _ h in
      let q = and_parts _ _ p.1 in
      rw ((bytes_eq-Decides k l).0 p.0, order_to v w q.0, pairs_to ps qs q.1) refl
  pairs_to _ _ h = cc

and_both : (a b : Bool) → a ≡ true → b ≡ true → (a && b) ≡ true
and_both a b h g = rw (h, g) refl

mutual
  unfolding same_in_order

  order_itself : (v : Value) → same_in_order v v ≡ true
  order_itself (scalar x) = (scalar_decides x x).1 refl
  order_itself (code_scope s ps) = and_both _ _ ((bytes_eq-Decides s s).1 refl) (pairs_themselves ps)
  order_itself (array vs) = items_themselves vs
  order_itself (document ps) = pairs_themselves ps

  items_themselves : (vs : Values) → same_items_in_order vs vs ≡ true
  items_themselves no_values = refl
  items_themselves (value v vs) = and_both _ _ (order_itself v) (items_themselves vs)

  pairs_themselves : (ps : Pairs) → same_pairs_in_order ps ps ≡ true
  pairs_themselves no_pairs = refl
  pairs_themselves (pair k v ps) =
      and_both _ _ ((bytes_eq-Decides k k).1 refl) (and_both _ _ (order_itself v) (pairs_themselves ps))

pub order_from : (v w : Value) → v ≡ w → same_in_order v w ≡ true
order_from v w e = subst (λ x. same_in_order v x ≡ true) e (order_itself v)

pub pairs_from : (ps qs : Pairs) → ps ≡ qs → same_pairs_in_order ps qs ≡ true
pairs_from ps qs e = subst (λ x. same_pairs_in_order ps x ≡ true) e (pairs_themselves ps)
