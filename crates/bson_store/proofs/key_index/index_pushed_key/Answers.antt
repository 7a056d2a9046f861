use Rattle.std.proofs.Common.{None, [], ◌∷◌, ◌++◌, string_bytes, subst, sym, arith}
use Rattle.std.proofs.lemmas.List.{length-append}
use Rattle.bson_store.specs.KeyIndex.{stored_pairs, IsIndexOf, HasNeededIndex}
use Rattle.bson_store.proofs.Placed.{distinct-push, on_ok, on_err, none_if}
use Rattle.bson_store.proofs.key_index.index_pushed_key.Goals as goal

pub index_next_key-requires-clause-indexes : goal.index_next_key-requires-clause-indexes
index_next_key-requires-clause-indexes g c =
    let ps = stored_pairs c.args.pairs.now.items in
    subst (λ x. IsIndexOf x ps) (sym c.deref_mut.ensures.value)
    (subst (HasNeededIndex ps) c.in-Some.is c.requires.indexed.1).1

pub returns-in-Some-clause-ok : goal.returns-in-Some-clause-ok
returns-in-Some-clause-ok g c =
    let ps = stored_pairs c.args.pairs.now.items in
    let k = string_bytes c.args.key.now in
    let old = subst (HasNeededIndex ps) c.in-Some.is c.requires.indexed.1 in
    on_ok c.index_next_key.result
    (λ made v. (
      distinct-push ps k v c.requires.indexed.0 c.requires.absent,
      (omega (arith, old.0, length-append ps ((k, v) ∷ [])), made v),
    ))
    c.index_next_key.ensures.ok

pub returns-in-Some-clause-err : goal.returns-in-Some-clause-err
returns-in-Some-clause-err g c =
    let ps = stored_pairs c.args.pairs.now.items in
    let old = subst (HasNeededIndex ps) c.in-Some.is c.requires.indexed.1 in
    on_err c.index_next_key.result (λ same. (c.requires.indexed.0, (old.0, same))) c.index_next_key.ensures.err

pub returns-clause-ok : goal.returns-clause-ok
returns-clause-ok g c = λ v.
    let ps = stored_pairs c.args.pairs.now.items in
    let k = string_bytes c.args.key.now in
    let full = c.needs_no_index.ensures.no c.if-needs_no_index.false in (
      distinct-push ps k v c.requires.indexed.0 c.requires.absent,
      (
        omega (arith, full, length-append ps ((k, v) ∷ [])),
        subst (λ x. IsIndexOf x (ps ++ (k, v) ∷ [])) (sym c.in_ok-new.ensures.ok) (c.in_ok-map.ensures v),
      ),
    )

pub returns-then-needs_no_index-clause-ok : goal.returns-then-needs_no_index-clause-ok
returns-then-needs_no_index-clause-ok g c = λ v.
    let ps = stored_pairs c.args.pairs.now.items in
    let k = string_bytes c.args.key.now in
    let none = none_if c.args.positions.now c.in_default.not-Some in (
      distinct-push ps k v c.requires.indexed.0 c.requires.absent,
      subst (HasNeededIndex (ps ++ (k, v) ∷ [])) (sym none)
          (subst (λ l. HasNeededIndex (ps ++ (l, v) ∷ []) None) c.as_str.ensures.value
          (c.needs_no_index.ensures.yes c.if-needs_no_index.true v)),
    )

pub needs_no_index-requires : goal.needs_no_index-requires
needs_no_index-requires g c =
    subst (HasNeededIndex (stored_pairs c.args.pairs.now.items))
    (none_if c.args.positions.now c.in_default.not-Some) c.requires.indexed.1
