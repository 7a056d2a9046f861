-- `SmallPairs` as a type that may contain, by its values, a type that contains it.
use Rattle.std.specs.Prelude.{◌≡◌, ℕ, suc, ◌<◌, cond, List, [], ◌∷◌, map, None, Some, option_map, string_bytes, String}
use Rattle.std.specs.Prelude.{slice_index_or}
use Rattle.std.specs.BTreeMap.{get_by_text}
use mathlib.Core.Path.{refl, sym, ap, subst}
use mathlib.Core.HLevel.{Π_prop, ×_prop}
use mathlib.Core.Former.{Former, one_more, this, const, pair, list, via, children}
use native.Mathlib.Bridge.{le_prop}
use lib.ListN.{length-map}
use base.Stored.{code_map, coded×, coded_list, coded_ℕ, Coded-set, gcons}
use denote.RattleType.{RattleType}
use denote.HoleLaws.{Alike}
use denote.HolePlaces.{Recodes, struct_places, laid}
use denote.Hole.Carrier.{listed}
use denote.Hole.Fix.{over}
use denote.Param.Weighed.{Weighed}
use denote.Model.Placed.{held, view_places}
use Rattle.std.specs.Coded.{coded_option}
use Rattle.std.specs.List.{IsDistinct, IsDistinct-prop}
use Rattle.std.specs.List.Sorted.{IsStrictlySortedBy, IsStrictlySortedBy-prop}
use Rattle.std.specs.Str.{bytes_eq}
use Rattle.std.specs.declared.alloc.Global.{Global}
use Rattle.std.specs.contracts.alloc.Global as heap
use Rattle.std.specs.contracts.impls.GlobalAllocator.TheImpl.{ghosts}
use Rattle.std.specs.formers.vec.Vec as vec
use Rattle.bson_store.specs.declared.key_index.Index.{Index}
use Rattle.bson_store.specs.declared.key_index.Index.TheVariants.{Sorted, Map}
use Rattle.bson_store.specs.declared.small.Pair.{Pair}
use Rattle.bson_store.specs.contracts.small.Pair as PairContract
use Rattle.bson_store.specs.declared.small.SmallPairs.TheInside.{Inside}
use Rattle.bson_store.specs.declared.small.SmallPairs.TheView.{view, invariant}
use Rattle.bson_store.specs.contracts.small.SmallPairs as StoreContract
use Rattle.bson_store.specs.contracts.small.SmallPairs.TheInside as FieldsContract
use Rattle.bson_store.specs.AscendingOrder.{key_cmp}
use Rattle.bson_store.specs.Pairs.{keys, get, position_of}
use Rattle.bson_store.specs.KeyIndex.{OptionalIndex, stored_pairs, key_positions, HasAscendingKeys, IsIndexOf, HasNeededIndex, StoreInvariant}
use Rattle.bson_store.specs.formers.indexed.IndexedPairs as indexed

abbrev pub map_value : {X Y : Type 0} → (X → Y) → List ℕ × X → List ℕ × Y
map_value transform key_value = (key_value.0, transform key_value.1)

abbrev pub the_former : Former {0} → Former {0}
the_former value_former = list (pair (const (List ℕ)) value_former)

abbrev pub the_weighed : {value_former : Former {0}} → Weighed value_former → Weighed (the_former value_former)
the_weighed weighed_value = indexed.the_weighed weighed_value

pub the_empty : List (List ℕ × ⊥)
the_empty = []

abbrev pub the_items : (X : Type 0) → List (List ℕ × X) → List X
the_items X pair_list = indexed.the_items X pair_list

pub the_items_listed : (X : Type 0) (pair_list : List (List ℕ × X))
    → listed _ (children (the_former this) X pair_list) ≡ the_items X pair_list
the_items_listed X pair_list = indexed.the_items_listed X pair_list

-- a pair, and the fields
abbrev pair_former : Former {0}
pair_former =
    via (pair (const (String Global)) this) Pair (λ X stored_pair. (stored_pair.key, stored_pair.value))
    (λ X key_and_value. record { key = key_and_value.0; value = key_and_value.1 })
    (λ X stored_pair. refl) (λ X key_and_value. refl)

abbrev fields : Former {0}
fields =
    via (pair (vec.the_former pair_former Global) (const OptionalIndex)) Inside
    (λ X store. (store.pairs, store.positions))
    (λ X pairs_and_positions. record { pairs = pairs_and_positions.0; positions = pairs_and_positions.1 })
    (λ X store. refl) (λ X pairs_and_positions. refl)

stored-pairs-map : {X Y : Type 0} (transform : X → Y) (pair_list : List (Pair X))
    → stored_pairs (map (pair_former.map X Y transform) pair_list) ≡ map (map_value transform) (stored_pairs pair_list)
stored-pairs-map transform [] = refl
stored-pairs-map transform (first_pair ∷ pair_list) =
    ap (λ l. (string_bytes first_pair.key, transform first_pair.value) ∷ l) (stored-pairs-map transform pair_list)

stored-pairs-held : (X : Type 0) (pair_list : List (Pair X))
    → held (the_former this) X (stored_pairs pair_list) ≡ held (list pair_former) X pair_list
stored-pairs-held X [] = refl
stored-pairs-held X (first_pair ∷ pair_list) =
    λ i. (one_more (stored-pairs-held X pair_list i).0, (first_pair.value, (stored-pairs-held X pair_list i).1))

-- the positions of keys depend only on the keys
keys-map : {X Y : Type 0} (transform : X → Y) (pair_list : List (List ℕ × X))
    → keys (map (map_value transform) pair_list) ≡ keys pair_list
keys-map transform [] = refl
keys-map transform (first_pair ∷ pair_list) = ap (λ l. first_pair.0 ∷ l) (keys-map transform pair_list)

position-on : {X Y : Type 0} (transform : X → Y) (key_bytes : List ℕ) (pair_list : List (List ℕ × X))
    → position_of key_bytes (map (map_value transform) pair_list) ≡ position_of key_bytes pair_list
position-on transform key_bytes [] = refl
position-on transform key_bytes (first_pair ∷ pair_list) =
    ap (λ position. cond (bytes_eq key_bytes first_pair.0) (Some 0) (option_map suc position))
    (position-on transform key_bytes pair_list)

IsIndexOf-prop : {X : Type 0} (index : Index) (pair_list : List (List ℕ × X)) → IsProp (IsIndexOf index pair_list)
IsIndexOf-prop (Sorted index_positions) pair_list =
    ×_prop (IsStrictlySortedBy-prop key_cmp (keys (key_positions index_positions.items pair_list)))
    (Π_prop (λ key_bytes. Coded-set (coded_option coded_ℕ) _ _))
IsIndexOf-prop (Map position_map) pair_list = Π_prop (λ key_bytes. Coded-set (coded_option coded_ℕ) _ _)

HasNeededIndex-prop : {X : Type 0} (pair_list : List (List ℕ × X)) (optional_index : OptionalIndex)
    → IsProp (HasNeededIndex pair_list optional_index)
HasNeededIndex-prop pair_list None = Π_prop (λ more. IsStrictlySortedBy-prop key_cmp (keys pair_list))
HasNeededIndex-prop pair_list (Some boxed_index) = ×_prop le_prop (IsIndexOf-prop boxed_index.value pair_list)

StoreInvariant-prop : {X : Type 0} (pair_list : List (List ℕ × X)) (optional_index : OptionalIndex)
    → IsProp (StoreInvariant pair_list optional_index)
StoreInvariant-prop pair_list optional_index =
    ×_prop (IsDistinct-prop bytes_eq (keys pair_list)) (HasNeededIndex-prop pair_list optional_index)

module _ {X Y : Type 0} (transform : X → Y) where
  keyed-on : (position_list : List ℕ) (pair_list : List (List ℕ × X))
      → key_positions position_list (map (map_value transform) pair_list) ≡ key_positions position_list pair_list
  keyed-on position_list pair_list =
      ap (λ key_list. map (λ pair_position. (slice_index_or key_list pair_position [], pair_position)) position_list)
      (keys-map transform pair_list)

  indexes-on : (index : Index) (pair_list : List (List ℕ × X))
      → IsIndexOf index (map (map_value transform) pair_list) ≡ IsIndexOf index pair_list
  indexes-on (Sorted index_positions) pair_list =
      λ i. HasAscendingKeys (keyed-on index_positions.items pair_list i)
      × ((key_bytes : List ℕ)
      → get key_bytes (keyed-on index_positions.items pair_list i) ≡ position-on transform key_bytes pair_list i)
  indexes-on (Map position_map) pair_list = λ i. (key_bytes : List ℕ)
      → get_by_text position_map key_bytes ≡ position-on transform key_bytes pair_list i

  index-map : (pair_list : List (List ℕ × X)) (optional_index : OptionalIndex)
      → HasNeededIndex pair_list optional_index → HasNeededIndex (map (map_value transform) pair_list) optional_index
  index-map pair_list None needed_index =
      λ more. subst (IsStrictlySortedBy key_cmp) (sym (keys-map transform pair_list))
      (needed_index (subst (λ n. 16 < n) (length-map pair_list (map_value transform)) more))
  index-map pair_list (Some boxed_index) needed_index = (
    subst (λ n. 16 < n) (sym (length-map pair_list (map_value transform))) needed_index.0,
    subst (λ t. t)
        (sym (indexes-on boxed_index.value pair_list)) needed_index.1,
  )

  index-map-back : (pair_list : List (List ℕ × X)) (optional_index : OptionalIndex)
      → HasNeededIndex (map (map_value transform) pair_list) optional_index → HasNeededIndex pair_list optional_index
  index-map-back pair_list None needed_index =
      λ more. subst (IsStrictlySortedBy key_cmp) (keys-map transform pair_list)
      (needed_index (subst (λ n. 16 < n) (sym (length-map pair_list (map_value transform))) more))
  index-map-back pair_list (Some boxed_index) needed_index = (
    subst (λ n. 16 < n) (length-map pair_list (map_value transform)) needed_index.0,
    subst (λ t. t)
        (indexes-on boxed_index.value pair_list) needed_index.1,
  )

  invariant-map : (pair_list : List (Pair X)) (optional_index : OptionalIndex)
      → StoreInvariant (stored_pairs pair_list) optional_index
      → StoreInvariant (stored_pairs (map (pair_former.map X Y transform) pair_list)) optional_index
  invariant-map pair_list optional_index invariant_before =
      subst (λ other_pair_list. StoreInvariant other_pair_list optional_index)
      (sym (stored-pairs-map transform pair_list)) (
        subst (λ key_list. IsDistinct bytes_eq key_list)
            (sym (keys-map transform (stored_pairs pair_list))) invariant_before.0,
        index-map
            (stored_pairs pair_list) optional_index invariant_before.1,
      )

  invariant-map-back : (pair_list : List (Pair X)) (optional_index : OptionalIndex)
      → StoreInvariant (stored_pairs (map (pair_former.map X Y transform) pair_list)) optional_index
      → StoreInvariant (stored_pairs pair_list) optional_index
  invariant-map-back pair_list optional_index invariant_before =
      let q =
      subst (λ other_pair_list. StoreInvariant other_pair_list optional_index)
      (stored-pairs-map transform pair_list) invariant_before in (
        subst (λ key_list. IsDistinct bytes_eq key_list)
            (keys-map transform (stored_pairs pair_list)) q.0,
        index-map-back (stored_pairs pair_list) optional_index q.1,
      )

module _ (R S : RattleType) (transform : R.Denot → S.Denot) where
  pair_places : Alike R S transform
      → Alike (PairContract.the_row R) (PairContract.the_row S) (pair_former.map R.Denot S.Denot transform)
  pair_places a =
      struct_places (PairContract.the_type R) (PairContract.the_type S) (λ n. n, (transform, tt)) _ (λ d. refl) refl
      ((refl, (λ n. refl, λ n. refl)), (laid _ _ _ a, tt))

  pub the_places : Alike R S transform
      → Alike (StoreContract.the_row R) (StoreContract.the_row S) ((the_former this).map R.Denot S.Denot transform)
  the_places a =
      view_places fields (the_former this) view (λ X Y k store_fields. stored-pairs-map k store_fields.pairs.items)
      (λ X store_fields. stored-pairs-held X store_fields.pairs.items)
      R.Denot S.Denot transform (StoreContract.the_row R).coded (StoreContract.the_row S).coded
      (invariant R.Denot) (invariant S.Denot)
      (λ store_fields. StoreInvariant-prop (stored_pairs store_fields.pairs.items) store_fields.positions)
      (λ store_fields. StoreInvariant-prop (stored_pairs store_fields.pairs.items) store_fields.positions)
      (λ store_fields. invariant-map transform store_fields.pairs.items store_fields.positions)
      (λ store_fields. invariant-map-back transform store_fields.pairs.items store_fields.positions)
      (over (FieldsContract.the_row R)) (over (FieldsContract.the_row S))
      (struct_places (FieldsContract.the_type R) (FieldsContract.the_type S)
      (vec.mapped (pair_former.map R.Denot S.Denot transform), (λ n. n, tt)) _
      (λ d. refl) refl (
        laid _ _ _
            (vec.the_places heap.the_row ghosts (PairContract.the_row R) (PairContract.the_row S)
            (pair_former.map R.Denot S.Denot transform)
            (pair_places a)),
        ((refl, (λ n. refl, λ n. refl)), tt),
      ))

  pub the_codes_placed : Recodes R S transform
      → Recodes (StoreContract.the_row R) (StoreContract.the_row S) ((the_former this).map R.Denot S.Denot transform)
  the_codes_placed e entries =
      sym (code_map (coded× (coded_list coded_ℕ) R.coded).code (coded× (coded_list coded_ℕ) S.coded).code
      (map_value transform)
      (λ x i. gcons ((coded_list coded_ℕ).code x.0) (sym (e x.1) i)) entries)
