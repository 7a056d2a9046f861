-- The members of an object inserted one after another, and what they mean.
use Rattle.std.proofs.Common.{◌≡◌, ℕ, List, Bool, true, false, cond, Option, Some, None, option_map, option_and_then}
use Rattle.std.proofs.Common.{Result, Ok, Err, bytes_eq, is_some, refl, sym, ap, ◌∙◌}
use Rattle.std.proofs.lemmas.Bool.{or_parts}
use Rattle.json.specs.Json as json
use Rattle.serde_json.specs.Data.{Data, Members, no_members, member}
use Rattle.bson_scalar.specs.Faults.{Fault, ◌>>=◌}
use Rattle.bson_scalar.specs.Table.{wrapper_of, has_wrapper}
use Rattle.bson_scalar.specs.declared.form.Doubles.{Doubles}
use Rattle.bson_model.specs.Value.{Value, Pairs, no_pairs, pair}
use Rattle.bson_model.specs.OrderedTrees.{tree_of_json, members_of_json, put_at_key_position}
use Rattle.bson_model.specs.OrderedReading.{reads_tree_in_order, reads_members_in_order}
use Rattle.bson_text.specs.ErrorDenials.{members_as_given}
use Rattle.bson_text.specs.TraversalResults.{with_pair_set, with_pairs_set}

-- the members after each in turn is inserted
abbrev pub insert_each : Members → Members → Members
insert_each no_members found = found
insert_each (member k d ms) found = insert_each ms (put_at_key_position k d found)

first_of : (k : List ℕ) (x : Option Data) (y : Option Members) (ms : Members)
    → option_and_then (λ d. option_map (member k d) y) x ≡ Some ms
    → (d : Data) × (ds : Members) × (x ≡ Some d) × (y ≡ Some ds) × (ms ≡ member k d ds)
first_of k None y ms h = cc
first_of k (Some d) None ms h = cc
first_of k (Some d) (Some ds) ms h = (d, ds, refl, refl, cc)

pub kept_each : (js : json.Members) (ms found : Members) → members_as_given js ≡ Some ms
    → members_of_json js found ≡ Some (insert_each ms found)
kept_each json.no_members no_members found is = refl
kept_each json.no_members (member k d ms) found is = cc
kept_each (json.member k j js) ms found is =
    let g = first_of k (tree_of_json j) (members_as_given js) ms is in
    ap (option_and_then (λ d. members_of_json js (put_at_key_position k d found))) g.2
    ∙ kept_each js g.1 (put_at_key_position k g.0 found) g.3 ∙ ap (λ all. Some (insert_each all found)) (sym g.4)

-- ---- no wrapper's key

free_at : (b : Bool) (k l : List ℕ) (d e : Data) (ms : Members) → has_wrapper (member l e ms) ≡ false
    → has_wrapper (put_at_key_position k d ms) ≡ false → has_wrapper (cond b (member l d ms) (member l e (put_at_key_position k d ms))) ≡ false
free_at true k l d e ms h more = h
free_at false k l d e ms h more = rw ((or_parts (is_some (wrapper_of l)) (has_wrapper ms) h).0, more) refl

free_put : (k : List ℕ) (d : Data) (ms : Members) → is_some (wrapper_of k) ≡ false → has_wrapper ms ≡ false
    → has_wrapper (put_at_key_position k d ms) ≡ false
free_put k d no_members plain h = rw plain refl
free_put k d (member l e ms) plain h =
    free_at (bytes_eq k l) k l d e ms h
    (free_put k d ms plain (or_parts (is_some (wrapper_of l)) (has_wrapper ms) h).1)

pub free_each : (ms found : Members) → has_wrapper ms ≡ false → has_wrapper found ≡ false
    → has_wrapper (insert_each ms found) ≡ false
free_each no_members found h free = free
free_each (member k d ms) found h free =
    let parts = or_parts (is_some (wrapper_of k)) (has_wrapper ms) h in
    free_each ms (put_at_key_position k d found) parts.1 (free_put k d found parts.0 free)

-- ---- what they mean

module _ (D : Doubles) where
  first_read : (k : List ℕ) (x : Result Value Fault) (y : Result Pairs Fault) (ps : Pairs)
      → (x >>= λ v. y >>= λ qs. Ok (pair k v qs)) ≡ Ok ps
      → (v : Value) × (qs : Pairs) × (x ≡ Ok v) × (y ≡ Ok qs) × (ps ≡ pair k v qs)
  first_read k (Err e) y ps h = cc
  first_read k (Ok v) (Err e) ps h = cc
  first_read k (Ok v) (Ok qs) ps h = (v, qs, refl, refl, cc)

  reads_at : (b : Bool) (k l : List ℕ) (d e : Data) (v w : Value) (ms : Members) (ps : Pairs)
      → reads_tree_in_order D d ≡ Ok v → reads_tree_in_order D e ≡ Ok w → reads_members_in_order D ms ≡ Ok ps
      → reads_members_in_order D (put_at_key_position k d ms) ≡ Ok (with_pair_set k v ps)
      → reads_members_in_order D (cond b (member l d ms) (member l e (put_at_key_position k d ms)))
      ≡ Ok (cond b (pair l v ps) (pair l w (with_pair_set k v ps)))
  reads_at true k l d e v w ms ps new old all more = rw (new, all) refl
  reads_at false k l d e v w ms ps new old all more = rw (old, more) refl

  reads_put : (k : List ℕ) (d : Data) (v : Value) (ms : Members) (ps : Pairs) → reads_tree_in_order D d ≡ Ok v
      → reads_members_in_order D ms ≡ Ok ps → reads_members_in_order D (put_at_key_position k d ms) ≡ Ok (with_pair_set k v ps)
  reads_put k d v no_members no_pairs new all = rw new refl
  reads_put k d v no_members (pair l w ps) new all = cc
  reads_put k d v (member l e ms) ps new all =
      let g = first_read l (reads_tree_in_order D e) (reads_members_in_order D ms) ps all in
      reads_at (bytes_eq k l) k l d e v g.0 ms g.1 new g.2 g.3 (reads_put k d v ms g.1 new g.3)
      ∙ ap (λ qs. Ok (with_pair_set k v qs)) (sym g.4)

  pub reads_each : (ms found : Members) (ps qs : Pairs) → reads_members_in_order D ms ≡ Ok ps → reads_members_in_order D found ≡ Ok qs
      → reads_members_in_order D (insert_each ms found) ≡ Ok (with_pairs_set ps qs)
  reads_each no_members found no_pairs qs all is = is
  reads_each no_members found (pair k v ps) qs all is = cc
  reads_each (member k d ms) found ps qs all is =
      let g = first_read k (reads_tree_in_order D d) (reads_members_in_order D ms) ps all in
      reads_each ms (put_at_key_position k d found) g.1 (with_pair_set k g.0 qs) g.3 (reads_put k d g.0 found qs g.2 is)
      ∙ ap (λ x. Ok (with_pairs_set x qs)) (sym g.4)
