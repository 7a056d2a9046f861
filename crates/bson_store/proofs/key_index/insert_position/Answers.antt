use Rattle.std.proofs.Common.{Some, string_bytes, ap, ◌∙◌}
use Rattle.std.specs.Str.{bytes_eq}
use Rattle.std.specs.Map.{update}
use Rattle.std.specs.BTreeMap.{get_by_text}
use Rattle.std.proofs.lemmas.Map.Text.{btree_map_updates_text}
use Rattle.bson_store.proofs.key_index.insert_position.Goals as goal
use Rattle.bson_store.proofs.key_index.insert_position.Goals.{in-Ok, in-Err}

pub returns-clause-ok : goal.returns-clause-ok
returns-clause-ok c = elim c.match-insert.branch [
  | in-Ok w ↦ rw w.result-is (λ k.
      btree_map_updates_text (string_bytes c.in_ok-clone.field-0) c.args.positions.now c.insert.new.self
      (Some c.args.position) w.in-Ok.ensures.updates k
      ∙ ap (λ b. update bytes_eq (get_by_text c.args.positions.now) b (Some c.args.position) k) c.in_ok-clone.ensures.cases)
  | in-Err w ↦ rw w.result-is tt
]
