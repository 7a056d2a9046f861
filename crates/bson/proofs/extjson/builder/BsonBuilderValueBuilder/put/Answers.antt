use Rattle.std.proofs.Common.{◌≡◌, None, string_bytes, subst, sym}
use Rattle.bson_model.specs.Value.{Pairs, value_at_key}
use Rattle.bson.proofs.Built.{one_paired, lacks}
use Rattle.bson.proofs.extjson.builder.BsonBuilderValueBuilder.put.Goals as goal
use Rattle.bson.proofs.extjson.builder.BsonBuilderValueBuilder.put.Goals.{in-Ok, in-Err}

pub push-requires : goal.push-requires
push-requires c =
    let k = string_bytes c.args.key in
    lacks k c.args.pairs.now (subst (λ (ps : Pairs). value_at_key k ps ≡ None) (sym c.requires.1.0) c.requires.2)

pub returns : goal.returns
returns c = elim c.match-push.branch [
  | in-Ok w ↦ rw w.result-is (λ ps v paired represents.
      one_paired c.push.new.self c.args.pairs.now (string_bytes c.args.key) c.args.value ps v w.in-Ok.ensures.ok paired
      represents)
  | in-Err w ↦ rw w.result-is tt
]
