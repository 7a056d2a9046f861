use Rattle.std.proofs.Common.{string_bytes, sym, ap, ◌∙◌, rules}
use Rattle.bson_store.specs.Pairs.{insert_pair}
use Rattle.bson.proofs.Copied.{put_all-push}
use Rattle.bson.proofs.document.Document.extend.Goals as goal

pub loop-key-preserved : goal.loop-key-preserved
loop-key-preserved g c = (
  search rules,
  search rules,
  c.in_ok-set.ensures.put ∙ ap (insert_pair (string_bytes c.in-Some.key) c.in-Some.value) c.loop-key.invariant.2
      ∙ sym (put_all-push c.loop-key.yielded (c.in-Some.key, c.in-Some.value) c.args.self.now.pairs),
)
