use Rattle.std.proofs.Common.{◌≡◌, Some, None, inr, sym, ap, ◌∙◌}
use Rattle.bson_store.specs.Pairs.{get}
use Rattle.bson.specs.Kinds.{access_result, type_result}
use Rattle.bson.proofs.Kinded.{put-same}
use Rattle.bson.proofs.document.Document.get_as_mut.Goals as goal

-- a value of another kind stays: it is written again as it was
pub returns-in-None-get_mut_from : goal.returns-in-None-get_mut_from
returns-in-None-get_mut_from g c =
    let there : get c.args.key.now c.args.self.now.pairs ≡ Some c.in-Some.value.now = sym c.in-Some.ensures.value in
    let other : g.T.Kind.content_of c.in-Some.value.now ≡ None = sym c.in-None-get_mut_from.ensures.value in (
      λ i. inr (record { pairs = put-same c.args.key.now c.args.self.now.pairs c.in-Some.value.now there i }),
      sym (ap (access_result g.T.Kind.content_of) there ∙ ap type_result other),
    )
