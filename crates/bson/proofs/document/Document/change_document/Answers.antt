use Rattle.std.proofs.Common.{◌≡◌, Some, None, refl, sym, ap, ◌∙◌}
use Rattle.bson_store.specs.Pairs.{get}
use Rattle.bson.specs.Kinds.{access_result, type_result, document_of}
use Rattle.bson.proofs.Kinded.{put-same}
use Rattle.bson.proofs.document.Document.change_document.Goals as goal

pub returns-in-Some-as_document_mut-clause-changed : goal.returns-in-Some-as_document_mut-clause-changed
returns-in-Some-as_document_mut-clause-changed g c =
    let there : get c.args.key.now c.args.self.now.pairs ≡ Some c.in-Some.value.now = sym c.in-Some.ensures.value in
    let inner = c.in-Some-as_document_mut.document in
    let is : document_of c.in-Some.value.now ≡ Some inner.now = sym c.in-Some-as_document_mut.ensures.value in (
      inner.now,
      c.change.new.arg2,
      ap (access_result document_of) there ∙ ap type_result is,
      record { shown = inner; shows = refl; left = _; met = c.change.ensures; leaves = refl },
      refl,
    )

-- a value of another kind stays: it is written again as it was
pub returns-in-None-as_document_mut-clause-refused : goal.returns-in-None-as_document_mut-clause-refused
returns-in-None-as_document_mut-clause-refused g c =
    let there : get c.args.key.now c.args.self.now.pairs ≡ Some c.in-Some.value.now = sym c.in-Some.ensures.value in
    let other : document_of c.in-Some.value.now ≡ None = sym c.in-None-as_document_mut.ensures.value in (
      ap (access_result document_of) there ∙ ap type_result other,
      put-same c.args.key.now c.args.self.now.pairs c.in-Some.value.now there,
    )
