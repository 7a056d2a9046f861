use Rattle.std.proofs.Common.{◌≡◌, []}
use Rattle.std.proofs.lemmas.Result.{IfOk-weaker}
use Rattle.bson.specs.InsertedPairs.{insert_entries}
use Rattle.bson.specs.View.{document_view, contents}
use Rattle.bson_bytes.specs.Grammar.{deduplicated}
use Rattle.bson_codec.specs.ReadToMemory.{entries_view}
use Rattle.bson_codec.proofs.Listed.{document_is}
use Rattle.bson_model.specs.Value.{Pairs}
use Rattle.bson_codec.proofs.pair_list.AnyPairsPairList.into_document.Goals as goal

pub returns : goal.returns
returns c =
    let es = c.args.self.entries.items in
    IfOk-weaker c.from_entries.result (λ d. contents d ≡ insert_entries es [])
    (λ d. (ps : Pairs) → entries_view es ≡ ps → document_view d ≡ deduplicated ps)
    (λ d h ps is. document_is d es ps h is) c.from_entries.ensures
