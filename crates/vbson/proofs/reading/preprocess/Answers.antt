use Rattle.std.proofs.Common.{subst}
use Rattle.bson_run.specs.Preprocessed.{IsPreprocessingError}
use Rattle.vbson.proofs.Preprocessed.{turned_away}
use Rattle.vbson.proofs.reading.preprocess.Goals as goal

-- the arm before this one is that of running out of memory
pub returns-in-Err-2-clause-rejected : goal.returns-in-Err-2-clause-rejected
returns-in-Err-2-clause-rejected c =
    let text = c.args.text.now in
    let fault = c.in-Err.fault in
    turned_away c.one_duplicate_path.ensures.has_duplicate_key c.args.options fault text
    (subst (λ p. IsPreprocessingError p fault text) c.preprocessing_of.ensures c.in-Err.ensures.fault) c.if-is_out_of_memory.ensures
