use Rattle.bson.proofs.extjson.text_reader.retry.normalize_faultless.Goals as goal

pub returns-in-Err-clause-fault : goal.returns-in-Err-clause-fault
returns-in-Err-clause-fault c = c.error_of_tree.ensures c.args.doubles c.args.text.now c.in-Err.ensures.broken
