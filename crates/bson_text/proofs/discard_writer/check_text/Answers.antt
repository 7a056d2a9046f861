use Rattle.bson_text.proofs.discard_writer.check_text.Goals as goal

pub returns-clause-ok : goal.returns-clause-ok
returns-clause-ok c = let (v, means, wrote_value) = c.in_ok-write_text.ensures.ok in (v, means)
