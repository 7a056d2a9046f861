use Rattle.bson_scalar.proofs.Appending.{member_next}
use Rattle.bson_scalar.proofs.sink.WriterSink.member.Goals as goal

pub returns-clause-written : goal.returns-clause-written
returns-clause-written c =
    λ start mid ms k d begun wrote_tree last. member_next start.tokens mid.tokens c.args.self.now.tokens ms k d begun wrote_tree
