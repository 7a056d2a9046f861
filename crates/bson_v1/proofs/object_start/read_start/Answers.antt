use Rattle.bson_v1.specs.declared.object_start.LeadingStrings.TheVariants.{Empty}
use Rattle.bson_v1.proofs.Beginnings.{whole_next}
use Rattle.bson_v1.proofs.object_start.read_start.Goals as goal

pub returns-in_default-clause-ok : goal.returns-in_default-clause-ok
returns-in_default-clause-ok c =
    whole_next Empty c.args.reader.now c.next_member.new.reader c.in_ok-key.field-0 c.in_default.is c.in_ok-key.ensures.ok
