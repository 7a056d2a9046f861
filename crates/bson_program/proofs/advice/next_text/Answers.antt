use Rattle.bson_program.proofs.Advising.{after_shorter, split_by}
use Rattle.bson_program.proofs.advice.next_text.Goals as goal

pub returns-then-eq-clause-shorter : goal.returns-then-eq-clause-shorter
returns-then-eq-clause-shorter c = after_shorter c.args.remaining_bytes.now c.split_first_line.result.1.now c.split_first_line.ensures.other_lines

pub returns-then-reads_several-clause-split : goal.returns-then-reads_several-clause-split
returns-then-reads_several-clause-split c =
    split_by c.args.remaining_bytes.now c.split_text.result.0.now c.split_text.result.1.now c.split_text.ensures.separator
