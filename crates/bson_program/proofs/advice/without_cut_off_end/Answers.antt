use Rattle.bson_program.proofs.Advising.{all_of, start_of}
use Rattle.bson_program.proofs.advice.without_cut_off_end.Goals as goal

pub returns-then-first_bytes-lt-FIRST_BYTES_LEN : goal.returns-then-first_bytes-lt-FIRST_BYTES_LEN
returns-then-first_bytes-lt-FIRST_BYTES_LEN c = all_of c.args.first_bytes.now

pub returns : goal.returns
returns c = start_of c.saturating_sub.result c.args.first_bytes.now
