use Rattle.std.proofs.Common.{rules, ◌≡◌, to_z, of_z, w64, codes}
use Rattle.bson_scalar.specs.Ints.{int64_tree}
use Rattle.bson_scalar.proofs.Appending.{if_ok}
use Rattle.bson_scalar.proofs.dates.write_date_millis.Goals as goal

pub returns-clause-written : goal.returns-clause-written
returns-clause-written g c =
    let same : to_z w64 (of_z w64 c.timestamp_millis.result) ≡ c.args.date = search rules in
    if_ok c.end_one_key_object.result c.end_one_key_object.ensures.written
    (λ t ends. ends c.args.sink.now c.begin_object.new.sink (codes "$date")
    (int64_tree c.args.date) c.in_ok-key.ensures.written (rw same at c.in_ok-millis.ensures.written))
