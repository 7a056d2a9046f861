use Rattle.bson_text.proofs.Placing.{placed_first}
use Rattle.bson_text.proofs.member_spans.sorted_object.Goals as goal

pub sorted_object_of_many-requires-clause-indexes_by_key : goal.sorted_object_of_many-requires-clause-indexes_by_key
sorted_object_of_many-requires-clause-indexes_by_key c =
    placed_first c.args.keys.now c.in_ok-indexes.indexes.items c.in_ok-indexes.ensures

pub sorted_object_of_few-requires-clause-indexes_by_key : goal.sorted_object_of_few-requires-clause-indexes_by_key
sorted_object_of_few-requires-clause-indexes_by_key c =
    placed_first c.args.keys.now c.in_ok-indexes.indexes.items c.in_ok-indexes.ensures
