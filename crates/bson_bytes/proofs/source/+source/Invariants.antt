use Rattle.std.proofs.Common.{◌≤◌, length, ◌+◌, ◌*◌}
use Rattle.bson_bytes.proofs.Offered.{elements}
use Rattle.bson_model.specs.Value.{Pairs, no_pairs}
use Rattle.bson_bytes.specs.Source.{earlier_keys}
use Rattle.bson_bytes.proofs.Loop.{ListLeft, Given}
use Rattle.bson_bytes.proofs.source.+source.Given as goal

abbrev pub decreases-read_sized_elements : goal.decreases-read_sized_elements
decreases-read_sized_elements g l = 5 * l.depth

abbrev pub decreases-read_first_document : goal.decreases-read_first_document
decreases-read_first_document g l = 5 * l.depth + 1

abbrev pub decreases-read_array : goal.decreases-read_array
decreases-read_array g l = 5 * l.depth + 2

abbrev pub decreases-read_embedded_document : goal.decreases-read_embedded_document
decreases-read_embedded_document g l = 5 * l.depth + 2

abbrev pub decreases-read_code_with_scope : goal.decreases-read_code_with_scope
decreases-read_code_with_scope g l = 5 * l.depth + 2

abbrev pub decreases-read_value : goal.decreases-read_value
decreases-read_value g l = 5 * l.depth + 3

abbrev pub decreases-read_elements : goal.decreases-read_elements
decreases-read_elements g l = 5 * l.depth + 4

abbrev pub invariant-read_elements-elements : goal.invariant-read_elements-elements
invariant-read_elements-elements g l = (ps : Pairs)
    × ListLeft g.S.ValueSink.keys l.is_document l.depth ps l.rest (elements g.S.ValueSink.keys l.depth
    (earlier_keys g.S.ValueSink.keys l.is_document no_pairs) (length l.bytes) l.bytes)
    × Given (g.S.ValueSink.list_opened l.is_document) ps l.initial.open_list l.initial.value_sink l.open_list l.value_sink
    × (length l.rest ≤ length l.bytes)

abbrev pub decreases-read_elements-elements : goal.decreases-read_elements-elements
decreases-read_elements-elements g l = length l.rest
