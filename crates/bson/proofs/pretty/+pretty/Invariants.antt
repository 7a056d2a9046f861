use Rattle.std.proofs.Common.{◌≡◌, ◌++◌, codes, take, string_bytes}
use Rattle.std.specs.List.{join_by}
use Rattle.bson.specs.PrettyLines.{item_line, entry_line}
use Rattle.bson.proofs.pretty.+pretty.Given as goal

abbrev pub invariant-push_items-loop-element_index : goal.invariant-push_items-loop-element_index
invariant-push_items-loop-element_index l = string_bytes l.output
    ≡ string_bytes l.initial.output ++ join_by (item_line l.indent) (codes ", ") (take l.element_index l.items.items)

abbrev pub invariant-push_pairs-loop-element_index : goal.invariant-push_pairs-loop-element_index
invariant-push_pairs-loop-element_index l = string_bytes l.output
    ≡ string_bytes l.initial.output ++ join_by (entry_line l.indent) (codes ",\n") (take l.element_index l.document.pairs)
