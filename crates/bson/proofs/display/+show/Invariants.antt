use Rattle.std.proofs.Common.{codes, take}
use Rattle.std.specs.Fmt.{HasWritten, IsPlainFormatter}
use Rattle.std.specs.List.{join_by}
use Rattle.bson.proofs.Texts.{item_text, entry_text}
use Rattle.bson.proofs.display.+show.Given as goal

abbrev pub invariant-show_items-loop-element_index : goal.invariant-show_items-loop-element_index
invariant-show_items-loop-element_index g l =
    IsPlainFormatter l.initial.formatter → HasWritten g.W.Write.write_str_gives l.initial.formatter
    (join_by item_text (codes ", ") (take l.element_index l.items.items)) l.formatter

abbrev pub invariant-show_pairs-loop-element_index : goal.invariant-show_pairs-loop-element_index
invariant-show_pairs-loop-element_index g l =
    IsPlainFormatter l.initial.formatter → HasWritten g.W.Write.write_str_gives l.initial.formatter
    (join_by entry_text (codes ", ") (take l.element_index l.document.pairs)) l.formatter
