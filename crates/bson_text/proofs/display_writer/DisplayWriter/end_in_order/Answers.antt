use Rattle.std.proofs.Common.{arith, refl, sym, subst, true}
use Rattle.json.specs.Strict.{AreDistinct}
use Rattle.bson_text.specs.DisplayOutput.{HasDisplayAdded}
use Rattle.bson_text.specs.declared.display_writer.DisplayWriter.{DisplayWriter}
use Rattle.bson_text.proofs.ShownInOrder.{document_added}
use Rattle.bson_text.proofs.display_writer.DisplayWriter.end_in_order.Goals as goal

pub returns-clause-written : goal.returns-clause-written
returns-clause-written c = λ start mid ps open_container written keys.
    let now = c.args.self.now in
    let new = c.add_text.new.self in
    let kept : DisplayWriter = record {
      alloc = now.alloc;
      key_order = now.key_order;
      text = now.text;
      fragment = now.fragment;
      member_starts = c.truncate.new.self;
      needs_comma = now.needs_comma;
      sort_memory_limit = now.sort_memory_limit;
      utf8 = now.utf8;
    } in
    let apart = subst AreDistinct (sym keys) (c.are_distinct.ensures.0 (grind arith)) in
    document_added start mid now kept new c.args.open_container ps c.requires.first_occurrences open_container written apart refl refl
    c.truncate.ensures.items (subst (λ s. HasDisplayAdded kept s true new) c.closing_brace-brace.ensures c.in_ok-add_text.ensures)
