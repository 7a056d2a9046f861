use Rattle.std.proofs.Common.{◌≡◌, ◌∷◌, string_bytes, sym, ap, ◌∙◌, subst}
use Rattle.std.specs.Vec.Iter.{into_iter_items}
use Rattle.bson.specs.View.{bson_view}
use Rattle.bson_model.specs.Sorted.{KeysAscend}
use Rattle.bson.specs.SortedMembers.{pairs_of_members, insert_members}
use Rattle.bson.proofs.Members.{one_left}
use Rattle.bson.proofs.PutAscends.{put_ascends}
use Rattle.bson.proofs.extjson.text_reader.sorted_members.last_of_each_key.Goals as goal

pub members-preserved : goal.members-preserved
members-preserved c =
    let at = c.members in
    let later = into_iter_items c.next.new.self in
    let steps : into_iter_items at.key-iterator ≡ c.in-Some.field-0 ∷ later = c.in-Some.ensures.steps.0 in
    let ps = pairs_of_members at.unique_members.items in
    record {
      left = one_left _ later c.in-Some.field-0 _ _ at.invariant.left steps c.in-Some.ensures.steps.1;
      ascends = subst KeysAscend (sym c.in_ok-insert_or_replace.ensures)
          (put_ascends (string_bytes c.in-Some.field-0.key) (bson_view c.in-Some.field-0.value) ps
          at.invariant.ascends);
      all = ap (insert_members later) c.in_ok-insert_or_replace.ensures ∙ ap (λ ms. insert_members ms ps) (sym steps) ∙ at.invariant.all;
    }
