use Rattle.std.proofs.Common.{◌≡◌, ℕ, List, Result, drop}
use Rattle.json.specs.Token.{Token}
use Rattle.bson_scalar.specs.Written.{IsWriteFailureOf}
use Rattle.bson_scalar.specs.declared.write_error.WriteError.{WriteError}
use Rattle.bson_model.specs.Normal.{ItemsInRange, PairsInRange}
use Rattle.bson_model.specs.DistinctKeys.{AllKeysDistinct, ItemKeysDistinct, PairKeysDistinct}
use Rattle.bson.specs.KeyOrders.{writes_in_key_order, writes_items_in_key_order, writes_pairs_in_key_order, EachValueSatisfies}
use Rattle.bson.specs.Texts.{writes_each_pair}
use Rattle.bson.specs.View.{values_view, pairs_view}
use Rattle.bson.proofs.Printed.{EndsItems, EndsMembers}
use Rattle.bson.proofs.Room.{ValuesCost, PairsCost}
use Rattle.bson.proofs.Sizes.{NoLarger}
use Rattle.bson.proofs.extjson.text_writer.+print.Given as goal

abbrev pub invariant-print_items-loop-item : goal.invariant-print_items-loop-item
invariant-print_items-loop-item l =
    let all = values_view l.item-items in
    let left = values_view (drop l.item-index l.item-items) in
    record {
      before : l.writer.before ≡ l.initial.writer.before;
      ends : (end : List Token)
          → EndsItems (writes_items_in_key_order l.fn.key_order l.fn.doubles l.fn.form left) l.writer.tokens end
          → EndsItems (writes_items_in_key_order l.fn.key_order l.fn.doubles l.fn.form all) l.initial.writer.tokens end;
      stops : (e : WriteError) → IsWriteFailureOf e (writes_items_in_key_order l.fn.key_order l.fn.doubles l.fn.form left)
          → IsWriteFailureOf e (writes_items_in_key_order l.fn.key_order l.fn.doubles l.fn.form all);
      room : (r : Result (Unit {0}) WriteError) (end : ℕ) → ValuesCost l.fn.doubles l.fn.form left r l.writer.spare end
          → ValuesCost l.fn.doubles l.fn.form all r l.initial.writer.spare end;
      within_type_range : ItemsInRange left → ItemsInRange all;
      distinct : ItemKeysDistinct left → ItemKeysDistinct all;
    }

abbrev pub invariant-print_document-pairs : goal.invariant-print_document-pairs
invariant-print_document-pairs l =
    let w = writes_in_key_order l.fn.key_order l.fn.doubles l.fn.form in
    let whole = writes_pairs_in_key_order l.fn.key_order l.fn.doubles l.fn.form (pairs_view l.document.pairs) in
    let left = pairs_view l.key-iterator in
    record {
      before : l.writer.before ≡ l.initial.writer.before;
      ends : (end : List Token) → EndsMembers (writes_each_pair w left) l.writer.tokens end
          → EndsMembers whole l.initial.writer.tokens end;
      stops : (e : WriteError) → IsWriteFailureOf e (writes_each_pair w left) → IsWriteFailureOf e whole;
      room : (r : Result (Unit {0}) WriteError) (end : ℕ) → PairsCost l.fn.doubles l.fn.form left r l.writer.spare end
          → PairsCost l.fn.doubles l.fn.form (pairs_view l.document.pairs) r l.initial.writer.spare end;
      within_type_range : PairsInRange left → PairsInRange (pairs_view l.document.pairs);
      distinct : EachValueSatisfies AllKeysDistinct left → PairKeysDistinct (pairs_view l.document.pairs);
      larger : NoLarger l.key-iterator l.document;
    }
