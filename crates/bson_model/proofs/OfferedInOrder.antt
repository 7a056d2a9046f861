-- The laws that the crates above use, in each mode of doubles. No other file of these proofs is cited from outside.

-- ---- for readers: `reads_tree_in_order` gives just what `MeansInOrder` says, part by part
pub use Rattle.bson_model.proofs.Forgets.{forgets}
pub use Rattle.bson_model.proofs.Forgetting.{read_forgotten, forgotten, put_forgotten}
pub use Rattle.bson_model.proofs.KeptTrees.{read_is_kept}
pub use Rattle.bson_model.proofs.OrderedMeansLaws.{means_from, means_in, items_from, items_in, document_from, document_in}
pub use Rattle.bson_model.proofs.OrderedMeansLaws.{one_in_order, meant_in_order}
pub use Rattle.bson_model.proofs.OrderedReadForm.{form, in_range, distinct}
pub use Rattle.bson_model.proofs.SortedKeys.{same_wrapper}
pub use Rattle.bson_model.proofs.TextMeaning.{text_means, meant_by_text}
-- ---- for writers: `writes_value_in_order` gives just what `WrittenInOrder` says, part by part
pub use Rattle.bson_model.proofs.KeptTexts.{own_text, put_last}
pub use Rattle.bson_model.proofs.TextLaws.{joined, joined_again, joined_none}
pub use Rattle.bson_model.proofs.OptionalValues.{turned}
pub use Rattle.bson_model.proofs.OrderedTexts.{ordered_text, comes_back, has_no_float}
pub use Rattle.bson_model.proofs.OrderedWriteLaws.{written_from, written_to, one_written, writable_is, default_written}
pub use Rattle.bson_model.proofs.OrderedWriteLaws.{items_from as items_written_from, items_to as items_written_to}
pub use Rattle.bson_model.proofs.OrderedWriteLaws.{pairs_from as pairs_written_from, pairs_to as pairs_written_to}
-- ---- for both orders
pub use Rattle.bson_model.proofs.ValueTexts.{meant_by_default, sorted_text, text_in_order, written_again}
