-- The laws that the crates above use. No other file of these proofs is cited from outside.
pub use Rattle.bson_tokens.proofs.ReadAlike.{text_read, text_kept, meant, meant_in_order}
-- how the elements and members of a text are read
pub use Rattle.bson_tokens.proofs.Rounds.{no_item, one_item, last_item, no_key, no_member, one_member, last_member}
pub use Rattle.bson_tokens.proofs.FirstFault.{Is, is_found}
pub use Rattle.bson_tokens.proofs.HeldRounds.{if_err, if_ok, was_read}
-- the text of an array or an object from the texts of its parts
pub use Rattle.bson_tokens.proofs.Texts.{array_printed, brace_printed, key_alone, no_more_items, no_more_members, one_more_item}
pub use Rattle.bson_tokens.proofs.Texts.{one_more_member, printed_items, printed_members, printed_then}
pub use Rattle.bson_tokens.proofs.Standing.{slice_between}
