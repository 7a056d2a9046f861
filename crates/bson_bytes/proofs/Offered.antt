-- The laws that the crates above use. No other file of these proofs is cited from outside.
pub use Rattle.bson_bytes.proofs.Canonical.{written_read}
pub use Rattle.bson_bytes.proofs.GrammarLaws.{grammar_from, grammar_read, is_read, front_from, front_read}
pub use Rattle.bson_bytes.proofs.Rounds.{Read, elements, then_pairs, bad_byte, no_more, bad_tag, bad_name, bad_value}
pub use Rattle.bson_bytes.proofs.Rounds.{Goes, one_more, too_deep, bad_size, bad_list, unmapped, mapped_done}
pub use Rattle.bson_bytes.proofs.Rounds.{mapped_wrong}
pub use Rattle.bson_bytes.proofs.Rounds.{document_done, document_wrong, scope_done}
pub use Rattle.bson_bytes.proofs.Putting.{told_ok, told_err, document_fits}
pub use Rattle.bson_bytes.proofs.Within.{front_fault, fault_stands}
pub use Rattle.bson_bytes.proofs.Standing.{new_from, new_again}
pub use Rattle.bson_bytes.proofs.PartLaws.{wide32, length-little_endian, size_again}
pub use Rattle.bson_bytes.proofs.Passed.{passed_ok, passed_err}
pub use Rattle.bson_bytes.proofs.Texts.{string_utf8}
pub use Rattle.bson_bytes.proofs.Splits.{before}
