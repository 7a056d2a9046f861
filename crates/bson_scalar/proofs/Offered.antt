-- The laws that the crates above use. No other file of these proofs is cited from outside.
pub use Rattle.bson_scalar.proofs.BinaryLaws.{subtype_byte-of}
pub use Rattle.bson_scalar.proofs.DoubleModes.{in_each}
pub use Rattle.bson_scalar.proofs.InTurn.{in_turn, on_ok}
pub use Rattle.bson_scalar.proofs.InverseLemmas.{key_is, lone_is, string_is, text_then, two_are}
pub use Rattle.bson_scalar.proofs.ScalarLaws.{back, nf_again, nf_written, scalar_form, scalar_from}
pub use Rattle.bson_scalar.proofs.NoFloats.{scalar_no_float}
pub use Rattle.bson_scalar.proofs.ScalarLaws.{scalar_to, as_read_again, as_read_canonical, as_read_relaxed, as_read_written}
pub use Rattle.bson_scalar.proofs.ScalarLaws.{writable_is, written_from, written_to, finite_range, all_writable_is}
pub use Rattle.bson_scalar.proofs.OrderedScalars.{order_as_read_written, order_nf_written, order_no_float, order_writable_is}
pub use Rattle.bson_scalar.proofs.OrderedScalars.{order_written_from, order_written_to, specified_order}
pub use Rattle.bson_scalar.proofs.TreeTexts.{float_is_number, float_is_read, pattern_is_double, text_is}
pub use Rattle.bson_scalar.proofs.WrittenDoubles.{IsDoubleTree, double_tree_of}
