-- The laws that the crates above use. No other file of these proofs is cited from outside.
pub use Rattle.bson_tree.proofs.Agrees.{fault_to, first_fault, first_found, in_to, one_fault, one_path}
pub use Rattle.bson_tree.proofs.FaultLaws.{Coded}
pub use Rattle.bson_tree.proofs.Steps.{HasItems, HasPairs, HasScopeIn, IsScopeFaultIn, in_scope, no_scope}
pub use Rattle.bson_tree.proofs.Steps.{array_value, carried, document_value, lone_fault, lone_value, never, no_number}
pub use Rattle.bson_tree.proofs.Steps.{not_code, not_text, number_value, scope_of_map, scope_path, shape_fault}
pub use Rattle.bson_tree.proofs.Steps.{value_of, value_of_code, view_number}
