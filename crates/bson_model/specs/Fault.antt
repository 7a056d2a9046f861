-- Why a tree means nothing: the first fault that reading it meets, of the elements of an array in their order, of the
-- values of a map by ascending key, and of a wrapper as a whole. It is the text of an object id where that alone is wrong.
use Rattle.std.specs.Prelude.{◌≡◌, ℕ, List, Result, Ok, Err}
use Rattle.serde_json.specs.Data.{Data, Members}
use Rattle.bson_scalar.specs.Faults.{Fault, wrong_shape, wrong_id, IsIdFault}
use Rattle.bson_scalar.specs.declared.error.Error.{Error}
use Rattle.bson_scalar.specs.declared.error.Error.TheVariants.{InvalidObjectId, DeserializationError, OutOfMemory}
use Rattle.bson_model.specs.Value.{Value, Pairs}
use Rattle.bson_model.specs.Means.{MeansIn, MeansDocumentIn}
use Rattle.bson_model.specs.Reading.{reads_tree_in, reads_members_in}
use Rattle.bson_scalar.specs.declared.form.Doubles.{Doubles}
use Rattle.bson_scalar.specs.declared.form.Doubles.TheVariants.{Special}

abbrev pub fault_or_wrong_shape : {A : Type 0} → (read_result : Result A Fault) → Fault
fault_or_wrong_shape (Err read_error) = read_error
fault_or_wrong_shape (Ok read_value) = wrong_shape

abbrev pub fault_of_in : Doubles → Data → Fault
fault_of_in doubles json_tree = fault_or_wrong_shape (reads_tree_in doubles json_tree)

-- of the own values of a map
abbrev pub document_fault_in : Doubles → Members → Fault
document_fault_in doubles member_list = fault_or_wrong_shape (reads_members_in doubles member_list)

-- the tree means nothing
abbrev pub MeansNothingIn : Doubles → Data → Type 0
MeansNothingIn doubles json_tree = (bson_value : Value) → MeansIn doubles json_tree bson_value → ⊥

-- the error is that of the tree, which means nothing, or memory ran out
abbrev pub IsFaultOfIn : Doubles → Data → Error → Type 0
IsFaultOfIn doubles json_tree OutOfMemory = Unit {0}
IsFaultOfIn doubles json_tree (DeserializationError message) = MeansNothingIn doubles json_tree
    × (fault_of_in doubles json_tree ≡ wrong_shape)
IsFaultOfIn doubles json_tree (InvalidObjectId read_error) = MeansNothingIn doubles json_tree × (id_text : List ℕ)
    × (fault_of_in doubles json_tree ≡ wrong_id id_text) × IsIdFault id_text read_error

-- the map is that of no document
abbrev pub MeansNoDocumentIn : Doubles → Members → Type 0
MeansNoDocumentIn doubles member_list = (pair_list : Pairs) → MeansDocumentIn doubles member_list pair_list → ⊥

abbrev pub IsDocumentFaultIn : Doubles → Members → Error → Type 0
IsDocumentFaultIn doubles member_list OutOfMemory = Unit {0}
IsDocumentFaultIn doubles member_list (DeserializationError message) = MeansNoDocumentIn doubles member_list
    × (document_fault_in doubles member_list ≡ wrong_shape)
IsDocumentFaultIn doubles member_list (InvalidObjectId read_error) =
    MeansNoDocumentIn doubles member_list × (id_text : List ℕ)
    × (document_fault_in doubles member_list ≡ wrong_id id_text) × IsIdFault id_text read_error

abbrev pub fault_of : Data → Fault
fault_of = fault_of_in Special

abbrev pub document_fault : Members → Fault
document_fault = document_fault_in Special

abbrev pub MeansNothing : Data → Type 0
MeansNothing = MeansNothingIn Special

abbrev pub IsFaultOf : Data → Error → Type 0
IsFaultOf = IsFaultOfIn Special

abbrev pub MeansNoDocument : Members → Type 0
MeansNoDocument = MeansNoDocumentIn Special

abbrev pub IsDocumentFault : Members → Error → Type 0
IsDocumentFault = IsDocumentFaultIn Special
