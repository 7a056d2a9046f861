-- What a written tree is, and what a read value is.
use Rattle.std.specs.Prelude.{◌≡◌, ◌↔◌, true}
use Rattle.serde_json.specs.Data.{Data, Members}
use Rattle.serde_json.specs.Data as tree
use Rattle.bson_scalar.specs.TreeText.{HasNoFloatIn}
use Rattle.bson_scalar.specs.declared.form.Form.{Form}
use Rattle.bson_model.specs.Value.{Value, document, Pairs}
use Rattle.bson_model.specs.Means.{MeansIn, MeansDocumentIn}
use Rattle.bson_model.specs.Same.{same}
use Rattle.bson_model.specs.Normal.{normal_form, narrowed_form, as_read_back, plain, plain_values, NumbersInRange, writable_in}
use Rattle.bson_model.specs.Normal.{writable_pairs_in}
use Rattle.bson_model.specs.Written.{WrittenIn}
use Rattle.bson_scalar.specs.declared.form.Doubles.{Doubles}
use Rattle.bson_scalar.specs.declared.form.Doubles.TheVariants.{Special}

-- the tree of a plain value means one value, the same as its normal form as that form of text reads it
abbrev pub ReadsBackIn : Doubles → Form → (bson_value : Value) → (json_tree : Data) → Type 0
ReadsBackIn doubles form bson_value json_tree = plain bson_value ≡ true → (other_value : Value)
    × MeansIn doubles json_tree other_value × (same other_value (as_read_back form (normal_form bson_value)) ≡ true)

-- and whatever value it means is that
abbrev pub ReadsBackAloneIn : Doubles → Form → (bson_value : Value) → (json_tree : Data) → (other_value : Value)
    → Type 0
ReadsBackAloneIn doubles form bson_value json_tree other_value = plain bson_value ≡ true
    → MeansIn doubles json_tree other_value → same other_value (as_read_back form (normal_form bson_value)) ≡ true

-- two values, each with its tree
abbrev pub HasEqualTreesIn : Doubles → Form → (bson_value : Value) → (json_tree : Data) → (other_value : Value)
    → (other_tree : Data) → Type 0
HasEqualTreesIn doubles form bson_value json_tree other_value other_tree = plain bson_value ≡ true
    → plain other_value ≡ true → NumbersInRange other_value
    → WrittenIn doubles form (normal_form other_value) other_tree
    → ((json_tree ≡ other_tree)
    ↔ (same (as_read_back form (normal_form bson_value)) (as_read_back form (normal_form other_value)) ≡ true))

-- a value that is the same has no other tree
abbrev pub HasSameTreeIn : Doubles → Form → (bson_value : Value) → (json_tree : Data) → (other_value : Value)
    → (other_tree : Data) → Type 0
HasSameTreeIn doubles form bson_value json_tree other_value other_tree = same bson_value other_value ≡ true
    → WrittenIn doubles form (normal_form other_value) other_tree → other_tree ≡ json_tree

-- a document's own map, whose keys are not tested, means its own normal form, narrowed in the relaxed form
abbrev pub OwnMapReadsBackIn : Doubles → Form → (bson_value : Value) → (json_tree : Data) → Type 0
OwnMapReadsBackIn doubles form bson_value json_tree = (pair_list : Pairs) (member_list : Members)
    → bson_value ≡ document pair_list → json_tree ≡ tree.object member_list → plain_values pair_list ≡ true
    → (other_pairs : Pairs) × MeansDocumentIn doubles member_list other_pairs
    × (same (document other_pairs) (as_read_back form (normal_form bson_value)) ≡ true)

-- what the tree of a value in this form is
pub record IsTreeOfIn (doubles : Doubles) (form : Form) (bson_value : Value) (json_tree : Data) : Type 0 where
  -- the grammar's tree of the normal form, and its only one
  pub written : WrittenIn doubles form (normal_form bson_value) json_tree
  pub one : (other_tree : Data) → WrittenIn doubles form (normal_form bson_value) other_tree → other_tree ≡ json_tree
  pub no_float : HasNoFloatIn doubles form json_tree
  -- the tree of every value that is the same
  pub same_value_same_tree : (other_value : Value) (other_tree : Data)
      → HasSameTreeIn doubles form bson_value json_tree other_value other_tree
  -- it reads back, and differs from the trees of other values
  pub reads_back : ReadsBackIn doubles form bson_value json_tree
  pub read_alone : (other_value : Value) → ReadsBackAloneIn doubles form bson_value json_tree other_value
  pub equal_trees : (other_value : Value) (other_tree : Data)
      → HasEqualTreesIn doubles form bson_value json_tree other_value other_tree
  pub own_map : OwnMapReadsBackIn doubles form bson_value json_tree

-- a normal form is its own, and so is a narrowed value; the normal form of a plain value is plain, that of a writable
-- one writable, and of no other
pub record FormsAreIdempotentIn (doubles : Doubles) (bson_value : Value) : Type 0 where
  pub normal_form_again : normal_form (normal_form bson_value) ≡ normal_form bson_value
  pub narrowed_form_again : narrowed_form (narrowed_form bson_value) ≡ narrowed_form bson_value
  pub keeps_plain : plain (normal_form bson_value) ≡ plain bson_value
  pub keeps_writable : writable_in doubles (normal_form bson_value) ≡ writable_in doubles bson_value

-- plain and writable, as each value is that a tree means
abbrev pub IsReadFormIn : Doubles → Value → Type 0
IsReadFormIn doubles bson_value = (plain bson_value ≡ true) × (writable_in doubles bson_value ≡ true)

-- the tree means the value, which is plain and writable, and no other
pub record HasMeaningIn (doubles : Doubles) (json_tree : Data) (bson_value : Value) : Type 0 where
  pub means : MeansIn doubles json_tree bson_value
  pub one : (other_value : Value) → MeansIn doubles json_tree other_value → other_value ≡ bson_value
  pub read_form : IsReadFormIn doubles bson_value

-- the map is that of the document, whose values are plain and writable, and of no other
pub record HasDocumentMeaningIn (doubles : Doubles) (member_list : Members) (pair_list : Pairs) : Type 0 where
  pub means : MeansDocumentIn doubles member_list pair_list
  pub one : (other_pairs : Pairs) → MeansDocumentIn doubles member_list other_pairs → other_pairs ≡ pair_list
  pub values_plain : plain_values pair_list ≡ true
  pub values_writable : writable_pairs_in doubles pair_list ≡ true

abbrev pub ReadsBack : Form → Value → Data → Type 0
ReadsBack = ReadsBackIn Special

abbrev pub ReadsBackAlone : Form → (bson_value : Value) → (json_tree : Data) → (other_value : Value) → Type 0
ReadsBackAlone = ReadsBackAloneIn Special

abbrev pub HasEqualTrees : Form → (bson_value : Value) → (json_tree : Data) → (other_value : Value)
    → (other_tree : Data) → Type 0
HasEqualTrees = HasEqualTreesIn Special

abbrev pub HasSameTree : Form → (bson_value : Value) → (json_tree : Data) → (other_value : Value) → (other_tree : Data)
    → Type 0
HasSameTree = HasSameTreeIn Special

abbrev pub OwnMapReadsBack : Form → Value → Data → Type 0
OwnMapReadsBack = OwnMapReadsBackIn Special

abbrev pub IsTreeOf : Form → Value → Data → Type 0
IsTreeOf = IsTreeOfIn Special

abbrev pub FormsAreIdempotent : Value → Type 0
FormsAreIdempotent = FormsAreIdempotentIn Special

abbrev pub IsReadForm : Value → Type 0
IsReadForm = IsReadFormIn Special

abbrev pub HasMeaning : Data → Value → Type 0
HasMeaning = HasMeaningIn Special

abbrev pub HasDocumentMeaning : Members → Pairs → Type 0
HasDocumentMeaning = HasDocumentMeaningIn Special
