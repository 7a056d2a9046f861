-- Trees as compact texts, and the law that a value that was read comes back.
use Rattle.std.specs.Prelude.{◌≡◌, ◌<◌, ◌≤◌, ◌^◌, ◌↔◌, ℕ, pos, negsuc, List, true, Some}
use Rattle.std.specs.Cmp.Lexicographic.{slice_cmp}
use Rattle.std.specs.Ordering.{nat_cmp}
use Rattle.std.specs.declared.cmp.Ordering.TheVariants.{Less}
use Rattle.serde_json.specs.Data.{Num, unsigned, negative, float, Data, Items, no_items, item, Members, no_members}
use Rattle.serde_json.specs.Data.{member, depth}
use Rattle.serde_json.specs.Data as tree
use Rattle.serde_json.specs.Read.{read, max_depth}
use Rattle.bson_scalar.specs.TreeText.{IsDouble, HasNoFloatIn, tree_text}
use Rattle.bson_scalar.specs.declared.form.Form.{Form}
use Rattle.bson_scalar.specs.declared.form.Form.TheVariants.{Canonical}
use Rattle.bson_model.specs.Value.{Value}
use Rattle.bson_model.specs.Means.{MeansIn}
use Rattle.bson_model.specs.Same.{same}
use Rattle.bson_model.specs.Normal.{normal_form, as_read_back, plain, NumbersInRange}
use Rattle.bson_model.specs.Written.{WrittenIn}
use Rattle.bson_scalar.specs.declared.form.Doubles.{Doubles}
use Rattle.bson_scalar.specs.declared.form.Doubles.TheVariants.{Special}

-- ---- the trees that `serde_json` has

abbrev pub NumberFits : Num → Type 0
NumberFits (unsigned magnitude) = magnitude < 2 ^ 64
NumberFits (negative (pos magnitude)) = ⊥
NumberFits (negative (negsuc magnitude)) = magnitude < 2 ^ 63
NumberFits (float float_value) = IsDouble float_value

-- the key is less than each key of the map
abbrev pub IsBelowMemberKeys : (key_text : List ℕ) → Members → Type 0
IsBelowMemberKeys key_text no_members = Unit {0}
IsBelowMemberKeys key_text (member other_key subtree member_list) = (slice_cmp nat_cmp key_text other_key ≡ Less)
    × IsBelowMemberKeys key_text member_list

abbrev pub MemberKeysAscend : Members → Type 0
MemberKeysAscend no_members = Unit {0}
MemberKeysAscend (member key_text subtree member_list) = IsBelowMemberKeys key_text member_list
    × MemberKeysAscend member_list

abbrev mutual
  -- each number is in the range of its Rust type, and each map has its keys in ascending order
  pub IsTree : Data → Type 0
  IsTree tree.null = Unit {0}
  IsTree (tree.boolean truth_value) = Unit {0}
  IsTree (tree.number json_number) = NumberFits json_number
  IsTree (tree.string text_bytes) = Unit {0}
  IsTree (tree.array item_list) = ItemsAreTrees item_list
  IsTree (tree.object member_list) = MemberKeysAscend member_list × MembersAreTrees member_list

  pub ItemsAreTrees : Items → Type 0
  ItemsAreTrees no_items = Unit {0}
  ItemsAreTrees (item subtree item_list) = IsTree subtree × ItemsAreTrees item_list

  pub MembersAreTrees : Members → Type 0
  MembersAreTrees no_members = Unit {0}
  MembersAreTrees (member key_text subtree member_list) = IsTree subtree × MembersAreTrees member_list

-- the text is read as the tree again, unless that nests deeper than texts may, and no other tree has the text
abbrev pub TextReadsBackIn : Doubles → Form → Data → Type 0
TextReadsBackIn doubles form json_tree = (depth json_tree ≤ max_depth
    → read (tree_text doubles form json_tree) ≡ Some json_tree)
    × ((written_tree : Data) → HasNoFloatIn doubles form written_tree → IsTree written_tree
    → tree_text doubles form json_tree ≡ tree_text doubles form written_tree → json_tree ≡ written_tree)

abbrev pub TextReadsBack : Data → Type 0
TextReadsBack = TextReadsBackIn Special Canonical

-- ---- texts of values

-- two values, each with its tree
abbrev pub HasEqualTextsIn : Doubles → Form → (bson_value : Value) → (written_tree : Data) → (other_value : Value)
    → (other_tree : Data) → Type 0
HasEqualTextsIn doubles form bson_value written_tree other_value other_tree = plain other_value ≡ true
    → NumbersInRange other_value → WrittenIn doubles form (normal_form other_value) other_tree
    → ((tree_text doubles form written_tree ≡ tree_text doubles form other_tree)
    ↔ (same (as_read_back form (normal_form bson_value)) (as_read_back form (normal_form other_value)) ≡ true))

-- what the tree of a value in this form, and its compact text, are
pub record HasTextIn (doubles : Doubles) (form : Form) (bson_value : Value) (written_tree : Data) : Type 0 where
  pub written : WrittenIn doubles form (normal_form bson_value) written_tree
  pub is_tree : IsTree written_tree
  -- the text is read as the tree again, unless it nests deeper than texts may
  pub read_again : depth written_tree ≤ max_depth → read (tree_text doubles form written_tree) ≡ Some written_tree
  -- the tree means one value, the same as the normal form, and is the tree of that value too
  pub means : (other_value : Value) × MeansIn doubles written_tree other_value
      × (same other_value (as_read_back form (normal_form bson_value)) ≡ true)
      × WrittenIn doubles form (normal_form other_value) written_tree
  -- no other value has the text
  pub equal_texts : (other_value : Value) (other_tree : Data)
      → HasEqualTextsIn doubles form bson_value written_tree other_value other_tree

-- the same of a value that is plain, as each one is that was read
abbrev pub ReadsAgainIn : Doubles → Form → Value → Data → Type 0
ReadsAgainIn doubles form bson_value written_tree = plain bson_value ≡ true
    → HasTextIn doubles form bson_value written_tree

-- the value has a tree in each form, which is read from its text again
abbrev pub ValueRoundTripsIn : Doubles → Value → Type 0
ValueRoundTripsIn doubles bson_value = (form : Form) → (written_tree : Data)
    × HasTextIn doubles form bson_value written_tree

abbrev pub HasEqualTexts : Form → (bson_value : Value) → (written_tree : Data) → (other_value : Value)
    → (other_tree : Data) → Type 0
HasEqualTexts = HasEqualTextsIn Special

abbrev pub HasText : Form → Value → Data → Type 0
HasText = HasTextIn Special

abbrev pub ReadsAgain : Form → Value → Data → Type 0
ReadsAgain = ReadsAgainIn Special

abbrev pub ValueRoundTrips : Value → Type 0
ValueRoundTrips = ValueRoundTripsIn Special
