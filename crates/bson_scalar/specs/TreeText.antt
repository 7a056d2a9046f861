-- The compact text of a tree that is written. A float in it is a finite double, and its text is its shortest decimal.
use Rattle.std.specs.Prelude.{◌≡◌, ℕ, List, [], decimal, Bool, true, false, if◌then◌else◌, to_bits, unwrap_or}
use Rattle.std.specs.Float.{Float, binary64, float_is_finite}
use Rattle.std.specs.Fmt.{signed_decimal}
use lib.Ieee.{fits}
use Rattle.json.specs.Json as json
use Rattle.json.specs.Print.{print}
use Rattle.json.specs.Token.{Token}
use Rattle.json.specs.Tree.{json_tokens}
use Rattle.serde_json.specs.Data.{Num, unsigned, negative, float, Data, null, boolean, number, string, array, object}
use Rattle.serde_json.specs.Data.{Items, no_items, item, Members, no_members, member}
use Rattle.serde_json.specs.Written.{has_float, compact_text}
use Rattle.bson_scalar.specs.Shortest.{finite_double_text}
use Rattle.bson_scalar.specs.declared.form.Doubles.{Doubles}
use Rattle.bson_scalar.specs.declared.form.Doubles.TheVariants.{Special, Finite}
use Rattle.bson_scalar.specs.declared.form.Form.{Form}
use Rattle.bson_scalar.specs.Forms.{is_relaxed}

-- the float is a finite double
abbrev pub IsDouble : Float → Type 0
IsDouble float_value = (fits binary64 float_value ≡ true) × (float_is_finite float_value ≡ true)

abbrev pub float_text : Float → List ℕ
float_text float_value = unwrap_or (finite_double_text (to_bits binary64 float_value)) []

abbrev pub number_text : Num → List ℕ
number_text (unsigned magnitude) = decimal magnitude
number_text (negative integer) = signed_decimal integer
number_text (float float_value) = float_text float_value

-- the tree as JSON
abbrev mutual
  pub json_of_tree : Data → json.Json
  json_of_tree null = json.null
  json_of_tree (boolean truth_value) = json.boolean truth_value
  json_of_tree (number json_number) = json.number (number_text json_number)
  json_of_tree (string text_bytes) = json.string text_bytes
  json_of_tree (array item_list) = json.array (json_of_items item_list)
  json_of_tree (object member_list) = json.object (json_of_members member_list)

  pub json_of_items : Items → json.Items
  json_of_items no_items = json.no_items
  json_of_items (item subtree item_list) = json.item (json_of_tree subtree) (json_of_items item_list)

  pub json_of_members : Members → json.Members
  json_of_members no_members = json.no_members
  json_of_members (member key_text subtree member_list) =
      json.member key_text (json_of_tree subtree) (json_of_members member_list)

abbrev pub tokens_of : Data → List Token
tokens_of json_tree = json_tokens (json_of_tree json_tree)

-- the text of those tokens, with no space
abbrev pub text_of : Data → List ℕ
text_of json_tree = print (tokens_of json_tree)

-- ---- in each of the two modes and forms

-- whether floats are written: in a relaxed form of the mode `Finite`
abbrev pub writes_floats : Doubles → Form → Bool
writes_floats Special form = false
writes_floats Finite form = is_relaxed form

abbrev pub HasNoFloatUnless : (has_floats : Bool) → Data → Type 0
HasNoFloatUnless false json_tree = has_float json_tree ≡ false
HasNoFloatUnless true json_tree = Unit {0}

abbrev pub HasNoFloatIn : Doubles → Form → Data → Type 0
HasNoFloatIn doubles form json_tree = HasNoFloatUnless (writes_floats doubles form) json_tree

abbrev pub tree_text : Doubles → Form → Data → List ℕ
tree_text doubles form json_tree =
    if writes_floats doubles form then text_of json_tree else compact_text json_tree
