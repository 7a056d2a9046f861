-- The content of a wrapper, as far as wrappers read it: a small tree that every wrapper reads as it reads the content.
use Rattle.std.specs.Prelude.{◌≡◌, ℕ, zero, suc, List, Option, Some, None}
use Rattle.json.specs.Token.{Token}
use Rattle.serde_json.specs.Data.{Data, Items, no_items, Members, no_members, member, put}
use Rattle.serde_json.specs.Data as tree
use Rattle.serde_json.specs.Find.{as_str}
use Rattle.bson_scalar.specs.Reading.{optional_wrapper_read_in}
use Rattle.bson_scalar.specs.declared.form.Doubles.{Doubles}
use Rattle.bson_scalar.specs.declared.wrapper.Wrapper.{Wrapper}

-- each wrapper reads d as it reads t, with the same error
abbrev pub WrappersReadAlike : (whole_tree pruned_tree : Data) → Type 0
WrappersReadAlike whole_tree pruned_tree = ((doubles : Doubles) (wrapper_or_none : Option Wrapper)
    → optional_wrapper_read_in doubles wrapper_or_none pruned_tree
    ≡ optional_wrapper_read_in doubles wrapper_or_none whole_tree) × (as_str pruned_tree ≡ as_str whole_tree)

-- a tree was read, these tokens remain, and wrappers read d as they read the tree
abbrev pub IsWrapperContent : (tree_result : Option (Data × List Token)) → (pruned_tree : Data)
    → (remaining_tokens : List Token)
    → Type 0
IsWrapperContent tree_result pruned_tree remaining_tokens = (whole_tree : Data)
    × (tree_result ≡ Some (whole_tree, remaining_tokens)) × WrappersReadAlike whole_tree pruned_tree

-- ---- for private clauses

-- the members, unless they are more than any wrapper reads
abbrev pub at_most_two_members : Members → Option Members
at_most_two_members no_members = Some no_members
at_most_two_members (member member_key member_value no_members) = Some (member member_key member_value no_members)
at_most_two_members (member member_key member_value (member second_key second_value no_members)) =
    Some (member member_key member_value (member second_key second_value no_members))
at_most_two_members
    (member member_key member_value (member second_key second_value (member third_key third_value tree_members))) = None

abbrev pub members_or_empty : Option Members → Members
members_or_empty None = no_members
members_or_empty (Some tree_members) = tree_members

-- the tree without what no wrapper reads: elements of arrays, and members of an object that has more than two, or that
-- is this many levels deep
abbrev mutual
  pub pruned : (max_levels : ℕ) → Data → Data
  pruned max_levels tree.null = tree.null
  pruned max_levels (tree.boolean truth) = tree.boolean truth
  pruned max_levels (tree.number number_value) = tree.number number_value
  pruned max_levels (tree.string string_bytes) = tree.string string_bytes
  pruned max_levels (tree.array tree_items) = tree.array no_items
  pruned zero (tree.object tree_members) = tree.object no_members
  pruned (suc max_levels) (tree.object tree_members) =
      tree.object (members_or_empty (at_most_two_members (pruned_members max_levels tree_members)))

  pub pruned_members : (max_levels : ℕ) → Members → Members
  pruned_members max_levels no_members = no_members
  pruned_members max_levels (member member_key member_value tree_members) =
      member member_key (pruned max_levels member_value) (pruned_members max_levels tree_members)

-- the members of an object that are kept
abbrev pub pruned_members_or_none : (max_levels : ℕ) → Members → Option Members
pruned_members_or_none zero tree_members = None
pruned_members_or_none (suc max_levels) tree_members = at_most_two_members (pruned_members max_levels tree_members)

-- the members with one more
abbrev pub member_added : (member_key : List ℕ) → Data → Option Members → Option Members
member_added member_key member_value None = None
member_added member_key member_value (Some tree_members) =
    at_most_two_members (put member_key member_value tree_members)

-- a tree was read, these tokens remain, and it was pruned
abbrev pub IsPrunedTree : (max_levels : ℕ) → (tree_result : Option (Data × List Token)) → (pruned_tree : Data)
    → (remaining_tokens : List Token)
    → Type 0
IsPrunedTree max_levels tree_result pruned_tree remaining_tokens = (whole_tree : Data)
    × (tree_result ≡ Some (whole_tree, remaining_tokens)) × (pruned_tree ≡ pruned max_levels whole_tree)

-- the elements of an array were read
abbrev pub AreItemsRead : (items_result : Option (Items × List Token)) → (remaining_tokens : List Token) → Type 0
AreItemsRead items_result remaining_tokens = (tree_items : Items) × (items_result ≡ Some (tree_items, remaining_tokens))

-- the members of an object were read, and these are kept
abbrev pub AreMembersPruned : (max_levels : ℕ) → (members_result : Option (Members × List Token))
    → (kept_members : Members) → (remaining_tokens : List Token) → Type 0
AreMembersPruned max_levels members_result kept_members remaining_tokens = (tree_members : Members)
    × (members_result ≡ Some (tree_members, remaining_tokens))
    × (kept_members ≡ members_or_empty (pruned_members_or_none max_levels tree_members))
