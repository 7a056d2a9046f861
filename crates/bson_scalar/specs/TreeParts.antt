-- Shapes of trees: an object of one key and of two, and integers.
use Rattle.std.specs.Prelude.{ℕ, ◌^◌, nat_lt, ℤ, pos, negsuc, List, if◌then◌else◌, Option, Some, None, option_and_then}
use Rattle.serde_json.specs.Data.{Data, unsigned, no_members, member}
use Rattle.serde_json.specs.Data as tree
use Rattle.serde_json.specs.Find.{as_i64, as_number}

abbrev pub one_key_object : (key : List ℕ) → (subtree : Data) → Data
one_key_object key subtree = tree.object (member key subtree no_members)

-- the lesser key first
abbrev pub two_key_object : (first_key : List ℕ) → (subtree : Data) → (second_key : List ℕ) → (second_subtree : Data)
    → Data
two_key_object first_key subtree second_key second_subtree =
    tree.object (member first_key subtree (member second_key second_subtree no_members))

abbrev pub natural : (natural_number : ℕ) → Data
natural natural_number = tree.number (unsigned natural_number)

-- an integer
abbrev pub i64_at : Data → Option ℤ
i64_at subtree = option_and_then as_i64 (as_number subtree)

-- a number from 0 to 4294967295
abbrev pub number_as_u32 : Option ℤ → Option ℕ
number_as_u32 (Some (pos natural_number)) = if nat_lt natural_number (2 ^ 32) then Some natural_number else None
number_as_u32 (Some (negsuc natural_number)) = None
number_as_u32 None = None

abbrev pub u32_at : Data → Option ℕ
u32_at subtree = number_as_u32 (i64_at subtree)
