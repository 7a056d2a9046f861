-- The members of an object by ascending key, and the place of one more. For private clauses.
use Rattle.std.specs.Prelude.{◌≡◌, ℕ, zero, suc, List, [], ◌∷◌, String}
use Rattle.std.specs.Prelude.{string_bytes}
use Rattle.std.specs.Cmp.Lexicographic.{slice_cmp}
use Rattle.std.specs.Ordering.{nat_cmp}
use Rattle.std.specs.declared.alloc.Global.{Global}
use Rattle.std.specs.declared.cmp.Ordering.TheVariants.{Less, Equal, Greater}
use Rattle.bson_model.specs.StableOrder.{IsStableByKey, insert_each}
use Rattle.bson_model.specs.Value.{Value, Pairs}
use Rattle.bson_store.specs.KeyIndex.{stored_pairs}
use Rattle.bson_store.specs.declared.small.Pair.{Pair}
use Rattle.bson.specs.View.{bson_view, pairs_view}
use Rattle.bson.specs.declared.bson.Bson.{Bson}

abbrev pub Member : Type 0
Member = Pair Bson

abbrev pub member : (key_string : String Global) → (bson_value : Bson) → Member
member key_string bson_value = record { key = key_string; value = bson_value }

abbrev pub pairs_of_members : (member_list : List Member) → Pairs
pairs_of_members member_list = pairs_view (stored_pairs member_list)

-- ---- members

abbrev pub member_key : Member → List ℕ
member_key first_member = string_bytes first_member.key

abbrev pub member_value : Member → Value
member_value first_member = bson_view first_member.value

-- the pairs after each member is inserted
abbrev pub insert_members : (member_list : List Member) → (pair_list : Pairs) → Pairs
insert_members member_list pair_list = insert_each member_key member_value member_list pair_list

-- the key is at this position, and is greater than all before it
abbrev pub IsKeyAt : (key_bytes : List ℕ) → (member_list : List Member) → (index : ℕ) → Type 0
IsKeyAt key_bytes [] index = ⊥
IsKeyAt key_bytes (first_member ∷ member_list) zero =
    slice_cmp nat_cmp key_bytes (string_bytes first_member.key) ≡ Equal
IsKeyAt key_bytes (first_member ∷ member_list) (suc index) =
    (slice_cmp nat_cmp key_bytes (string_bytes first_member.key) ≡ Greater) × IsKeyAt key_bytes member_list index

-- the key is greater than all before the position, and less than the key there
abbrev pub IsInsertionPoint : (key_bytes : List ℕ) → (member_list : List Member) → (index : ℕ) → Type 0
IsInsertionPoint key_bytes [] zero = Unit {0}
IsInsertionPoint key_bytes [] (suc index) = ⊥
IsInsertionPoint key_bytes (first_member ∷ member_list) zero =
    slice_cmp nat_cmp key_bytes (string_bytes first_member.key) ≡ Less
IsInsertionPoint key_bytes (first_member ∷ member_list) (suc index) =
    (slice_cmp nat_cmp key_bytes (string_bytes first_member.key) ≡ Greater)
    × IsInsertionPoint key_bytes member_list index

abbrev pub IsStableSort : (member_list sorted_list : List Member) → Type 0
IsStableSort member_list sorted_list = IsStableByKey member_key member_list sorted_list
