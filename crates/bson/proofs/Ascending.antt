-- The keys of a map ascend.
use Rattle.std.proofs.Common.{◌≡◌, List, [], ◌∷◌, String, Global, string_bytes}
use Rattle.std.specs.List.{AllByRecursion}
use Rattle.std.specs.List.Sorted.{IsStrictlySortedBy}
use Rattle.std.specs.Map.{keys_of}
use Rattle.std.specs.String.{string_cmp}
use Rattle.std.specs.declared.cmp.Ordering.TheVariants.{Less}
use Rattle.serde_json.specs.View.{members_view}
use Rattle.serde_json.specs.declared.value.Value.{Value}
use Rattle.bson_model.specs.Texts.{IsBelowMemberKeys, MemberKeysAscend}

is_below : (k : String Global) (ms : List (String Global × Value))
    → AllByRecursion (λ y. string_cmp k y ≡ Less) (keys_of ms) → IsBelowMemberKeys (string_bytes k) (members_view ms)
is_below k [] h = tt
is_below k (m ∷ ms) h = (h.0, is_below k ms h.1)

pub ascends : (ms : List (String Global × Value)) → IsStrictlySortedBy string_cmp (keys_of ms)
    → MemberKeysAscend (members_view ms)
unfolding IsStrictlySortedBy
ascends [] h = tt
ascends (m ∷ ms) h = (is_below m.0 ms h.0, ascends ms h.1)
