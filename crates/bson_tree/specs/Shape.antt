-- The wrapper that an object is not, though it has its key; and the message for it.
use Rattle.std.specs.Prelude.{ℕ, List, ◌++◌, codes, Option, Some, None}
use Rattle.serde_json.specs.Data.{Members, no_members, member}
use Rattle.bson_scalar.specs.Table.{key_of, wrapper_of}
use Rattle.bson_scalar.specs.declared.wrapper.Wrapper.{Wrapper}
use Rattle.bson_scalar.specs.declared.wrapper.Wrapper.TheVariants.{Code}

abbrev earlier_wrapper : (found_or_none : Option Wrapper) → (later_wrapper : Option Wrapper) → Option Wrapper
earlier_wrapper (Some found_wrapper) later_wrapper = Some found_wrapper
earlier_wrapper None later_wrapper = later_wrapper

-- the first wrapper, by ascending key, whose key is there
abbrev pub first_wrapper_in : Members → Option Wrapper
first_wrapper_in no_members = None
first_wrapper_in (member key_text subtree member_list) =
    earlier_wrapper (wrapper_of key_text) (first_wrapper_in member_list)

abbrev pub only_key_message : Wrapper → List ℕ
only_key_message Code = codes "`$code` must be the only key of its object, or next to `$scope`"
only_key_message found_wrapper = codes "`" ++ key_of found_wrapper ++ codes "` must be the only key of its object"
