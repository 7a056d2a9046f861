-- Rows of the numbers that a caller in C writes and reads (languages/c/vbson.h has them). A definition that is changed
-- together with its code is refused here.
use Rattle.std.proofs.Common.{◌≡◌, ℕ, Some, None, true, false, refl}
use Rattle.bson.specs.Doubles.TheVariants.{Special, Finite}
use Rattle.bson_scalar.specs.declared.form.Layout.TheVariants.{Specified, MongoDb}
use Rattle.bson_tree.specs.declared.place.Reason.TheVariants.{BadObjectId, WrongShape}
use Rattle.bson_model.specs.NamedOptions.{default_options, mongodb_options}
use Rattle.bson_convert.specs.declared.mode.Mode.TheVariants as mode
use Rattle.bson_convert.specs.declared.error.Error.TheVariants as error
use Rattle.bson_convert.specs.declared.encode_error.NoBytes.TheVariants as without
use Rattle.vbson.specs.Convert.{mode_of_number, options_of_call, key_order_of, status_of_reason, status_of}
use Rattle.vbson.specs.Convert.{duplicate_keys_of, preprocessing_of}
use Rattle.bson_model.specs.declared.options.DuplicateKeys.TheVariants.{LastWins, Reject}
use Rattle.vbson.specs.Documents.{depth}
use Rattle.vbson.specs.Comparison.{comparison_status}
use Rattle.vbson.specs.declared.options.CallOptions.{CallOptions}
use Rattle.bson_model.specs.declared.options.KeyOrder.TheVariants.{Ascending, AsGiven}

-- ---- modes

modes_numbered : (mode_of_number 0 ≡ Some mode.Canonical)
    × (mode_of_number 1 ≡ Some mode.Relaxed)
    × (mode_of_number 2 ≡ Some mode.Show)
    × (mode_of_number 3 ≡ None)
modes_numbered = (refl, refl, refl, refl)

-- ---- options

-- the struct with these fields
abbrev options_with : (doubles key_order duplicate_keys v1 layout : ℕ) → CallOptions
options_with doubles key_order duplicate_keys v1 layout = record {
  size = 32;
  doubles = doubles;
  key_order = key_order;
  duplicate_keys = duplicate_keys;
  v1 = v1;
  layout = layout;
}

conversion_numbered : (options_of_call (options_with 0 0 0 0 0) ≡ default_options)
    × (options_of_call (options_with 1 1 0 0 1) ≡ mongodb_options)
    × ((options_of_call (options_with 0 1 1 1 1)).doubles ≡ Special)
    × ((options_of_call (options_with 1 0 0 0 0)).doubles ≡ Finite)
    × (key_order_of (options_with 0 0 0 0 0) ≡ Ascending)
    × (key_order_of (options_with 1 0 1 1 1) ≡ Ascending)
    × (key_order_of (options_with 0 1 0 0 0) ≡ AsGiven)
    × ((options_of_call (options_with 1 1 1 1 0)).layout ≡ Specified)
    × ((options_of_call (options_with 0 0 0 0 1)).layout ≡ MongoDb)
conversion_numbered = (refl, refl, refl, refl, refl, refl, refl, refl, refl)

reading_numbered : (preprocessing_of (options_with 1 1 0 0 1) ≡ record { duplicate_keys = LastWins; v1 = false })
    × (preprocessing_of (options_with 0 0 1 0 0) ≡ record { duplicate_keys = Reject; v1 = false })
    × (preprocessing_of (options_with 0 0 0 1 0) ≡ record { duplicate_keys = LastWins; v1 = true })
    × (preprocessing_of (options_with 0 0 1 1 0) ≡ record { duplicate_keys = Reject; v1 = true })
    × (duplicate_keys_of (options_with 1 1 0 1 1) ≡ LastWins)
    × (duplicate_keys_of (options_with 0 0 1 0 0) ≡ Reject)
reading_numbered = (refl, refl, refl, refl, refl, refl)

-- ---- statuses

verdicts_numbered : (comparison_status true ≡ 0) × (comparison_status false ≡ 9)
verdicts_numbered = (refl, refl)

statuses_numbered : (status_of error.NotJson ≡ 2)
    × ((e : _) → status_of_reason (BadObjectId e) ≡ 3)
    × ((message : _) → status_of_reason (WrongShape message) ≡ 4)
    × (status_of error.OutOfMemory ≡ 5)
    × (status_of (error.NoBytes without.NoDocument) ≡ 10)
    × (status_of (error.NoBytes without.ZeroInKey) ≡ 11)
    × (status_of (error.NoBytes without.ZeroInRegex) ≡ 12)
    × (status_of (error.NoBytes without.TooLong) ≡ 13)
statuses_numbered = (refl, λ e. refl, λ message. refl, refl, refl, refl, refl, refl)

-- ---- documents

nested_100 : depth ≡ 100
nested_100 = refl
