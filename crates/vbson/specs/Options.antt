-- Which options a call rejects.
use Rattle.std.specs.Prelude.{◌≡◌, ◌≢◌, ◌⊎◌, ◌<◌}
use Rattle.vbson.specs.declared.options.CallOptions.{CallOptions}

-- the struct has another size, or a field that is not one of its two values
abbrev pub AreInvalid : CallOptions → Type 0
AreInvalid options =
    (options.size ≢ 32)
    ⊎ (1 < options.doubles) ⊎ (1 < options.key_order) ⊎ (1 < options.duplicate_keys) ⊎ (1 < options.v1)
    ⊎ (1 < options.layout)

-- a call that decodes bytes rejects them: they are invalid, or request that Extended JSON v1 is read
abbrev pub AreNotForDecoding : CallOptions → Type 0
AreNotForDecoding options = AreInvalid options ⊎ (options.v1 ≡ 1)

-- a call that only reads values rejects them: they are invalid, or request that keys are kept as given, or MongoDB's layout
abbrev pub AreNotForReading : CallOptions → Type 0
AreNotForReading options = AreInvalid options ⊎ (options.key_order ≡ 1) ⊎ (options.layout ≡ 1)
