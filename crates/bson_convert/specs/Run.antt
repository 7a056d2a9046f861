-- A run: the remaining bytes of the reader and the contents of the writer, if these are known.
use Rattle.std.specs.Prelude.{◌≡◌, ℕ, ◌<◌, List, length, Option, Some, IsUtf8}
use Rattle.std.specs.Io.{StartsWith}
use Rattle.std.specs.Io.KnownBytes.{Keeps, Appends, Consumes, IsAtEnd}
use Rattle.bson_model.specs.declared.options.Options.{Options}
use Rattle.bson_model.specs.NamedOptions.{default_options}
use Rattle.bson_convert.specs.Convert.{IsRejectedIn}
use Rattle.bson_convert.specs.InOrder.{ConvertsBy}
use Rattle.bson_convert.specs.Messages.{fault_kind}
use Rattle.bson_convert.specs.declared.error.Error.{Error}
use Rattle.bson_convert.specs.declared.mode.Mode.{Mode}
use Rattle.bson_convert.specs.declared.fault.Fault.{Fault}
use Rattle.bson_convert.specs.declared.fault.Fault.TheVariants.{CannotRead, OutOfMemory, CannotWrite}

-- the reader gave these bytes, and has none left
pub record ReadsAll (input_before input_after : Option (List ℕ)) (bytes : List ℕ) : Type 0 where
  pub given : Consumes input_before input_after bytes
  pub at_end : IsAtEnd input_after

-- a beginning of the output was written
pub record WritesBeginning (output_before output_after : Option (List ℕ)) (output : List ℕ) : Type 0 where
  pub beginning : List ℕ
  pub starts : StartsWith output beginning
  pub written : Appends output_before output_after beginning

-- a beginning of the output was written, and not all of it
pub record WritesPart (output_before output_after : Option (List ℕ)) (output : List ℕ) : Type 0 where
  pub beginning : List ℕ
  pub starts : StartsWith output beginning
  pub short : length beginning < length output
  pub written : Appends output_before output_after beginning

-- all bytes of the reader are converted to the output
pub record AcceptsIn (options : Options) (mode : Mode) (input_before input_after : Option (List ℕ))
    (output : List ℕ) : Type 0 where
  pub bytes : List ℕ
  pub all : ReadsAll input_before input_after bytes
  pub converts : ConvertsBy options.key_order options mode bytes output
  pub utf8 : IsUtf8 output

-- the input was accepted, and the output written
pub record RunSucceedsIn (options : Options) (mode : Mode)
    (input_before input_after output_before output_after : Option (List ℕ)) : Type 0 where
  pub output : List ℕ
  pub accepted : AcceptsIn options mode input_before input_after output
  pub written : Appends output_before output_after output

-- the input was accepted, and the output not written whole
pub record OutputCutShortIn (options : Options) (mode : Mode)
    (input_before input_after output_before output_after : Option (List ℕ)) : Type 0 where
  pub output : List ℕ
  pub accepted : AcceptsIn options mode input_before input_after output
  pub written : WritesPart output_before output_after output

-- the bytes are rejected for an error of this kind
abbrev pub IsRejectedAs : Options → Fault → (bytes : List ℕ) → Type 0
IsRejectedAs options fault bytes = (error : Error) × IsRejectedIn options error bytes × (fault_kind error ≡ Some fault)

-- all bytes of the reader are rejected for an error of this kind
pub record RejectsIn (options : Options) (fault : Fault) (input_before input_after : Option (List ℕ)) : Type 0 where
  pub bytes : List ℕ
  pub all : ReadsAll input_before input_after bytes
  pub refused : IsRejectedAs options fault bytes

-- what each kind says of the bytes
abbrev pub RunFailsIn : Options → Fault → Mode → (input_before input_after output_before output_after : Option (List ℕ))
    → Type 0
RunFailsIn options CannotRead mode input_before input_after output_before output_after =
    Keeps output_before output_after
RunFailsIn options OutOfMemory mode input_before input_after output_before output_after =
    Keeps output_before output_after
RunFailsIn options CannotWrite mode input_before input_after output_before output_after =
    OutputCutShortIn options mode input_before input_after output_before output_after
RunFailsIn options fault mode input_before input_after output_before output_after =
    RejectsIn options fault input_before input_after
    × Keeps output_before output_after

abbrev pub Accepts : Mode → (input_before input_after : Option (List ℕ)) → (output : List ℕ) → Type 0
Accepts = AcceptsIn default_options

abbrev pub RunSucceeds : Mode → (input_before input_after output_before output_after : Option (List ℕ)) → Type 0
RunSucceeds = RunSucceedsIn default_options

abbrev pub OutputCutShort : Mode → (input_before input_after output_before output_after : Option (List ℕ)) → Type 0
OutputCutShort = OutputCutShortIn default_options

abbrev pub Rejects : Fault → (input_before input_after : Option (List ℕ)) → Type 0
Rejects = RejectsIn default_options

abbrev pub RunFails : Fault → Mode → (input_before input_after output_before output_after : Option (List ℕ)) → Type 0
RunFails = RunFailsIn default_options
