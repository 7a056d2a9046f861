-- A text is blank, or is written as one output, or is refused for one fault.
use Rattle.std.proofs.Common.{◌≡◌, inl, inr, ℕ, List, refl, subst}
use Rattle.json.specs.Json.{Json}
use Rattle.json.specs.Strict.{HasUniqueKeys}
use Rattle.bson.specs.TextMeaning.{HasTextMeaningInKeyOrder}
use Rattle.bson_model.specs.declared.options.Options.{Options}
use Rattle.bson_codec.specs.Canonical.{NoBytesCause, DocumentDoesNotFit, FitsDocument}
use Rattle.bson_tokens.specs.DuplicateKeys.{DuplicateAt}
use Rattle.bson_model.specs.Value.{Pairs}
use Rattle.bson_tree.specs.Place.{PathSegment}
use Rattle.bson_tree.specs.declared.place.Place.{Place}
use Rattle.bson_convert.specs.Convert.{IsAccepted}
use Rattle.bson_convert.specs.declared.error.Error.{Error}
use Rattle.bson_convert.specs.declared.error.Error.TheVariants.{CannotRead, NotJson, NotExtendedJson, NoBytes, OutOfMemory}
use Rattle.bson_convert.specs.declared.error.Error.TheVariants.{CannotWrite, NotCanonical}
use Rattle.bson_convert.specs.declared.encode_error.NoBytes as without
use Rattle.bson_run.proofs.EncodeLaws.{value_one}
use Rattle.bson_run.proofs.OneRead.{blank_taken, blank_text, blank_turned, not_taken, one_taken, one_turned}
use Rattle.bson_run.specs.Lines.{HasNoOutputFor, IsRejectedLineIn, IsBlank, WritesOutput, WritesOutputForTask}
use Rattle.bson_run.specs.Outcomes.{IsSameFault}
use Rattle.bson_run.specs.Preprocessed.{IsPreprocessedAs, IsRejectedByPreprocessing}
use Rattle.bson_run.specs.declared.task.Output.{Output}
use Rattle.bson_run.specs.declared.task.Output.TheVariants.{Text, Bytes, Nothing}
use Rattle.bson_run.specs.declared.task.Task.{Task}
use Rattle.bson_run.proofs.OneOutput.{bare_accepted, fails_of, fault_text, has_bytes, no_fault, no_text, one_column, one_written}
use Rattle.bson_run.proofs.OneOutput.{same_cause, same_path, uncanonical_accepted, uncanonical_bare, uncanonical_written}
use Rattle.bson_run.proofs.OneOutput.{written_accepted}

-- what a text gives is one thing
pub record Decided (o : Options) (task : Task) : Type 0 where
  pub one_text : (text a b : List ℕ) → WritesOutputForTask o task text a → WritesOutputForTask o task text b → a ≡ b
  pub written_blank : (text a : List ℕ) → WritesOutputForTask o task text a → IsBlank text → ⊥
  pub written_bad : (text a : List ℕ) (fault : Error) → WritesOutputForTask o task text a → IsRejectedLineIn o task fault text → ⊥
  pub blank_bad : (text : List ℕ) (fault : Error) → IsBlank text → IsRejectedLineIn o task fault text → ⊥
  pub same_fault : (text : List ℕ) (fault cause : Error) → IsRejectedLineIn o task fault text → IsRejectedLineIn o task cause text
      → IsSameFault fault cause

-- ---- why a line is refused

data View (o : Options) (task : Task) (text : List ℕ) : Error → Type 0 where
  refused : {fault : Error} (read : List ℕ) → IsPreprocessedAs task.preprocessing text read
      → HasNoOutputFor o fault task.output read → (fault ≡ NotJson → IsBlank text → ⊥) → View o task text fault
  turned : (place : Place) → IsRejectedByPreprocessing task.preprocessing place text → View o task text (NotExtendedJson place)

view : (o : Options) (task : Task) (text : List ℕ) (fault : Error) → IsRejectedLineIn o task fault text
    → View o task text fault
view o task text NotJson h = refused h.0.0 h.0.1 h.0.2 (λ is. h.1)
view o task text (NotExtendedJson place) (inl h) = refused h.0 h.1 h.2 (λ is. absurd cc)
view o task text (NotExtendedJson place) (inr h) = turned place h
view o task text (NoBytes why) h = refused h.0 h.1 h.2 (λ is. absurd cc)
view o task text (NotCanonical column) h = refused h.0 h.1 h.2 (λ is. absurd cc)
view o task text CannotRead h = absurd h
view o task text OutOfMemory h = absurd h
view o task text CannotWrite h = absurd h

module _ (twice : (j : Json) (path : List PathSegment) → DuplicateAt j path → ¬ HasUniqueKeys j)
    (one_duplicate_path : (j : Json) (path other : List PathSegment) → DuplicateAt j path → DuplicateAt j other → path ≡ other)
    (no_cause : (ps : Pairs) (c : NoBytesCause) → FitsDocument ps → DocumentDoesNotFit c ps → ⊥)
    (one_cause : (ps : Pairs) (c e : NoBytesCause) → DocumentDoesNotFit c ps → DocumentDoesNotFit e ps → c ≡ e)
    (o : Options) where
  -- ---- what is read

  both_bare : (it : Output) (why other : without.NoBytes) (text : List ℕ) → HasNoOutputFor o (NoBytes why) it text
      → HasNoOutputFor o (NoBytes other) it text → why ≡ other
  both_bare (Text mode) why other text x y = absurd x
  both_bare Bytes why other text x y =
      let P = HasTextMeaningInKeyOrder o.key_order o.doubles text in
      same_cause P (value_one o.key_order o text) no_cause one_cause why other (fails_of P why x) (fails_of P other y)
  both_bare (Nothing criterion) why other text x y = absurd x

  not_bare : (it : Output) (why : without.NoBytes) (text a : List ℕ) → WritesOutput o it text a
      → HasNoOutputFor o (NoBytes why) it text → ⊥
  not_bare (Text mode) why text a w h = h
  not_bare Bytes why text a w h =
      let P = HasTextMeaningInKeyOrder o.key_order o.doubles text in
      has_bytes P (value_one o.key_order o text) no_cause one_cause why a w (fails_of P why h)
  not_bare (Nothing criterion) why text a w h = h

  written_refused : (it : Output) (text a : List ℕ) (fault : Error) → WritesOutput o it text a
      → HasNoOutputFor o fault it text → ⊥
  written_refused it text a NotJson w h = no_text o text (written_accepted o it text a w) h
  written_refused it text a (NotExtendedJson place) w h = no_fault o text place (written_accepted o it text a w) h
  written_refused it text a (NoBytes why) w h = not_bare it why text a w h
  written_refused it text a (NotCanonical column) w h = uncanonical_written o it column text a h w
  written_refused it text a CannotRead w h = h
  written_refused it text a OutOfMemory w h = h
  written_refused it text a CannotWrite w h = h

  same_refusal : (it : Output) (text : List ℕ) (fault cause : Error) → HasNoOutputFor o fault it text
      → HasNoOutputFor o cause it text → IsSameFault fault cause
  same_refusal it text fault CannotRead x y = absurd y
  same_refusal it text fault OutOfMemory x y = absurd y
  same_refusal it text fault CannotWrite x y = absurd y
  same_refusal it text CannotRead cause x y = absurd x
  same_refusal it text OutOfMemory cause x y = absurd x
  same_refusal it text CannotWrite cause x y = absurd x
  same_refusal it text NotJson NotJson x y = tt
  same_refusal it text NotJson (NotExtendedJson place) x y = absurd (fault_text o text place y x)
  same_refusal it text NotJson (NoBytes why) x y = absurd (no_text o text (bare_accepted o it why text y) x)
  same_refusal it text NotJson (NotCanonical column) x y =
      absurd (no_text o text (uncanonical_accepted o it column text y) x)
  same_refusal it text (NotExtendedJson place) NotJson x y = absurd (fault_text o text place x y)
  same_refusal it text (NotExtendedJson place) (NotExtendedJson other) x y = same_path o text place other x y
  same_refusal it text (NotExtendedJson place) (NoBytes why) x y =
      absurd (no_fault o text place (bare_accepted o it why text y) x)
  same_refusal it text (NotExtendedJson place) (NotCanonical column) x y =
      absurd (no_fault o text place (uncanonical_accepted o it column text y) x)
  same_refusal it text (NoBytes why) NotJson x y = absurd (no_text o text (bare_accepted o it why text x) y)
  same_refusal it text (NoBytes why) (NotExtendedJson place) x y =
      absurd (no_fault o text place (bare_accepted o it why text x) y)
  same_refusal it text (NoBytes why) (NoBytes other) x y = both_bare it why other text x y
  same_refusal it text (NoBytes why) (NotCanonical column) x y = absurd (uncanonical_bare o it column why text y x)
  same_refusal it text (NotCanonical column) NotJson x y =
      absurd (no_text o text (uncanonical_accepted o it column text x) y)
  same_refusal it text (NotCanonical column) (NotExtendedJson place) x y =
      absurd (no_fault o text place (uncanonical_accepted o it column text x) y)
  same_refusal it text (NotCanonical column) (NoBytes why) x y = absurd (uncanonical_bare o it column why text x y)
  same_refusal it text (NotCanonical column) (NotCanonical other) x y = one_column o it column other text x y

  accepted_blank : (text : List ℕ) → IsBlank text → IsAccepted o text → ⊥
  accepted_blank text blank (t, v, of, m) = blank_text text t blank of

  refused_blank : (it : Output) (text : List ℕ) (fault : Error) → IsBlank text → HasNoOutputFor o fault it text
      → fault ≡ NotJson
  refused_blank it text NotJson blank h = refl
  refused_blank it text (NotExtendedJson place) blank (t, of, first) = absurd (blank_text text t blank of)
  refused_blank it text (NoBytes why) blank h = absurd (accepted_blank text blank (bare_accepted o it why text h))
  refused_blank it text (NotCanonical column) blank h =
      absurd (accepted_blank text blank (uncanonical_accepted o it column text h))
  refused_blank it text CannotRead blank h = absurd h
  refused_blank it text OutOfMemory blank h = absurd h
  refused_blank it text CannotWrite blank h = absurd h

  -- ---- a line

  module _ (task : Task) (text : List ℕ) where
    viewed_written : (a : List ℕ) (fault : Error) → WritesOutputForTask o task text a → View o task text fault → ⊥
    viewed_written a fault (mine, is, w) (refused read of h some) =
        let same = one_taken task.preprocessing text read mine of is in
        written_refused task.output mine a fault w (subst (HasNoOutputFor o fault task.output) same h)
    viewed_written a fault (mine, is, w) (turned place h) = not_taken twice task.preprocessing place text mine h is

    written_blank : (a : List ℕ) → WritesOutputForTask o task text a → IsBlank text → ⊥
    written_blank a (read, is, w) blank =
        accepted_blank text blank
        (subst (IsAccepted o) (blank_taken task.preprocessing text read blank is) (written_accepted o task.output read a w))

    viewed_blank : (fault : Error) → IsBlank text → View o task text fault → ⊥
    viewed_blank fault blank (refused read is h some) =
        let same = blank_taken task.preprocessing text read blank is in
        some (refused_blank task.output text fault blank (subst (HasNoOutputFor o fault task.output) same h)) blank
    viewed_blank fault blank (turned place h) = blank_turned task.preprocessing place text blank h

    viewed : (fault cause : Error) → View o task text fault → View o task text cause → IsSameFault fault cause
    viewed fault cause (refused a x h some) (refused b y k also) =
        let same = one_taken task.preprocessing text b a y x in
        same_refusal task.output a fault cause h (subst (HasNoOutputFor o cause task.output) same k)
    viewed fault cause (refused a x h some) (turned place k) =
        absurd (not_taken twice task.preprocessing place text a k x)
    viewed fault cause (turned place h) (refused b y k also) =
        absurd (not_taken twice task.preprocessing place text b h y)
    viewed fault cause (turned place h) (turned other k) =
        one_turned one_duplicate_path task.preprocessing place other text h k

    one_text : (a b : List ℕ) → WritesOutputForTask o task text a → WritesOutputForTask o task text b → a ≡ b
    one_text a b (mine, is, x) (other, of, y) =
        let same = one_taken task.preprocessing text other mine of is in
        one_written o task.output mine a b x (subst (λ t. WritesOutput o task.output t b) same y)

  pub decided : (task : Task) → Decided o task
  decided task = record {
    one_text = one_text task;
    written_blank = written_blank task;
    written_bad = λ text a fault w bad. viewed_written task text a fault w (view o task text fault bad);
    blank_bad = λ text fault blank bad. viewed_blank task text fault blank (view o task text fault bad);
    same_fault = λ text fault cause x y.
        viewed task text fault cause (view o task text fault x) (view o task text cause y);
  }
