-- The struct that explains why a text is rejected, under the options.
use Rattle.std.proofs.Common.{◌≡◌, ◌≢◌, inl, inr, ℕ, Bool, List, None, Some, refl, subst, arith}
use Rattle.json.specs.Json.{Json}
use Rattle.json.specs.Strict.{HasUniqueKeys}
use Rattle.serde_json.specs.Read.{read}
use Rattle.bson.specs.TextMeaning.{HasTextMeaningIn}
use Rattle.bson.specs.Value.{Value}
use Rattle.bson_model.specs.declared.options.Options.{Options}
use Rattle.bson_convert.specs.Convert.{IsRejectedIn}
use Rattle.bson_convert.specs.declared.error.Error.{Error}
use Rattle.bson_convert.specs.declared.error.Error.TheVariants.{OutOfMemory}
use Rattle.bson_tokens.specs.DuplicateKeys.{DuplicateAt}
use Rattle.bson_model.specs.Means.{MeansIn}
use Rattle.bson_tree.specs.Place.{PathSegment}
use Rattle.bson_run.specs.ErrorMessages.{IsExplanation, HasNoPosition}
use Rattle.bson_run.specs.declared.explain.Explanation.{Explanation}
use Rattle.bson_run.specs.declared.explain.Explanation.TheVariants as explained
use Rattle.vbson.proofs.Causes.{one_of_three, reason_status}
use Rattle.vbson.proofs.Preprocessed.{IsReadBy, by_key, meant, not_read, rejected_key}
use Rattle.vbson.specs.Convert.{options_of_call, preprocessing_of}
use Rattle.vbson.specs.Explain.{Explains, ExplainsRejection, IsRejectedUnder, explanation_code}
use Rattle.vbson.specs.Reading.{MeansUnder}
use Rattle.vbson.specs.declared.explain.Rejection.{Rejection}
use Rattle.vbson.specs.declared.options.CallOptions.{CallOptions}

-- ---- the code

-- the error of a rejected text has a position
has_position : (options : CallOptions) (text : List ℕ) (fault : Error) → IsRejectedUnder options fault text → fault ≢ OutOfMemory
    → HasNoPosition fault → ⊥
has_position options text fault (inl h) =
    one_of_three (λ f. f ≢ OutOfMemory → HasNoPosition f → ⊥) (options_of_call options) fault h.read_text h.has
    (λ not_json reported none. none) (λ place value reported none. none) (λ reported none. reported refl)
has_position options text fault (inr h) =
    by_key (λ f. f ≢ OutOfMemory → HasNoPosition f → ⊥) (preprocessing_of options) fault text h
    (λ place key reported none. none) (λ reported none. reported refl)

some_code : (v1 : Bool) (text : List ℕ) (fault : Error) (it : Explanation) (n : ℕ) → IsExplanation v1 text fault it → (HasNoPosition fault → ⊥)
    → n ≡ explanation_code it → n ≡ 0 → ⊥
some_code v1 text fault (explained.Syntax stop) n h reported is zero = absurd (omega (arith, is, zero))
some_code v1 text fault (explained.Value place reason offset) n h reported is zero = absurd (omega (arith, (reason_status place.now.reason).0, is, zero))
some_code v1 text fault (explained.Difference column) n h reported is zero = absurd (omega (arith, is, zero))
some_code v1 text fault explained.Other n h reported is zero = reported h

-- a text that is rejected has a code
rejects_code : (options : CallOptions) (text : List ℕ) (out : Rejection) → ExplainsRejection options text out → out.code ≡ 0 → ⊥
rejects_code options text out h =
    some_code (preprocessing_of options).v1 text h.fault h.explanation out.code h.is_explanation (has_position options text h.fault h.rejected h.reported) h.error_report.code

pub accepted_from : (options : CallOptions) (text : List ℕ) (out : Rejection) → Explains options text out → out.code ≡ 0
    → (value : Value) × MeansUnder options text value
accepted_from options text out (inl h) zero = h.0
accepted_from options text out (inr h) zero = absurd (rejects_code options text out h zero)

-- ---- a text that means a value is not rejected

not_refused : (o : Options) (fault : Error) (bytes : List ℕ) (value : Value) → HasTextMeaningIn o.doubles bytes value
    → IsRejectedIn o fault bytes → fault ≢ OutOfMemory → ⊥
not_refused o fault bytes value means rejected =
    let x : read bytes ≡ Some means.tree = means.text.tree_read in
    one_of_three (λ f. f ≢ OutOfMemory → ⊥) o fault bytes rejected
    (λ h reported.
    let none : read bytes ≡ None = h means.text.utf8 in
    absurd cc)
    (λ place h reported.
    let y : read bytes ≡ Some h.0 = h.1.tree_read in
    let trees : means.tree ≡ h.0 = cc in
    h.2.nothing value (subst (λ t. MeansIn o.doubles t value) trees means.meaning.means))
    (λ reported. reported refl)

not_rejected : ((j : Json) (path : List PathSegment) → DuplicateAt j path → ¬ HasUniqueKeys j) → (options : CallOptions)
    (text : List ℕ) (fault : Error) (value : Value) → MeansUnder options text value → IsRejectedUnder options fault text
    → fault ≢ OutOfMemory → ⊥
not_rejected twice options text fault value means (inl h) =
    let is : IsReadBy options text (options_of_call options) h.read_text = record { with_options = refl; read_as = h.read_as } in
    not_refused (options_of_call options) fault h.read_text value (meant options text (options_of_call options) h.read_text value is means) h.has
not_rejected twice options text fault value means (inr h) = λ reported.
    not_read twice (preprocessing_of options) text means.read_text (rejected_key (preprocessing_of options) fault text h reported)
    means.read_as

pub accepts_from : ((j : Json) (path : List PathSegment) → DuplicateAt j path → ¬ HasUniqueKeys j) → (options : CallOptions)
    (text : List ℕ) (out : Rejection) (value : Value) → MeansUnder options text value → Explains options text out → out.code ≡ 0
accepts_from twice options text out value means (inl h) = h.1.code
accepts_from twice options text out value means (inr h) =
    absurd (not_rejected twice options text h.fault value means h.rejected h.reported)
