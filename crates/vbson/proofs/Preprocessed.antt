-- What is read in the place of a text, and what a status says of it.
use Rattle.std.proofs.Common.{◌≡◌, ◌≢◌, ◌≤◌, ◌⊎◌, inl, inr, ℕ, List, Option, Some, refl, sym, subst, arith}
use Rattle.std.specs.Prelude.{String}
use Rattle.std.specs.declared.alloc.Global.{Global}
use Rattle.json.specs.Json.{Json}
use Rattle.json.specs.Strict.{HasUniqueKeys}
use Rattle.serde_json.specs.Read.{read}
use Rattle.bson_tokens.specs.DuplicateKeys.{DuplicateAt}
use Rattle.bson_tree.specs.Place.{PathSegment}
use Rattle.bson_tree.specs.declared.place.Place.{Place}
use Rattle.bson_scalar.specs.declared.form.Doubles.{Doubles}
use Rattle.bson_model.specs.Means.{MeansIn}
use Rattle.bson_bytes.specs.ReadDocuments.{IsReadAsDocumentIn}
use Rattle.bson_model.specs.Value.{Pairs, Value}
use Rattle.bson.specs.TextMeaning.{HasTextMeaningIn}
use Rattle.bson_model.specs.declared.options.Options.{Options}
use Rattle.bson_convert.specs.declared.error.Error.{Error}
use Rattle.bson_convert.specs.declared.error.Error.TheVariants.{CannotRead, NotJson, NotExtendedJson, NoBytes, OutOfMemory}
use Rattle.bson_convert.specs.declared.error.Error.TheVariants.{CannotWrite, NotCanonical}
use Rattle.bson_run.proofs.Offered.{not_taken, one_taken}
use Rattle.bson_run.specs.Preprocessed.{IsPreprocessedAs, IsPreprocessingError, IsRejectedByPreprocessing, preprocessed_of}
use Rattle.bson_run.specs.declared.task.Preprocessing.{Preprocessing}
use Rattle.vbson.specs.Convert.{IsReadWith, duplicate_keys_of, options_of_call, preprocessing_of}
use Rattle.vbson.specs.Documents.{depth}
use Rattle.vbson.specs.Reading.{HasRejectedKey, IsTextReadFailure, MeansUnder}
use Rattle.vbson.specs.Reading.{IsDocumentReadFailure, IsPreprocessingFailure, IsTextEncodeFailure}
use Rattle.vbson.specs.declared.options.CallOptions.{CallOptions}

-- ---- one value

-- bytes mean one value
pub one_meaning : (D : Doubles) (bytes : List ℕ) (v w : Value) → HasTextMeaningIn D bytes v
    → HasTextMeaningIn D bytes w → v ≡ w
one_meaning D bytes v w a b =
    let x : read bytes ≡ Some a.tree = a.text.tree_read in
    let y : read bytes ≡ Some b.tree = b.text.tree_read in
    let trees : a.tree ≡ b.tree = cc in
    b.meaning.one v (subst (λ t. MeansIn D t v) trees a.meaning.means)

-- ---- what the options read in the place of a text, and with which options of a conversion

pub record IsReadBy (options : CallOptions) (text : List ℕ) (o : Options) (read : List ℕ) : Type 0 where
  pub with_options : o ≡ options_of_call options
  pub read_as : IsPreprocessedAs (preprocessing_of options) text read

-- from what the calls of `options_of`, `preprocess_text` and `text_to_read` ensure
pub read_by : (options : CallOptions) (text : List ℕ) (o : Options) (read : List ℕ) (preprocessing : Preprocessing)
    (new_text : Option (String Global)) → o ≡ options_of_call options → preprocessing ≡ preprocessing_of options
    → IsPreprocessedAs preprocessing text (preprocessed_of text new_text) → read ≡ preprocessed_of text new_text
    → IsReadBy options text o read
read_by options text o read preprocessing new_text same_options same_preprocessing is same_text = record {
  with_options = same_options;
  read_as = subst (IsPreprocessedAs (preprocessing_of options) text) (sym same_text)
      (subst (λ p. IsPreprocessedAs p text (preprocessed_of text new_text)) same_preprocessing is);
}

-- a property of it is one of the text under the options
pub under : (property : Options → List ℕ → Type 0) (options : CallOptions) (text : List ℕ) (o : Options) (read : List ℕ)
    → IsReadBy options text o read → property o read → IsReadWith options (property (options_of_call options)) text
under property options text o read is h = record {
  read_text = read;
  read_as = is.read_as;
  has = subst (λ p. property p read) is.with_options h;
}

-- and conversely
pub of_under : (property : Options → List ℕ → Type 0) (options : CallOptions) (text : List ℕ) (o : Options) (read : List ℕ)
    → IsReadBy options text o read → IsReadWith options (property (options_of_call options)) text → property o read
of_under property options text o read is h =
    subst (λ p. property p read) (sym is.with_options)
    (subst (property (options_of_call options)) (one_taken (preprocessing_of options) text h.read_text read h.read_as is.read_as) h.has)

-- under the options a text means the values of what is read
pub means_under : (options : CallOptions) (text : List ℕ) (o : Options) (read : List ℕ) (value : Value) → IsReadBy options text o read
    → HasTextMeaningIn o.doubles read value → MeansUnder options text value
means_under options text o read value is means = record {
  read_text = read;
  read_as = is.read_as;
  meaning = subst (λ (p : Options). HasTextMeaningIn p.doubles read value) is.with_options means;
}

pub meant : (options : CallOptions) (text : List ℕ) (o : Options) (read : List ℕ) (value : Value) → IsReadBy options text o read
    → MeansUnder options text value → HasTextMeaningIn o.doubles read value
meant options text o read value is means =
    of_under (λ p x. HasTextMeaningIn p.doubles x value) options text o read is
    (record { read_text = means.read_text; read_as = means.read_as; has = means.meaning })

-- ---- what preprocessing rejects

-- a text that preprocessing rejects is not read
pub not_read : ((j : Json) (path : List PathSegment) → DuplicateAt j path → ¬ HasUniqueKeys j) → (preprocessing : Preprocessing)
    (text read : List ℕ) → HasRejectedKey preprocessing text → IsPreprocessedAs preprocessing text read → ⊥
not_read twice preprocessing text read h is = not_taken twice preprocessing h.0 text read h.1 is

-- an error of preprocessing is a duplicate key, or memory ran out
pub by_key : (P : Error → Type 0) (preprocessing : Preprocessing) (fault : Error) (text : List ℕ) → IsPreprocessingError preprocessing fault text
    → ((place : Place) → IsRejectedByPreprocessing preprocessing place text → P (NotExtendedJson place)) → P OutOfMemory → P fault
by_key P preprocessing CannotRead text h key memory = absurd h
by_key P preprocessing NotJson text h key memory = absurd h
by_key P preprocessing (NotExtendedJson place) text h key memory = key place h
by_key P preprocessing (NoBytes why) text h key memory = absurd h
by_key P preprocessing (NotCanonical column) text h key memory = absurd h
by_key P preprocessing OutOfMemory text h key memory = memory
by_key P preprocessing CannotWrite text h key memory = absurd h

pub rejected_key : (preprocessing : Preprocessing) (fault : Error) (text : List ℕ) → IsPreprocessingError preprocessing fault text
    → fault ≢ OutOfMemory → HasRejectedKey preprocessing text
rejected_key preprocessing fault text h =
    by_key (λ f. f ≢ OutOfMemory → HasRejectedKey preprocessing text) preprocessing fault text h
    (λ place key some. (place, key)) (λ some. absurd (some refl))

pub turned_away : ((j : Json) (path : List PathSegment) → DuplicateAt j path → ¬ HasUniqueKeys j) → (options : CallOptions)
    (fault : Error) (text : List ℕ) → IsPreprocessingError (preprocessing_of options) fault text → fault ≢ OutOfMemory
    → IsPreprocessingFailure options 4 text
turned_away twice options fault text h some =
    let key = rejected_key (preprocessing_of options) fault text h some in
    record {
      has_rejected_key = λ is. key;
      accepts = λ read is. absurd (not_read twice (preprocessing_of options) text read key is);
      possible_statuses = inl refl;
    }

of_two : (status : ℕ) → (status ≡ 4) ⊎ (status ≡ 5) → (4 ≤ status) × (status ≤ 5)
of_two status (inl is) = (omega (arith, is), omega (arith, is))
of_two status (inr is) = (omega (arith, is), omega (arith, is))

-- a text that is not read has no value
pub unread : (options : CallOptions) (status : ℕ) (text : List ℕ) → IsPreprocessingFailure options status text
    → IsTextReadFailure options status text
unread options status text h =
    let (least, most) = of_two status h.possible_statuses in
    record {
      not_json = λ is. absurd (omega (arith, least, is));
      bad_object_id = λ is. absurd (omega (arith, least, is));
      not_extended_json = λ is. inl (h.has_rejected_key is);
      possible_statuses = (omega (arith, least), most);
    }

-- and what has no value has no bytes
pub no_value : (options : CallOptions) (status : ℕ) (text : List ℕ) → IsTextReadFailure options status text
    → IsTextEncodeFailure options status text
no_value options status text h =
    let most = h.possible_statuses.1 in
    record {
      not_json = h.not_json;
      bad_object_id = h.bad_object_id;
      not_extended_json = h.not_extended_json;
      no_document = λ is. absurd (omega (arith, most, is));
      key_has_zero = λ is. absurd (omega (arith, most, is));
      regex_has_zero = λ is. absurd (omega (arith, most, is));
      too_long = λ is. absurd (omega (arith, most, is));
      possible_statuses = inl h.possible_statuses;
    }

-- ---- documents

pub no_document_under : (options : CallOptions) (bytes : List ℕ)
    → ((ps : Pairs) → IsReadAsDocumentIn (duplicate_keys_of options) depth bytes ps → ⊥) → IsDocumentReadFailure options 10 bytes
no_document_under options bytes none = record {
  no_document = λ ten value is. none is.pairs is.read;
  accepts = λ value is. absurd (none is.pairs is.read);
  possible_statuses = inr refl;
}
