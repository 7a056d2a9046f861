-- What the status of a fault says of a text.
use Rattle.std.proofs.Common.{◌≡◌, ◌≤◌, inr, ℕ, List, arith, subst}
use Rattle.serde_json.specs.Data.{Data}
use Rattle.bson.specs.TextMeaning.{IsNotJsonText, IsTextOf}
use Rattle.bson_tree.specs.Faults.{Fault as TreeFault}
use Rattle.bson_model.specs.declared.options.Options.{Options}
use Rattle.bson_tree.proofs.Offered.{first_fault}
use Rattle.bson_tree.specs.Place.{IsFirstFaultIn, IsReasonOfFault}
use Rattle.bson_tree.specs.declared.place.Reason.{Reason}
use Rattle.bson_tree.specs.declared.place.Reason.TheVariants.{BadObjectId, WrongShape}
use Rattle.bson_tree.specs.declared.place.Place.{Place}
use Rattle.bson_convert.specs.Convert.{IsRejectedIn}
use Rattle.bson_convert.specs.declared.error.Error.{Error}
use Rattle.bson_convert.specs.declared.error.Error.TheVariants.{CannotRead, NotJson, NotExtendedJson, NoBytes, OutOfMemory}
use Rattle.bson_convert.specs.declared.error.Error.TheVariants.{CannotWrite, NotCanonical}
use Rattle.bson_run.specs.Encode.{TextHasNoBsonBytes, IsEncodeErrorBy}
use Rattle.bson_convert.specs.declared.encode_error.NoBytes as without
use Rattle.bson_convert.specs.declared.encode_error.NoBytes.TheVariants.{NoDocument, ZeroInKey, ZeroInRegex, TooLong}
use Rattle.vbson.proofs.Preprocessed.{IsReadBy, no_value, under}
use Rattle.vbson.specs.Convert.{IsInvalidExtendedJson, IsInvalidShape, IsBadObjectId, status_of_encode_error, status_of_reason, status_of}
use Rattle.vbson.specs.Reading.{IsTextEncodeFailure, IsTextReadFailure}
use Rattle.vbson.specs.declared.options.CallOptions.{CallOptions}

is_bad_id : (f : TreeFault) (r : Reason) → IsReasonOfFault f r → status_of_reason r ≡ 3 → IsBadObjectId f
is_bad_id f (BadObjectId e) h is = (h.0, h.1)
is_bad_id f (WrongShape message) h is = absurd (omega arith)

is_bad : (f : TreeFault) (r : Reason) → IsReasonOfFault f r → status_of_reason r ≡ 4 → IsInvalidShape f
is_bad f (BadObjectId e) h is = absurd (omega arith)
is_bad f (WrongShape message) h is = h

not_two : (r : Reason) → status_of_reason r ≡ 2 → ⊥
not_two (BadObjectId e) is = absurd (omega arith)
not_two (WrongShape message) is = absurd (omega arith)

of_place : (o : Options) (why : TreeFault → Type 0) (place : Place) (bytes : List ℕ)
    → (h : (t : Data) × IsTextOf bytes t × IsFirstFaultIn o.doubles t place) → why h.2.fault
    → IsInvalidExtendedJson o why bytes
of_place o why place bytes h reason = record {
  tree = h.0;
  text = h.1;
  refused = h.2.nothing;
  reason = subst why (first_fault o.doubles h.2.path) reason;
}

-- an error that bytes have as a text is one of three
pub one_of_three : (P : Error → Type 0) (o : Options) (fault : Error) (bytes : List ℕ) → IsRejectedIn o fault bytes
    → (IsNotJsonText bytes → P NotJson)
    → ((place : Place) → ((t : Data) × IsTextOf bytes t × IsFirstFaultIn o.doubles t place) → P (NotExtendedJson place))
    → P OutOfMemory → P fault
one_of_three P o CannotRead bytes h not_json value memory = absurd h
one_of_three P o NotJson bytes h not_json value memory = not_json h
one_of_three P o (NotExtendedJson place) bytes h not_json value memory = value place h
one_of_three P o (NoBytes why) bytes h not_json value memory = absurd h
one_of_three P o (NotCanonical column) bytes h not_json value memory = absurd h
one_of_three P o OutOfMemory bytes h not_json value memory = memory
one_of_three P o CannotWrite bytes h not_json value memory = absurd h

pub reason_status : (r : Reason) → (2 ≤ status_of_reason r) × (status_of_reason r ≤ 5)
reason_status (BadObjectId e) = (omega arith, omega arith)
reason_status (WrongShape message) = (omega arith, omega arith)

-- what the status of a fault says of the text in whose place the text with the fault is read
module _ (options : CallOptions) (text : List ℕ) (o : Options) (read : List ℕ) (is_read : IsReadBy options text o read) where
  pub rejected : (fault : Error) → IsRejectedIn o fault read → IsTextReadFailure options (status_of fault) text
  rejected fault h = one_of_three (λ f. IsTextReadFailure options (status_of f) text) o fault read h
      (λ no_text. record {
        not_json = λ is. under (λ p. IsNotJsonText) options text o read is_read no_text;
        bad_object_id = λ is. absurd (omega arith);
        not_extended_json = λ is. absurd (omega arith);
        possible_statuses = (omega arith, omega arith);
      })
      (λ place h. record {
        not_json = λ is. absurd (not_two place.reason is);
        bad_object_id = λ is. under (λ p. IsInvalidExtendedJson p IsBadObjectId) options text o read is_read
            (of_place o IsBadObjectId place read h (is_bad_id _ place.reason h.2.reason is));
        not_extended_json = λ is. inr (under (λ p. IsInvalidExtendedJson p IsInvalidShape) options text o read is_read
            (of_place o IsInvalidShape place read h (is_bad _ place.reason h.2.reason is)));
        possible_statuses = reason_status place.reason;
      })
      (record {
        not_json = λ is. absurd (omega arith);
        bad_object_id = λ is. absurd (omega arith);
        not_extended_json = λ is. absurd (omega arith);
        possible_statuses = (omega arith, omega arith);
      })

  -- a status from 10 on says nothing of what has no meaning
  valued : (status : ℕ) → 10 ≤ status → status ≤ 13
      → (status ≡ 10 → TextHasNoBsonBytes o.key_order o NoDocument read) → (status ≡ 11 → TextHasNoBsonBytes o.key_order o ZeroInKey read)
      → (status ≡ 12 → TextHasNoBsonBytes o.key_order o ZeroInRegex read) → (status ≡ 13 → TextHasNoBsonBytes o.key_order o TooLong read)
      → IsTextEncodeFailure options status text
  valued status least most no_document key_has_zero regex_has_zero too_long =
      let cannot = λ (why : without.NoBytes). under (λ p. TextHasNoBsonBytes p.key_order p why) options text o read is_read in
      record {
        not_json = λ is. absurd (omega (arith, least, is));
        bad_object_id = λ is. absurd (omega (arith, least, is));
        not_extended_json = λ is. absurd (omega (arith, least, is));
        no_document = λ is. cannot NoDocument (no_document is);
        key_has_zero = λ is. cannot ZeroInKey (key_has_zero is);
        regex_has_zero = λ is. cannot ZeroInRegex (regex_has_zero is);
        too_long = λ is. cannot TooLong (too_long is);
        possible_statuses = inr (least, most);
      }

  without_bytes : (why : without.NoBytes) → TextHasNoBsonBytes o.key_order o why read
      → IsTextEncodeFailure options (status_of_encode_error why) text
  without_bytes NoDocument h = valued 10 (omega arith) (omega arith)
      (λ is. h) (λ is. absurd (omega (arith, is))) (λ is. absurd (omega (arith, is))) (λ is. absurd (omega (arith, is)))
  without_bytes ZeroInKey h = valued 11 (omega arith) (omega arith)
      (λ is. absurd (omega (arith, is))) (λ is. h) (λ is. absurd (omega (arith, is))) (λ is. absurd (omega (arith, is)))
  without_bytes ZeroInRegex h = valued 12 (omega arith) (omega arith)
      (λ is. absurd (omega (arith, is))) (λ is. absurd (omega (arith, is))) (λ is. h) (λ is. absurd (omega (arith, is)))
  without_bytes TooLong h = valued 13 (omega arith) (omega arith)
      (λ is. absurd (omega (arith, is))) (λ is. absurd (omega (arith, is))) (λ is. absurd (omega (arith, is))) (λ is. h)

  refused : (fault : Error) → IsRejectedIn o fault read → IsTextEncodeFailure options (status_of fault) text
  refused fault h = no_value options (status_of fault) text (rejected fault h)

  pub unencoded : (fault : Error) → IsEncodeErrorBy o.key_order o fault read → IsTextEncodeFailure options (status_of fault) text
  unencoded CannotRead h = absurd h
  unencoded NotJson h = refused NotJson h
  unencoded (NotExtendedJson place) h = refused (NotExtendedJson place) h
  unencoded (NoBytes why) h = without_bytes why h
  unencoded (NotCanonical column) h = absurd h
  unencoded OutOfMemory h = refused OutOfMemory h
  unencoded CannotWrite h = absurd h
