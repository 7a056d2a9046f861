-- How a run over documents goes on and ends.
use Rattle.std.proofs.Common.{◌≡◌, ◌≢◌, ◌⊎◌, inl, inr, ℕ, ◌+◌, ◌≤◌, List, [], ◌∷◌, ◌++◌, length, Option, None, Some, refl}
use Rattle.std.proofs.Common.{ap, false, sym, subst, ◌∙◌, arith}
use Rattle.std.specs.Prelude.{◌==◌}
use Rattle.std.specs.Io.KnownBytes.{Appends, Consumes, Keeps}
use Rattle.std.proofs.KnownBytes.{Appends-nil, Appends-trans, Consumes-nil, Consumes-trans}
use Rattle.std.proofs.lemmas.List.{length-append}
use Rattle.bson_codec.specs.DumpRuns.{Dump, none, written, skipped_document}
use Rattle.bson_codec.specs.DumpRuns.{IsEndReason, EndsAt, IsRejectedWithFault, IsLineOrSkip, IsConversionFault, IsLineOfDocument, IsFaultOfDocument}
use Rattle.bson_codec.specs.DumpRuns.{IsSkipped, IsRunEnd, IsReportFailure, DumpProgress, ConsumesPrefix}
use Rattle.bson_codec.specs.Streams.{WritesPrefix, declared_prefix}
use Rattle.bson_codec.specs.Diagnostics.{diagnostic_of}
use Rattle.bson_codec.specs.declared.documents.Run.{Run}
use Rattle.bson_codec.specs.declared.run_end.RunFault.{RunFault}
use Rattle.bson_codec.specs.declared.run_end.RunFault.TheVariants.{Malformed, FiniteDouble, CannotRead, CannotWrite}
use Rattle.bson_codec.specs.declared.run_end.RunFault.TheVariants.{OutOfMemory}

pub run_begins : (run : Run) (before output_before diagnostics_before : Option (List ℕ)) → DumpProgress run before before output_before output_before diagnostics_before diagnostics_before 0 0 0
run_begins run before output_before diagnostics_before = record {
  converted_bytes = [];
  output = [];
  diagnostic_lines = [];
  consumed_bytes = Consumes-nil before;
  documents = none;
  offset_is_length = refl;
  written = Appends-nil output_before;
  reports_appended = Appends-nil diagnostics_before;
}

appends_kept : (a b c : Option (List ℕ)) (bs : List ℕ) → Appends a b bs → Keeps b c → Appends a c bs
appends_kept None b c bs p q = tt
appends_kept (Some x) None c bs p q = absurd p
appends_kept (Some x) (Some y) None bs p q = absurd q
appends_kept (Some x) (Some y) (Some z) bs p q = q ∙ p

pub run_goes_on : (run : Run) (before mid after output_before output_after after_holds diagnostics_before diagnostics_after after_tells : Option (List ℕ))
    (number refused start n following : ℕ) (bytes : List ℕ)
    → DumpProgress run before mid output_before output_after diagnostics_before diagnostics_after number refused start → Consumes mid after bytes
    → IsLineOrSkip n run (number + 1) start bytes output_after after_holds diagnostics_after after_tells → following ≡ start + length bytes
    → DumpProgress run before after output_before after_holds diagnostics_before after_tells (number + 1) (refused + n) following
run_goes_on run before mid after output_before output_after after_holds diagnostics_before diagnostics_after after_tells number refused start n following bytes r bytes_read (inl g) place =
    let line = g.1.0.0 in
    let same : refused + n ≡ refused = omega (arith, g.0) in
    record {
      converted_bytes = r.converted_bytes ++ bytes;
      output = r.output ++ line;
      diagnostic_lines = r.diagnostic_lines;
      consumed_bytes = Consumes-trans before mid after r.converted_bytes bytes r.consumed_bytes bytes_read;
      documents = subst (λ (k : ℕ). Dump run (r.converted_bytes ++ bytes) (r.output ++ line) r.diagnostic_lines (number + 1) k) (sym same)
          (written bytes line r.documents g.1.0.1);
      offset_is_length = omega (arith, place, r.offset_is_length, length-append r.converted_bytes bytes);
      written = Appends-trans output_before output_after after_holds r.output line r.written g.1.0.2;
      reports_appended = appends_kept diagnostics_before diagnostics_after after_tells r.diagnostic_lines r.reports_appended g.1.1;
    }
run_goes_on run before mid after output_before output_after after_holds diagnostics_before diagnostics_after after_tells number refused start n following bytes r bytes_read (inr g) place =
    let fault = g.1.1.0.0 in
    let one : refused + n ≡ refused + 1 = omega (arith, g.0) in
    let partial_report = diagnostic_of run.diagnostics (number + 1) (length r.converted_bytes) fault in
    record {
      converted_bytes = r.converted_bytes ++ bytes;
      output = r.output;
      diagnostic_lines = r.diagnostic_lines ++ partial_report;
      consumed_bytes = Consumes-trans before mid after r.converted_bytes bytes r.consumed_bytes bytes_read;
      documents = subst (λ (k : ℕ). Dump run (r.converted_bytes ++ bytes) r.output (r.diagnostic_lines ++ partial_report) (number + 1) k) (sym one)
          (skipped_document bytes fault r.documents g.1.0 g.1.1.0.1);
      offset_is_length = omega (arith, place, r.offset_is_length, length-append r.converted_bytes bytes);
      written = appends_kept output_before output_after after_holds r.output r.written g.1.1.1;
      reports_appended = Appends-trans diagnostics_before diagnostics_after after_tells r.diagnostic_lines partial_report r.reports_appended
          (subst (λ (s : ℕ). Appends diagnostics_after after_tells (diagnostic_of run.diagnostics (number + 1) s fault)) r.offset_is_length g.1.1.0.2);
    }

-- ---- a document without a line

pub cut_line : (run : Run) (number start : ℕ) (bytes line : List ℕ) (output_before output_after diagnostics_after : Option (List ℕ))
    → IsLineOfDocument run bytes line → WritesPrefix output_before output_after line
    → IsRunEnd CannotWrite run number start bytes output_before output_after diagnostics_after diagnostics_after
cut_line run number start bytes line output_before output_after diagnostics_after is cut =
    (cut.beginning, [], inl ((line, is, cut.starts), refl), (cut.written, Appends-nil diagnostics_after))

pub untold : (e : RunFault) (run : Run) (number start : ℕ) (bytes : List ℕ) (fault : RunFault)
    (output_before diagnostics_before diagnostics_after : Option (List ℕ)) → IsRejectedWithFault fault run bytes → IsSkipped run bytes
    → IsReportFailure e run.diagnostics number start fault diagnostics_before diagnostics_after → IsRunEnd e run number start bytes output_before output_before diagnostics_before diagnostics_after
untold e run number start bytes fault output_before diagnostics_before diagnostics_after bad over (inl p) =
    subst (λ (it : RunFault). IsRunEnd it run number start bytes output_before output_before diagnostics_before diagnostics_after) (sym p.0)
    ([], [], (refl, refl), (Appends-nil output_before, appends_kept diagnostics_before diagnostics_before diagnostics_after [] (Appends-nil diagnostics_before) p.1))
untold e run number start bytes fault output_before diagnostics_before diagnostics_after bad over (inr p) =
    subst (λ (it : RunFault). IsRunEnd it run number start bytes output_before output_before diagnostics_before diagnostics_after) (sym p.0)
    ([], p.1.0, inr ((fault, bad, over, p.1.1), refl), (Appends-nil output_before, p.1.2))

pub judged_ends : (e : RunFault) (run : Run) (number start : ℕ) (bytes : List ℕ) (output_before diagnostics_before : Option (List ℕ))
    → IsConversionFault e run bytes → (IsFaultOfDocument e → IsSkipped run bytes → ⊥) → IsRunEnd e run number start bytes output_before output_before diagnostics_before diagnostics_before
judged_ends (Malformed k n) run number start bytes output_before diagnostics_before p last =
    ([], [], (p, last tt, refl, refl), (Appends-nil output_before, Appends-nil diagnostics_before))
judged_ends FiniteDouble run number start bytes output_before diagnostics_before p last =
    ([], [], (p, last tt, refl, refl), (Appends-nil output_before, Appends-nil diagnostics_before))
judged_ends CannotRead run number start bytes output_before diagnostics_before p last = absurd p
judged_ends CannotWrite run number start bytes output_before diagnostics_before p last = absurd p
judged_ends OutOfMemory run number start bytes output_before diagnostics_before p last =
    ([], [], (refl, refl), (Appends-nil output_before, Appends-nil diagnostics_before))

-- what is passed over has no line
pub bad_bytes : (e : RunFault) (run : Run) (bytes : List ℕ) → IsFaultOfDocument e → IsConversionFault e run bytes → IsRejectedWithFault e run bytes
bad_bytes (Malformed k n) run bytes is p = p
bad_bytes FiniteDouble run bytes is p = p
bad_bytes CannotRead run bytes is p = p
bad_bytes CannotWrite run bytes is p = p
bad_bytes OutOfMemory run bytes is p = absurd is

pub one_at_most : (n : ℕ) (run : Run) (number start : ℕ) (bytes : List ℕ) (output_before output_after diagnostics_before diagnostics_after : Option (List ℕ))
    → IsLineOrSkip n run number start bytes output_before output_after diagnostics_before diagnostics_after → n ≤ 1
one_at_most n run number start bytes output_before output_after diagnostics_before diagnostics_after (inl g) = omega (arith, g.0)
one_at_most n run number start bytes output_before output_after diagnostics_before diagnostics_after (inr g) = omega (arith, g.0)

pub run_ends : (run : Run) (before mid after output_before output_after after_holds diagnostics_before diagnostics_after after_tells : Option (List ℕ))
    (count refused start number : ℕ) (fault : RunFault) (bytes_read : List ℕ)
    → (r : DumpProgress run before mid output_before output_after diagnostics_before diagnostics_after count refused start) → Consumes mid after bytes_read
    → number ≡ count + 1 → ConsumesPrefix fault before r.converted_bytes bytes_read
    → IsRunEnd fault run number start bytes_read output_after after_holds diagnostics_after after_tells
    → EndsAt run before after output_before after_holds diagnostics_before after_tells fault number refused start
run_ends run before mid after output_before output_after after_holds diagnostics_before diagnostics_after after_tells count refused start number fault bytes_read r consumed_bytes next front (more, partial_report, why, (w, t)) = record {
  converted_bytes = r.converted_bytes;
  bytes_read = bytes_read;
  output = r.output;
  partial_line = more;
  diagnostic_lines = r.diagnostic_lines;
  partial_diagnostic = partial_report;
  earlier_documents = count;
  consumed_bytes = Consumes-trans before mid after r.converted_bytes bytes_read r.consumed_bytes consumed_bytes;
  front = front;
  documents = r.documents;
  counted = next;
  offset_is_length = r.offset_is_length;
  reason = why;
  written = Appends-trans output_before output_after after_holds r.output more r.written w;
  reports_appended = Appends-trans diagnostics_before diagnostics_after after_tells r.diagnostic_lines partial_report r.reports_appended t;
}

-- ---- the bytes of a document

pub some_taken : (bytes : List ℕ) (n : ℕ) → n ≡ length bytes → false ≡ (n == 0) → bytes ≢ []
some_taken bytes n e tested = λ none.
    let zero : n ≡ 0 = e ∙ ap length none in
    let yes = ap (λ (k : ℕ). k == 0) zero in absurd cc

unread_front : (fault : RunFault) (before : Option (List ℕ)) (done bytes_read : List ℕ)
    → (fault ≡ CannotRead) ⊎ (fault ≡ OutOfMemory) → ConsumesPrefix fault before done bytes_read
unread_front fault before done bytes_read (inl e) = subst (λ (f : RunFault). ConsumesPrefix f before done bytes_read) (sym e) tt
unread_front fault before done bytes_read (inr e) = subst (λ (f : RunFault). ConsumesPrefix f before done bytes_read) (sym e) tt

unread_ends : (fault : RunFault) (run : Run) (number start : ℕ) (bytes_read : List ℕ)
    → (fault ≡ CannotRead) ⊎ (fault ≡ OutOfMemory) → IsEndReason fault run number start bytes_read [] []
unread_ends fault run number start bytes_read (inl e) =
    subst (λ (f : RunFault). IsEndReason f run number start bytes_read [] []) (sym e) (refl, refl)
unread_ends fault run number start bytes_read (inr e) =
    subst (λ (f : RunFault). IsEndReason f run number start bytes_read [] []) (sym e) (refl, refl)

pub same_rest : (a b c d : List ℕ) → a ++ b ≡ c ++ d → length a ≡ length c → b ≡ d
same_rest [] b [] d e l = e
same_rest [] b (y ∷ c) d e l = absurd (omega (arith, l))
same_rest (x ∷ a) b [] d e l = absurd (omega (arith, l))
same_rest (x ∷ a) b (y ∷ c) d e l =
    let f : a ++ b ≡ c ++ d = cc in
    same_rest a b c d f (omega (arith, l))

-- what a reader has left after the bytes that were consumed
pub left : (before mid : Option (List ℕ)) (done rest : List ℕ) → before ≡ Some (done ++ rest)
    → Consumes before mid done → mid ≡ Some rest
left None mid done rest e c = absurd cc
left (Some xs) None done rest e c = absurd c
left (Some xs) (Some ys) done rest e c =
    let f : done ++ rest ≡ done ++ ys = cc in
    let g : rest ≡ ys = same_rest done rest done ys f refl in cc

given_front : (fault : RunFault) (before mid : Option (List ℕ)) (done bytes_read : List ℕ) → Consumes before mid done → bytes_read ≢ []
    → ((all : List ℕ) → mid ≡ Some all → bytes_read ≡ declared_prefix all) → ConsumesPrefix fault before done bytes_read
given_front (Malformed k n) before mid done bytes_read c some h = (some, λ rest e. h rest (left before mid done rest e c))
given_front FiniteDouble before mid done bytes_read c some h = (some, λ rest e. h rest (left before mid done rest e c))
given_front CannotRead before mid done bytes_read c some h = tt
given_front CannotWrite before mid done bytes_read c some h = (some, λ rest e. h rest (left before mid done rest e c))
given_front OutOfMemory before mid done bytes_read c some h = tt

pub run_ends_unread : (run : Run) (before mid after output_before output_after diagnostics_before diagnostics_after : Option (List ℕ))
    (count refused start number : ℕ) (fault : RunFault) (bytes_read : List ℕ)
    → DumpProgress run before mid output_before output_after diagnostics_before diagnostics_after count refused start → Consumes mid after bytes_read → number ≡ count + 1
    → (fault ≡ CannotRead) ⊎ (fault ≡ OutOfMemory)
    → EndsAt run before after output_before output_after diagnostics_before diagnostics_after fault number refused start
run_ends_unread run before mid after output_before output_after diagnostics_before diagnostics_after count refused start number fault bytes_read r consumed_bytes next why =
    run_ends run before mid after output_before output_after output_after diagnostics_before diagnostics_after diagnostics_after count refused start number fault bytes_read r consumed_bytes next
    (unread_front fault before r.converted_bytes bytes_read why)
    ([], [], unread_ends fault run number start bytes_read why, (Appends-nil output_after, Appends-nil diagnostics_after))

pub run_ends_at : (run : Run) (before mid after output_before output_after after_holds diagnostics_before diagnostics_after after_tells : Option (List ℕ))
    (count refused start number : ℕ) (fault : RunFault) (bytes_read : List ℕ)
    → DumpProgress run before mid output_before output_after diagnostics_before diagnostics_after count refused start → Consumes mid after bytes_read → number ≡ count + 1
    → bytes_read ≢ [] → ((all : List ℕ) → mid ≡ Some all → bytes_read ≡ declared_prefix all)
    → IsRunEnd fault run number start bytes_read output_after after_holds diagnostics_after after_tells
    → EndsAt run before after output_before after_holds diagnostics_before after_tells fault number refused start
run_ends_at run before mid after output_before output_after after_holds diagnostics_before diagnostics_after after_tells count refused start number fault bytes_read r consumed_bytes next some front why =
    run_ends run before mid after output_before output_after after_holds diagnostics_before diagnostics_after after_tells count refused start number fault bytes_read r
    consumed_bytes next (given_front fault before mid r.converted_bytes bytes_read r.consumed_bytes some front) why

pub run_stops_between : (run : Run) (before mid output_before output_after diagnostics_before diagnostics_after : Option (List ℕ))
    (count refused start number : ℕ) → DumpProgress run before mid output_before output_after diagnostics_before diagnostics_after count refused start
    → number ≡ count + 1 → EndsAt run before mid output_before output_after diagnostics_before diagnostics_after CannotRead number refused start
run_stops_between run before mid output_before output_after diagnostics_before diagnostics_after count refused start number r next =
    run_ends_unread run before mid mid output_before output_after diagnostics_before diagnostics_after count refused start number CannotRead [] r (Consumes-nil mid) next
    (inl refl)
