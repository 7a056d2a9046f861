-- How the lines of bytes grow with the bytes, and how far a run has come.
use Rattle.std.proofs.Common.{◌≡◌, ◌≢◌, ◌⊎◌, inl, inr, ◌<◌, ◌+◌, ℕ, List, [], ◌∷◌, ◌++◌, cond, length, drop, take, refl, ap, sym}
use Rattle.std.proofs.Common.{subst, ◌∙◌, append_assoc, append-nil, length-append, arith, ne_eqb, ◌-◌, suc, get_or}
use Rattle.std.proofs.Common.{add-one, take-append-drop, Result, Ok, Err, IfOk, IfErr, OnOk, OnErr, Vec, Global}
use Rattle.std.proofs.Math.Seq.{drop-cons}
use Rattle.std.proofs.lemmas.List.{take_rest}
use Rattle.std.proofs.lemmas.List.Elements.{All-append, All-head, All-tail}
use Rattle.std.proofs.lemmas.Str.{IsUtf8-append}
use Rattle.std.specs.Prelude.{IsUtf8}
use Rattle.bson_run.specs.Lines.{lines, prepend_to_first_line, buffered_text, line_text, IsBlank, IsRejectedLineIn, WritesOutputForTask, WritesText, HaveLineOutcomes}
use Rattle.bson_run.specs.Lines.{blank, written, skipped, IsStoppedAtText, IsStoppedAtNextLine}
use Rattle.bson_run.specs.Diagnostic.{IsDiagnostic}
use Rattle.bson_run.specs.LinesSteps.{Options, HasNoNewline, IsConversionFailure, IsDiagnosticAppended, HaveSameResults, EndsLine}
use Rattle.bson_run.specs.LinesSteps.{LineProgress, ReadsBytes, EndsLastLine, HasReachedLine, HasStoppedAtLine, StopsInBytes, StopsAtLastLine}
use Rattle.bson_run.specs.LinesSteps.{Error, CannotRead, NotJson, NotExtendedJson, NoBytes, OutOfMemory}
use Rattle.bson_run.specs.LinesSteps.{CannotWrite, LineRunState, NotCanonical, OnRefusal, Task}
use Rattle.bson_run.specs.declared.task.OnRefusal.TheVariants.{Stop}

-- a newline ends the bytes before it
lines_ended : (line more : List ℕ) → HasNoNewline line → lines (line ++ 10 ∷ more) ≡ line ∷ lines more
lines_ended [] more h = refl
lines_ended (x ∷ xs) more h =
    ap (λ b. cond b ([] ∷ lines (xs ++ 10 ∷ more)) (prepend_to_first_line x (lines (xs ++ 10 ∷ more))))
    (ne_eqb x 10 (All-head (λ y. y ≢ 10) x xs h))
    ∙ ap (prepend_to_first_line x) (lines_ended xs more (All-tail (λ y. y ≢ 10) x xs h))

-- a last line that no newline ends
lines_last : (line : List ℕ) → HasNoNewline line → 0 < length line → lines line ≡ line ∷ []
lines_last [] h some = absurd (omega arith)
lines_last (x ∷ []) h some = ap (λ b. cond b ([] ∷ []) (prepend_to_first_line x [])) (ne_eqb x 10 (All-head (λ y. y ≢ 10) x [] h))
lines_last (x ∷ y ∷ xs) h some =
    ap (λ b. cond b ([] ∷ lines (y ∷ xs)) (prepend_to_first_line x (lines (y ∷ xs))))
    (ne_eqb x 10 (All-head (λ z. z ≢ 10) x (y ∷ xs) h))
    ∙ ap (prepend_to_first_line x) (lines_last (y ∷ xs) (All-tail (λ z. z ≢ 10) x (y ∷ xs) h) (omega arith))

pub open_nil : HasNoNewline []
open_nil k d h = absurd (omega arith)

pub judged_bad : (o : Options) (task : Task) (fault : Error) (text : List ℕ) → IsConversionFailure o task fault text
    → fault ≢ OutOfMemory → IsRejectedLineIn o task fault text
judged_bad o task CannotRead text h other = h
judged_bad o task NotJson text h other = h
judged_bad o task (NotExtendedJson place) text h other = h
judged_bad o task (NoBytes why) text h other = h
judged_bad o task (NotCanonical column) text h other = h
judged_bad o task OutOfMemory text h other = absurd (other refl)
judged_bad o task CannotWrite text h other = h

stopped_at : (o : Options) (task : Task) (on_refusal : OnRefusal) (fault : Error) (rejected_text : List ℕ) (n : ℕ) (line : List ℕ)
    (later_lines : List (List ℕ)) → rejected_text ≡ line_text n line → IsStoppedAtText o task on_refusal fault rejected_text
    → IsStoppedAtNextLine o task on_refusal fault rejected_text n (line ∷ later_lines)
stopped_at o task on_refusal CannotRead rejected_text n line later_lines is h = h
stopped_at o task on_refusal NotJson rejected_text n line later_lines is h = (is, h)
stopped_at o task on_refusal (NotExtendedJson place) rejected_text n line later_lines is h = (is, h)
stopped_at o task on_refusal (NoBytes why) rejected_text n line later_lines is h = (is, h)
stopped_at o task on_refusal (NotCanonical column) rejected_text n line later_lines is h = (is, h)
stopped_at o task on_refusal OutOfMemory rejected_text n line later_lines is h = h
stopped_at o task on_refusal CannotWrite rejected_text n line later_lines is h = h

-- a refused text stops the run, where refusals do
pub refused_stops : (o : Options) (task : Task) (on_refusal : OnRefusal) (fault e : Error) (text : List ℕ) → IsConversionFailure o task fault text
    → (e ≡ OutOfMemory) ⊎ ((on_refusal ≡ Stop) × (e ≡ fault)) → IsStoppedAtText o task on_refusal e text
refused_stops o task on_refusal fault e text h (inl is) = subst (λ f. IsStoppedAtText o task on_refusal f text) (sym is) tt
refused_stops o task on_refusal fault e text h (inr p) =
    subst (λ f. IsStoppedAtText o task on_refusal f text) (sym p.1) (of_fault fault h)
  where
    of_fault : (f : Error) → IsConversionFailure o task f text → IsStoppedAtText o task on_refusal f text
    of_fault CannotRead h = tt
    of_fault NotJson h = (p.0, h)
    of_fault (NotExtendedJson place) h = (p.0, h)
    of_fault (NoBytes why) h = (p.0, h)
    of_fault (NotCanonical column) h = (p.0, h)
    of_fault OutOfMemory h = tt
    of_fault CannotWrite h = h

lines_none : (line : List ℕ) → length line ≡ 0 → lines line ≡ []
lines_none [] none = refl
lines_none (x ∷ xs) none = absurd (omega arith)

by_memory : (o : Options) (task : Task) (on_refusal : OnRefusal) (fault : Error) (rejected_text : List ℕ) (n : ℕ)
    (later_lines : List (List ℕ)) → fault ≡ OutOfMemory → IsStoppedAtNextLine o task on_refusal fault rejected_text n later_lines
by_memory o task on_refusal fault rejected_text n later_lines e =
    subst (λ f. IsStoppedAtNextLine o task on_refusal f rejected_text n later_lines) (sym e) tt

-- the text of a line that is still buffered
same_text : (s t : LineRunState) → HaveSameResults s t → t.line ≡ s.line → buffered_text t ≡ buffered_text s
same_text s t same rejected_text = ap (λ n. line_text n t.line.items) same.lines ∙ ap (λ (v : Vec ℕ Global). line_text s.lines v.items) rejected_text

-- a newline among bytes
at_newline : (rest : List ℕ) (n : ℕ) → n < length rest → get_or rest n 0 ≡ 10
    → rest ≡ take n rest ++ 10 ∷ drop (n + 1) rest
at_newline rest n h is =
    let after : drop n rest ≡ 10 ∷ drop (n + 1) rest =
    drop-cons rest n 0 h ∙ ap (λ x. x ∷ drop (suc n) rest) is ∙ ap (λ k. 10 ∷ drop k rest) (sym (add-one n)) in
    sym (take-append-drop n rest) ∙ ap (λ l. take n rest ++ l) after

-- the bytes after it
pub regrouped : (taken rest : List ℕ) (n : ℕ) → n < length rest → get_or rest n 0 ≡ 10
    → taken ++ rest ≡ (taken ++ (take n rest ++ 10 ∷ [])) ++ take (length rest - (n + 1)) (drop (n + 1) rest)
regrouped taken rest n h is =
    let tail = drop (n + 1) rest in
    ap (λ l. taken ++ l) (at_newline rest n h is ∙ sym (append_assoc (take n rest) (10 ∷ []) tail))
    ∙ sym (append_assoc taken (take n rest ++ 10 ∷ []) tail)
    ∙ ap (λ l. (taken ++ (take n rest ++ 10 ∷ [])) ++ l) (sym (take_rest rest (n + 1)))

-- ---- results

pub errs_with : {X E : Type 0} {P Q : E → Type 0} {A B : Type 0} (r : Result X E) → OnErr r A → OnErr r B → IfErr r P
    → ((e : E) → A → B → P e → Q e) → IfErr r Q
errs_with (Ok x) a b p f = tt
errs_with (Err e) a b p f = f e a b p

pub errs_alone : {X E : Type 0} {P Q : E → Type 0} (r : Result X E) → IfErr r P → ((e : E) → P e → Q e) → IfErr r Q
errs_alone (Ok x) p f = tt
errs_alone (Err e) p f = f e p

pub oks_with : {X E : Type 0} {P Q : X → Type 0} (r : Result X E) → IfOk r P → ((x : X) → P x → Q x) → IfOk r Q
oks_with (Ok x) p f = f x p
oks_with (Err e) p f = tt

pub oks : {X E : Type 0} {P Q : Type 0} (r : Result X E) → OnOk r P → (P → Q) → OnOk r Q
oks (Ok x) p f = f p
oks (Err e) p f = tt

module _ {o : Options} {task : Task} {on_refusal : OnRefusal} where
  -- ---- what a line gives

  pub blank_taken : (s t : LineRunState) → t.line.items ≡ [] → t.lines ≡ s.lines + 1 → t.output.items ≡ s.output.items
      → t.diagnostics.items ≡ s.diagnostics.items → t.refused ≡ s.refused
      → IsBlank (line_text s.lines s.line.items) → EndsLine o task on_refusal s t
  blank_taken s t line number output diagnostics_before refused h = record {
    line = line;
    lines = number;
    outcomes =
        λ before written diagnostics e p. rw (output, diagnostics_before, refused) (record {
          outcomes = blank s.line.items p.outcomes (subst (λ n. IsBlank (line_text n s.line.items)) e h);
          utf8 = p.utf8;
          diagnostic_utf8 = p.diagnostic_utf8;
        });
  }

  pub written_taken : (s t : LineRunState) (more : List ℕ) → t.line.items ≡ [] → t.lines ≡ s.lines + 1
      → t.output.items ≡ s.output.items ++ more → t.diagnostics.items ≡ s.diagnostics.items → t.refused ≡ s.refused
      → WritesOutputForTask o task (line_text s.lines s.line.items) more → (WritesText task.output → IsUtf8 more)
      → EndsLine o task on_refusal s t
  written_taken s t more line number grown diagnostics_before refused h utf8 = record {
    line = line;
    lines = number;
    outcomes =
        λ before output diagnostics e p. rw (grown, diagnostics_before, refused, ← append_assoc output s.output.items more) (record {
          outcomes = written s.line.items more p.outcomes (subst (λ n. WritesOutputForTask o task (line_text n s.line.items) more) e h);
          utf8 = λ w. IsUtf8-append (output ++ s.output.items) more (p.utf8 w) (utf8 w);
          diagnostic_utf8 = p.diagnostic_utf8;
        });
  }

  pub told_taken : (s t : LineRunState) (fault : Error) → t.line.items ≡ [] → t.lines ≡ s.lines + 1
      → t.output.items ≡ s.output.items → t.refused ≡ s.refused + 1 → on_refusal ≢ Stop
      → IsRejectedLineIn o task fault (line_text s.lines s.line.items)
      → IsDiagnosticAppended task (s.lines + 1) fault (line_text s.lines s.line.items) s.diagnostics.items t.diagnostics.items
      → EndsLine o task on_refusal s t
  told_taken s t fault line number output refused goes h diagnostics_before = record {
    line = line;
    lines = number;
    outcomes = λ before written diagnostics e p.
        rw (output, diagnostics_before.2, refused, ← append_assoc diagnostics s.diagnostics.items diagnostics_before.0) (record {
          outcomes = skipped s.line.items fault diagnostics_before.0 p.outcomes goes
              (subst (λ n. IsRejectedLineIn o task fault (line_text n s.line.items)) e h)
              (subst (λ n. IsDiagnostic task (n + 1) fault (line_text n s.line.items) diagnostics_before.0) e diagnostics_before.1);
          utf8 = p.utf8;
          diagnostic_utf8 = IsUtf8-append (diagnostics ++ s.diagnostics.items) diagnostics_before.0 p.diagnostic_utf8 diagnostics_before.3;
        });
  }

  -- ---- taking bytes

  pub take_more : (xs ys : List ℕ) (s t u : LineRunState) → ReadsBytes o task on_refusal xs s t → ReadsBytes o task on_refusal ys t u
      → ReadsBytes o task on_refusal (xs ++ ys) s u
  take_more xs ys s t u f g before output diagnostics_before p =
      subst (λ l. LineProgress o task on_refusal l output diagnostics_before u) (append_assoc before xs ys)
      (g (before ++ xs) output diagnostics_before (f before output diagnostics_before p))

  -- some bytes of the line
  pub span_taken : (span : List ℕ) (s t : LineRunState) → HasNoNewline span → t.line.items ≡ s.line.items ++ span
      → HaveSameResults s t → ReadsBytes o task on_refusal span s t
  span_taken span s t h e same before output diagnostics_before p = record {
    done_lines = p.done_lines;
    whole = λ more. ap lines (append_assoc before span more) ∙ p.whole (span ++ more)
        ∙ ap (λ l. p.done_lines ++ lines l) (sym (append_assoc s.line.items span more) ∙ ap (λ l. l ++ more) (sym e));
    has_no_newline = subst HasNoNewline (sym e) (open_both s.line.items span p.has_no_newline h);
    counted = same.lines ∙ p.counted;
    outcomes = rw (same.output, same.diagnostics_before, same.refused) p.outcomes;
  }
    where
      open_both : (xs ys : List ℕ) → HasNoNewline xs → HasNoNewline ys → HasNoNewline (xs ++ ys)
      open_both xs ys f g = All-append (λ y. y ≢ 10) xs ys f g

  -- the newline that ends it
  pub newline_taken : (s t : LineRunState) → EndsLine o task on_refusal s t → ReadsBytes o task on_refusal (10 ∷ []) s t
  newline_taken s t taken before output diagnostics_before p = record {
    done_lines = p.done_lines ++ s.line.items ∷ [];
    whole = λ more. ap lines (append_assoc before (10 ∷ []) more) ∙ p.whole (10 ∷ more)
        ∙ ap (λ l. p.done_lines ++ l) (lines_ended s.line.items more p.has_no_newline)
        ∙ sym (append_assoc p.done_lines (s.line.items ∷ []) (lines more))
        ∙ ap (λ l. (p.done_lines ++ s.line.items ∷ []) ++ lines (l ++ more)) (sym taken.line);
    has_no_newline = subst HasNoNewline (sym taken.line) open_nil;
    counted = taken.lines ∙ ap (λ n. n + 1) p.counted ∙ sym (length-append p.done_lines (s.line.items ∷ []));
    outcomes = taken.outcomes p.done_lines output diagnostics_before p.counted p.outcomes;
  }

  -- ---- stopping

  pub reached : {bytes output diagnostics_before : List ℕ} {s : LineRunState} (t : LineRunState) (more : List ℕ) → HaveSameResults s t
      → LineProgress o task on_refusal bytes output diagnostics_before s → HasReachedLine o task on_refusal (bytes ++ more) output diagnostics_before t
  reached {s} t more same p = record {
    done_lines = p.done_lines;
    later_lines = lines (s.line.items ++ more);
    whole = p.whole more;
    counted = same.lines ∙ p.counted;
    outcomes = rw (same.output, same.diagnostics_before, same.refused) p.outcomes;
  }

  pub stops_after : (xs ys : List ℕ) (fault : Error) (s t u : LineRunState) → ReadsBytes o task on_refusal xs s t
      → StopsInBytes o task on_refusal ys fault t u → StopsInBytes o task on_refusal (xs ++ ys) fault s u
  stops_after xs ys fault s t u f g before output diagnostics_before more p =
      subst (λ l. HasStoppedAtLine o task on_refusal (l ++ more) output diagnostics_before fault u) (append_assoc before xs ys)
      (g (before ++ xs) output diagnostics_before more (f before output diagnostics_before p))

  pub memory_stops : (bytes : List ℕ) (fault : Error) (s t : LineRunState) → fault ≡ OutOfMemory → HaveSameResults s t
      → StopsInBytes o task on_refusal bytes fault s t
  memory_stops bytes fault s t e same before output diagnostics_before more p = record {
    reached = record {
      done_lines = p.done_lines;
      later_lines = lines (s.line.items ++ (bytes ++ more));
      whole = ap lines (append_assoc before bytes more) ∙ p.whole (bytes ++ more);
      counted = same.lines ∙ p.counted;
      outcomes = rw (same.output, same.diagnostics_before, same.refused) p.outcomes;
    };
    reason = by_memory o task on_refusal fault (buffered_text t) (length p.done_lines) (lines (s.line.items ++ (bytes ++ more))) e;
  }

  pub line_stops : (bytes : List ℕ) (fault : Error) (s t : LineRunState)
      → IsStoppedAtText o task on_refusal fault (buffered_text s) → HaveSameResults s t → t.line ≡ s.line
      → StopsInBytes o task on_refusal (10 ∷ bytes) fault s t
  line_stops bytes fault s t h same rejected_text before output diagnostics_before more p = record {
    reached = record {
      done_lines = p.done_lines;
      later_lines = s.line.items ∷ lines (bytes ++ more);
      whole = ap lines (append_assoc before (10 ∷ bytes) more) ∙ p.whole (10 ∷ bytes ++ more)
          ∙ ap (λ l. p.done_lines ++ l) (lines_ended s.line.items (bytes ++ more) p.has_no_newline);
      counted = same.lines ∙ p.counted;
      outcomes = rw (same.output, same.diagnostics_before, same.refused) p.outcomes;
    };
    reason =
        stopped_at o task on_refusal fault (buffered_text t) (length p.done_lines) s.line.items (lines (bytes ++ more))
        (same_text s t same rejected_text ∙ ap (λ k. line_text k s.line.items) p.counted)
        (subst (IsStoppedAtText o task on_refusal fault) (sym (same_text s t same rejected_text)) h);
  }

  -- ---- the last line

  last_whole : {bytes output diagnostics_before : List ℕ} {s : LineRunState} → (p : LineProgress o task on_refusal bytes output diagnostics_before s)
      → lines bytes ≡ p.done_lines ++ lines s.line.items
  last_whole {bytes} {s} p =
      ap lines (sym (append-nil bytes)) ∙ p.whole [] ∙ ap (λ l. p.done_lines ++ lines l) (append-nil s.line.items)

  pub no_last : (s : LineRunState) → length s.line.items ≡ 0 → EndsLastLine o task on_refusal s s
  no_last s none before output diagnostics_before p =
      let all : lines before ≡ p.done_lines =
      last_whole p ∙ ap (λ l. p.done_lines ++ l) (lines_none s.line.items none) ∙ append-nil p.done_lines in
      record {
        counted = p.counted ∙ ap length (sym all);
        outcomes =
            subst (λ l. HaveLineOutcomes o task on_refusal l (output ++ s.output.items) (diagnostics_before ++ s.diagnostics.items) s.refused)
            (sym all) p.outcomes;
      }

  pub last_taken : (s t : LineRunState) → 0 < length s.line.items → EndsLine o task on_refusal s t
      → EndsLastLine o task on_refusal s t
  last_taken s t some taken before output diagnostics_before p =
      let all : lines before ≡ p.done_lines ++ s.line.items ∷ [] =
      last_whole p ∙ ap (λ l. p.done_lines ++ l) (lines_last s.line.items p.has_no_newline some) in
      record {
        counted = taken.lines ∙ ap (λ n. n + 1) p.counted ∙ sym (length-append p.done_lines (s.line.items ∷ []))
            ∙ ap length (sym all);
        outcomes =
            subst (λ l. HaveLineOutcomes o task on_refusal l (output ++ t.output.items) (diagnostics_before ++ t.diagnostics.items) t.refused)
            (sym all) (taken.outcomes p.done_lines output diagnostics_before p.counted p.outcomes);
      }

  pub last_stops : (fault : Error) (s t : LineRunState) → 0 < length s.line.items
      → IsStoppedAtText o task on_refusal fault (buffered_text s) → HaveSameResults s t → t.line ≡ s.line
      → StopsAtLastLine o task on_refusal fault s t
  last_stops fault s t some h same rejected_text before output diagnostics_before p = record {
    reached = record {
      done_lines = p.done_lines;
      later_lines = s.line.items ∷ [];
      whole = last_whole p ∙ ap (λ l. p.done_lines ++ l) (lines_last s.line.items p.has_no_newline some);
      counted = same.lines ∙ p.counted;
      outcomes = rw (same.output, same.diagnostics_before, same.refused) p.outcomes;
    };
    reason =
        stopped_at o task on_refusal fault (buffered_text t) (length p.done_lines) s.line.items []
        (same_text s t same rejected_text ∙ ap (λ k. line_text k s.line.items) p.counted)
        (subst (IsStoppedAtText o task on_refusal fault) (sym (same_text s t same rejected_text)) h);
  }

  -- ---- a line that ends among bytes

  pub line_taken : (front : List ℕ) (s t u : LineRunState) → HasNoNewline front → t.line.items ≡ s.line.items ++ front
      → HaveSameResults s t → EndsLine o task on_refusal t u → ReadsBytes o task on_refusal (front ++ 10 ∷ []) s u
  line_taken front s t u h e same taken =
      take_more front (10 ∷ []) s t u (span_taken front s t h e same) (newline_taken t u taken)

  pub line_stops_in : (rest : List ℕ) (n : ℕ) (fault : Error) (s t u : LineRunState) → n < length rest
      → HasNoNewline (take n rest) → get_or rest n 0 ≡ 10
      → t.line.items ≡ s.line.items ++ take n rest → HaveSameResults s t
      → IsStoppedAtText o task on_refusal fault (buffered_text t) → HaveSameResults t u → u.line ≡ t.line
      → StopsInBytes o task on_refusal rest fault s u
  line_stops_in rest n fault s t u within h is e same stops kept rejected_text =
      subst (λ l. StopsInBytes o task on_refusal l fault s u) (sym (at_newline rest n within is))
      (stops_after (take n rest) (10 ∷ drop (n + 1) rest) fault s t u (span_taken (take n rest) s t h e same)
      (line_stops (drop (n + 1) rest) fault t u stops kept rejected_text))

  pub whole_stops : (bytes taken rest : List ℕ) (fault : Error) (s t u : LineRunState) → bytes ≡ taken ++ rest
      → ReadsBytes o task on_refusal taken s t → StopsInBytes o task on_refusal rest fault t u
      → StopsInBytes o task on_refusal bytes fault s u
  whole_stops bytes taken rest fault s t u e f g =
      subst (λ l. StopsInBytes o task on_refusal l fault s u) (sym e) (stops_after taken rest fault s t u f g)
