-- How far a run over lines has come, with a reader and writers.
use Rattle.std.proofs.Common.{◌≡◌, ◌<◌, ◌+◌, ℕ, List, [], ◌∷◌, ◌++◌, length, take, Option, None, Some, Result, Ok, Err}
use Rattle.std.proofs.Common.{IfErr, OnOk, refl, ap, sym, subst, ◌∙◌, append-nil, inl, inr, length-append, arith}
use Rattle.std.specs.Io.{StartsWith}
use Rattle.std.specs.Io.KnownBytes.{Keeps, Appends, Consumes, IsAtEnd}
use Rattle.std.proofs.lemmas.Str.{IsUtf8-nil}
use Rattle.std.proofs.KnownBytes.{Appends-kept, Appends-nil, Appends-trans, Consumes-nil, Consumes-trans, Consumes-kept}
use Rattle.bson_run.specs.Lines.{lines, remaining_bytes, none, buffered_text, line_text, RunHasDoneAllLines, RunFailsAtLine, IsStoppedAtNextLine, RunStopsAtLine}
use Rattle.bson_run.specs.Lines.{RunIsCutShortAtLine, WritesPartOfBoth}
use Rattle.bson_run.specs.LinesSteps.{Options, CannotWriteBoth, HasNoNewline, IsBeforeFirstLine, HasFlushed, HaveSameResults}
use Rattle.bson_run.specs.LinesSteps.{LineProgress, ReadsBytes, EndsLastLine, HasReachedLine, HasStoppedAtLine, StopsInBytes, StopsAtLastLine, RunProgress, AllLinesDone}
use Rattle.bson_convert.specs.Run.{WritesBeginning, WritesPart}
use Rattle.bson_run.specs.LinesSteps.{Error, CannotRead, NotJson, NotExtendedJson, NoBytes, OutOfMemory}
use Rattle.bson_run.specs.LinesSteps.{CannotWrite, LineRunState, NotCanonical, OnRefusal, Task}
use Rattle.bson_run.proofs.LinesLaws.{open_nil, reached}

left_at_end : (after : Option (List ℕ)) → IsAtEnd after → remaining_bytes after ≡ []
left_at_end None h = refl
left_at_end (Some bytes) h = h

-- all bytes of the reader
whole : (after : Option (List ℕ)) (bytes : List ℕ) → IsAtEnd after → bytes ≡ bytes ++ remaining_bytes after
whole after bytes at_end = sym (ap (λ l. bytes ++ l) (left_at_end after at_end) ∙ append-nil bytes)

starts_both : (xs beginning more : List ℕ) → StartsWith more beginning → StartsWith (xs ++ more) (xs ++ beginning)
starts_both [] beginning more h = h
starts_both (x ∷ xs) beginning more h = ap (λ l. x ∷ l) (starts_both xs beginning more h)

-- some was written, and then not all of the rest, or nothing of it
parted : (output_before mid output_after : Option (List ℕ)) (output more : List ℕ) → Appends output_before mid output
    → WritesPart mid output_after more → WritesPart output_before output_after (output ++ more)
parted output_before mid output_after output more a w = record {
  beginning = output ++ w.beginning;
  starts = starts_both output w.beginning more w.starts;
  short = omega (arith, w.short, length-append output w.beginning, length-append output more);
  written = Appends-trans output_before mid output_after output w.beginning a w.written;
}

unwritten : (output_before mid output_after : Option (List ℕ)) (output more : List ℕ) → Appends output_before mid output → Keeps mid output_after
    → WritesBeginning output_before output_after (output ++ more)
unwritten output_before mid output_after output more a k = record {
  beginning = output;
  starts = subst (StartsWith (output ++ more)) (append-nil output) (starts_both output [] more refl);
  written = Appends-kept output_before mid output_after output a k;
}

cut_later : (output_before mid output_after diagnostics_before said diagnostics_after : Option (List ℕ)) (output more diagnostics later_lines : List ℕ)
    → Appends output_before mid output → Appends diagnostics_before said diagnostics → CannotWriteBoth mid output_after said diagnostics_after more later_lines
    → WritesPartOfBoth output_before output_after diagnostics_before diagnostics_after (output ++ more) (diagnostics ++ later_lines)
cut_later output_before mid output_after diagnostics_before said diagnostics_after output more diagnostics later_lines a b (inl p) =
    inl (parted diagnostics_before said diagnostics_after diagnostics later_lines b p.0, unwritten output_before mid output_after output more a p.1)
cut_later output_before mid output_after diagnostics_before said diagnostics_after output more diagnostics later_lines a b (inr p) =
    inr (Appends-trans diagnostics_before said diagnostics_after diagnostics later_lines b p.0, parted output_before mid output_after output more a p.1)

still_held : (t u : LineRunState) → HasFlushed t u → buffered_text u ≡ buffered_text t
still_held t u w = ap (λ n. line_text n u.line.items) w.lines ∙ ap (line_text t.lines) w.line

kept : (s : LineRunState) → HaveSameResults s s
kept s = record { output = refl; diagnostics_before = refl; lines = refl; refused = refl }

either : {X E A B : Type 0} {P : E → Type 0} (r : Result X E) → OnOk r A → IfErr r P → (A → B) → ((e : E) → P e → B) → B
either (Ok x) a p f g = f a
either (Err e) a p f g = g e p

module _ {o : Options} {task : Task} {on_refusal : OnRefusal} where
  -- ---- ends

  complete : (bytes output diagnostics : List ℕ) (s : LineRunState) → AllLinesDone o task on_refusal bytes output diagnostics s
      → HasReachedLine o task on_refusal bytes output diagnostics s
  complete bytes output diagnostics s all = record {
    done_lines = lines bytes;
    later_lines = [];
    whole = sym (append-nil (lines bytes));
    counted = all.counted;
    outcomes = all.outcomes;
  }

  stops : (fault : Error) (before after output_before output_after diagnostics_before diagnostics_after : Option (List ℕ)) (bytes output diagnostics : List ℕ)
      (s u : LineRunState) → u.lines ≡ s.lines → buffered_text u ≡ buffered_text s → Consumes before after bytes
      → HasStoppedAtLine o task on_refusal (bytes ++ remaining_bytes after) output diagnostics fault s
      → Appends output_before output_after (output ++ s.output.items) → Appends diagnostics_before diagnostics_after (diagnostics ++ s.diagnostics.items)
      → RunStopsAtLine o (IsStoppedAtNextLine o task on_refusal fault (buffered_text u)) task on_refusal before after output_before output_after diagnostics_before diagnostics_after
      (u.lines + 1)
  stops fault before after output_before output_after diagnostics_before diagnostics_after bytes output diagnostics s u count rejected_text given stopped written reports_appended =
      record {
        done_lines = stopped.reached.done_lines;
        later_lines = stopped.reached.later_lines;
        output = output ++ s.output.items;
        diagnostics = diagnostics ++ s.diagnostics.items;
        reaches =
            record {
              bytes = bytes;
              refused = s.refused;
              given = given;
              whole = stopped.reached.whole;
              outcomes = stopped.reached.outcomes;
            };
        counted = ap (λ n. n + 1) (count ∙ stopped.reached.counted);
        reason =
            subst (λ text. IsStoppedAtNextLine o task on_refusal fault text (length stopped.reached.done_lines) stopped.reached.later_lines)
            (sym rejected_text) stopped.reason;
        written = (written, reports_appended);
      }

  fails : (fault : Error) (before after output_before output_after diagnostics_before diagnostics_after : Option (List ℕ)) (bytes output diagnostics : List ℕ)
      (s u : LineRunState) → u.lines ≡ s.lines → buffered_text u ≡ buffered_text s → Consumes before after bytes
      → HasStoppedAtLine o task on_refusal (bytes ++ remaining_bytes after) output diagnostics fault s
      → Appends output_before output_after (output ++ s.output.items) → Appends diagnostics_before diagnostics_after (diagnostics ++ s.diagnostics.items)
      → RunFailsAtLine o fault task on_refusal before after output_before output_after diagnostics_before diagnostics_after (u.lines + 1) (buffered_text u)
  fails CannotRead = stops CannotRead
  fails NotJson = stops NotJson
  fails (NotExtendedJson place) = stops (NotExtendedJson place)
  fails (NoBytes why) = stops (NoBytes why)
  fails (NotCanonical column) = stops (NotCanonical column)
  fails OutOfMemory = stops OutOfMemory
  fails CannotWrite =
      λ before after output_before output_after diagnostics_before diagnostics_after bytes output diagnostics s u count rejected_text given stopped written reports_appended.
      absurd stopped.reason

  cuts : (fault : Error) (before after output_before mid output_after diagnostics_before said diagnostics_after : Option (List ℕ))
      (bytes output diagnostics : List ℕ) (s u : LineRunState) → fault ≡ CannotWrite → u.lines ≡ s.lines
      → Consumes before after bytes → HasReachedLine o task on_refusal (bytes ++ remaining_bytes after) output diagnostics s
      → Appends output_before mid output → Appends diagnostics_before said diagnostics
      → CannotWriteBoth mid output_after said diagnostics_after s.output.items s.diagnostics.items
      → RunFailsAtLine o fault task on_refusal before after output_before output_after diagnostics_before diagnostics_after (u.lines + 1) (buffered_text u)
  cuts fault before after output_before mid output_after diagnostics_before said diagnostics_after bytes output diagnostics s u e count given r written reports_appended
      cut =
      let short : RunIsCutShortAtLine o task on_refusal before after output_before output_after diagnostics_before diagnostics_after (u.lines + 1) = record {
        done_lines = r.done_lines;
        later_lines = r.later_lines;
        output = output ++ s.output.items;
        diagnostics = diagnostics ++ s.diagnostics.items;
        reaches = record { bytes = bytes; refused = s.refused; given = given; whole = r.whole; outcomes = r.outcomes };
        counted = ap (λ n. n + 1) (count ∙ r.counted);
        reason = tt;
        written =
            cut_later output_before mid output_after diagnostics_before said diagnostics_after output s.output.items diagnostics s.diagnostics.items written reports_appended cut;
      } in
      subst (λ f. RunFailsAtLine o f task on_refusal before after output_before output_after diagnostics_before diagnostics_after (u.lines + 1) (buffered_text u)) (sym e) short

  -- ---- a run

  pub starts : (before output_before diagnostics_before : Option (List ℕ)) (s : LineRunState) → IsBeforeFirstLine s
      → RunProgress o task on_refusal before before output_before output_before diagnostics_before diagnostics_before s
  starts before output_before diagnostics_before s p = record {
    bytes = [];
    output = [];
    diagnostics = [];
    given = Consumes-nil before;
    written = Appends-nil output_before;
    reports_appended = Appends-nil diagnostics_before;
    output_is_flushed = p.output;
    diagnostics_are_flushed = p.diagnostics_before;
    progress = record {
      done_lines = [];
      whole = λ more. ap (λ l. lines (l ++ more)) (sym p.line);
      has_no_newline = subst HasNoNewline (sym p.line) open_nil;
      counted = p.lines;
      outcomes = rw (p.output, p.diagnostics_before, p.refused)
          (record { outcomes = none; utf8 = λ w. IsUtf8-nil; diagnostic_utf8 = IsUtf8-nil });
    };
  }

  -- a reader that gave nothing
  unmoved : (before given after output_before output_after diagnostics_before diagnostics_after : Option (List ℕ)) (bytes : List ℕ) (s : LineRunState) → bytes ≡ []
      → Consumes given after bytes → RunProgress o task on_refusal before given output_before output_after diagnostics_before diagnostics_after s
      → RunProgress o task on_refusal before after output_before output_after diagnostics_before diagnostics_after s
  unmoved before given after output_before output_after diagnostics_before diagnostics_after bytes s e c p = record {
    bytes = p.bytes;
    output = p.output;
    diagnostics = p.diagnostics;
    given = subst (Consumes before after) (append-nil p.bytes)
        (Consumes-trans before given after p.bytes [] p.given (subst (Consumes given after) e c));
    written = p.written;
    reports_appended = p.reports_appended;
    output_is_flushed = p.output_is_flushed;
    diagnostics_are_flushed = p.diagnostics_are_flushed;
    progress = p.progress;
  }

  -- it has nothing left, as a read of no byte into a block that has room says
  pub drained : {before given after output_before output_after diagnostics_before diagnostics_after : Option (List ℕ)} {count : ℕ} {s : LineRunState} (block : List ℕ)
      → count ≡ 0 → 0 < length block
      → Consumes given after (take count block) × (count ≡ 0 → 0 < length block → IsAtEnd after)
      → RunProgress o task on_refusal before given output_before output_after diagnostics_before diagnostics_after s
      → RunProgress o task on_refusal before after output_before output_after diagnostics_before diagnostics_after s × IsAtEnd after
  drained block empty room read p =
      (unmoved _ _ _ _ _ _ _ _ _ (ap (λ n. take n block) empty) read.0 p, read.1 empty room)

  -- a reader that failed
  pub unread : (before given after output_before output_after diagnostics_before diagnostics_after : Option (List ℕ)) (s : LineRunState) → Keeps given after
      → RunProgress o task on_refusal before given output_before output_after diagnostics_before diagnostics_after s
      → RunFailsAtLine o CannotRead task on_refusal before after output_before output_after diagnostics_before diagnostics_after (s.lines + 1) (buffered_text s)
  unread before given after output_before output_after diagnostics_before diagnostics_after s same p =
      stops CannotRead before after output_before output_after diagnostics_before diagnostics_after p.bytes p.output p.diagnostics s s refl refl
      (Consumes-kept before given after p.bytes p.given same)
      (record { reached = reached s (remaining_bytes after) (kept s) p.progress; reason = tt })
      (subst (Appends output_before output_after) (sym (append-nil p.output) ∙ ap (λ l. p.output ++ l) (sym p.output_is_flushed)) p.written)
      (subst (Appends diagnostics_before diagnostics_after) (sym (append-nil p.diagnostics)
      ∙ ap (λ l. p.diagnostics ++ l) (sym p.diagnostics_are_flushed)) p.reports_appended)

  -- ---- a block

  flushed : (bytes output diagnostics : List ℕ) (t u : LineRunState) → HasFlushed t u
      → LineProgress o task on_refusal bytes output diagnostics t
      → LineProgress o task on_refusal bytes (output ++ t.output.items) (diagnostics ++ t.diagnostics.items) u
  flushed bytes output diagnostics t u w p = record {
    done_lines = p.done_lines;
    whole = λ more. p.whole more ∙ ap (λ l. p.done_lines ++ lines (l ++ more)) (sym w.line);
    has_no_newline = subst HasNoNewline (sym w.line) p.has_no_newline;
    counted = w.lines ∙ p.counted;
    outcomes =
        rw (w.output, w.diagnostics_before, w.refused, append-nil (output ++ t.output.items), append-nil (diagnostics ++ t.diagnostics.items))
        p.outcomes;
  }

  pub block_done : (block : List ℕ) (s t u : LineRunState)
      (before given after output_before mid output_after diagnostics_before said diagnostics_after : Option (List ℕ)) → ReadsBytes o task on_refusal block s t
      → HasFlushed t u → Appends mid output_after t.output.items → Appends said diagnostics_after t.diagnostics.items
      → RunProgress o task on_refusal before given output_before mid diagnostics_before said s → Consumes given after block
      → RunProgress o task on_refusal before after output_before output_after diagnostics_before diagnostics_after u
  block_done block s t u before given after output_before mid output_after diagnostics_before said diagnostics_after takes w written reports_appended p c = record {
    bytes = p.bytes ++ block;
    output = p.output ++ t.output.items;
    diagnostics = p.diagnostics ++ t.diagnostics.items;
    given = Consumes-trans before given after p.bytes block p.given c;
    written = Appends-trans output_before mid output_after p.output t.output.items p.written written;
    reports_appended = Appends-trans diagnostics_before said diagnostics_after p.diagnostics t.diagnostics.items p.reports_appended reports_appended;
    output_is_flushed = w.output;
    diagnostics_are_flushed = w.diagnostics_before;
    progress = flushed (p.bytes ++ block) p.output p.diagnostics t u w (takes p.bytes p.output p.diagnostics p.progress);
  }

  pub block_fails : (fault : Error) (block : List ℕ) (s t u : LineRunState)
      (before given after output_before mid output_after diagnostics_before said diagnostics_after : Option (List ℕ))
      → StopsInBytes o task on_refusal block fault s t
      → HasFlushed t u → Appends mid output_after t.output.items → Appends said diagnostics_after t.diagnostics.items
      → RunProgress o task on_refusal before given output_before mid diagnostics_before said s → Consumes given after block
      → RunFailsAtLine o fault task on_refusal before after output_before output_after diagnostics_before diagnostics_after (u.lines + 1) (buffered_text u)
  block_fails fault block s t u before given after output_before mid output_after diagnostics_before said diagnostics_after stop w written reports_appended p c =
      fails fault before after output_before output_after diagnostics_before diagnostics_after (p.bytes ++ block) p.output p.diagnostics t u w.lines (still_held t u w)
      (Consumes-trans before given after p.bytes block p.given c)
      (stop p.bytes p.output p.diagnostics (remaining_bytes after) p.progress)
      (Appends-trans output_before mid output_after p.output t.output.items p.written written)
      (Appends-trans diagnostics_before said diagnostics_after p.diagnostics t.diagnostics.items p.reports_appended reports_appended)

  pub block_cut : {X : Type 0} (r : Result X Error) (e : Error) (block : List ℕ) (s t u : LineRunState)
      → OnOk r (ReadsBytes o task on_refusal block s t) → IfErr r (λ e. StopsInBytes o task on_refusal block e s t)
      → e ≡ CannotWrite → u.lines ≡ t.lines
      → (before given after output_before mid output_after diagnostics_before said diagnostics_after : Option (List ℕ))
      → CannotWriteBoth mid output_after said diagnostics_after t.output.items t.diagnostics.items
      → RunProgress o task on_refusal before given output_before mid diagnostics_before said s → Consumes given after block
      → RunFailsAtLine o e task on_refusal before after output_before output_after diagnostics_before diagnostics_after (u.lines + 1) (buffered_text u)
  block_cut r e block s t u ok err is count before given after output_before mid output_after diagnostics_before said diagnostics_after cut p c =
      cuts e before after output_before mid output_after diagnostics_before said diagnostics_after (p.bytes ++ block) p.output p.diagnostics t u is count
      (Consumes-trans before given after p.bytes block p.given c)
      (either r ok err (λ takes. reached t (remaining_bytes after) (kept t) (takes p.bytes p.output p.diagnostics p.progress))
      (λ e stop. (stop p.bytes p.output p.diagnostics (remaining_bytes after) p.progress).reached)) p.written p.reports_appended cut

  -- ---- the end

  pub end_done : (s t u : LineRunState) (before after output_before mid output_after diagnostics_before said diagnostics_after : Option (List ℕ))
      → EndsLastLine o task on_refusal s t → HasFlushed t u → Appends mid output_after t.output.items → Appends said diagnostics_after t.diagnostics.items
      → RunProgress o task on_refusal before after output_before mid diagnostics_before said s → IsAtEnd after
      → RunHasDoneAllLines o task on_refusal before after output_before output_after diagnostics_before diagnostics_after u.lines u.refused
  end_done s t u before after output_before mid output_after diagnostics_before said diagnostics_after ends w written reports_appended p at_end =
      let all = ends p.bytes p.output p.diagnostics p.progress in
      record {
        bytes = p.bytes;
        output = p.output ++ t.output.items;
        diagnostics = p.diagnostics ++ t.diagnostics.items;
        all = record { given = p.given; at_end = at_end };
        counted = w.lines ∙ all.counted;
        outcomes = rw (w.refused) all.outcomes;
        written = Appends-trans output_before mid output_after p.output t.output.items p.written written;
        reports_appended = Appends-trans diagnostics_before said diagnostics_after p.diagnostics t.diagnostics.items p.reports_appended reports_appended;
      }

  pub end_fails : (fault : Error) (s t u : LineRunState)
      (before after output_before mid output_after diagnostics_before said diagnostics_after : Option (List ℕ)) → StopsAtLastLine o task on_refusal fault s t
      → HasFlushed t u → Appends mid output_after t.output.items → Appends said diagnostics_after t.diagnostics.items
      → RunProgress o task on_refusal before after output_before mid diagnostics_before said s → IsAtEnd after
      → RunFailsAtLine o fault task on_refusal before after output_before output_after diagnostics_before diagnostics_after (u.lines + 1) (buffered_text u)
  end_fails fault s t u before after output_before mid output_after diagnostics_before said diagnostics_after stop w written reports_appended p at_end =
      fails fault before after output_before output_after diagnostics_before diagnostics_after p.bytes p.output p.diagnostics t u w.lines (still_held t u w) p.given
      (subst (λ l. HasStoppedAtLine o task on_refusal l p.output p.diagnostics fault t) (whole after p.bytes at_end)
      (stop p.bytes p.output p.diagnostics p.progress))
      (Appends-trans output_before mid output_after p.output t.output.items p.written written)
      (Appends-trans diagnostics_before said diagnostics_after p.diagnostics t.diagnostics.items p.reports_appended reports_appended)

  pub end_cut : {X : Type 0} (r : Result X Error) (e : Error) (s t u : LineRunState)
      → OnOk r (EndsLastLine o task on_refusal s t) → IfErr r (λ e. StopsAtLastLine o task on_refusal e s t)
      → e ≡ CannotWrite → u.lines ≡ t.lines
      → (before after output_before mid output_after diagnostics_before said diagnostics_after : Option (List ℕ))
      → CannotWriteBoth mid output_after said diagnostics_after t.output.items t.diagnostics.items
      → RunProgress o task on_refusal before after output_before mid diagnostics_before said s → IsAtEnd after
      → RunFailsAtLine o e task on_refusal before after output_before output_after diagnostics_before diagnostics_after (u.lines + 1) (buffered_text u)
  end_cut r e s t u ok err is count before after output_before mid output_after diagnostics_before said diagnostics_after cut p at_end =
      cuts e before after output_before mid output_after diagnostics_before said diagnostics_after p.bytes p.output p.diagnostics t u is count p.given
      (subst (λ l. HasReachedLine o task on_refusal l p.output p.diagnostics t) (whole after p.bytes at_end)
      (either r ok err (λ ends. complete p.bytes p.output p.diagnostics t (ends p.bytes p.output p.diagnostics p.progress))
      (λ e stop. (stop p.bytes p.output p.diagnostics p.progress).reached))) p.written p.reports_appended cut
