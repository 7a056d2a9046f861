-- The same lines have one outcome.
use Rattle.std.proofs.Common.{◌≡◌, ◌≢◌, ◌⊎◌, inl, inr, ◌<◌, ◌+◌, ℕ, zero, suc, List, [], ◌∷◌, ◌++◌, length, refl, ap, sym}
use Rattle.std.proofs.Common.{subst, ◌∙◌, append_assoc, append-nil, length-append, arith}
use Rattle.bson_model.specs.declared.options.Options.{Options}
use Rattle.bson_convert.specs.declared.error.Error.{Error}
use Rattle.bson_run.proofs.OneText.{Decided}
use Rattle.bson_run.specs.Lines.{line_text, IsRejectedLineIn, IsBlank, LineOutcomes, none, blank, written, skipped, WritesOutputForTask}
use Rattle.bson_run.specs.Diagnostic.{IsDiagnostic}
use Rattle.bson_run.specs.Outcomes.{AreSameDiagnostics, silent, also, IsSameFault, StopsInsideInput}
use Rattle.bson_run.specs.declared.task.OnRefusal.{OnRefusal}
use Rattle.bson_run.specs.declared.task.OnRefusal.TheVariants.{Stop}
use Rattle.bson_run.specs.declared.task.Task.{Task}

-- ---- lists

both_ends : {X : Type 0} (xs ys : List X) (x y : X) → xs ++ x ∷ [] ≡ ys ++ y ∷ [] → (xs ≡ ys) × (x ≡ y)
both_ends [] [] x y e = (refl, cc)
both_ends [] (z ∷ zs) x y e = absurd (omega (arith, ap length e, length-append zs (y ∷ [])))
both_ends (z ∷ zs) [] x y e = absurd (omega (arith, ap length e, length-append zs (x ∷ [])))
both_ends (w ∷ ws) (z ∷ zs) x y e =
    let first : w ≡ z = cc in
    let rest : ws ++ x ∷ [] ≡ zs ++ y ∷ [] = cc in
    let same = both_ends ws zs x y rest in
    let front : ws ≡ zs = same.0 in
    (cc, same.1)

last_one : {X : Type 0} (x : X) (xs : List X) → (front : List X) × (last : X) × (x ∷ xs ≡ front ++ last ∷ [])
last_one x [] = ([], x, refl)
last_one x (y ∷ ys) =
    let more = last_one y ys in
    (x ∷ more.0, more.1, ap (λ l. x ∷ l) more.2)

-- two parts of one list, each before an element, are equal, or one is a proper prefix of the other
abbrev Parts : {X : Type 0} (xs ys : List X) (x y : X) (us vs : List X) → Type 0
Parts {X = X} xs ys x y us vs = ((xs ≡ ys) × (x ≡ y))
    ⊎ (((rest : List X) × (ys ≡ xs ++ x ∷ rest)) ⊎ ((rest : List X) × (xs ≡ ys ++ y ∷ rest)))

parts : {X : Type 0} (xs ys : List X) (x y : X) (us vs : List X) → xs ++ x ∷ us ≡ ys ++ y ∷ vs → Parts xs ys x y us vs
parts [] [] x y us vs e = inl (refl, cc)
parts [] (z ∷ zs) x y us vs e =
    let first : z ≡ x = cc in
    inr (inl (zs, ap (λ w. w ∷ zs) first))
parts (w ∷ ws) [] x y us vs e =
    let first : w ≡ y = cc in
    inr (inr (ws, ap (λ z. z ∷ ws) first))
parts (w ∷ ws) (z ∷ zs) x y us vs e =
    let first : w ≡ z = cc in
    let rest : ws ++ x ∷ us ≡ zs ++ y ∷ vs = cc in
    following first (parts ws zs x y us vs rest)
  where
    following : w ≡ z → Parts ws zs x y us vs → Parts (w ∷ ws) (z ∷ zs) x y us vs
    following e (inl (s, t)) = inl (cc, t)
    following e (inr (inl (r, s))) = inr (inl (r, cc))
    following e (inr (inr (r, s))) = inr (inr (r, cc))

module _ (o : Options) (task : Task) (on_refusal : OnRefusal) (only : Decided o task) where
  -- ---- the last line

  -- the outcome of a line after this number of lines
  abbrev Step : (before : ℕ) → (line more said : List ℕ) → (over : ℕ) → Type 0
  Step n line more said over =
      (IsBlank (line_text n line) × (more ≡ []) × (said ≡ []) × (over ≡ 0))
      ⊎ ((WritesOutputForTask o task (line_text n line) more × (said ≡ []) × (over ≡ 0))
      ⊎ ((fault : Error) × (on_refusal ≢ Stop) × IsRejectedLineIn o task fault (line_text n line)
      × IsDiagnostic task (n + 1) fault (line_text n line) said × (more ≡ []) × (over ≡ 1)))

  record Last (all : List (List ℕ)) (output diagnostics_before : List ℕ) (refused : ℕ) : Type 0 where
    before : List (List ℕ)
    line : List ℕ
    out : List ℕ
    more : List ℕ
    diagnostics_after : List ℕ
    said : List ℕ
    left : ℕ
    over : ℕ
    outcomes : LineOutcomes o task on_refusal before out diagnostics_after left
    step : Step (length before) line more said over
    lines_are : all ≡ before ++ line ∷ []
    output_is : output ≡ out ++ more
    told_is : diagnostics_before ≡ diagnostics_after ++ said
    refused_are : refused ≡ left + over

  last_of : {all : List (List ℕ)} {output diagnostics_before : List ℕ} {refused : ℕ}
      → LineOutcomes o task on_refusal all output diagnostics_before refused → 0 < length all → Last all output diagnostics_before refused
  last_of none some = absurd (omega (arith, some))
  last_of (blank {earlier_lines = before} {output = output} {diagnostics_before = diagnostics_before} {refused = refused} line d is) some = record {
    before = before;
    line = line;
    out = output;
    more = [];
    diagnostics_after = diagnostics_before;
    said = [];
    left = refused;
    over = 0;
    outcomes = d;
    step = inl (is, refl, refl, refl);
    lines_are = refl;
    output_is = sym (append-nil output);
    told_is = sym (append-nil diagnostics_before);
    refused_are = omega arith;
  }
  last_of (written {earlier_lines = before} {output = output} {diagnostics_before = diagnostics_before} {refused = refused} line more d is) some = record {
    before = before;
    line = line;
    out = output;
    more = more;
    diagnostics_after = diagnostics_before;
    said = [];
    left = refused;
    over = 0;
    outcomes = d;
    step = inr (inl (is, refl, refl));
    lines_are = refl;
    output_is = refl;
    told_is = sym (append-nil diagnostics_before);
    refused_are = omega arith;
  }
  last_of (skipped {earlier_lines = before} {output = output} {diagnostics_before = diagnostics_before} {refused = refused} line fault said d goes bad diagnostics_after) some = record {
    before = before;
    line = line;
    out = output;
    more = [];
    diagnostics_after = diagnostics_before;
    said = said;
    left = refused;
    over = 1;
    outcomes = d;
    step = inr (inr (fault, goes, bad, diagnostics_after, refl, refl));
    lines_are = refl;
    output_is = sym (append-nil output);
    told_is = refl;
    refused_are = refl;
  }

  none_of : {all : List (List ℕ)} {output diagnostics_before : List ℕ} {refused : ℕ}
      → LineOutcomes o task on_refusal all output diagnostics_before refused → length all ≡ 0
      → (output ≡ []) × (diagnostics_before ≡ []) × (refused ≡ 0)
  none_of none e = (refl, refl, refl)
  none_of (blank {earlier_lines = before} line d is) e = absurd (omega (arith, e, length-append before (line ∷ [])))
  none_of (written {earlier_lines = before} line more d is) e = absurd (omega (arith, e, length-append before (line ∷ [])))
  none_of (skipped {earlier_lines = before} line fault said d goes bad diagnostics_after) e =
      absurd (omega (arith, e, length-append before (line ∷ [])))

  -- ---- outcomes of the same lines

  record Same (output other diagnostics_before diagnostics_after : List ℕ) (refused left : ℕ) : Type 0 where
    outputs : output ≡ other
    alike : AreSameDiagnostics task diagnostics_before diagnostics_after
    counts : refused ≡ left

  one_more : (n : ℕ) (line a b diagnostics_before diagnostics_after said says : List ℕ) (over count : ℕ) → AreSameDiagnostics task diagnostics_before diagnostics_after
      → Step n line a said over → Step n line b says count → Same a b (diagnostics_before ++ said) (diagnostics_after ++ says) over count
  one_more n line a b diagnostics_before diagnostics_after said says over count alike (inl (is, m, s, c)) (inl (also_is, k, t, e)) = record {
    outputs = m ∙ sym k;
    alike = silently diagnostics_before diagnostics_after said says alike s t;
    counts = c ∙ sym e;
  }
    where
      silently : (diagnostics_before diagnostics_after said says : List ℕ) → AreSameDiagnostics task diagnostics_before diagnostics_after → said ≡ [] → says ≡ []
          → AreSameDiagnostics task (diagnostics_before ++ said) (diagnostics_after ++ says)
      silently diagnostics_before diagnostics_after said says alike s t = rw (s, t, append-nil diagnostics_before, append-nil diagnostics_after) alike
  one_more n line a b diagnostics_before diagnostics_after said says over count alike (inl (is, m, s, c)) (inr (inl (w, t, e))) =
      absurd (only.written_blank (line_text n line) b w is)
  one_more n line a b diagnostics_before diagnostics_after said says over count alike (inl (is, m, s, c)) (inr (inr (f, g, bad, t, k, e))) =
      absurd (only.blank_bad (line_text n line) f is bad)
  one_more n line a b diagnostics_before diagnostics_after said says over count alike (inr (inl (w, s, c))) (inl (is, k, t, e)) =
      absurd (only.written_blank (line_text n line) a w is)
  one_more n line a b diagnostics_before diagnostics_after said says over count alike (inr (inl (w, s, c))) (inr (inl (v, t, e))) = record {
    outputs = only.one_text (line_text n line) a b w v;
    alike = rw (s, t, append-nil diagnostics_before, append-nil diagnostics_after) alike;
    counts = c ∙ sym e;
  }
  one_more n line a b diagnostics_before diagnostics_after said says over count alike (inr (inl (w, s, c))) (inr (inr (f, g, bad, t, k, e))) =
      absurd (only.written_bad (line_text n line) a f w bad)
  one_more n line a b diagnostics_before diagnostics_after said says over count alike (inr (inr (f, g, bad, s, m, c))) (inl (is, k, t, e)) =
      absurd (only.blank_bad (line_text n line) f is bad)
  one_more n line a b diagnostics_before diagnostics_after said says over count alike (inr (inr (f, g, bad, s, m, c))) (inr (inl (v, t, e))) =
      absurd (only.written_bad (line_text n line) b f v bad)
  one_more n line a b diagnostics_before diagnostics_after said says over count alike (inr (inr (f, g, bad, s, m, c)))
      (inr (inr (h, i, worse, t, k, e))) = record {
        outputs = m ∙ sym k;
        alike = also (n + 1) f h (line_text n line) said says alike (only.same_fault (line_text n line) f h bad worse) s t;
        counts = c ∙ sym e;
      }

  same : (n : ℕ) (xs ys : List (List ℕ)) (output other diagnostics_before diagnostics_after : List ℕ) (refused left : ℕ) → length xs ≡ n
      → xs ≡ ys → LineOutcomes o task on_refusal xs output diagnostics_before refused → LineOutcomes o task on_refusal ys other diagnostics_after left
      → Same output other diagnostics_before diagnostics_after refused left
  same zero xs ys output other diagnostics_before diagnostics_after refused left size is d e =
      let i = none_of d size in
      let j = none_of e (ap length (sym is) ∙ size) in
      record {
        outputs = i.0 ∙ sym j.0;
        alike = rw (i.1, j.1) silent;
        counts = i.2 ∙ sym j.2;
      }
  same (suc n) xs ys output other diagnostics_before diagnostics_after refused left size is d e =
      let i = last_of d (omega (arith, size)) in
      let j = last_of e (omega (arith, size, ap length is)) in
      let ends = both_ends i.before j.before i.line j.line (sym i.lines_are ∙ is ∙ j.lines_are) in
      let fewer : length i.before ≡ n =
      omega (arith, size, ap length i.lines_are, length-append i.before (i.line ∷ [])) in
      let k = same n i.before j.before i.out j.out i.diagnostics_after j.diagnostics_after i.left j.left fewer ends.0 i.outcomes j.outcomes in
      let placed : Step (length i.before) j.line j.more j.said j.over =
      subst (λ (l : List (List ℕ)). Step (length l) j.line j.more j.said j.over) (sym ends.0) j.step in
      let moved : Step (length i.before) i.line j.more j.said j.over =
      subst (λ (l : List ℕ). Step (length i.before) l j.more j.said j.over) (sym ends.1) placed in
      let s = one_more (length i.before) i.line i.more j.more i.diagnostics_after j.diagnostics_after i.said j.said i.over j.over k.alike i.step
      moved in
      record {
        outputs = let u = k.outputs in let v = s.outputs in let w = i.output_is in let z = j.output_is in cc;
        alike = rw (i.told_is, j.told_is) s.alike;
        counts = omega (arith, k.counts, s.counts, i.refused_are, j.refused_are);
      }

  pub one_outcome : (all : List (List ℕ)) (output other diagnostics_before diagnostics_after : List ℕ) (refused left : ℕ)
      → LineOutcomes o task on_refusal all output diagnostics_before refused → LineOutcomes o task on_refusal all other diagnostics_after left
      → (output ≡ other) × AreSameDiagnostics task diagnostics_before diagnostics_after × (refused ≡ left)
  one_outcome all output other diagnostics_before diagnostics_after refused left d e =
      let s = same (length all) all all output other diagnostics_before diagnostics_after refused left refl refl d e in
      (s.outputs, s.alike, s.counts)

  -- ---- the first lines

  record Front (xs : List (List ℕ)) : Type 0 where
    output : List ℕ
    diagnostics_before : List ℕ
    refused : ℕ
    outcomes : LineOutcomes o task on_refusal xs output diagnostics_before refused

  first_of : (n : ℕ) (all xs ys : List (List ℕ)) (output diagnostics_before : List ℕ) (refused : ℕ) → length ys ≡ n → all ≡ xs ++ ys
      → LineOutcomes o task on_refusal all output diagnostics_before refused → Front xs
  first_of n all xs [] output diagnostics_before refused size is d = record {
    output = output;
    diagnostics_before = diagnostics_before;
    refused = refused;
    outcomes = subst (λ (l : List (List ℕ)). LineOutcomes o task on_refusal l output diagnostics_before refused) (is ∙ append-nil xs) d;
  }
  first_of zero all xs (y ∷ ys) output diagnostics_before refused size is d = absurd (omega (arith, size))
  first_of (suc n) all xs (y ∷ ys) output diagnostics_before refused size is d =
      let u = last_one y ys in
      let whole : all ≡ (xs ++ u.0) ++ u.1 ∷ [] =
      is ∙ ap (λ l. xs ++ l) u.2 ∙ sym (append_assoc xs u.0 (u.1 ∷ [])) in
      let i = last_of d (omega (arith, ap length whole, length-append (xs ++ u.0) (u.1 ∷ []))) in
      let ends = both_ends i.before (xs ++ u.0) i.line u.1 (sym i.lines_are ∙ whole) in
      first_of n i.before xs u.0 i.out i.diagnostics_after i.left
      (omega (arith, size, ap length u.2, length-append u.0 (u.1 ∷ []))) ends.0 i.outcomes

  -- ---- where a run stops

  refused_step : (n : ℕ) (line more said : List ℕ) (over : ℕ) (fault : Error) → on_refusal ≡ Stop
      → IsRejectedLineIn o task fault (line_text n line) → Step n line more said over → ⊥
  refused_step n line more said over fault stops bad (inl (is, m, s, c)) = only.blank_bad (line_text n line) fault is bad
  refused_step n line more said over fault stops bad (inr (inl (w, s, c))) = only.written_bad (line_text n line) more fault w bad
  refused_step n line more said over fault stops bad (inr (inr (f, goes, worse, t, k, e))) = goes stops

  -- a line at which a run stops is none of lines that are done
  stuck : (done_lines later_lines : List (List ℕ)) (line : List ℕ) (fault : Error) (output diagnostics_before : List ℕ) (refused : ℕ)
      → on_refusal ≡ Stop → IsRejectedLineIn o task fault (line_text (length done_lines) line)
      → LineOutcomes o task on_refusal (done_lines ++ line ∷ later_lines) output diagnostics_before refused → ⊥
  stuck done_lines later_lines line fault output diagnostics_before refused stops bad d =
      let f = first_of (length later_lines) (done_lines ++ line ∷ later_lines) (done_lines ++ line ∷ []) later_lines output diagnostics_before refused refl
      (sym (append_assoc done_lines (line ∷ []) later_lines)) d in
      let i = last_of f.outcomes (omega (arith, length-append done_lines (line ∷ []))) in
      let ends = both_ends done_lines i.before line i.line i.lines_are in
      let here : IsRejectedLineIn o task fault (line_text (length i.before) i.line) =
      subst (λ (l : List ℕ). IsRejectedLineIn o task fault (line_text (length i.before) l)) ends.1
      (subst (λ (l : List (List ℕ)). IsRejectedLineIn o task fault (line_text (length l) line)) ends.0 bad) in
      refused_step (length i.before) i.line i.more i.said i.over fault stops here i.step

  pub either : (all : List (List ℕ)) (output other diagnostics_before diagnostics_after : List ℕ) (refused number : ℕ) (fault : Error)
      → LineOutcomes o task on_refusal all other diagnostics_after refused
      → StopsInsideInput o task on_refusal all output diagnostics_before fault number → ⊥
  either all output other diagnostics_before diagnostics_after refused number fault d h =
      stuck h.done_lines h.later_lines h.line fault other diagnostics_after refused h.stops h.reason
      (subst (λ (l : List (List ℕ)). LineOutcomes o task on_refusal l other diagnostics_after refused) h.parts d)

  one_of : (all : List (List ℕ)) (output other diagnostics_before diagnostics_after : List ℕ) (number count : ℕ) (fault cause : Error)
      → (h : StopsInsideInput o task on_refusal all output diagnostics_before fault number)
      → (k : StopsInsideInput o task on_refusal all other diagnostics_after cause count)
      → Parts h.done_lines k.done_lines h.line k.line h.later_lines k.later_lines
      → (output ≡ other) × AreSameDiagnostics task diagnostics_before diagnostics_after × IsSameFault fault cause × (number ≡ count)
  one_of all output other diagnostics_before diagnostics_after number count fault cause h k (inl (done_lines, line)) =
      let s = same (length h.done_lines) h.done_lines k.done_lines output other diagnostics_before diagnostics_after h.refused k.refused refl done_lines h.outcomes
      k.outcomes in
      let there : IsRejectedLineIn o task cause (line_text (length h.done_lines) h.line) =
      subst (λ (l : List ℕ). IsRejectedLineIn o task cause (line_text (length h.done_lines) l)) (sym line)
      (subst (λ (l : List (List ℕ)). IsRejectedLineIn o task cause (line_text (length l) k.line)) (sym done_lines) k.reason) in (
        s.outputs,
        s.alike,
        only.same_fault (line_text (length h.done_lines) h.line) fault cause h.reason there,
        h.counted ∙ ap (λ (l : List (List ℕ)). length l + 1) done_lines ∙ sym k.counted,
      )
  one_of all output other diagnostics_before diagnostics_after number count fault cause h k (inr (inl (rest, is))) =
      absurd (stuck h.done_lines rest h.line fault other diagnostics_after k.refused h.stops h.reason
      (subst (λ (l : List (List ℕ)). LineOutcomes o task on_refusal l other diagnostics_after k.refused) is k.outcomes))
  one_of all output other diagnostics_before diagnostics_after number count fault cause h k (inr (inr (rest, is))) =
      absurd (stuck k.done_lines rest k.line cause output diagnostics_before h.refused k.stops k.reason
      (subst (λ (l : List (List ℕ)). LineOutcomes o task on_refusal l output diagnostics_before h.refused) is h.outcomes))

  pub one_stop : (all : List (List ℕ)) (output other diagnostics_before diagnostics_after : List ℕ) (number count : ℕ) (fault cause : Error)
      → StopsInsideInput o task on_refusal all output diagnostics_before fault number
      → StopsInsideInput o task on_refusal all other diagnostics_after cause count
      → (output ≡ other) × AreSameDiagnostics task diagnostics_before diagnostics_after × IsSameFault fault cause × (number ≡ count)
  one_stop all output other diagnostics_before diagnostics_after number count fault cause h k =
      one_of all output other diagnostics_before diagnostics_after number count fault cause h k
      (parts h.done_lines k.done_lines h.line k.line h.later_lines k.later_lines (sym h.parts ∙ k.parts))
