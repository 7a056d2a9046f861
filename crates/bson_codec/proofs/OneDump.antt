-- The same bytes are one dump.
use Rattle.std.proofs.Common.{◌≡◌, ◌≢◌, ◌⊎◌, inl, inr, ℕ, zero, suc, ◌+◌, ◌-◌, ◌<◌, ◌≤◌, List, [], ◌++◌, length}
use Rattle.std.proofs.Common.{Bool, true, false, ltb, refl, sym, ap, subst, ◌∙◌, append_assoc, arith}
use Rattle.std.proofs.lemmas.Bool.{ltb-false, ltb-true}
use Rattle.std.proofs.lemmas.List.{append-nil, length-append, nil_from_length}
use Rattle.bson.specs.Texts.{IsTextInKeyOrder}
use Rattle.bson_model.specs.declared.options.KeyOrder.{KeyOrder}
use Rattle.bson_model.specs.declared.options.KeyOrder.TheVariants.{Ascending, AsGiven}
use Rattle.bson_model.specs.declared.options.Options.{Options}
use Rattle.bson_scalar.specs.TreeText.{tree_text}
use Rattle.bson_scalar.specs.declared.form.Doubles.{Doubles}
use Rattle.bson_scalar.specs.Forms.{form_in}
use Rattle.bson_scalar.specs.declared.form.Form.{Form}
use Rattle.bson_model.specs.Value.{Pairs, Value, document}
use Rattle.bson_bytes.proofs.Offered.{size_again}
use Rattle.bson_bytes.specs.Reading.{reads_bytes_in, read_length}
use Rattle.bson_codec.proofs.Justified.{faultless, no_line, read_one}
use Rattle.bson_codec.proofs.Lengths.{counted, length_front, one_span}
use Rattle.bson_codec.proofs.Runs.{same_rest}
use Rattle.bson_codec.proofs.Streams.{sized}
use Rattle.bson_codec.specs.DumpRuns.{BeginsWithLength, Dump, none, written, skipped_document, EndsInside, IsRejectedWithFault, IsLineOfDocument}
use Rattle.bson_codec.specs.DumpRuns.{IsSkipped, HasNoTextInForm, WritesLine}
use Rattle.bson_codec.specs.Streams.{declared_prefix}
use Rattle.bson_codec.specs.Diagnostics.{line_feed, diagnostic_of}
use Rattle.bson_codec.specs.declared.documents.Line.{Line}
use Rattle.bson_codec.specs.declared.documents.Line.TheVariants.{Text, Shown, Nothing}
use Rattle.bson_codec.specs.declared.documents.Run.{Run}
use Rattle.bson_codec.specs.declared.run_end.RunFault.{RunFault}
use Rattle.bson_codec.specs.declared.run_end.RunFault.TheVariants.{Malformed, FiniteDouble, CannotRead, CannotWrite}
use Rattle.bson_codec.specs.declared.run_end.RunFault.TheVariants.{OutOfMemory}

-- ---- what is written of bytes, and why nothing is

line_length : (run : Run) (bytes line : List ℕ) → IsLineOfDocument run bytes line → BeginsWithLength bytes
line_length run bytes line h =
    let s = sized h.read.grammar in
    (s.body, ap read_length s.whole ∙ size_again (length bytes) s.body s.small)

one_text : (order : KeyOrder) (D : Doubles) (f : Form) (v : Value) (s t : List ℕ) → IsTextInKeyOrder order D f v s
    → IsTextInKeyOrder order D f v t → s ≡ t
one_text Ascending D f v s t is are =
    is.compact ∙ ap (tree_text D f) (sym (is.is_tree.one are.tree are.is_tree.written)) ∙ sym are.compact
one_text AsGiven D f v s t is are =
    is.compact ∙ ap (tree_text D f) (sym (is.only_tree are.tree are.written)) ∙ sym are.compact

one_write : (o : Options) (line : Line) (ps : Pairs) (a b : List ℕ) → WritesLine o line ps a → WritesLine o line ps b
    → a ≡ b
one_write o (Text f) ps a b (w, (s, is, e)) (v, (t, are, g)) =
    e ∙ ap (λ (x : List ℕ). x ++ line_feed) (one_text o.key_order o.doubles (form_in o.layout f) (document ps) s t is are) ∙ sym g
one_write o Shown ps a b h k = h ∙ sym k
one_write o Nothing ps a b h k = h ∙ sym k

one_line : (run : Run) (bytes a b : List ℕ) → IsLineOfDocument run bytes a → IsLineOfDocument run bytes b → a ≡ b
one_line run bytes a b h k =
    one_write run.options run.line h.pairs a b h.written
    (subst (λ (ps : Pairs). WritesLine run.options run.line ps b)
    (read_one run.duplicate_keys run.depth bytes k.pairs h.pairs k.read h.read) k.written)

has_text : (o : Options) (line : Line) (ps : Pairs) (a : List ℕ) → WritesLine o line ps a → HasNoTextInForm o line ps → ⊥
has_text o (Text f) ps a h u = let w = h.0 in absurd cc
has_text o Shown ps a h u = u
has_text o Nothing ps a h u = u

either_line : (run : Run) (bytes line : List ℕ) (fault : RunFault) → IsLineOfDocument run bytes line → IsRejectedWithFault fault run bytes → ⊥
either_line run bytes line fault h bad =
    has_text run.options run.line h.pairs line h.written (no_line fault run bytes h.pairs bad h.read)

one_fault : (run : Run) (bytes : List ℕ) (f g : RunFault) → IsRejectedWithFault f run bytes → IsRejectedWithFault g run bytes → f ≡ g
one_fault run bytes (Malformed k n) (Malformed l m) (a, e, w, s) (b, h, v, t) =
    let read : reads_bytes_in run.duplicate_keys run.depth bytes ≡ reads_bytes_in run.duplicate_keys run.depth bytes = refl in
    let same : a ≡ b = cc in
    let kinds : k ≡ l = cc in
    let left : n ≡ m = omega (arith, s, t, ap (λ f. f.bytes_to_end) same) in cc
one_fault run bytes (Malformed k n) FiniteDouble h (ps, read, u) = absurd (faultless k n run.duplicate_keys run.depth bytes ps read h)
one_fault run bytes FiniteDouble (Malformed k n) (ps, read, u) h = absurd (faultless k n run.duplicate_keys run.depth bytes ps read h)
one_fault run bytes FiniteDouble FiniteDouble h k = refl
one_fault run bytes (Malformed k n) CannotRead h k2 = absurd k2
one_fault run bytes (Malformed k n) CannotWrite h k2 = absurd k2
one_fault run bytes (Malformed k n) OutOfMemory h k2 = absurd k2
one_fault run bytes FiniteDouble CannotRead h k = absurd k
one_fault run bytes FiniteDouble CannotWrite h k = absurd k
one_fault run bytes FiniteDouble OutOfMemory h k = absurd k
one_fault run bytes CannotRead g h k = absurd h
one_fault run bytes CannotWrite g h k = absurd h
one_fault run bytes OutOfMemory g h k = absurd h

-- ---- the last document of a dump

abbrev Step : Run → (number start : ℕ) → (bytes line partial_report : List ℕ) → (over : ℕ) → Type 0
Step run number start bytes line partial_report over =
    (IsLineOfDocument run bytes line × (partial_report ≡ []) × (over ≡ 0))
    ⊎ ((fault : RunFault) × IsRejectedWithFault fault run bytes × IsSkipped run bytes × (line ≡ [])
    × (partial_report ≡ diagnostic_of run.diagnostics number start fault) × (over ≡ 1))

record Last (run : Run) (bytes output diagnostics_before : List ℕ) (number refused : ℕ) : Type 0 where
  before : List ℕ
  span : List ℕ
  out : List ℕ
  line : List ℕ
  diagnostics_after : List ℕ
  partial_report : List ℕ
  left : ℕ
  over : ℕ
  dump : Dump run before out diagnostics_after number left
  step : Step run (number + 1) (length before) span line partial_report over
  bytes_are : bytes ≡ before ++ span
  output_is : output ≡ out ++ line
  told_is : diagnostics_before ≡ diagnostics_after ++ partial_report
  refused_are : refused ≡ left + over

last_of : {run : Run} {bytes output diagnostics_before : List ℕ} {number refused : ℕ} (n : ℕ)
    → Dump run bytes output diagnostics_before number refused → number ≡ suc n → Last run bytes output diagnostics_before n refused
last_of n none e = absurd (omega (arith, e))
last_of {run = run} n (written {earlier_bytes = before} {output = output} {diagnostics = diagnostics_before} {document_count = number} {refused = refused} bytes line d is) e =
    let count : number ≡ n = omega (arith, e) in
    record {
      before = before;
      span = bytes;
      out = output;
      line = line;
      diagnostics_after = diagnostics_before;
      partial_report = [];
      left = refused;
      over = 0;
      dump = subst (λ (k : ℕ). Dump run before output diagnostics_before k refused) count d;
      step = inl (is, refl, refl);
      bytes_are = refl;
      output_is = refl;
      told_is = sym (append-nil diagnostics_before);
      refused_are = omega arith;
    }
last_of {run = run} n (skipped_document {earlier_bytes = before} {output = output} {diagnostics = diagnostics_before} {document_count = number} {refused = refused} bytes fault d over bad) e =
    let count : number ≡ n = omega (arith, e) in
    record {
      before = before;
      span = bytes;
      out = output;
      line = [];
      diagnostics_after = diagnostics_before;
      partial_report = diagnostic_of run.diagnostics (number + 1) (length before) fault;
      left = refused;
      over = 1;
      dump = subst (λ (k : ℕ). Dump run before output diagnostics_before k refused) count d;
      step = inr (fault, bad, over, refl, ap (λ (k : ℕ). diagnostic_of run.diagnostics (k + 1) (length before) fault) count, refl);
      bytes_are = refl;
      output_is = sym (append-nil output);
      told_is = refl;
      refused_are = refl;
    }

none_of : {run : Run} {bytes output diagnostics_before : List ℕ} {number refused : ℕ} → Dump run bytes output diagnostics_before number refused
    → number ≡ 0 → (bytes ≡ []) × (output ≡ []) × (diagnostics_before ≡ []) × (refused ≡ 0)
none_of none e = (refl, refl, refl, refl)
none_of (written bytes line d is) e = absurd (omega (arith, e))
none_of (skipped_document bytes fault d over bad) e = absurd (omega (arith, e))

step_length : (run : Run) (number start : ℕ) (bytes line partial_report : List ℕ) (over : ℕ)
    → Step run number start bytes line partial_report over → BeginsWithLength bytes
step_length run number start bytes line partial_report over (inl s) = line_length run bytes line s.0
step_length run number start bytes line partial_report over (inr s) = s.2.1

one_step : (run : Run) (number start : ℕ) (bytes a b partial_report diagnostics_after : List ℕ) (n m : ℕ)
    → Step run number start bytes a partial_report n → Step run number start bytes b diagnostics_after m
    → (a ≡ b) × (partial_report ≡ diagnostics_after) × (n ≡ m)
one_step run number start bytes a b partial_report diagnostics_after n m (inl s) (inl t) =
    (one_line run bytes a b s.0 t.0, s.1 ∙ sym t.1, s.2 ∙ sym t.2)
one_step run number start bytes a b partial_report diagnostics_after n m (inl s) (inr t) = absurd (either_line run bytes a t.0 s.0 t.1)
one_step run number start bytes a b partial_report diagnostics_after n m (inr s) (inl t) = absurd (either_line run bytes b s.0 t.0 s.1)
one_step run number start bytes a b partial_report diagnostics_after n m (inr (f, h, o, l, w, c)) (inr (g, k, p, q, v, d)) =
    let same : f ≡ g = one_fault run bytes f g h k in
    (l ∙ sym q, w ∙ ap (diagnostic_of run.diagnostics number start) same ∙ sym v, c ∙ sym d)

-- ---- dumps of as many documents

record Same (a b output other diagnostics_before diagnostics_after : List ℕ) (refused left : ℕ) : Type 0 where
  pub bytes : a ≡ b
  pub outputs : output ≡ other
  pub diagnostic_lines : diagnostics_before ≡ diagnostics_after
  pub counts : refused ≡ left

same_count : (n : ℕ) (run : Run) (a b output other diagnostics_before diagnostics_after x y : List ℕ) (refused left : ℕ)
    → Dump run a output diagnostics_before n refused → Dump run b other diagnostics_after n left → a ++ x ≡ b ++ y
    → Same a b output other diagnostics_before diagnostics_after refused left
same_count zero run a b output other diagnostics_before diagnostics_after x y refused left d e g =
    let i = none_of d refl in
    let j = none_of e refl in
    record { bytes = i.0 ∙ sym j.0; outputs = i.1 ∙ sym j.1; diagnostic_lines = i.2 ∙ sym j.2; counts = i.3 ∙ sym j.3 }
same_count (suc n) run a b output other diagnostics_before diagnostics_after x y refused left d e g =
    let i = last_of n d refl in
    let j = last_of n e refl in
    let whole : i.before ++ (i.span ++ x) ≡ j.before ++ (j.span ++ y) =
    sym (append_assoc i.before i.span x) ∙ ap (λ (z : List ℕ). z ++ x) (sym i.bytes_are) ∙ g
    ∙ ap (λ (z : List ℕ). z ++ y) j.bytes_are ∙ append_assoc j.before j.span y in
    let k = same_count n run i.before j.before i.out j.out i.diagnostics_after j.diagnostics_after (i.span ++ x) (j.span ++ y) i.left j.left
    i.dump j.dump whole in
    let rests : i.span ++ x ≡ j.span ++ y =
    same_rest i.before (i.span ++ x) j.before (j.span ++ y) whole (ap length k.bytes) in
    let p : i.span ≡ j.span =
    one_span i.span j.span x y (step_length run (n + 1) (length i.before) i.span i.line i.partial_report i.over i.step)
    (step_length run (n + 1) (length j.before) j.span j.line j.partial_report j.over j.step) rests in
    let placed : Step run (n + 1) (length i.before) j.span j.line j.partial_report j.over =
    subst (λ (z : List ℕ). Step run (n + 1) (length z) j.span j.line j.partial_report j.over) (sym k.bytes) j.step in
    let moved : Step run (n + 1) (length i.before) i.span j.line j.partial_report j.over =
    subst (λ (z : List ℕ). Step run (n + 1) (length i.before) z j.line j.partial_report j.over) (sym p) placed in
    let q = one_step run (n + 1) (length i.before) i.span i.line j.line i.partial_report j.partial_report i.over j.over i.step moved in
    record {
      bytes = let u = k.bytes in let v = i.bytes_are in let w = j.bytes_are in cc;
      outputs = let u = k.outputs in let v = i.output_is in let w = j.output_is in let z = q.0 in cc;
      diagnostic_lines = let u = k.diagnostic_lines in let v = i.told_is in let w = j.told_is in let z = q.1 in cc;
      counts = omega (arith, k.counts, i.refused_are, j.refused_are, q.2);
    }

-- ---- the first documents of a dump

record Mark (run : Run) (bytes : List ℕ) (n k : ℕ) : Type 0 where
  front : List ℕ
  following : List ℕ
  output : List ℕ
  diagnostics_before : List ℕ
  refused : ℕ
  dump : Dump run front output diagnostics_before n refused
  parts : bytes ≡ front ++ following
  some : 1 ≤ k → 1 ≤ length following

mark : (k n m : ℕ) (run : Run) (bytes output diagnostics_before : List ℕ) (refused : ℕ) → Dump run bytes output diagnostics_before m refused
    → m ≡ k + n → Mark run bytes n k
mark zero n m run bytes output diagnostics_before refused d e = record {
  front = bytes;
  following = [];
  output = output;
  diagnostics_before = diagnostics_before;
  refused = refused;
  dump = subst (λ (c : ℕ). Dump run bytes output diagnostics_before c refused) (omega (arith, e)) d;
  parts = sym (append-nil bytes);
  some = λ le. absurd (omega (arith, le));
}
mark (suc k) n m run bytes output diagnostics_before refused d e =
    let i = last_of (k + n) d (omega (arith, e)) in
    let b = mark k n (k + n) run i.before i.out i.diagnostics_after i.left i.dump refl in
    let long : 4 ≤ length i.span =
    (counted i.span (step_length run (k + n + 1) (length i.before) i.span i.line i.partial_report i.over i.step)).long in
    record {
      front = b.front;
      following = b.following ++ i.span;
      output = b.output;
      diagnostics_before = b.diagnostics_before;
      refused = b.refused;
      dump = b.dump;
      parts = i.bytes_are ∙ ap (λ (z : List ℕ). z ++ i.span) b.parts ∙ append_assoc b.front b.following i.span;
      some = λ le. omega (arith, long, length-append b.following i.span);
    }

-- the first of so many, of a dump that has no fewer
first_of : (n m : ℕ) (run : Run) (bytes output diagnostics_before : List ℕ) (refused : ℕ) → Dump run bytes output diagnostics_before m refused
    → n ≤ m → Mark run bytes n (m - n)
first_of n m run bytes output diagnostics_before refused d le =
    mark (m - n) n m run bytes output diagnostics_before refused d (omega (arith, le))

-- no bytes follow a dump of fewer documents
no_longer : (n m : ℕ) (run : Run) (bytes output other diagnostics_before diagnostics_after : List ℕ) (refused left : ℕ)
    → Dump run bytes output diagnostics_before n refused → Dump run bytes other diagnostics_after m left → n < m → ⊥
no_longer n m run bytes output other diagnostics_before diagnostics_after refused left d e lt =
    let f = first_of n m run bytes other diagnostics_after left e (omega (arith, lt)) in
    let s = same_count n run bytes f.front output f.output diagnostics_before f.diagnostics_before [] f.following refused f.refused d f.dump
    (append-nil bytes ∙ f.parts) in
    let some : 1 ≤ length f.following = f.some (omega (arith, lt)) in
    omega (arith, some, ap length f.parts, ap length s.bytes, length-append f.front f.following)

equal_by : (n m : ℕ) (b c : Bool) → ltb n m ≡ b → ltb m n ≡ c → (n < m → ⊥) → (m < n → ⊥) → n ≡ m
equal_by n m true c e f h k = absurd (h (ltb-true n m e))
equal_by n m false true e f h k = absurd (k (ltb-true m n f))
equal_by n m false false e f h k = omega (arith, ltb-false n m e, ltb-false m n f)

equal : (n m : ℕ) → (n < m → ⊥) → (m < n → ⊥) → n ≡ m
equal n m h k = equal_by n m (ltb n m) (ltb m n) refl refl h k

pub one_dump : (run : Run) (bytes output other diagnostics_before diagnostics_after : List ℕ) (number count refused left : ℕ)
    → Dump run bytes output diagnostics_before number refused → Dump run bytes other diagnostics_after count left
    → (output ≡ other) × (diagnostics_before ≡ diagnostics_after) × (number ≡ count) × (refused ≡ left)
one_dump run bytes output other diagnostics_before diagnostics_after number count refused left d e =
    let n : number ≡ count = equal number count
    (no_longer number count run bytes output other diagnostics_before diagnostics_after refused left d e)
    (no_longer count number run bytes other output diagnostics_after diagnostics_before left refused e d) in
    let s = same_count number run bytes bytes output other diagnostics_before diagnostics_after [] [] refused left d
    (subst (λ (k : ℕ). Dump run bytes other diagnostics_after k left) (sym n) e) refl in
    (s.outputs, s.diagnostic_lines, n, s.counts)

-- ---- where a run ends

stuck_at : (run : Run) (number start : ℕ) (bytes line partial_report : List ℕ) (over : ℕ) (fault : RunFault)
    → Step run number start bytes line partial_report over → IsRejectedWithFault fault run bytes → (IsSkipped run bytes → ⊥) → ⊥
stuck_at run number start bytes line partial_report over fault (inl s) bad last = either_line run bytes line fault s.0 bad
stuck_at run number start bytes line partial_report over fault (inr s) bad last = last s.2

-- at bytes at which a run ends no document of a dump begins
stuck : (n m : ℕ) (run : Run) (done rest bytes more output other diagnostics_before diagnostics_after : List ℕ) (refused left : ℕ)
    (fault : RunFault) → Dump run done output diagnostics_before n refused → Dump run bytes other diagnostics_after m left
    → done ++ rest ≡ bytes ++ more → IsRejectedWithFault fault run (declared_prefix rest) → (IsSkipped run (declared_prefix rest) → ⊥)
    → n < m → ⊥
stuck n m run done rest bytes more output other diagnostics_before diagnostics_after refused left fault d e whole bad last lt =
    let f = first_of (suc n) m run bytes other diagnostics_after left e (omega (arith, lt)) in
    let i = last_of n f.dump refl in
    let parts : done ++ rest ≡ i.before ++ (i.span ++ (f.following ++ more)) =
    whole ∙ ap (λ (z : List ℕ). z ++ more) f.parts ∙ append_assoc f.front f.following more
    ∙ ap (λ (z : List ℕ). z ++ (f.following ++ more)) i.bytes_are ∙ append_assoc i.before i.span (f.following ++ more) in
    let s = same_count n run done i.before output i.out diagnostics_before i.diagnostics_after rest (i.span ++ (f.following ++ more)) refused i.left d
    i.dump parts in
    let rests : rest ≡ i.span ++ (f.following ++ more) =
    same_rest done rest i.before (i.span ++ (f.following ++ more)) parts (ap length s.bytes) in
    let here : declared_prefix rest ≡ i.span =
    ap declared_prefix rests ∙ length_front i.span (f.following ++ more)
    (step_length run (n + 1) (length i.before) i.span i.line i.partial_report i.over i.step) in
    stuck_at run (n + 1) (length i.before) i.span i.line i.partial_report i.over fault i.step
    (subst (IsRejectedWithFault fault run) here bad) (λ over. last (subst (IsSkipped run) (sym here) over))

either_by : (run : Run) (all other output diagnostics_after diagnostics_before done rest : List ℕ) (count n left refused : ℕ) (b : Bool)
    → ltb n count ≡ b → (n < count → ⊥) → Dump run all other diagnostics_after count left → Dump run done output diagnostics_before n refused
    → all ≡ done ++ rest → rest ≢ [] → ⊥
either_by run all other output diagnostics_after diagnostics_before done rest count n left refused true e fewer d h parts some =
    fewer (ltb-true n count e)
either_by run all other output diagnostics_after diagnostics_before done rest count n left refused false e fewer d h parts some =
    let f = first_of count n run done output diagnostics_before refused h (ltb-false n count e) in
    let whole : all ++ [] ≡ f.front ++ (f.following ++ rest) =
    append-nil all ∙ parts ∙ ap (λ (z : List ℕ). z ++ rest) f.parts ∙ append_assoc f.front f.following rest in
    let s = same_count count run all f.front other f.output diagnostics_after f.diagnostics_before [] (f.following ++ rest) left f.refused d f.dump
    whole in
    let none : length rest ≡ 0 =
    omega (
      arith,
      ap length whole,
      ap length s.bytes,
      length-append all [],
      length-append f.front (f.following ++ rest),
      length-append f.following rest,
    ) in
    some (nil_from_length rest none)

-- a dump has no bytes after it at which a run over it ended
pub either_end : (run : Run) (all output other diagnostics_before diagnostics_after : List ℕ) (count left number refused start : ℕ)
    (fault : RunFault) → Dump run all other diagnostics_after count left
    → EndsInside run all output diagnostics_before fault number refused start → ⊥
either_end run all output other diagnostics_before diagnostics_after count left number refused start fault d h =
    let fewer : h.earlier_documents < count → ⊥ = stuck h.earlier_documents count run h.converted_bytes h.rest all [] output other diagnostics_before diagnostics_after refused left
    fault h.documents d (sym h.input_is_split ∙ sym (append-nil all)) h.reason h.not_skipped in
    either_by run all other output diagnostics_after diagnostics_before h.converted_bytes h.rest count h.earlier_documents left refused (ltb h.earlier_documents count) refl fewer d
    h.documents h.input_is_split h.rest_is_not_empty

pub one_end : (run : Run) (all output other diagnostics_before diagnostics_after : List ℕ) (number count refused left start place : ℕ)
    (fault cause : RunFault) → EndsInside run all output diagnostics_before fault number refused start
    → EndsInside run all other diagnostics_after cause count left place
    → (output ≡ other) × (diagnostics_before ≡ diagnostics_after) × (fault ≡ cause) × (number ≡ count) × (refused ≡ left) × (start ≡ place)
one_end run all output other diagnostics_before diagnostics_after number count refused left start place fault cause h k =
    let whole : h.converted_bytes ++ h.rest ≡ k.converted_bytes ++ k.rest = sym h.input_is_split ∙ k.input_is_split in
    let n : h.earlier_documents ≡ k.earlier_documents = equal h.earlier_documents k.earlier_documents
    (stuck h.earlier_documents k.earlier_documents run h.converted_bytes h.rest k.converted_bytes k.rest output other diagnostics_before diagnostics_after refused left fault h.documents
    k.documents whole h.reason h.not_skipped)
    (stuck k.earlier_documents h.earlier_documents run k.converted_bytes k.rest h.converted_bytes h.rest other output diagnostics_after diagnostics_before left refused cause k.documents
    h.documents (sym whole) k.reason k.not_skipped) in
    let s = same_count h.earlier_documents run h.converted_bytes k.converted_bytes output other diagnostics_before diagnostics_after h.rest k.rest refused left h.documents
    (subst (λ (c : ℕ). Dump run k.converted_bytes other diagnostics_after c left) (sym n) k.documents) whole in
    let rests : h.rest ≡ k.rest = same_rest h.converted_bytes h.rest k.converted_bytes k.rest whole (ap length s.bytes) in
    let faults : fault ≡ cause = one_fault run (declared_prefix h.rest) fault cause h.reason
    (subst (λ (b : List ℕ). IsRejectedWithFault cause run (declared_prefix b)) (sym rests) k.reason) in
    let numbers : number ≡ count = omega (arith, h.counted, k.counted, n) in
    let places : start ≡ place = h.offset_is_length ∙ ap length s.bytes ∙ sym k.offset_is_length in
    (s.outputs, s.diagnostic_lines, faults, numbers, s.counts, places)
