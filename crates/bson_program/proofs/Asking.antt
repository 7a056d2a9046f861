-- What the arguments request.
use Rattle.std.proofs.Common.{◌≡◌, inl, ◌<◌, ◌∙◌, ℕ, Bool, true, false, List, Option, Some, None, map, length}
use Rattle.std.proofs.Common.{refl, sym, ap, subst, get_or, Result, Ok, Err, IfOk, zero, suc, [], ◌∷◌, ◌++◌, ◌+◌, take, add-one, arith, rules}
use Rattle.std.proofs.lemmas.List.{get_or-map, length-map}
use Rattle.bson.specs.KeyOrder.TheVariants.{Ascending}
use Rattle.bson.specs.Options.{Options}
use Rattle.bson_run.specs.declared.task.Task.{Task}
use Rattle.bson_run.specs.declared.task.Output.{Output}
use Rattle.bson_run.specs.declared.task.Output.TheVariants.{Text}
use Rattle.bson_program.specs.Invocation.{command_of, requested_kind, AreParsed, one_more_arg, IsParsed}
use Rattle.bson_program.specs.Requests.{requested_key_order, with_criterion, IsLastArg, IsOutputFor, IsRequestedBy, IsRequestOf}
use Rattle.bson_program.specs.declared.arguments.ArgsSoFar.{ArgsSoFar}
use Rattle.bson_program.specs.declared.meanings.ParsedArg as meanings
use Rattle.bson_program.specs.declared.meanings.ParsedArg.TheVariants as parsed
use Rattle.bson_program.specs.declared.invocation.Request.{Request}
use Rattle.bson_program.specs.declared.invocation.Request.TheVariants.{Run, Help, Version, InvalidUsage}
use Rattle.bson_program.specs.declared.invocation.Command.{Command}
use Rattle.bson_program.specs.declared.invocation.Input.{Input}
use Rattle.bson_program.specs.declared.invocation.Input.TheVariants as input
use Rattle.bson_program.specs.declared.invocation.Purpose.{Purpose}
use Rattle.bson_program.specs.declared.invocation.Purpose.TheVariants as purpose
use Rattle.bson_convert.specs.declared.mode.Mode.TheVariants as modes
use Rattle.bson_program.proofs.Words.{all_fit, Fits}

-- ---- digests and comparisons are of canonical text, with keys in ascending order

unjudged : (b : Bool) → with_criterion b (Text modes.Canonical) ≡ Text modes.Canonical
unjudged true = refl
unjudged false = refl

named : (it : Purpose) (input : Input) (o : Option Output) (named_kind : Output) → Fits it o → requested_kind input o ≡ Some named_kind
    → Fits it (Some named_kind)
named purpose.Output input o named_kind fits is = tt
named purpose.Digests input None named_kind fits is = absurd fits
named purpose.Digests input.Text (Some kind) named_kind fits is = search rules
named purpose.Digests input.Lines (Some kind) named_kind fits is = search rules
named purpose.Digests input.Documents (Some kind) named_kind fits is = search rules
named purpose.Comparison input None named_kind fits is = absurd fits
named purpose.Comparison input.Text (Some kind) named_kind fits is = search rules
named purpose.Comparison input.Lines (Some kind) named_kind fits is = search rules
named purpose.Comparison input.Documents (Some kind) named_kind fits is = search rules

-- with what sorts the keys
sorted_for : (it : Purpose) (b sorts strict : Bool) (named_kind : Output) → Fits it (Some named_kind)
    → IsOutputFor it (requested_key_order it sorts strict) (with_criterion b named_kind)
sorted_for purpose.Output b sorts strict named_kind is = tt
sorted_for purpose.Digests b sorts strict named_kind is =
    subst (IsOutputFor purpose.Digests Ascending) (sym (ap (with_criterion b) is ∙ unjudged b)) (refl, refl)
sorted_for purpose.Comparison b sorts strict named_kind is =
    subst (IsOutputFor purpose.Comparison Ascending) (sym (ap (with_criterion b) is ∙ unjudged b)) (refl, refl)

-- ---- the answer

answered : (args : List (List ℕ)) (args_so_far : ArgsSoFar) (requested : Request) → AreParsed args args_so_far
    → IsRequestOf args_so_far requested → IsRequestedBy args requested
answered args args_so_far (Run invocation) are is =
    let it = args_so_far.purpose in
    let fits = named it args_so_far.input args_so_far.output_kind is.named_kind (all_fit args args_so_far are) is.is_named_kind in
    let order = requested_key_order it args_so_far.sorts_keys args_so_far.is_strict in (
      subst (λ it. IsOutputFor it invocation.options.key_order invocation.task.output) (sym is.purpose)
          (subst (λ order. IsOutputFor it order invocation.task.output) (sym (ap (λ (o : Options). o.key_order) is.options))
          (subst (IsOutputFor it order) (sym (ap (λ (t : Task). t.output) is.task))
          (sorted_for it args_so_far.is_canonical args_so_far.sorts_keys args_so_far.is_strict is.named_kind fits))),
      (args_so_far, are, is),
    )
answered args args_so_far (Help command) are is = absurd is
answered args args_so_far Version are is = absurd is
answered args args_so_far (InvalidUsage invalid_usage) are is = inl (args_so_far, are, is)

pub answer : {E : Type 0} (args : List (List ℕ)) (args_so_far : ArgsSoFar) (r : Result Request E) → AreParsed args args_so_far
    → IfOk r (IsRequestOf args_so_far) → IfOk r (IsRequestedBy args)
answer args args_so_far (Ok requested) are is = answered args args_so_far requested are is
answer args args_so_far (Err e) are is = tt

-- ---- the args one after the other

next_taken : {X : Type 0} (xs : List X) (i : ℕ) (x : X) → i < length xs → x ≡ get_or xs i x
    → take (suc i) xs ≡ take i xs ++ x ∷ []
next_taken [] i x within is = absurd (omega arith)
next_taken (y ∷ ys) zero x within is = ap (λ z. z ∷ []) (sym is)
next_taken (y ∷ ys) (suc i) x within is = ap (λ l. y ∷ l) (next_taken ys i x (omega arith) is)

-- the argument at a place, with its result
pub last_arg : {X : Type 0} (f : X → List ℕ) (all xs : List X) (i : ℕ) (x : X) (arg shown : List ℕ) (command : Command) (old new : ArgsSoFar)
    (result it : meanings.ParsedArg) → xs ≡ all → i < length xs → x ≡ get_or xs i x → arg ≡ f x → shown ≡ arg → AreParsed (take i (map f all)) old
    → IsParsed arg old new result → result ≡ it → command ≡ command_of old.input old.output_kind → IsLastArg (map f all) shown command it
last_arg f all xs i x arg shown command old new result it same within is of reads are parses equal names = record {
  arg_index = i;
  in_range = subst (λ ys. i < length (map f ys)) same (subst (λ n. i < n) (sym (length-map xs f)) within);
  is_arg = subst (λ ys. get_or (map f ys) i shown ≡ shown) same
      (subst (λ w. get_or (map f xs) i w ≡ w) (sym (reads ∙ of)) (get_or-map f xs i x (f x) within ∙ ap f (sym is)));
  old = old;
  new = new;
  parsed_before = are;
  is_result = subst (IsParsed shown old new) equal (subst (λ w. IsParsed w old new result) (sym reads) parses);
  is_command = names;
}

-- one more argument is accepted
pub more_given : {X : Type 0} (f : X → List ℕ) (all xs : List X) (i : ℕ) (x : X) (arg : List ℕ) (old new : ArgsSoFar) → xs ≡ all
    → i < length xs → x ≡ get_or xs i x → arg ≡ f x → AreParsed (take i (map f all)) old → IsParsed arg old new parsed.AcceptedArg
    → AreParsed (take (i + 1) (map f all)) new
more_given f all xs i x arg old new same within is of args_so_far takes =
    let there : f x ≡ get_or (map f xs) i (f x) = sym (get_or-map f xs i x (f x) within ∙ ap f (sym is)) in
    let grown : take (suc i) (map f xs) ≡ take i (map f xs) ++ f x ∷ [] =
    next_taken (map f xs) i (f x) (subst (λ n. i < n) (sym (length-map xs f)) within) there in
    let before : AreParsed (take i (map f xs)) old = subst (λ ys. AreParsed (take i (map f ys)) old) (sym same) args_so_far in
    let after : AreParsed (take (suc i) (map f xs)) new =
    subst (λ ws. AreParsed ws new) (sym grown) (one_more_arg (f x) new before (subst (λ w. IsParsed w old new parsed.AcceptedArg) of takes)) in
    subst (λ ys. AreParsed (take (i + 1) (map f ys)) new) same
    (subst (λ n. AreParsed (take n (map f xs)) new) (sym (add-one i)) after)
