use Rattle.std.proofs.Common.{◌≡◌, ◌<◌, ◌∙◌, ap, arith, get_or, length, List, map, ℕ, rules, string_bytes, subst, sym}
use Rattle.std.proofs.lemmas.List.{get_or-map, length-map}
use Rattle.std.specs.Prelude.{Contains}
use Rattle.bson_program.specs.RunFailures.{HappensAtInput}
use Rattle.bson_program.proofs.run.run_files.Goals as goal

-- the name at a place is among the names
name_there : {X : Type 0} (f : X → List ℕ) (all xs : List X) (i : ℕ) (x : X) (name : List ℕ) → xs ≡ all → i < length xs
    → x ≡ get_or xs i x → name ≡ f x → Contains (map f all) name
name_there f all xs i x name same within is of =
    subst (λ ys. Contains (map f ys) name) same (subst (Contains (map f xs)) (sym of)
    (i, subst (λ n. i < n) (sym (length-map xs f)) within, get_or-map f xs i x (f x) within ∙ ap f (sym is)))

pub returns-in_err-counts : goal.returns-in_err-counts
returns-in_err-counts c =
    let at_input : HappensAtInput c.args.invocation.now c.in_err-counts.field-0.0 = (
      _,
      name_there string_bytes c.args.invocation.now.inputs.items c.deref-file_name-items.result.now _ _ _
          c.deref-file_name-items.ensures.value (omega arith) c.file_name-item.is c.as_str.ensures.value,
      c.in_err-counts.ensures,
    ) in
    search (rules, at_input)
