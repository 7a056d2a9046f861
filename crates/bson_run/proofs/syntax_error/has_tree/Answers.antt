use Rattle.std.proofs.Common.{◌≡◌, Bool, IfOk, Result, string_bytes, subst, sym}
use Rattle.std.specs.Prelude.{IsTrue}
use Rattle.std.specs.declared.alloc.AllocError.{AllocError}
use Rattle.bson_run.proofs.OneRead.{is_read}
use Rattle.bson_run.specs.ErrorMessages.{IsTextOfTree}
use Rattle.bson_run.proofs.syntax_error.has_tree.Goals as goal
use Rattle.bson_run.proofs.syntax_error.has_tree.Goals.{in-Ok, in-Err-Invalid, in-Err}

pub returns-clause-yes : goal.returns-clause-yes
returns-clause-yes c =
    let text = c.args.text.now in
    let says = λ (r : Result Bool AllocError). IfOk r (λ has. IsTrue has → IsTextOfTree text) in
    elim c.match-normalize_text.branch [
      | in-Ok w ↦ subst says (sym w.result-is) (λ yes.
          let (tree, read) = is_read text (string_bytes w.in-Ok.field-0) w.in-Ok.ensures.ok in
          (tree, record { utf8 = c.utf8.text; tree_read = read }))
      | in-Err-Invalid w ↦ subst says (sym w.result-is) (λ yes. absurd cc)
      | in-Err w ↦ subst says (sym w.result-is) tt
    ]
