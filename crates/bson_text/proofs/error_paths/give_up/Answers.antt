use Rattle.std.proofs.Common.{refl}
use Rattle.bson_text.proofs.error_paths.give_up.Goals.{in-Fault, in-OutOfMemory, in-DuplicateKey, in-GaveUp, in-Syntax}
use Rattle.bson_text.proofs.error_paths.give_up.Goals as goal

pub returns-clause-kind : goal.returns-clause-kind
returns-clause-kind c = elim c.match-failure.branch [
  | in-Fault w ↦ rw (w.in-Fault.is, w.result-is) refl
  | in-OutOfMemory w ↦ rw (w.in-OutOfMemory.is, w.result-is) refl
  | in-DuplicateKey w ↦ rw (w.in-DuplicateKey.is, w.result-is) refl
  | in-GaveUp w ↦ rw (w.in-GaveUp.is, w.result-is) refl
  | in-Syntax w ↦ rw (w.in-Syntax.is, w.result-is) refl
]
