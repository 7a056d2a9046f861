use Rattle.std.proofs.Common.{◌≡◌, ◌∙◌, IfOk, false, sym, to_z-of_z, w64, subst}
use Rattle.bson_scalar.specs.Forms.{is_relaxed}
use Rattle.bson_scalar.specs.Ints.{int64_tree}
use Rattle.bson_scalar.proofs.ints.write_int64.Goals as goal

pub returns-else-is_relaxed-clause-written : goal.returns-else-is_relaxed-clause-written
returns-else-is_relaxed-clause-written g c =
    let canonical : is_relaxed c.args.form ≡ false = sym c.is_relaxed.ensures ∙ c.if-is_relaxed.false in
    rw canonical (subst
    (λ z. IfOk c.write_numeral_object.result
    (λ t. g.S.Sink.wrote_tree c.args.sink.now (int64_tree z) t c.write_numeral_object.new.sink))
    (to_z-of_z {w = w64} {z = c.args.number} c.ranges.number) c.write_numeral_object.ensures.written)
