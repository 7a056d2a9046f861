use Rattle.std.proofs.Common.{◌≡◌, ◌∙◌, ◌++◌, OnOk, false, sym, to_z-of_z, w64, subst}
use Rattle.bson_scalar.specs.Forms.{is_relaxed}
use Rattle.bson_scalar.specs.Ints.{int64_tree}
use Rattle.bson_scalar.specs.Tokens.{tokens_of}
use Rattle.bson.specs.OutputCapacity.{StaysWithinCapacity, tree_capacity}
use Rattle.bson.proofs.extjson.without_allocation.put_int64.Goals as goal

pub returns-else-is_relaxed-clause-put : goal.returns-else-is_relaxed-clause-put
returns-else-is_relaxed-clause-put c =
    let canonical : is_relaxed c.args.form ≡ false = sym c.is_relaxed.ensures ∙ c.if-is_relaxed.false in
    rw canonical (subst
    (λ z. OnOk c.put_quoted_i64.result (c.put_quoted_i64.new.writer.tokens ≡ c.args.writer.now.tokens ++ tokens_of (int64_tree z)))
    (to_z-of_z {w = w64} {z = c.args.number} c.ranges.number) c.put_quoted_i64.ensures.put)

pub returns-else-is_relaxed-clause-room : goal.returns-else-is_relaxed-clause-room
returns-else-is_relaxed-clause-room c =
    let canonical : is_relaxed c.args.form ≡ false = sym c.is_relaxed.ensures ∙ c.if-is_relaxed.false in
    rw canonical (subst
    (λ z. StaysWithinCapacity c.put_quoted_i64.result c.args.writer.now.spare c.put_quoted_i64.new.writer.spare (tree_capacity (int64_tree z)))
    (to_z-of_z {w = w64} {z = c.args.number} c.ranges.number) c.put_quoted_i64.ensures.room)
