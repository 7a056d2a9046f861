use Rattle.std.proofs.Common.{◌≡◌, ◌++◌, OnOk, ℤ, not, true, refl, sym, subst}
use Rattle.bson_scalar.specs.Dates.{date_tree}
use Rattle.bson_scalar.specs.Forms.{is_relaxed}
use Rattle.bson_scalar.specs.Tokens.{tokens_of}
use Rattle.bson_scalar.specs.Written.{date_form}
use Rattle.bson_scalar.specs.declared.form.Form.{Form}
use Rattle.bson_scalar.specs.declared.form.Form.TheVariants.{Canonical, MongoDbCanonical, MongoDbRelaxed, Relaxed}
use Rattle.bson.specs.OutputCapacity.{StaysWithinCapacity, tree_capacity}
use Rattle.bson.proofs.extjson.without_allocation.put_date.Goals as goal

as_millis : (f : Form) (z : ℤ) → not (is_relaxed f) ≡ true → date_form f z ≡ date_tree z
as_millis Canonical z h = refl
as_millis Relaxed z h = cc
as_millis MongoDbCanonical z h = refl
as_millis MongoDbRelaxed z h = cc

pub returns-clause-put : goal.returns-clause-put
returns-clause-put c =
    subst (λ t. OnOk c.put_millis.result (c.put_millis.new.writer.tokens ≡ c.args.writer.now.tokens ++ tokens_of t))
    (sym (as_millis c.args.form c.args.date c.requires)) c.put_millis.ensures.put

pub returns-clause-room : goal.returns-clause-room
returns-clause-room c =
    subst (λ t. StaysWithinCapacity c.put_millis.result c.args.writer.now.spare c.put_millis.new.writer.spare (tree_capacity t))
    (sym (as_millis c.args.form c.args.date c.requires)) c.put_millis.ensures.room
