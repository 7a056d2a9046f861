use Rattle.serde_json.specs.View.{view}
use Rattle.bson.specs.View.{bson_view}
use Rattle.bson_model.proofs.Offered.{write_ok_in, write_both_in, write_finite_in, writable_from_in, tree_is_in}
use Rattle.bson_model.proofs.Offered.{forms_idempotent_in, has_text_in}
use Rattle.bson.proofs.bson.Bson.into_extjson.Goals as goal

pub returns-clause-tree : goal.returns-clause-tree
returns-clause-tree c =
    let v = bson_view c.args.self in
    write_both_in c.args.doubles c.args.form view v c.write.result _ c.write.ensures.written c.write.ensures.within_type_range
    (λ t h r. tree_is_in c.args.doubles c.args.form v (view t) h r)

pub returns-clause-idempotent : goal.returns-clause-idempotent
returns-clause-idempotent c = forms_idempotent_in c.args.doubles (bson_view c.args.self)

pub returns-clause-writable : goal.returns-clause-writable
returns-clause-writable c =
    let v = bson_view c.args.self in
    write_ok_in c.args.doubles c.args.form view v c.write.result _ c.write.ensures.written
    (λ t h. writable_from_in c.args.doubles c.args.form v (view t) h)

pub returns-clause-finite : goal.returns-clause-finite
returns-clause-finite c =
    write_finite_in c.args.doubles c.args.form view (bson_view c.args.self) c.write.result c.write.ensures.written

pub returns-clause-reads_again : goal.returns-clause-reads_again
returns-clause-reads_again c =
    let v = bson_view c.args.self in
    write_both_in c.args.doubles c.args.form view v c.write.result _ c.write.ensures.written c.write.ensures.within_type_range
    (λ t h r p. has_text_in c.args.doubles c.args.form v (view t) h p r)
