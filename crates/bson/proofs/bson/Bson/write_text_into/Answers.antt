use Rattle.std.proofs.Common.{subst}
use Rattle.bson_scalar.specs.Forms.{form_in}
use Rattle.bson_model.specs.declared.options.KeyOrder.TheVariants.{AsGiven}
use Rattle.bson.specs.KeyOrders.{writes_in_key_order}
use Rattle.bson.specs.Texts.{AppendsText}
use Rattle.bson.specs.View.{bson_view}
use Rattle.bson.proofs.OrderedTexts.{appended_is, nothing_appended, appended_writable, appended_finite}
use Rattle.bson.proofs.Twice.{room_twice}
use Rattle.bson.proofs.bson.Bson.write_text_into.Goals as goal

written : (c : goal.After-append_text) → AppendsText c.append_text.result
    (writes_in_key_order AsGiven c.args.options.doubles (form_in c.args.options.layout c.args.form) (bson_view c.args.self.now))
    c.args.output.now.items c.append_text.new.output.items
written c =
    subst (λ f. AppendsText c.append_text.result (writes_in_key_order AsGiven c.args.options.doubles f (bson_view c.args.self.now))
    c.args.output.now.items c.append_text.new.output.items) c.form.ensures c.append_text.ensures.written

pub returns-clause-text : goal.returns-clause-text
returns-clause-text c =
    appended_is c.args.options.doubles (form_in c.args.options.layout c.args.form) (bson_view c.args.self.now) c.args.output.now.items
    c.append_text.new.output.items c.append_text.result (written c) c.append_text.ensures.within_type_range
    c.append_text.ensures.distinct

pub returns-clause-unchanged : goal.returns-clause-unchanged
returns-clause-unchanged c =
    nothing_appended c.args.options.doubles (form_in c.args.options.layout c.args.form) (bson_view c.args.self.now) c.args.output.now.items
    c.append_text.new.output.items c.append_text.result (written c)

pub returns-clause-writable : goal.returns-clause-writable
returns-clause-writable c =
    appended_writable c.args.options.doubles (form_in c.args.options.layout c.args.form) (bson_view c.args.self.now) c.args.output.now.items
    c.append_text.new.output.items c.append_text.result (written c)

pub returns-clause-finite : goal.returns-clause-finite
returns-clause-finite c =
    appended_finite c.args.options.doubles (form_in c.args.options.layout c.args.form) (bson_view c.args.self.now) c.args.output.now.items
    c.append_text.new.output.items c.append_text.result (written c)

pub returns-clause-capacity_bound : goal.returns-clause-capacity_bound
returns-clause-capacity_bound c =
    λ s text within_type_range. room_twice c.args.options.doubles (form_in c.args.options.layout c.args.form) (bson_view c.args.self.now) s text within_type_range
