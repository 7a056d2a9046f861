use Rattle.std.proofs.Common.{subst}
use Rattle.bson_scalar.specs.Forms.{form_in}
use Rattle.bson.specs.KeyOrders.{writes_in_key_order}
use Rattle.bson.specs.Texts.{ReturnsWrittenText}
use Rattle.bson.specs.View.{bson_view}
use Rattle.bson.proofs.OrderedTexts.{text_by, writable_by, finite_by}
use Rattle.bson.proofs.bson.Bson.to_text.Goals as goal

written : (c : goal.After-text_of) → ReturnsWrittenText c.text_of.result
    (writes_in_key_order c.args.options.key_order c.args.options.doubles (form_in c.args.options.layout c.args.form) (bson_view c.args.self.now))
written c =
    subst (λ f. ReturnsWrittenText c.text_of.result
    (writes_in_key_order c.args.options.key_order c.args.options.doubles f (bson_view c.args.self.now))) c.form.ensures
    c.text_of.ensures.written

pub returns-clause-text : goal.returns-clause-text
returns-clause-text c =
    text_by c.args.options.doubles (form_in c.args.options.layout c.args.form) (bson_view c.args.self.now) c.args.options.key_order c.text_of.result
    (written c) c.text_of.ensures.within_type_range c.text_of.ensures.distinct

pub returns-clause-writable : goal.returns-clause-writable
returns-clause-writable c =
    writable_by c.args.options.doubles (form_in c.args.options.layout c.args.form) (bson_view c.args.self.now) c.args.options.key_order c.text_of.result
    (written c)

pub returns-clause-finite : goal.returns-clause-finite
returns-clause-finite c =
    finite_by c.args.options.doubles (form_in c.args.options.layout c.args.form) (bson_view c.args.self.now) c.args.options.key_order c.text_of.result
    (written c)
