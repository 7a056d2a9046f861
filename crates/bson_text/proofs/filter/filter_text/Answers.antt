use Rattle.std.proofs.Common.{◌≡◌, IfErr, IfOk, subst, sym}
use Rattle.bson_model.specs.declared.options.KeyOrder.TheVariants.{Ascending, AsGiven}
use Rattle.bson_scalar.specs.Forms.{form_in}
use Rattle.bson_scalar.specs.declared.form.Doubles.TheVariants.{Finite}
use Rattle.bson_text.specs.OutputTexts.{IsFilteredText}
use Rattle.bson_text.specs.RejectedText.{IsRejectedText, SortsKeys}
use Rattle.bson_text.proofs.filter.filter_text.Goals as goal

pub returns-in-Ascending-clause-ok : goal.returns-in-Ascending-clause-ok
returns-in-Ascending-clause-ok c =
    let D = c.args.options.doubles in
    let text = c.args.text.now in
    let in_form = subst (λ f. IfOk c.sort_text.result (λ w. IsFilteredText Ascending D f text w.items)) c.form-form.ensures
    c.sort_text.ensures.ok in
    subst (λ k. IfOk c.sort_text.result (λ w. IsFilteredText k D (form_in c.args.options.layout c.args.form) text w.items))
    (sym c.in-Ascending.is) in_form

pub returns-in-Ascending-clause-accepts : goal.returns-in-Ascending-clause-accepts
returns-in-Ascending-clause-accepts c =
    let D = c.args.options.doubles in
    subst (λ k. IfErr c.sort_text.result (IsRejectedText D (D ≡ Finite) (SortsKeys k) c.args.text.now))
    (sym c.in-Ascending.is) c.sort_text.ensures.accepts

pub returns-in-AsGiven-clause-ok : goal.returns-in-AsGiven-clause-ok
returns-in-AsGiven-clause-ok c =
    let D = c.args.options.doubles in
    let text = c.args.text.now in
    let in_form = subst (λ f. IfOk c.order_text.result (λ w. IsFilteredText AsGiven D f text w.items)) c.form-form.ensures
    c.order_text.ensures.ok in
    subst (λ k. IfOk c.order_text.result (λ w. IsFilteredText k D (form_in c.args.options.layout c.args.form) text w.items))
    (sym c.in-AsGiven.is) in_form

pub returns-in-AsGiven-clause-accepts : goal.returns-in-AsGiven-clause-accepts
returns-in-AsGiven-clause-accepts c =
    let D = c.args.options.doubles in
    subst (λ k. IfErr c.order_text.result (IsRejectedText D (D ≡ Finite) (SortsKeys k) c.args.text.now))
    (sym c.in-AsGiven.is) c.order_text.ensures.accepts
