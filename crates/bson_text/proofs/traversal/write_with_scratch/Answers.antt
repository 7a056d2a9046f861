use Rattle.std.proofs.Common.{◌≡◌, [], Some, ap, ◌∙◌, subst}
use Rattle.json.specs.Json.{value}
use Rattle.json.specs.Lex.{tokens}
use Rattle.serde_json.specs.Read.{converted}
use Rattle.bson_model.specs.OrderedTrees.{tree_of_json}
use Rattle.bson_model.proofs.OfferedInOrder.{means_from, text_means}
use Rattle.bson_text.specs.TraversalResults.{ReadsTree}
use Rattle.bson_text.proofs.Objects.{last_read}
use Rattle.std.proofs.lemmas.Result.{err_from_is_err_and}
use Rattle.bson_tokens.proofs.Offered.{if_err, if_ok}
use Rattle.bson_text.specs.ErrorDenials.{ErrorRulesOutValue}
use Rattle.bson_text.specs.ErrorPaths.{LocatesValueError}
use Rattle.bson_text.proofs.Passing.{at_map}
use Rattle.bson_text.proofs.Wrapped.{first_fault}
use Rattle.bson_text.proofs.TextDenials.{more_behind}
use Rattle.bson_text.proofs.traversal.write_with_scratch.Goals as goal

pub returns-clause-ok : goal.returns-clause-ok
returns-clause-ok g c =
    let D = c.args.doubles in
    let text = c.args.text.now in
    let rest = c.write_value.new.self.reader in
    let W = g.W.ValueWriter in
    if_ok c.finish.result c.finish.ensures.ok (λ writer (last, same).
    let (t, v, read, means, wrote_value) = subst (λ ts. ReadsTree D (converted tree_of_json (value 127 ts)) rest
    (λ v. W.wrote_value c.args.writer [] v c.write_value.new.self.writer)) c.in_ok-reader.ensures.ok c.in_ok-write_value.ensures.ok in
    let tree = last_read (value 127 (tokens text)) t (read ∙ ap (λ l. Some (t, l)) last) in
    (v, text_means D text t v tree (means_from D t v means), rw same wrote_value))

pub returns-clause-stops : goal.returns-clause-stops
returns-clause-stops g c =
    if_err c.finish.result c.finish.ensures.stops (λ e (is, more).
    let rest = c.write_value.new.self.reader in
    let (t, v, read, means, wrote_value) = c.in_ok-write_value.ensures.ok in
    let here = subst (λ ts. converted tree_of_json (value 127 ts) ≡ Some (t, rest)) c.in_ok-reader.ensures.ok read in
    rw is (λ j is d. more_behind (value 127 (tokens c.args.text.now)) t rest j here more is))

pub returns-clause-located : goal.returns-clause-located
returns-clause-located g c = if_err c.finish.result c.finish.ensures.stops (λ e (is, more). rw is tt)

pub returns-in_err-write_value-clause-stops : goal.returns-in_err-write_value-clause-stops
returns-in_err-write_value-clause-stops g c =
    let e = c.in_err-write_value.field-0.0 in
    let p = err_from_is_err_and c.from_residual-in_err-write_value.result c.from_residual-in_err-write_value.ensures.1 in
    rw (p.1, p.2) (λ j is. subst (λ ts. ErrorRulesOutValue c.args.doubles (g.W.ValueWriter.may_give_up c.args.doubles) g.W.ValueWriter.sorts_keys e (value 127 ts)) c.in_ok-reader.ensures.ok
    c.in_err-write_value.ensures.fails.0 j [] is)

pub returns-in_err-write_value-clause-located : goal.returns-in_err-write_value-clause-located
returns-in_err-write_value-clause-located g c =
    let e = c.in_err-write_value.field-0.0 in
    let p = err_from_is_err_and c.from_residual-in_err-write_value.result c.from_residual-in_err-write_value.ensures.1 in
    rw (p.1, p.2) (at_map e _ _ (λ index at j t is rise of. first_fault c.args.doubles t index (at j [] t is rise of).1)
    (subst (λ ts. LocatesValueError c.args.doubles e (value 127 ts) c.write_value.new.self.reader) c.in_ok-reader.ensures.ok
    c.in_err-write_value.ensures.fails.1))
