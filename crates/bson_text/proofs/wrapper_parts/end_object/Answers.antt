use Rattle.std.proofs.Common.{◌≡◌, Some, true, false, option_map, sym, ap, ◌∙◌, subst}
use Rattle.json.specs.Json.{read_key}
use Rattle.bson_text.proofs.Passing.{at_map}
use Rattle.bson_text.proofs.Becoming.{end_not, end_became}
use Rattle.bson_text.proofs.Scopes.{more_end}
use Rattle.bson_text.proofs.wrapper_parts.end_object.Goals.{then-code_follows_scope+in_ok-skip_code_after_scope, else-code_follows_scope}
use Rattle.bson_text.specs.declared.traversal_error.TraversalError.TheVariants as failure
use Rattle.bson_text.proofs.wrapper_parts.end_object.Goals as goal

pub returns-in-Some-clause-located : goal.returns-in-Some-clause-located
returns-in-Some-clause-located c = λ first.
    let same : c.if-code_follows_scope.reader ≡ c.args.reader.now = elim c.if-code_follows_scope.branch [
      | then-code_follows_scope+in_ok-skip_code_after_scope w ↦ (let never : true ≡ false = sym w.if-code_follows_scope.true ∙ first in cc)
      | else-code_follows_scope w ↦ w.reader-is
    ] in
    let k = c.in-Some.field-0.now in
    let s = c.next_key.new.self in
    let named : read_key c.if-code_follows_scope.reader ≡ Some (Some k, s) =
    c.in_ok-extra_key.ensures.value ∙ ap (λ o. Some (option_map (λ x. x.now) o, s)) c.in-Some.is in
    at_map c.wrong_shape_at_value.result _ _ (λ q (shape, passed). (
      shape,
      λ n ms r is. more_end c.args.level.depth n c.args.reader.now s c.wrong_shape_at_value.new.reader r k ms
          (subst (λ x. read_key x ≡ Some (Some k, s)) same named) is passed,
    )) c.wrong_shape_at_value.ensures.located

pub returns-in-Some-clause-stops : goal.returns-in-Some-clause-stops
returns-in-Some-clause-stops c =
    let k = c.in-Some.field-0.now in
    let s = c.next_key.new.self in
    let named : read_key c.if-code_follows_scope.reader ≡ Some (Some k, s) =
    c.in_ok-extra_key.ensures.value ∙ ap (λ o. Some (option_map (λ x. x.now) o, s)) c.in-Some.is in
    let at : c.args.code_follows_scope ≡ false → read_key c.args.reader.now ≡ Some (Some k, s) = λ first.
    let same : c.if-code_follows_scope.reader ≡ c.args.reader.now = elim c.if-code_follows_scope.branch [
      | then-code_follows_scope+in_ok-skip_code_after_scope w ↦ (let never : true ≡ false = sym w.if-code_follows_scope.true ∙ first in cc)
      | else-code_follows_scope w ↦ w.reader-is
    ] in subst (λ x. read_key x ≡ Some (Some k, s)) same named in
    end_became failure.Syntax c.wrong_shape_at_value.result c.args.code_follows_scope c.args.reader.now c.wrong_shape_at_value.ensures.kind
    (λ d. end_not c.args.code_follows_scope c.args.reader.now s k at d.1)
