use Rattle.std.proofs.Common.{◌≡◌, Some, None, arith, ap, ◌∙◌, option_map}
use Rattle.json.specs.Json.{read_key}
use Rattle.bson_text.proofs.Passing.{at_map}
use Rattle.bson_text.proofs.Scopes.{seen_end, seen_more}
use Rattle.bson_text.proofs.error_paths.error_in_scope.Goals as goal

pub returns-in-Ok-clause-located : goal.returns-in-Ok-clause-located
returns-in-Ok-clause-located c =
    let ended : read_key c.args.reader.now ≡ Some (None, c.next_key.new.self) = grind arith in (
      c.in-Fault.place,
      c.in-Fault.is,
      λ n ms r is. seen_end c.args.level.depth n c.args.reader.now c.next_key.new.self r ms c.in-Fault.place.value c.in-Ok.place.value ended is
          (c.in-Ok.ensures.path, c.in-Ok.ensures.reason),
    )

pub returns-in-Ok-Some-clause-located : goal.returns-in-Ok-Some-clause-located
returns-in-Ok-Some-clause-located c =
    let k = c.in-Ok-Some.field-0-0.now in
    let named : read_key c.args.reader.now ≡ Some (Some k, c.next_key.new.self) =
    c.in-Ok-Some.ensures.value ∙ ap (λ o. Some (option_map (λ x. x.now) o, c.next_key.new.self)) c.in-Ok-Some.field-0-is in
    at_map c.wrong_shape_at_value.result _ _ (λ q (shape, passed). (
      c.in-Fault.place,
      c.in-Fault.is,
      λ n ms r is. seen_more c.args.level.depth n c.args.reader.now c.next_key.new.self c.wrong_shape_at_value.new.reader r k ms c.in-Fault.place.value q
          named is passed shape,
    )) c.wrong_shape_at_value.ensures.located
