use Rattle.std.proofs.Common.{◌≡◌, ◌∷◌, arith, ap, ◌∙◌}
use Rattle.json.specs.Reads.{token_of}
use Rattle.bson_text.proofs.Passing.{at_map}
use Rattle.bson_text.proofs.Scopes.{primitive_passed, array_passed}
use Rattle.bson_text.proofs.wrapper_parts.read_scope.Goals as goal

pub returns-in-String-clause-located : goal.returns-in-String-clause-located
returns-in-String-clause-located c =
    let first : c.args.reader.now ≡ token_of c.in_ok-token.token ∷ c.next.new.self = grind arith in
    at_map c.wrong_shape_at_key.result _ _ (λ q (shape, passed).
    let h = primitive_passed c.args.level.depth c.in_ok-token.token c.args.reader.now c.next.new.self c.wrong_shape_at_key.new.reader first
    c.in-String.is passed in (shape, h.0, h.1)) c.wrong_shape_at_key.ensures.located

pub returns-in-Ok-clause-located : goal.returns-in-Ok-clause-located
returns-in-Ok-clause-located c =
    let first : c.args.reader.now ≡ token_of c.in_ok-token.token ∷ c.next.new.self = grind arith in
    let starts = first ∙ ap (λ k. token_of k ∷ c.next.new.self) c.in-BeginArray.is in
    at_map c.wrong_shape_at_key-in-BeginArray.result _ _ (λ q (shape, passed).
    let h = array_passed c.args.level.depth c.args.reader.now c.next.new.self c.skip_items.new.reader c.wrong_shape_at_key-in-BeginArray.new.reader
    starts (omega arith) c.in-Ok.ensures passed in (shape, h.0, h.1)) c.wrong_shape_at_key-in-BeginArray.ensures.located
