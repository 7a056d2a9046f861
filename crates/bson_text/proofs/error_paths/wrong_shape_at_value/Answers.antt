use Rattle.json.specs.Json.{value}
use Rattle.bson_text.proofs.Passing.{at_map, step_on}
use Rattle.bson_text.proofs.error_paths.wrong_shape_at_value.Goals as goal

pub returns-clause-located : goal.returns-clause-located
returns-clause-located c = at_map c.wrong_shape_at_key.result _ _ (λ q (shape, passed). (
  shape,
  λ n l ms r is.
      let g = step_on (value c.args.level.depth) n l c.args.reader.now c.skip_value.new.self r ms is c.in-Ok.ensures.value in
      passed n g.0 r g.1,
)) c.wrong_shape_at_key.ensures.located
