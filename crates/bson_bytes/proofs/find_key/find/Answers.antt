use Rattle.std.proofs.Common.{◌-◌, arith}
use Rattle.bson_model.specs.Value.{value_at_key}
use Rattle.bson_bytes.specs.Grammar.{deduplicated}
use Rattle.bson_bytes.proofs.Finding.{finds_first, finds_last, finds_next}
use Rattle.bson_bytes.proofs.Passing.{later_within}
use Rattle.bson_bytes.proofs.find_key.find.Goals as goal

pub elements-init : goal.elements-init
elements-init c = record { finds = finds_first c.args.key.now c.args.bytes.now; in_bounds = tt }

pub returns-in_default-clause-last_value : goal.returns-in_default-clause-last_value
returns-in_default-clause-last_value c =
    λ d ps h. let f = c.elements.invariant.finds d ps h in (
      f.0,
      c.element_at_position.ensures.last_value (d - 1) _ (finds_last (d - 1) c.args.key.now _ _ _ f.1
          (c.in_default.ensures.outcome (d - 1))),
    )

pub elements-preserved : goal.elements-preserved
elements-preserved c = record {
  finds = λ d ps h. let f = c.elements.invariant.finds d ps h in (
    f.0,
    finds_next (d - 1) c.args.key.now c.args.bytes.now c.elements.found_position c.elements.position (value_at_key c.args.key.now (deduplicated ps)) f.1
        c.in-Some.name.now _ (c.in-Some.ensures.outcome (d - 1)) c.is_key.result c.later_position-found_position.result c.is_key.ensures c.later_position-found_position.ensures,
  );
  in_bounds = later_within c.is_key.result c.elements.position _ c.elements.found_position c.later_position-found_position.result c.later_position-found_position.ensures
      (omega (arith, c.in-Some.ensures.in_bounds)) c.elements.invariant.in_bounds;
}
