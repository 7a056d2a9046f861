use Rattle.std.proofs.Common.{string_bytes, sym, ap, ◌∙◌}
use Rattle.serde_json.specs.View.{view}
use Rattle.bson_scalar.specs.Reading.{optional_wrapper_read_in}
use Rattle.bson_scalar.specs.Table.{wrapper_of}
use Rattle.bson_tree.proofs.Steps.{lone_place}
use Rattle.bson_tree.proofs.walk.build_single_key.Goals as goal

pub returns-in_ok-at_key-in-Err : goal.returns-in_ok-at_key-in-Err
returns-in_ok-at_key-in-Err g c =
    let D = c.args.doubles in
    let found = c.in_ok-at_key-in-Err in
    let is = c.in_ok-reason_of_error-in-Err.ensures
    (optional_wrapper_read_in D (wrapper_of c.as_str.result.now) (view c.args.value)) c.in-Err.ensures in
    lone_place D (string_bytes c.args.key) (view c.args.value) is.0 _ found.field-0 c.requires
    (ap (λ k. optional_wrapper_read_in D (wrapper_of k) (view c.args.value)) (sym c.as_str.ensures.value) ∙ is.1) is.2
    found.ensures.0 found.ensures.1
