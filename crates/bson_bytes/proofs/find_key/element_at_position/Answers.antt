use Rattle.std.proofs.Common.{◌≤◌, length, subst}
use Rattle.std.specs.Prelude.{IfSome}
use Rattle.bson_bytes.proofs.Finding.{kept_found}
use Rattle.bson_bytes.proofs.find_key.element_at_position.Goals as goal

pub returns-in-Some-clause-last_value : goal.returns-in-Some-clause-last_value
returns-in-Some-clause-last_value c =
    λ d o h. kept_found d o c.args.bytes.now c.args.found_position c.in-Some.position c.first_element.result c.in-Some.is
    (subst (λ x. IfSome x (λ i. i ≤ length c.args.bytes.now)) c.in-Some.is c.requires) h (c.first_element.ensures.is_first_element d)
