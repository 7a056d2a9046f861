use Rattle.std.proofs.Common.{Some, map, refl, sym, ap, ◌∙◌, subst}
use Rattle.bson_scalar.specs.Faults.{IsReadError, wrong_id}
use Rattle.bson_tree.specs.Place.{segment_of}
use Rattle.bson_tokens.specs.FirstFault.{scalar_fault}
use Rattle.bson_text.specs.ErrorPaths.{IsPlaceOfFault}
use Rattle.bson_text.proofs.Passing.{at_map}
use Rattle.bson_text.proofs.error_paths.scalar_error.Goals as goal

pub returns-in-InvalidObjectId-clause-located : goal.returns-in-InvalidObjectId-clause-located
returns-in-InvalidObjectId-clause-located c = λ r fails.
    let f = subst (λ x. IsReadError x r) c.in-InvalidObjectId.is fails in
    at_map c.error_at.result _ (IsPlaceOfFault (scalar_fault r)) (λ q is. subst (IsPlaceOfFault (scalar_fault r)) (sym is) (record {
      fault = wrong_id f.0;
      path = ap scalar_fault f.1 ∙ ap (λ xs. Some (wrong_id f.0, map segment_of xs)) (sym c.new.ensures.items);
      reason = (f.0, refl, f.2);
    })) c.error_at.ensures.located
