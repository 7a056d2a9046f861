use Rattle.std.proofs.Common.{◌≡◌, true, false, ◌&&◌, is_some, arith, sym, ap, ◌∙◌, subst}
use Rattle.bson_text.specs.ErrorPaths.{IsPlaceOfMember}
use Rattle.bson_text.proofs.Passing.{at_map}
use Rattle.bson_text.proofs.error_paths.error_in_member.Goals.{then-is_document+in_default-later_wrapper, else-is_document}
use Rattle.bson_text.proofs.error_paths.error_in_member.Goals as goal

pub returns-in-Some-clause-located : goal.returns-in-Some-clause-located
returns-in-Some-clause-located c =
    let both : (c.args.is_document && is_some c.in-Ok.later_wrapper) ≡ true =
    ap (λ b. b && is_some c.in-Ok.later_wrapper) c.if-is_document.true ∙ ap (λ o. true && is_some o) c.in-Some.is in
    at_map c.wrong_shape_here.result _ _ (λ q shape. (
      c.in-Fault.place,
      is_some c.in-Ok.later_wrapper,
      c.in-Fault.is,
      c.in-Ok.ensures,
      subst (λ b. IsPlaceOfMember b c.args.key.now c.in-Fault.place.value q) (sym both) shape,
    )) c.wrong_shape_here.ensures.located

pub returns-in-Ok-place_at_key-clause-located : goal.returns-in-Ok-place_at_key-clause-located
returns-in-Ok-place_at_key-clause-located c =
    let both : (c.args.is_document && is_some c.in-Ok.later_wrapper) ≡ false = elim c.if-is_document.branch [
      | then-is_document+in_default-later_wrapper w ↦ grind arith
      | else-is_document w ↦ grind arith
    ] in (
      c.in-Fault.place,
      is_some c.in-Ok.later_wrapper,
      c.in-Fault.is,
      c.in-Ok.ensures,
      subst (λ b. IsPlaceOfMember b c.args.key.now c.in-Fault.place.value c.in-Ok-place_at_key.place.value) (sym both)
          (c.in-Ok-place_at_key.ensures.path, c.in-Ok-place_at_key.ensures.reason),
    )
