use Rattle.std.proofs.Common.{◌++◌, refl, ap, ◌∙◌, subst}
use Rattle.bson_tokens.specs.NormalizerStates.{SpansNormalized}
use Rattle.bson_tokens.proofs.Behind.{normalized_anew, body_is, front_is, stays_normalized}
use Rattle.bson_tokens.proofs.normalizer.Normalizer.normalize_members.Goals as goal

pub returns-in_ok-extend_from_slice : goal.returns-in_ok-extend_from_slice
returns-in_ok-extend_from_slice c =
    let old = c.args.self.now in (
      refl,
      refl,
      λ front rest es is begun stand. (
        c.in-Some.normalized.items,
        c.in_ok-extend_from_slice.ensures.items
            ∙ ap (λ l. l ++ c.deref-in-Some.result.now) (c.truncate.ensures.items ∙ front_is old.text.items front rest c.args.object_start is begun)
            ∙ ap (λ l. front ++ l) c.deref-in-Some.ensures.value,
        normalized_anew old.key_order rest c.args.spans.now.items c.normalize_spans.new.spans.items
            c.in_ok-normalized.field-0 c.in-Some.normalized c.in-Some.is es stand
            (subst (λ b. SpansNormalized old.key_order b c.args.spans.now.items c.normalize_spans.new.spans.items
            c.in_ok-normalized.field-0) (body_is old.text.items c.deref.result.now front rest c.args.object_start is begun c.deref.ensures.value) c.in_ok-normalized.ensures),
      ),
    )

pub returns-in_default : goal.returns-in_default
returns-in_default c =
    let old = c.args.self.now in (
      refl,
      refl,
      λ front rest es is begun stand. (
        rest,
        is,
        stays_normalized old.key_order rest c.args.spans.now.items c.normalize_spans.new.spans.items
            c.in_ok-normalized.field-0 c.in_default.not-Some es stand
            (subst (λ b. SpansNormalized old.key_order b c.args.spans.now.items c.normalize_spans.new.spans.items
            c.in_ok-normalized.field-0) (body_is old.text.items c.deref.result.now front rest c.args.object_start is begun c.deref.ensures.value) c.in_ok-normalized.ensures),
      ),
    )
