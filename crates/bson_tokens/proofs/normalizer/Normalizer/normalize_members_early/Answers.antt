use Rattle.std.proofs.Common.{refl}
use Rattle.bson_tokens.proofs.NormalizedSpans.{settled_alike}
use Rattle.bson_tokens.proofs.normalizer.Normalizer.normalize_members_early.Goals as goal

pub returns-then-len-member_limit : goal.returns-then-len-member_limit
returns-then-len-member_limit c = (refl, refl, λ front body es is begun stand. (body, es, is, stand, refl, refl))

pub returns : goal.returns
returns c = (
  c.in_ok-normalize_members.ensures.0,
  c.in_ok-normalize_members.ensures.1,
  λ front body es is begun stand.
      let (t, text, (fs, there, put)) = c.in_ok-normalize_members.ensures.2 front body es is begun stand in
      let same = settled_alike c.args.self.now.key_order es fs put in
      (t, fs, text, there, same.0, same.1),
)
