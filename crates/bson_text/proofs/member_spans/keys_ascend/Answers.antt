use Rattle.std.proofs.Common.{◌≡◌, suc, ◌∷◌, [], drop, get_or, map, option_map, sym, subst, arith, add-one, refl}
use Rattle.std.proofs.Math.Seq.{drop-cons}
use Rattle.std.proofs.lemmas.List.{drop_all}
use Rattle.bson_tokens.specs.PutMembers.{KeysAscendFrom}
use Rattle.bson_text.proofs.member_spans.keys_ascend.Goals as goal

pub loop-position-preserved : goal.loop-position-preserved
loop-position-preserved c =
    let ks = c.args.keys.now in
    let position = c.loop-position.position in
    let k = get_or ks position (record { ref_ptr = (0, 0); now = [] }) in
    let rest = drop (suc position) ks in
    let last_key = option_map (λ s. s.now) c.loop-position.last_key in
    let left : drop position ks ≡ k ∷ rest = drop-cons ks position _ (grind arith) in
    rw (add-one position) (
      λ up. c.loop-position.invariant.0
          (subst (λ l. KeysAscendFrom last_key (map (λ s. s.now) l)) (sym left) (c.key_follows.ensures.0 c.if-not-key_follows.false, up)),
      λ all. (subst (λ l. KeysAscendFrom last_key (map (λ s. s.now) l)) left (c.loop-position.invariant.1 all)).1,
    )

pub returns-then-not-key_follows : goal.returns-then-not-key_follows
returns-then-not-key_follows c =
    let ks = c.args.keys.now in
    let position = c.loop-position.position in
    let k = get_or ks position (record { ref_ptr = (0, 0); now = [] }) in
    let last_key = option_map (λ s. s.now) c.loop-position.last_key in
    let left : drop position ks ≡ k ∷ drop (suc position) ks = drop-cons ks position _ (grind arith) in (
      λ never. cc,
      λ all.
          let next = (subst (λ l. KeysAscendFrom last_key (map (λ s. s.now) l)) left (c.loop-position.invariant.1 all)).0 in
          let yes = c.key_follows.ensures.1 next in grind arith,
    )

pub returns : goal.returns
returns c =
    let ks = c.args.keys.now in
    let last_key = option_map (λ s. s.now) c.loop-position.last_key in
    let none : drop c.loop-position.position ks ≡ [] = drop_all c.loop-position.position ks (grind arith) in (
      λ is. c.loop-position.invariant.0 (subst (λ l. KeysAscendFrom last_key (map (λ s. s.now) l)) (sym none) tt),
      λ all. refl,
    )
