use Rattle.std.proofs.Common.{◌≡◌, ◌-◌, suc, string_bytes, nat_cmp, Equal, Greater, sym, ap, ◌∙◌, subst, arith}
use Rattle.std.specs.Cmp.Lexicographic.{slice_cmp}
use Rattle.bson.specs.SortedMembers.{IsInsertionPoint}
use Rattle.bson.proofs.Members.{key_at, IsBelowAt, stands, fits, fits_first}
use Rattle.bson.proofs.extjson.text_reader.sorted_members.find_from_end.Goals as goal

pub returns-in-Equal : goal.returns-in-Equal
returns-in-Equal c =
    let k = c.args.key.now in
    let ms = c.args.unique_members.now.items in
    let m = c.index.result.now in
    let equal : slice_cmp nat_cmp k (key_at ms (c.walk.member_index - 1) m) ≡ Equal =
    ap (λ x. slice_cmp nat_cmp k (string_bytes x.key)) (sym c.index.ensures)
    ∙ ap (slice_cmp nat_cmp k) (sym c.as_str.ensures.value) ∙ sym c.cmp.ensures ∙ c.in-Equal.is in
    stands k ms (c.walk.member_index - 1) m c.requires (omega (arith, c.walk.invariant.0, c.walk-test.true)) equal

pub returns-in-Greater : goal.returns-in-Greater
returns-in-Greater c =
    let k = c.args.key.now in
    let ms = c.args.unique_members.now.items in
    let m = c.index.result.now in
    let i = c.walk.member_index - 1 in
    let next : c.walk.member_index ≡ suc i = omega (arith, c.walk-test.true) in
    let above : slice_cmp nat_cmp k (key_at ms i m) ≡ Greater =
    ap (λ x. slice_cmp nat_cmp k (string_bytes x.key)) (sym c.index.ensures)
    ∙ ap (slice_cmp nat_cmp k) (sym c.as_str.ensures.value) ∙ sym c.cmp.ensures ∙ c.in-Greater.is in
    subst (IsInsertionPoint k ms) (sym next)
    (fits k ms i m c.requires (omega (arith, c.walk.invariant.0, c.walk-test.true)) above
    (subst (IsBelowAt k ms) next c.walk.invariant.1))

pub returns : goal.returns
returns c =
    let k = c.args.key.now in
    let ms = c.args.unique_members.now.items in
    fits_first k ms (subst (IsBelowAt k ms) (omega (arith, c.walk-test.false)) c.walk.invariant.1)
