use Rattle.std.proofs.Common.{MatchResult, string_bytes, ◌∙◌, ap, subst, arith}
use Rattle.bson.specs.SortedMembers.{pairs_of_members, IsKeyAt, IsInsertionPoint}
use Rattle.bson.proofs.Members.{stands_within, fits_within, seen_set, seen_insert}
use Rattle.bson.proofs.extjson.text_reader.sorted_members.insert_or_replace.Goals as goal

pub index_mut-requires : goal.index_mut-requires
index_mut-requires c =
    let k = string_bytes c.args.key in
    let ms = c.args.members.now.items in
    let stands : IsKeyAt k ms c.in-Ok.member_index = subst (λ r. MatchResult r (IsKeyAt k ms) (IsInsertionPoint k ms)) c.in-Ok.is
    c.requires in
    omega (arith, stands_within k ms c.in-Ok.member_index stands, c.args.members.now.ok.0)

pub insert-requires : goal.insert-requires
insert-requires c =
    let k = string_bytes c.args.key in
    let ms = c.args.members.now.items in
    let fits : IsInsertionPoint k ms c.in-Err.member_index = subst (λ r. MatchResult r (IsKeyAt k ms) (IsInsertionPoint k ms)) c.in-Err.is
    c.requires in
    omega (arith, fits_within k ms c.in-Err.member_index fits, c.args.members.now.ok.0)

pub returns-in-Ok : goal.returns-in-Ok
returns-in-Ok c =
    let k = string_bytes c.args.key in
    let ms = c.args.members.now.items in
    seen_set c.args.key c.args.value ms c.in-Ok.member_index
    (subst (λ r. MatchResult r (IsKeyAt k ms) (IsInsertionPoint k ms)) c.in-Ok.is c.requires)

pub returns-in_ok-insert-in-Err : goal.returns-in_ok-insert-in-Err
returns-in_ok-insert-in-Err c =
    let k = string_bytes c.args.key in
    let ms = c.args.members.now.items in
    ap pairs_of_members c.in_ok-insert-in-Err.ensures.items
    ∙ seen_insert c.args.key c.args.value ms c.in-Err.member_index
    (subst (λ r. MatchResult r (IsKeyAt k ms) (IsInsertionPoint k ms)) c.in-Err.is c.requires)
