use Rattle.std.proofs.Common.{◌≡◌, ◌<◌, ◌≤◌, length, option_map, string_bytes, sym, ap, ◌∙◌, arith, rules}
use Rattle.serde_json.specs.Data.{put}
use Rattle.serde_json.specs.View.{view, members_view}
use Rattle.serde_json.proofs.Views.{members_view-insert_entry}
use Rattle.bson_tokens.specs.WrapperContent.{at_most_two_members, member_added}
use Rattle.bson_tokens.proofs.Pruned.{few_long, few_short}
use Rattle.bson_tokens.proofs.wrapper_content.add_member.Goals as goal

pub returns-then-len-gt-MAX_KEYS : goal.returns-then-len-gt-MAX_KEYS
returns-then-len-gt-MAX_KEYS c =
    let k = c.args.key.now in
    let v = c.args.member in
    let es = c.insert.new.self.entries in
    let copied : string_bytes c.in_ok-from_str.field-0 ≡ k = search rules in
    let is : members_view es ≡ put k (view v) (members_view c.in-Some.members.entries) =
    ap members_view c.in_ok-insert.ensures.entries ∙ members_view-insert_entry c.in-Some.members.entries c.in_ok-from_str.field-0 v
    ∙ ap (λ l. put l (view v) (members_view c.in-Some.members.entries)) copied in
    let many : 2 < length es = grind arith in
    sym (ap (λ f. member_added k (view v) (option_map (λ m. members_view m.entries) f)) c.in-Some.is ∙ ap at_most_two_members (sym is)
    ∙ few_long es many)

pub returns : goal.returns
returns c =
    let k = c.args.key.now in
    let v = c.args.member in
    let es = c.insert.new.self.entries in
    let copied : string_bytes c.in_ok-from_str.field-0 ≡ k = search rules in
    let is : members_view es ≡ put k (view v) (members_view c.in-Some.members.entries) =
    ap members_view c.in_ok-insert.ensures.entries ∙ members_view-insert_entry c.in-Some.members.entries c.in_ok-from_str.field-0 v
    ∙ ap (λ l. put l (view v) (members_view c.in-Some.members.entries)) copied in
    let fit : length es ≤ 2 = grind arith in
    sym (ap (λ f. member_added k (view v) (option_map (λ m. members_view m.entries) f)) c.in-Some.is ∙ ap at_most_two_members (sym is)
    ∙ few_short es fit)
