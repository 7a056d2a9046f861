use Rattle.std.proofs.Common.{◌≡◌, length, sym, ◌∙◌}
use Rattle.std.proofs.lemmas.Bool.{false≢true}
use Rattle.bson_scalar.proofs.Members.{two_more}
use Rattle.bson_scalar.proofs.tree_parts.two_member_values.Goals as goal

pub returns-then-not-is_empty : goal.returns-then-not-is_empty
returns-then-not-is_empty c =
    let no = c.if-not-is_empty.true in
    let some : length c.pop_first-2.new.self.entries ≡ 0 → ⊥ = λ e. false≢true (sym no ∙ c.is_empty.ensures.1 e) in
    two_more c.args.first_key.now c.args.second_key.now c.args.members.entries (c.in_ok-key.key, c.in_ok-key.value)
    (c.in_ok-other_key.other_key, c.in_ok-other_key.other_value) _ _ c.in_ok-key.ensures.removal c.in_ok-other_key.ensures.removal some
