use Rattle.std.proofs.Common.{◌≡◌, length, sym, ◌∙◌}
use Rattle.std.proofs.lemmas.Bool.{false≢true}
use Rattle.bson_scalar.proofs.Members.{lone_more}
use Rattle.bson_scalar.proofs.tree_parts.only_member_value.Goals as goal

pub returns-then-not-is_empty : goal.returns-then-not-is_empty
returns-then-not-is_empty c =
    let no = c.if-not-is_empty.true in
    let some : length c.pop_first.new.self.entries ≡ 0 → ⊥ = λ e. false≢true (sym no ∙ c.is_empty.ensures.1 e) in
    lone_more c.args.key_name.now c.args.content.entries (c.in_ok-key.key, c.in_ok-key.value) _ c.in_ok-key.ensures.removal
    some
