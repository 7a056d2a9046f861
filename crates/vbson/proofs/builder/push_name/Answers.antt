use Rattle.std.proofs.Common.{subst, ◌∷◌, [], ◌++◌}
use Rattle.vbson.specs.Builder.{IsAppended}
use Rattle.vbson.proofs.Appending.{both}
use Rattle.vbson.proofs.builder.push_name.Goals as goal

pub returns-clause-push_bytes : goal.returns-clause-push_bytes
returns-clause-push_bytes c =
    let key = c.args.element.key.now in
    let first = c.push_bytes.new.builder in
    let last = c.push_bytes-3.new.builder in
    let name = both (c.tag.result ∷ []) (key ++ 0 ∷ []) c.args.builder.now first last c.push_bytes.ensures.push_bytes (both key (0 ∷ []) first c.push_bytes-2.new.builder last c.push_bytes-2.ensures.push_bytes c.push_bytes-3.ensures.push_bytes) in
    subst (λ t. IsAppended (t ∷ (key ++ 0 ∷ [])) c.args.builder.now last) c.tag.ensures name
