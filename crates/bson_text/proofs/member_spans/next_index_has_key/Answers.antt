use Rattle.std.proofs.Common.{◌≡◌, suc, ◌+◌, ◌<◌, length, get_or, ap, ◌∙◌, add-one, arith}
use Rattle.std.specs.Str.{bytes_eq}
use Rattle.bson_text.proofs.Placing.{next_first}
use Rattle.bson_text.proofs.member_spans.next_index_has_key.Goals as goal

pub returns-in-Some : goal.returns-in-Some
returns-in-Some c =
    let position = c.args.position in
    let indexes = c.args.indexes.now.items in
    let n = c.in-Some.next_index.now in
    let found = c.in-Some.ensures.lookup in
    let within : suc position < length indexes = omega (arith, found.3.0, ap length c.deref.ensures.value) in
    let is : n ≡ get_or indexes (suc position) n =
    found.1 ∙ ap (λ l. get_or l (position + 1) n) c.deref.ensures.value ∙ ap (λ i. get_or indexes i n) (add-one position) in
    c.eq.ensures ∙ ap (λ l. bytes_eq l c.args.key.now) c.key_at.ensures
    ∙ next_first c.args.keys.now c.args.key.now indexes position n within is
