use Rattle.std.proofs.Common.{◌≡◌, ◌+◌, [], ◌∷◌, Some, None, refl, sym, ap, ◌∙◌, arith, not}
use Rattle.std.proofs.lemmas.Result.{err_from_is_err_and}
use Rattle.json.specs.Json.{array, object, item, member, no_items, no_members, parse_map, after_end_array, read_key}
use Rattle.json.specs.Json.{value}
use Rattle.json.specs.Reads.{token_of}
use Rattle.json.proofs.Grammar.{after_end_array-shorter, read_key-shorter, value_is}
use Rattle.bson_tree.specs.Place.{element}
use Rattle.bson_tokens.specs.DuplicateKeyPath.{member_path, first_duplicate, first_duplicate_in_items, first_duplicate_in_members, first_path, is_among, path_of_result, append_segment}
use Rattle.bson_tokens.proofs.Keys.{holds_more, holds_none, is_new}
use Rattle.bson_tokens.proofs.Relations.{or_or, or_none}
use Rattle.bson_tokens.proofs.Reading.{array_opened, begun, item_passed, items_broken, items_ended, member_broken}
use Rattle.bson_tokens.proofs.Reading.{member_passed, members_ended, no_key, none_begins, object_opened, plain_begins}
use Rattle.bson_tokens.proofs.Reading.{too_deep_array, too_deep_object}
use Rattle.bson_tokens.proofs.find_duplicate.+walk.Goals as goal

pub find_in_value-returns-in-String-clause-ok : goal.find_in_value-returns-in-String-clause-ok
find_in_value-returns-in-String-clause-ok t c =
    let first : c.args.reader.now ≡ token_of c.in_ok-token.token ∷ c.next.new.self = grind arith in
    plain_begins c.args.depth c.in_ok-token.token c.args.reader.now c.next.new.self first c.in-String.is

pub find_in_value-returns-in_ok-find_in_items-in-BeginArray-clause-ok :
    goal.find_in_value-returns-in_ok-find_in_items-in-BeginArray-clause-ok
find_in_value-returns-in_ok-find_in_items-in-BeginArray-clause-ok t c =
    let first : c.args.reader.now ≡ token_of c.in_ok-token.token ∷ c.next.new.self = grind arith in
    let opened =
    array_opened c.args.depth c.args.reader.now c.next.new.self
    (first ∙ ap (λ k. token_of k ∷ c.next.new.self) c.in-BeginArray.is) (omega arith) in
    let js = c.in_ok-find_in_items-in-BeginArray.ensures.ok in
    (array js.0, opened ∙ ap (parse_map array) js.1, js.2)

pub find_in_value-returns-in_ok-find_in_members-in-BeginObject-clause-ok :
    goal.find_in_value-returns-in_ok-find_in_members-in-BeginObject-clause-ok
find_in_value-returns-in_ok-find_in_members-in-BeginObject-clause-ok t c =
    let first : c.args.reader.now ≡ token_of c.in_ok-token.token ∷ c.next.new.self = grind arith in
    let opened =
    object_opened c.args.depth c.args.reader.now c.next.new.self
    (first ∙ ap (λ k. token_of k ∷ c.next.new.self) c.in-BeginObject.is) (omega arith) in
    let ms = c.in_ok-find_in_members-in-BeginObject.ensures.ok in
    (object ms.0, opened ∙ ap (parse_map object) ms.1, ms.2)

pub find_in_items-items-init : goal.find_in_items-items-init
find_in_items-items-init t c = (λ js. js, begun _ c.args.reader.now, λ js. refl)

pub find_in_items-items-preserved : goal.find_in_items-items-preserved
find_in_items-items-preserved t c =
    let l = c.items in
    let front = l.invariant.0 in
    let r = c.find_in_value.new.reader in
    let j = c.in_ok-path_in_item.ensures.ok in
    let v = path_of_result l.earliest_path in
    let w = append_segment (element l.item_index) (first_duplicate j.0) in
    let going : (after_end_array l.reader ≡ None) × (c.take_end_array.new.self ≡ l.reader) = grind arith in
    let now : path_of_result c.in_ok-earliest_path.earliest_path ≡ first_path v w =
    c.in_ok-earliest_path.ensures ∙ ap (λ x. first_path v (append_segment (element l.item_index) x)) j.2 in
    let next : l.item_index + 1 ≡ c.in_ok-item_index.item_index = grind arith in (
      λ js. front (item j.0 js),
      item_passed (value c.args.depth) c.args.reader.now front l.reader l.invariant.1 c.take_end_array.new.self r j.0
          going.0 going.1 j.1 c.in_ok-path_in_item.ensures.shorter,
      λ js. l.invariant.2 (item j.0 js) ∙ sym (or_or v w (first_duplicate_in_items (l.item_index + 1) js))
          ∙ ap (λ x. first_path x (first_duplicate_in_items (l.item_index + 1) js)) (sym now)
          ∙ ap (λ n. first_path (path_of_result c.in_ok-earliest_path.earliest_path) (first_duplicate_in_items n js)) next,
    )

pub find_in_items-returns-clause-ok : goal.find_in_items-returns-clause-ok
find_in_items-returns-clause-ok t c =
    let l = c.items in
    let front = l.invariant.0 in (
      front no_items,
      items_ended (value c.args.depth) c.args.reader.now front l.reader l.invariant.1 c.take_end_array.new.self
          (grind arith),
      sym (l.invariant.2 no_items ∙ or_none (path_of_result l.earliest_path)),
    )

pub find_in_items-returns-clause-shorter : goal.find_in_items-returns-clause-shorter
find_in_items-returns-clause-shorter t c =
    let l = c.items in
    let fewer = after_end_array-shorter l.reader c.take_end_array.new.self (grind arith) in
    omega (arith, fewer, l.invariant.1.shorter)

pub find_in_members-members-init : goal.find_in_members-members-init
find_in_members-members-init t c =
    (λ ms. ms, begun _ c.args.reader.now, [], holds_none c.new-keys.result c.new-keys.ensures.empty, λ ms. refl)

pub find_in_members-members-preserved : goal.find_in_members-members-preserved
find_in_members-members-preserved t c =
    let l = c.members in
    let front = l.invariant.0 in
    let before = l.invariant.2 in
    let key = c.in-Some.member_key in
    let k = key.now in
    let s = c.next_key.new.self in
    let r = c.find_in_value.new.reader in
    let j = c.in_ok-path_in_value.ensures.ok in
    let v = path_of_result l.earliest_path in
    let w = member_path (not (is_among before k)) k (first_duplicate j.0) in
    let named : read_key l.reader ≡ Some (Some k, s) = grind arith in
    let new = is_new l.keys key before c.in-Ok.is_new l.invariant.3 c.in-Ok.ensures.added in
    let now : path_of_result c.in_ok-earliest_path.earliest_path ≡ first_path v w =
    c.in_ok-earliest_path.ensures ∙ ap (λ x. first_path v (member_path c.in-Ok.is_new k x)) j.2
    ∙ ap (λ b. first_path v (member_path b k (first_duplicate j.0))) new in (
      λ ms. front (member k j.0 ms),
      member_passed (value c.args.depth) c.args.reader.now front l.reader l.invariant.1 k s r j.0 named j.1
          c.in_ok-path_in_value.ensures.shorter,
      k ∷ before,
      holds_more l.keys c.insert.new.self key before l.invariant.3 c.in-Ok.ensures.updates,
      λ ms. l.invariant.4 (member k j.0 ms) ∙ sym (or_or v w (first_duplicate_in_members (k ∷ before) ms))
          ∙ ap (λ x. first_path x (first_duplicate_in_members (k ∷ before) ms)) (sym now),
    )

pub find_in_members-returns-clause-ok : goal.find_in_members-returns-clause-ok
find_in_members-returns-clause-ok t c =
    let l = c.members in
    let front = l.invariant.0 in (
      front no_members,
      members_ended (value c.args.depth) c.args.reader.now front l.reader l.invariant.1 c.next_key.new.self
          (grind arith),
      sym (l.invariant.4 no_members ∙ or_none (path_of_result l.earliest_path)),
    )

pub find_in_members-returns-clause-shorter : goal.find_in_members-returns-clause-shorter
find_in_members-returns-clause-shorter t c =
    let l = c.members in
    let fewer = read_key-shorter l.reader None c.next_key.new.self (grind arith) in
    omega (arith, fewer, l.invariant.1.shorter)

-- ---- where the text breaks

pub find_in_value-returns-in_err-token-clause-broken : goal.find_in_value-returns-in_err-token-clause-broken
find_in_value-returns-in_err-token-clause-broken t c =
    let none : c.args.reader.now ≡ [] = grind arith in
    let p = err_from_is_err_and c.from_residual.result c.from_residual.ensures.1 in
    rw p.1 (λ broken. ap (value c.args.depth) none ∙ value_is c.args.depth [])

pub find_in_value-returns-then-depth-eq0-clause-broken : goal.find_in_value-returns-then-depth-eq0-clause-broken
find_in_value-returns-then-depth-eq0-clause-broken t c =
    let first : c.args.reader.now ≡ token_of c.in_ok-token.token ∷ c.next.new.self = grind arith in
    λ broken. too_deep_array c.args.depth c.args.reader.now c.next.new.self
    (first ∙ ap (λ k. token_of k ∷ c.next.new.self) c.in-BeginArray.is) (omega arith)

pub find_in_value-returns-then-depth-eq0-2-clause-broken : goal.find_in_value-returns-then-depth-eq0-2-clause-broken
find_in_value-returns-then-depth-eq0-2-clause-broken t c =
    let first : c.args.reader.now ≡ token_of c.in_ok-token.token ∷ c.next.new.self = grind arith in
    λ broken. too_deep_object c.args.depth c.args.reader.now c.next.new.self
    (first ∙ ap (λ k. token_of k ∷ c.next.new.self) c.in-BeginObject.is) (omega arith)

pub find_in_value-returns-in_err-find_in_items-in-BeginArray-clause-broken :
    goal.find_in_value-returns-in_err-find_in_items-in-BeginArray-clause-broken
find_in_value-returns-in_err-find_in_items-in-BeginArray-clause-broken t c =
    let first : c.args.reader.now ≡ token_of c.in_ok-token.token ∷ c.next.new.self = grind arith in
    let opened =
    array_opened c.args.depth c.args.reader.now c.next.new.self
    (first ∙ ap (λ k. token_of k ∷ c.next.new.self) c.in-BeginArray.is) (omega arith) in
    let returned = c.from_residual-in_err-find_in_items-in-BeginArray in
    let p = err_from_is_err_and returned.result returned.ensures.1 in
    rw (p.1, p.2) (λ broken. opened ∙ ap (parse_map array) (c.in_err-find_in_items-in-BeginArray.ensures.broken broken))

pub find_in_value-returns-in_err-find_in_members-in-BeginObject-clause-broken :
    goal.find_in_value-returns-in_err-find_in_members-in-BeginObject-clause-broken
find_in_value-returns-in_err-find_in_members-in-BeginObject-clause-broken t c =
    let first : c.args.reader.now ≡ token_of c.in_ok-token.token ∷ c.next.new.self = grind arith in
    let opened =
    object_opened c.args.depth c.args.reader.now c.next.new.self
    (first ∙ ap (λ k. token_of k ∷ c.next.new.self) c.in-BeginObject.is) (omega arith) in
    let returned = c.from_residual-in_err-find_in_members-in-BeginObject in
    let p = err_from_is_err_and returned.result returned.ensures.1 in
    rw (p.1, p.2) (λ broken. opened
    ∙ ap (parse_map object) (c.in_err-find_in_members-in-BeginObject.ensures.broken broken))

pub find_in_value-returns-in-EndObject-clause-broken : goal.find_in_value-returns-in-EndObject-clause-broken
find_in_value-returns-in-EndObject-clause-broken t c =
    let first : c.args.reader.now ≡ token_of c.in_ok-token.token ∷ c.next.new.self = grind arith in
    λ broken. none_begins c.args.depth c.in_ok-token.token c.args.reader.now c.next.new.self first c.in-EndObject.is

pub find_in_items-returns-in_err-path_in_item-clause-broken : goal.find_in_items-returns-in_err-path_in_item-clause-broken
find_in_items-returns-in_err-path_in_item-clause-broken t c =
    let l = c.items in
    let going : (after_end_array l.reader ≡ None) × (c.take_end_array.new.self ≡ l.reader) = grind arith in
    let p = err_from_is_err_and c.from_residual.result c.from_residual.ensures.1 in
    rw (p.1, p.2) (λ broken. items_broken (value c.args.depth) c.args.reader.now l.invariant.0 l.reader l.invariant.1
    c.take_end_array.new.self going.0 going.1 (c.in_err-path_in_item.ensures.broken broken))

pub find_in_members-returns-in_err-member_key-clause-broken : goal.find_in_members-returns-in_err-member_key-clause-broken
find_in_members-returns-in_err-member_key-clause-broken t c =
    let l = c.members in
    let p = err_from_is_err_and c.from_residual.result c.from_residual.ensures.1 in
    rw p.1 (λ broken. no_key (value c.args.depth) c.args.reader.now l.invariant.0 l.reader l.invariant.1 (grind arith))

pub find_in_members-returns-in_err-path_in_value-clause-broken : goal.find_in_members-returns-in_err-path_in_value-clause-broken
find_in_members-returns-in_err-path_in_value-clause-broken t c =
    let l = c.members in
    let k = c.in-Some.member_key.now in
    let s = c.next_key.new.self in
    let named : read_key l.reader ≡ Some (Some k, s) = grind arith in
    let p = err_from_is_err_and c.from_residual-in_err-path_in_value.result c.from_residual-in_err-path_in_value.ensures.1 in
    rw (p.1, p.2) (λ broken. member_broken (value c.args.depth) c.args.reader.now l.invariant.0 l.reader l.invariant.1
    k s named (c.in_err-path_in_value.ensures.broken broken))
