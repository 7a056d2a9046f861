use Rattle.std.proofs.Common.{◌≡◌, ◌++◌, ◌-◌, [], ◌∷◌, length, Some, None, refl, subst, sym, ap, ◌∙◌, arith}
use Rattle.std.proofs.lemmas.Result.{err_from_is_err_and, on_ok_weaker}
use Rattle.json.specs.Json.{array, object, member, no_members, after_end_array, parse_map, read_key, value}
use Rattle.json.specs.Reads.{token_of}
use Rattle.json.specs.Token as token
use Rattle.json.specs.Tree.{json_tokens}
use Rattle.json.proofs.Grammar.{left, read_key-shorter, skip_value-shorter, value_is}
use Rattle.bson_v1.specs.LeadingMembers.{IsObjectStart, IsNextMember, with_leading_members, scope_or_value}
use Rattle.bson_v1.specs.WrittenTokens.{WritesTokens, upgraded_items_tokens, upgraded_members_tokens, upgraded_value_tokens}
use Rattle.bson_v1.proofs.Passing.{all_breaks, breaks, item_passed, items_passed, member_passed, members_passed}
use Rattle.bson_tokens.proofs.Offered.{no_item, no_key, no_member, one_member}
use Rattle.bson_v1.proofs.Values.{array_opened, array_passes, array_too_deep, none_begins, object_opened}
use Rattle.bson_v1.proofs.Values.{object_passes, object_too_deep, plain_passes}
use Rattle.bson_v1.proofs.Objects.{broken_after_rest, broken_behind, broken_rest, broken_scope, held_scope_passes}
use Rattle.bson_v1.proofs.Objects.{member_passes, open_passes, open_scope_passes, scope_ends, scope_goes_on}
use Rattle.bson_v1.proofs.Objects.{scope_passes, too_deep_scope}
use Rattle.bson_v1.proofs.upgraded.+write.Goals as goal

-- ---- values

pub write_started_value-returns-in_ok-token-in-String-clause-ok : goal.write_started_value-returns-in_ok-token-in-String-clause-ok
write_started_value-returns-in_ok-token-in-String-clause-ok t c =
    plain_passes c.args.depth c.args.first_token c.args.reader.now c.args.writer.now.tokens c.token.new.self.tokens
    c.in-String.is c.in_ok-token-in-String.ensures.ok

pub write_started_value-returns-in_ok-begin_array-in-BeginArray-clause-ok :
    goal.write_started_value-returns-in_ok-begin_array-in-BeginArray-clause-ok
write_started_value-returns-in_ok-begin_array-in-BeginArray-clause-ok t c =
    on_ok_weaker c.write_items.result
    (array_passes c.args.depth c.args.first_token c.args.reader.now c.write_items.new.reader c.args.writer.now.tokens
    c.begin_array.new.self.tokens c.write_items.new.writer.tokens c.in-BeginArray.is (omega arith)
    c.in_ok-begin_array-in-BeginArray.ensures.ok) c.write_items.ensures.ok

pub write_started_value-returns-else-depth-eq0-2-clause-ok : goal.write_started_value-returns-else-depth-eq0-2-clause-ok
write_started_value-returns-else-depth-eq0-2-clause-ok t c =
    on_ok_weaker c.write_object.result
    (object_passes c.args.depth c.args.first_token c.args.reader.now c.write_object.new.reader c.args.writer.now.tokens
    c.write_object.new.writer.tokens c.in-BeginObject.is (omega arith)) c.write_object.ensures.ok

-- ---- arrays

pub write_items-items-preserved : goal.write_items-items-preserved
write_items-items-preserved t c =
    let l = c.items in
    let going : (after_end_array l.reader ≡ None) × (c.take_end_array.new.self ≡ l.reader) = grind arith in
    let read : WritesTokens upgraded_value_tokens (value c.args.depth l.reader) c.write_value.new.reader l.writer.tokens
    c.write_value.new.writer.tokens = rw (← going.1) c.in_ok-write_value.ensures.ok in (
      c.in_ok-write_value.ensures.keeps_earlier_bytes ∙ l.invariant.0,
      item_passed c.args.depth _ l.reader c.write_value.new.reader l.writer.tokens c.write_value.new.writer.tokens
          l.invariant.1 going.0 read,
    )

pub write_items-items-smaller : goal.write_items-items-smaller
write_items-items-smaller t c =
    let l = c.items in
    let going : c.take_end_array.new.self ≡ l.reader = grind arith in
    let read = c.in_ok-write_value.ensures.ok.1 in
    let less = skip_value-shorter c.args.depth c.take_end_array.new.self c.write_value.new.reader (ap left read) in
    omega (arith, less, ap length going)

pub write_items-returns-clause-ok : goal.write_items-returns-clause-ok
write_items-returns-clause-ok t c =
    let l = c.items in
    items_passed c.args.depth c.args.reader.now l.reader c.take_end_array.new.self c.args.writer.now.tokens l.writer.tokens
    c.end_array.new.self.tokens l.invariant.1 (grind arith) c.in_ok-end_array.ensures.ok

-- ---- members

pub write_members-members-preserved : goal.write_members-members-preserved
write_members-members-preserved t c =
    let l = c.members in
    let k = c.in-Some.key.now in
    let s = c.next_key.new.self in
    let named : read_key l.reader ≡ Some (Some k, s) = grind arith in (
      c.in_ok-write_value.ensures.keeps_earlier_bytes ∙ c.key.ensures.room.0 ∙ l.invariant.0,
      member_passed c.args.depth _ k l.reader s c.write_value.new.reader l.writer.tokens c.key.new.self.tokens
          c.write_value.new.writer.tokens l.invariant.1 named c.in_ok-key-2.ensures.ok c.in_ok-write_value.ensures.ok,
    )

pub write_members-members-smaller : goal.write_members-members-smaller
write_members-members-smaller t c =
    let l = c.members in
    let k = c.in-Some.key.now in
    let s = c.next_key.new.self in
    let named : read_key l.reader ≡ Some (Some k, s) = grind arith in
    let read = c.in_ok-write_value.ensures.ok.1 in
    let less = skip_value-shorter c.args.depth s c.write_value.new.reader (ap left read) in
    omega (arith, less, read_key-shorter l.reader (Some k) s named)

pub write_members-returns-clause-ok : goal.write_members-returns-clause-ok
write_members-returns-clause-ok t c =
    let l = c.members in
    members_passed c.args.depth c.args.reader.now l.reader c.next_key.new.self c.args.writer.now.tokens l.writer.tokens
    c.end_object.new.self.tokens l.invariant.1 (grind arith) c.in_ok-end_object.ensures.ok

-- ---- objects

pub write_object-returns-in_ok-write_leading_strings-in-Incomplete-clause-ok : goal.write_object-returns-in_ok-write_leading_strings-in-Incomplete-clause-ok
write_object-returns-in_ok-write_leading_strings-in-Incomplete-clause-ok t c =
    let o = c.in-Incomplete in
    let begins = subst (λ b. IsObjectStart b c.args.reader.now c.read_start.new.reader) o.is c.in_ok-leading.ensures.ok in
    on_ok_weaker c.write_later_members.result
    (open_passes o.leading c.args.depth o.key o.first_token c.args.reader.now c.read_start.new.reader c.write_later_members.new.reader
    c.args.writer.now.tokens c.begin_object.new.self.tokens c.write_leading_strings.new.writer.tokens c.write_later_members.new.writer.tokens begins
    c.in_ok-begin_object-in-Incomplete.ensures.ok c.in_ok-write_leading_strings-in-Incomplete.ensures.ok) c.write_later_members.ensures.ok

pub write_later_members-returns-in-Some-clause-ok : goal.write_later_members-returns-in-Some-clause-ok
write_later_members-returns-in-Some-clause-ok t c =
    on_ok_weaker c.write_scope.result
    (scope_passes c.args.leading c.args.depth c.args.key.now c.args.first_token c.in-Some.after_code c.args.reader.now
    c.write_scope.new.reader c.args.writer.now.tokens c.write_scope.new.writer.tokens
    (sym c.scope_candidate.ensures ∙ c.in-Some.is)) c.write_scope.ensures.ok

pub write_later_members-returns-in-None-clause-ok : goal.write_later_members-returns-in-None-clause-ok
write_later_members-returns-in-None-clause-ok t c =
    on_ok_weaker c.write_member.result
    (member_passes c.args.leading c.args.depth c.args.key.now c.args.first_token c.args.reader.now c.write_member.new.reader
    c.args.writer.now.tokens c.write_member.new.writer.tokens c.requires.1.1.1 (sym c.scope_candidate.ensures ∙ c.in-None.is))
    c.write_member.ensures.ok

-- ---- scopes

pub write_scope-returns-in-Complete-clause-ok : goal.write_scope-returns-in-Complete-clause-ok
write_scope-returns-in-Complete-clause-ok t c =
    let leading = c.in-Complete.leading in
    let begins = subst (λ b. IsObjectStart b c.args.reader.now c.read_start.new.reader) c.in-Complete.is c.in_ok-leading.ensures.ok in
    on_ok_weaker c.write_complete_scope.result
    (held_scope_passes c.args.depth (omega arith) c.args.after_code c.args.key.now c.args.reader.now c.read_start.new.reader
    c.write_complete_scope.new.reader c.args.writer.now.tokens c.key.new.self.tokens c.write_complete_scope.new.writer.tokens
    (with_leading_members leading no_members) (begins (c.args.depth - 1)) c.in_ok-key.ensures.ok) c.write_complete_scope.ensures.ok

pub write_scope-returns-in_ok-write_later_members-in-Incomplete-clause-ok : goal.write_scope-returns-in_ok-write_later_members-in-Incomplete-clause-ok
write_scope-returns-in_ok-write_later_members-in-Incomplete-clause-ok t c =
    let o = c.in-Incomplete in
    let begins = subst (λ b. IsObjectStart b c.args.reader.now c.read_start.new.reader) o.is c.in_ok-leading.ensures.ok in
    on_ok_weaker c.write_members.result
    (open_scope_passes c.args.depth (omega arith) c.args.after_code o.leading c.args.key.now o.inner_key o.first_token
    c.args.reader.now c.read_start.new.reader c.write_later_members.new.reader c.write_members.new.reader c.args.writer.now.tokens
    c.key.new.self.tokens c.begin_object.new.self.tokens c.write_leading_strings.new.writer.tokens c.write_later_members.new.writer.tokens
    c.write_members.new.writer.tokens begins c.in_ok-key.ensures.ok c.in_ok-begin_object-in-Incomplete.ensures.ok
    c.in_ok-write_leading_strings-in-Incomplete.ensures.ok c.in_ok-write_later_members-in-Incomplete.ensures.ok) c.write_members.ensures.ok

pub write_complete_scope-returns-in_default-clause-ok : goal.write_complete_scope-returns-in_default-clause-ok
write_complete_scope-returns-in_default-clause-ok t c =
    let ended = subst (λ o. IsNextMember o c.args.reader.now c.next_member.new.reader) c.in_default.is c.in_ok-key.ensures.ok in
    scope_ends c.args.after_code c.args.depth (with_leading_members c.args.leading no_members) c.args.reader.now
    c.next_member.new.reader c.args.writer.now.tokens c.write_scope_or_value.new.writer.tokens c.end_object.new.self.tokens
    ended c.in_ok-write_scope_or_value.ensures.ok c.in_ok-end_object.ensures.ok

pub write_complete_scope-returns-clause-ok : goal.write_complete_scope-returns-clause-ok
write_complete_scope-returns-clause-ok t c =
    let scope = with_leading_members c.args.leading no_members in
    let next = subst (λ o. IsNextMember o c.args.reader.now c.next_member.new.reader) c.in-Some.is c.in_ok-key.ensures.ok in
    let shown = c.in_ok-write_scope_or_value-2.ensures.ok
    ∙ ap (λ b. c.args.writer.now.tokens ++ json_tokens (scope_or_value b scope)) c.is_scope.ensures in
    on_ok_weaker c.write_member.result
    (scope_goes_on c.args.after_code c.args.depth c.in-Some.key.now c.in-Some.first_token scope c.args.reader.now
    c.next_member.new.reader c.write_member.new.reader c.args.writer.now.tokens c.write_scope_or_value-2.new.writer.tokens
    c.write_member.new.writer.tokens next.0 shown) c.write_member.ensures.ok

-- ---- where the text breaks

pub write_value-returns-in_err-first_token-clause-broken : goal.write_value-returns-in_err-first_token-clause-broken
write_value-returns-in_err-first_token-clause-broken t c =
    let none : c.args.reader.now ≡ [] = grind arith in
    let p = err_from_is_err_and c.from_residual.result c.from_residual.ensures.1 in
    rw p.1 (λ broken. ap (value c.args.depth) none ∙ value_is c.args.depth [])

pub write_started_value-returns-in-EndObject-clause-broken : goal.write_started_value-returns-in-EndObject-clause-broken
write_started_value-returns-in-EndObject-clause-broken t c =
    λ broken. none_begins c.args.depth c.args.first_token c.args.reader.now c.in-EndObject.is

pub write_started_value-returns-then-depth-eq0-clause-broken : goal.write_started_value-returns-then-depth-eq0-clause-broken
write_started_value-returns-then-depth-eq0-clause-broken t c =
    λ broken. array_too_deep c.args.depth c.args.first_token c.args.reader.now c.in-BeginArray.is (omega arith)

pub write_started_value-returns-then-depth-eq0-2-clause-broken : goal.write_started_value-returns-then-depth-eq0-2-clause-broken
write_started_value-returns-then-depth-eq0-2-clause-broken t c =
    λ broken. object_too_deep c.args.depth c.args.first_token c.args.reader.now c.in-BeginObject.is (omega arith)

pub write_started_value-returns-in_ok-begin_array-in-BeginArray-clause-broken :
    goal.write_started_value-returns-in_ok-begin_array-in-BeginArray-clause-broken
write_started_value-returns-in_ok-begin_array-in-BeginArray-clause-broken t c =
    let opened = array_opened c.args.depth c.args.first_token c.args.reader.now c.in-BeginArray.is (omega arith) in
    breaks c.write_items.result _ _ (λ none. opened ∙ ap (parse_map array) none) c.write_items.ensures.broken

pub write_started_value-returns-else-depth-eq0-2-clause-broken : goal.write_started_value-returns-else-depth-eq0-2-clause-broken
write_started_value-returns-else-depth-eq0-2-clause-broken t c =
    let opened = object_opened c.args.depth c.args.first_token c.args.reader.now c.in-BeginObject.is (omega arith) in
    breaks c.write_object.result _ _ (λ none. opened ∙ ap (parse_map object) none) c.write_object.ensures.broken

pub write_items-returns-in_err-write_value-clause-broken : goal.write_items-returns-in_err-write_value-clause-broken
write_items-returns-in_err-write_value-clause-broken t c =
    let l = c.items in
    let going : (after_end_array l.reader ≡ None) × (c.take_end_array.new.self ≡ l.reader) = grind arith in
    let p = err_from_is_err_and c.from_residual.result c.from_residual.ensures.1 in
    rw (p.1, p.2) (λ broken. all_breaks upgraded_items_tokens c.args.writer.now.tokens l.writer.tokens _ _ l.invariant.1
    (no_item c.args.depth l.reader going.0
    (ap (value c.args.depth) (sym going.1) ∙ c.in_err-write_value.ensures.broken broken)))

pub write_members-returns-in_err-key-clause-broken : goal.write_members-returns-in_err-key-clause-broken
write_members-returns-in_err-key-clause-broken t c =
    let l = c.members in
    let p = err_from_is_err_and c.from_residual.result c.from_residual.ensures.1 in
    rw p.1 (λ broken. all_breaks upgraded_members_tokens c.args.writer.now.tokens l.writer.tokens _ _ l.invariant.1
    (no_key c.args.depth l.reader (grind arith)))

pub write_members-returns-in_err-write_value-clause-broken :
    goal.write_members-returns-in_err-write_value-clause-broken
write_members-returns-in_err-write_value-clause-broken t c =
    let l = c.members in
    let k = c.in-Some.key.now in
    let s = c.next_key.new.self in
    let named : read_key l.reader ≡ Some (Some k, s) = grind arith in
    let p = err_from_is_err_and c.from_residual-in_err-write_value.result
    c.from_residual-in_err-write_value.ensures.1 in
    rw (p.1, p.2) (λ broken. all_breaks upgraded_members_tokens c.args.writer.now.tokens l.writer.tokens _ _ l.invariant.1
    (no_member c.args.depth k l.reader s named (c.in_err-write_value.ensures.broken broken)))

pub write_member-returns-in_err-write_started_value-clause-broken : goal.write_member-returns-in_err-write_started_value-clause-broken
write_member-returns-in_err-write_started_value-clause-broken t c =
    let p = err_from_is_err_and c.from_residual-in_err-write_started_value.result
    c.from_residual-in_err-write_started_value.ensures.1 in
    let object_start = token_of c.args.first_token ∷ c.args.reader.now in
    rw (p.1, p.2) (λ broken. no_member c.args.depth c.args.key.now (token.key c.args.key.now ∷ object_start) object_start refl
    (c.in_err-write_started_value.ensures.broken broken))

pub write_member-returns-clause-broken : goal.write_member-returns-clause-broken
write_member-returns-clause-broken t c =
    let k = c.args.key.now in
    let object_start = token_of c.args.first_token ∷ c.args.reader.now in
    let read = c.in_ok-write_started_value.ensures.ok in
    breaks c.write_members.result _ _ (λ none.
    one_member c.args.depth k (token.key k ∷ object_start) object_start c.write_started_value.new.reader read.0 refl read.1
    ∙ ap (parse_map (member k read.0)) none) c.write_members.ensures.broken

pub write_scope-returns-then-depth-eq0-clause-broken : goal.write_scope-returns-then-depth-eq0-clause-broken
write_scope-returns-then-depth-eq0-clause-broken t c =
    λ broken. too_deep_scope c.args.depth c.args.key.now c.args.reader.now (omega arith)

pub write_scope-returns-in_err-leading-clause-broken : goal.write_scope-returns-in_err-leading-clause-broken
write_scope-returns-in_err-leading-clause-broken t c =
    let p = err_from_is_err_and c.from_residual-in_err-leading.result c.from_residual-in_err-leading.ensures.1 in
    rw (p.1, p.2) (λ broken. broken_scope c.args.depth (omega arith) c.args.key.now c.args.reader.now
    (c.in_err-leading.ensures.broken broken (c.args.depth - 1)))

pub write_scope-returns-in_err-write_later_members-in-Incomplete-clause-broken :
    goal.write_scope-returns-in_err-write_later_members-in-Incomplete-clause-broken
write_scope-returns-in_err-write_later_members-in-Incomplete-clause-broken t c =
    let o = c.in-Incomplete in
    let begins = subst (λ b. IsObjectStart b c.args.reader.now c.read_start.new.reader) o.is c.in_ok-leading.ensures.ok in
    let p = err_from_is_err_and c.from_residual-in_err-write_later_members-in-Incomplete.result
    c.from_residual-in_err-write_later_members-in-Incomplete.ensures.1 in
    rw (p.1, p.2) (λ broken. broken_rest c.args.depth (omega arith) o.leading c.args.key.now o.inner_key o.first_token
    c.args.reader.now c.read_start.new.reader begins (c.in_err-write_later_members-in-Incomplete.ensures.broken broken))

pub write_scope-returns-in-Complete-clause-broken : goal.write_scope-returns-in-Complete-clause-broken
write_scope-returns-in-Complete-clause-broken t c =
    let begins = subst (λ b. IsObjectStart b c.args.reader.now c.read_start.new.reader) c.in-Complete.is c.in_ok-leading.ensures.ok in
    breaks c.write_complete_scope.result _ _ (λ none.
    broken_behind c.args.depth (omega arith) c.args.key.now c.args.reader.now c.read_start.new.reader
    (with_leading_members c.in-Complete.leading no_members) (begins (c.args.depth - 1)) none) c.write_complete_scope.ensures.broken

pub write_scope-returns-in_ok-write_later_members-in-Incomplete-clause-broken :
    goal.write_scope-returns-in_ok-write_later_members-in-Incomplete-clause-broken
write_scope-returns-in_ok-write_later_members-in-Incomplete-clause-broken t c =
    let o = c.in-Incomplete in
    let begins = subst (λ b. IsObjectStart b c.args.reader.now c.read_start.new.reader) o.is c.in_ok-leading.ensures.ok in
    breaks c.write_members.result _ _ (λ none.
    broken_after_rest c.args.depth (omega arith) o.leading c.args.key.now o.inner_key o.first_token c.args.reader.now
    c.read_start.new.reader c.write_later_members.new.reader c.write_leading_strings.new.writer.tokens c.write_later_members.new.writer.tokens begins
    c.in_ok-write_later_members-in-Incomplete.ensures.ok none) c.write_members.ensures.broken
