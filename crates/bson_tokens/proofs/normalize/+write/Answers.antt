use Rattle.std.proofs.Common.{◌≡◌, ◌-◌, ◌∷◌, ◌++◌, [], length, None, Some, refl, sym, ap, ◌∙◌, subst, append-nil, arith}
use Rattle.std.proofs.lemmas.Result.{IfErr-weaker, err_from_is_err_and, on_ok_weaker}
use Rattle.json.specs.Json.{array, object, after_end_array, parse_map, read_key, value}
use Rattle.json.specs.Reads.{token_of}
use Rattle.json.proofs.Grammar.{read_key-shorter}
use Rattle.bson_tokens.specs.Normalized.{normalized}
use Rattle.bson_tokens.specs.NormalizerStates.{ReadAndNormalized, array_rest, object_rest, put_json_members, all_numbers_in_range, item_numbers_in_range, member_numbers_in_range}
use Rattle.bson_tokens.specs.NormalizerStates.{if_valid}
use Rattle.bson_tokens.proofs.Standing.{grown_more, none_stand}
use Rattle.bson_tokens.proofs.Values.{array_opened, array_too_deep, none_begins, number_fails, number_passes}
use Rattle.bson_tokens.proofs.Values.{object_opened, object_too_deep, opened_passes, plain_passes}
use Rattle.bson_tokens.proofs.Values.{empty_fails}
use Rattle.bson_tokens.proofs.Writing.{all_breaks, breaks, found, found_at, found_from, item_fails, item_passed, items_passed, key_fails}
use Rattle.bson_tokens.proofs.Writing.{member_fails, member_passed, members_passed, shorter, whole_at}
use Rattle.bson_tokens.proofs.normalize.+write.Goals as goal

-- ---- values

pub write_value-returns-in_ok-push_scalar-in-String-clause-ok : goal.write_value-returns-in_ok-push_scalar-in-String-clause-ok
write_value-returns-in_ok-push_scalar-in-String-clause-ok t c =
    plain_passes c.args.depth c.args.reader.now c.next.new.self c.in_ok-token.token c.args.normalizer.now c.push_scalar.new.self
    (grind arith) c.in-String.is c.in_ok-push_scalar-in-String.ensures

pub write_value-returns-in-Number-clause-ok : goal.write_value-returns-in-Number-clause-ok
write_value-returns-in-Number-clause-ok t c =
    let first : c.args.reader.now ≡ token_of c.in_ok-token.token ∷ c.next.new.self = grind arith in
    on_ok_weaker c.write_number.result
    (λ h. number_passes c.args.depth c.args.reader.now c.next.new.self c.in-Number.text.now c.args.normalizer.now
    c.write_number.new.normalizer (first ∙ ap (λ k. token_of k ∷ c.next.new.self) c.in-Number.is) h.0 h.1)
    c.write_number.ensures.ok

pub write_value-returns-in-Number-clause-broken : goal.write_value-returns-in-Number-clause-broken
write_value-returns-in-Number-clause-broken t c =
    let first : c.args.reader.now ≡ token_of c.in_ok-token.token ∷ c.next.new.self = grind arith in
    IfErr-weaker c.write_number.result _ _
    (λ e h broken. number_fails c.args.depth c.args.reader.now c.next.new.self c.in-Number.text.now
    (first ∙ ap (λ k. token_of k ∷ c.next.new.self) c.in-Number.is) (h broken)) c.write_number.ensures.broken

pub write_value-returns-else-depth-eq0-clause-ok : goal.write_value-returns-else-depth-eq0-clause-ok
write_value-returns-else-depth-eq0-clause-ok t c =
    let first : c.args.reader.now ≡ token_of c.in_ok-token.token ∷ c.next.new.self = grind arith in
    on_ok_weaker c.write_items.result
    (opened_passes c.args.depth c.args.reader.now c.next.new.self array
    (if_valid item_numbers_in_range (array_rest (c.args.depth - 1) c.next.new.self)) c.write_items.new.reader c.args.normalizer.now
    c.write_items.new.normalizer (array_opened c.args.depth c.args.reader.now c.next.new.self
    (first ∙ ap (λ k. token_of k ∷ c.next.new.self) c.in-BeginArray.is) (omega arith))) c.write_items.ensures.ok

pub write_value-returns-else-depth-eq0-2-clause-ok : goal.write_value-returns-else-depth-eq0-2-clause-ok
write_value-returns-else-depth-eq0-2-clause-ok t c =
    let first : c.args.reader.now ≡ token_of c.in_ok-token.token ∷ c.next.new.self = grind arith in
    on_ok_weaker c.write_members.result
    (opened_passes c.args.depth c.args.reader.now c.next.new.self object
    (if_valid member_numbers_in_range (object_rest (c.args.depth - 1) c.next.new.self)) c.write_members.new.reader c.args.normalizer.now
    c.write_members.new.normalizer (object_opened c.args.depth c.args.reader.now c.next.new.self
    (first ∙ ap (λ k. token_of k ∷ c.next.new.self) c.in-BeginObject.is) (omega arith))) c.write_members.ensures.ok

-- ---- where a value breaks

pub write_value-returns-in_err-token-clause-broken : goal.write_value-returns-in_err-token-clause-broken
write_value-returns-in_err-token-clause-broken t c =
    let none : c.args.reader.now ≡ [] = grind arith in
    let p = err_from_is_err_and c.from_residual.result c.from_residual.ensures.1 in
    rw p.1 (λ broken. empty_fails c.args.depth c.args.reader.now none)

pub write_value-returns-in-EndObject-clause-broken : goal.write_value-returns-in-EndObject-clause-broken
write_value-returns-in-EndObject-clause-broken t c =
    let first : c.args.reader.now ≡ token_of c.in_ok-token.token ∷ c.next.new.self = grind arith in
    λ broken. none_begins c.args.depth c.args.reader.now c.next.new.self c.in_ok-token.token first c.in-EndObject.is

pub write_value-returns-then-depth-eq0-clause-broken : goal.write_value-returns-then-depth-eq0-clause-broken
write_value-returns-then-depth-eq0-clause-broken t c =
    let first : c.args.reader.now ≡ token_of c.in_ok-token.token ∷ c.next.new.self = grind arith in
    λ broken. array_too_deep c.args.depth c.args.reader.now c.next.new.self
    (first ∙ ap (λ k. token_of k ∷ c.next.new.self) c.in-BeginArray.is) (omega arith)

pub write_value-returns-then-depth-eq0-2-clause-broken : goal.write_value-returns-then-depth-eq0-2-clause-broken
write_value-returns-then-depth-eq0-2-clause-broken t c =
    let first : c.args.reader.now ≡ token_of c.in_ok-token.token ∷ c.next.new.self = grind arith in
    λ broken. object_too_deep c.args.depth c.args.reader.now c.next.new.self
    (first ∙ ap (λ k. token_of k ∷ c.next.new.self) c.in-BeginObject.is) (omega arith)

pub write_value-returns-else-depth-eq0-clause-broken : goal.write_value-returns-else-depth-eq0-clause-broken
write_value-returns-else-depth-eq0-clause-broken t c =
    let first : c.args.reader.now ≡ token_of c.in_ok-token.token ∷ c.next.new.self = grind arith in
    let opened = array_opened c.args.depth c.args.reader.now c.next.new.self
    (first ∙ ap (λ k. token_of k ∷ c.next.new.self) c.in-BeginArray.is) (omega arith) in
    breaks c.write_items.result _ _ (λ none. opened ∙ ap (parse_map array) none) c.write_items.ensures.broken

pub write_value-returns-else-depth-eq0-2-clause-broken : goal.write_value-returns-else-depth-eq0-2-clause-broken
write_value-returns-else-depth-eq0-2-clause-broken t c =
    let first : c.args.reader.now ≡ token_of c.in_ok-token.token ∷ c.next.new.self = grind arith in
    let opened = object_opened c.args.depth c.args.reader.now c.next.new.self
    (first ∙ ap (λ k. token_of k ∷ c.next.new.self) c.in-BeginObject.is) (omega arith) in
    breaks c.write_members.result _ _ (λ none. opened ∙ ap (parse_map object) none) c.write_members.ensures.broken

-- ---- arrays

pub write_items-items-preserved : goal.write_items-items-preserved
write_items-items-preserved t c =
    let l = c.items in
    let going : (after_end_array l.reader ≡ None) × (c.take_end_array.new.self ≡ l.reader) = grind arith in
    let read : ReadAndNormalized (if_valid all_numbers_in_range (value c.args.depth l.reader)) (normalized l.normalizer.key_order) c.write_value.new.reader
    l.normalizer c.write_value.new.normalizer = rw (← going.1) c.in_ok-write_value.ensures.ok in
    record {
      key_order = read.2.key_order ∙ l.invariant.key_order;
      whole = item_passed c.args.depth _ l.reader c.write_value.new.reader l.normalizer c.write_value.new.normalizer
          l.invariant.whole going.0 read;
    }

pub write_items-items-smaller : goal.write_items-items-smaller
write_items-items-smaller t c =
    let l = c.items in
    let going : c.take_end_array.new.self ≡ l.reader = grind arith in
    let read = c.in_ok-write_value.ensures.ok in
    let less = shorter c.args.depth c.take_end_array.new.self c.write_value.new.reader read.0 read.1 in
    omega (arith, less, ap length going)

pub write_items-returns-clause-ok : goal.write_items-returns-clause-ok
write_items-returns-clause-ok t c =
    let l = c.items in
    items_passed c.args.depth c.args.reader.now l.reader c.take_end_array.new.self c.args.normalizer.now c.open_container.new.self l.normalizer
    c.close_container.new.self c.in_ok-open_container.ensures l.invariant.whole l.invariant.key_order (grind arith)
    c.in_ok-close_container.ensures

pub write_items-returns-in_err-write_value-clause-broken : goal.write_items-returns-in_err-write_value-clause-broken
write_items-returns-in_err-write_value-clause-broken t c =
    let l = c.items in
    let going : (after_end_array l.reader ≡ None) × (c.take_end_array.new.self ≡ l.reader) = grind arith in
    let p = err_from_is_err_and c.from_residual-in_err-write_value.result
    c.from_residual-in_err-write_value.ensures.1 in
    rw (p.1, p.2) (λ broken. all_breaks (whole_at c.open_container.new.self) (whole_at l.normalizer) _ _ l.invariant.whole
    (item_fails c.args.depth l.reader going.0
    (ap (λ ts. if_valid all_numbers_in_range (value c.args.depth ts)) (sym going.1) ∙ c.in_err-write_value.ensures.broken broken)))

-- ---- objects

pub write_members-members-init : goal.write_members-members-init
write_members-members-init t c =
    record {
      key_order = refl;
      entries = [];
      grown = record {
        body = [];
        text_is = sym (append-nil c.begin_object.new.self.text.items);
        stand = none_stand [] c.new-spans.result.items refl (grind arith);
        behind_is = c.in_ok-object_start.ensures.1.needs_comma;
      };
      found = refl;
    }

pub write_members-members-preserved : goal.write_members-members-preserved
write_members-members-preserved t c =
    let l = c.members in
    let h = l.invariant in
    let k = c.in-Some.key.now in
    let s = c.next_key.new.self in
    let first = c.begin_object.new.self.text.items in
    let mid = c.begin_member.new.self in
    let later = c.write_value.new.normalizer in
    let named : read_key l.reader ≡ Some (Some k, s) = grind arith in
    let (j, read, added) = c.in_ok-write_value.ensures.ok in
    let a = l.normalizer.key_order in
    let es = h.entries ++ (k, normalized mid.key_order j) ∷ [] in
    let rest = if_valid member_numbers_in_range (object_rest c.args.depth c.write_value.new.reader) in
    let begun = c.in_ok-object_start.ensures.0 in
    let g = grown_more first l.normalizer mid later c.in_ok-object_start.object_start c.in_ok-offset_in_object.offset_in_object c.offset_in_object.result l.spans.items
    c.push_span.new.spans.items h.entries c.in-Some.key (normalized mid.key_order j) h.grown begun c.in_ok-offset_in_object.ensures added
    c.offset_in_object.ensures c.in_ok-push_span.ensures in
    let early = c.in_ok-member_limit.ensures in
    let (body, fs, text, stand, put, some) = early.2 first g.body es g.text_is begun g.stand in
    let same : later.key_order ≡ a = added.key_order ∙ c.in_ok-offset_in_object.ensures.1.key_order in
    let all = member_passed c.args.depth _ a h.entries k l.reader s c.write_value.new.reader j h.found named read
    ∙ ap (λ x. found a (h.entries ++ (k, normalized x j) ∷ []) rest) (sym c.in_ok-offset_in_object.ensures.1.key_order)
    ∙ ap (λ ms. found_from a ms rest) (sym (ap (λ x. put_json_members x fs) (sym same) ∙ put ∙ ap (λ x. put_json_members x es) same)) in
    record {
      key_order = early.0 ∙ same ∙ h.key_order;
      entries = fs;
      grown = record {
        body = body;
        text_is = text;
        stand = stand;
        behind_is = early.1 ∙ g.behind_is ∙ sym some;
      };
      found = subst (λ x. found x [] (if_valid member_numbers_in_range (object_rest c.args.depth c.args.reader.now)) ≡ found x fs rest)
          (sym (early.0 ∙ same)) all;
    }

pub write_members-members-smaller : goal.write_members-members-smaller
write_members-members-smaller t c =
    let l = c.members in
    let k = c.in-Some.key.now in
    let s = c.next_key.new.self in
    let named : read_key l.reader ≡ Some (Some k, s) = grind arith in
    let read = c.in_ok-write_value.ensures.ok in
    let less = shorter c.args.depth s c.write_value.new.reader read.0 read.1 in
    omega (arith, less, read_key-shorter l.reader (Some k) s named)

pub write_members-returns-in_err-key-clause-broken : goal.write_members-returns-in_err-key-clause-broken
write_members-returns-in_err-key-clause-broken t c =
    let l = c.members in
    let a = l.normalizer.key_order in
    let p = err_from_is_err_and c.from_residual-in_err-key.result c.from_residual-in_err-key.ensures.1 in
    rw p.1 (λ broken. all_breaks (found_at a []) (found_at a l.invariant.entries) _ _ l.invariant.found
    (key_fails c.args.depth l.reader (grind arith)))

pub write_members-returns-in_err-write_value-clause-broken :
    goal.write_members-returns-in_err-write_value-clause-broken
write_members-returns-in_err-write_value-clause-broken t c =
    let l = c.members in
    let a = l.normalizer.key_order in
    let k = c.in-Some.key.now in
    let s = c.next_key.new.self in
    let named : read_key l.reader ≡ Some (Some k, s) = grind arith in
    let p = err_from_is_err_and c.from_residual-in_err-write_value.result
    c.from_residual-in_err-write_value.ensures.1 in
    rw (p.1, p.2) (λ broken. all_breaks (found_at a []) (found_at a l.invariant.entries) _ _ l.invariant.found
    (member_fails c.args.depth k l.reader s named (c.in_err-write_value.ensures.broken broken)))

pub write_members-returns-clause-ok : goal.write_members-returns-clause-ok
write_members-returns-clause-ok t c =
    let l = c.members in
    let h = l.invariant in
    let first = c.begin_object.new.self.text.items in
    let later = c.close_container.new.self in
    let settled = c.in_ok-normalize_members.ensures in
    let (body, text, (fs, stand, put)) = settled.2 first h.grown.body h.entries h.grown.text_is c.in_ok-object_start.ensures.0 h.grown.stand in
    let ended : read_key l.reader ≡ Some (None, c.next_key.new.self) = grind arith in
    let close_container = c.in_ok-close_container.ensures in
    members_passed c.args.depth c.args.reader.now l.reader c.next_key.new.self c.args.normalizer.now c.begin_object.new.self
    l.normalizer later h.entries fs body c.in_ok-object_start.ensures.1 h.found h.key_order ended stand.body_is_member_texts put
    (close_container.key_order ∙ settled.0) close_container.needs_comma (close_container.text ∙ ap (λ b. b ++ 125 ∷ []) text)
