-- What a failure denies, and where its fault is.
use Rattle.std.proofs.Common.{◌≡◌, ◌-◌, [], ◌∷◌, length, option_map, Some, sym, ap, ◌∙◌, arith}
use Rattle.std.proofs.Common.{codes, ◌&&◌, true, bytes_eq, None, List, ℕ}
use Rattle.std.proofs.Common.{false, is_some, string_bytes}
use Rattle.std.proofs.lemmas.Result.{err_from_is_err_and}
use Rattle.json.specs.Token.{Token}
use Rattle.json.specs.Json.{after_end_array, read_key, value}
use Rattle.json.proofs.Grammar.{value_is, members_no_key}
use Rattle.json.specs.Reads.{token_of}
use Rattle.bson_scalar.specs.Table.{wrapper_of}
use Rattle.bson_model.specs.OrderedTrees.{tree_of_json}
use Rattle.bson_text.proofs.Objects.{located, begins}
use Rattle.bson_tokens.proofs.Offered.{was_read as from_tree, if_err}
use Rattle.bson_text.proofs.Denials.{items_stopped}
use Rattle.bson_text.proofs.Denials.{item_stopped, members_stopped, member_stopped, misplaced_wrapper, no_key_behind}
use Rattle.bson_text.proofs.Denials.{ended_stopped, none_lacks, end_keys}
use Rattle.bson_text.proofs.Denials.{wrapper_written}
use Rattle.bson_text.specs.ScopeTokens.{scope_token}
use Rattle.bson_text.proofs.traversal.Traversal.+values.Goals.{write_object-in-Ok, write_object-in-Err}
use Rattle.bson_text.proofs.traversal.Traversal.+values.Goals.{write_object-in-Some-first_key+in_default-wrapper_named}
use Rattle.bson_text.proofs.traversal.Traversal.+values.Goals.{write_object-in_default-first_key}
use Rattle.bson_text.proofs.Faults.{items_placed, member_placed}
use Rattle.serde_json.specs.View.{view}
use Rattle.bson_text.proofs.CodeDenials.{document_denied, held_broken, no_second, scalar_denied}
use Rattle.bson_text.proofs.CodeDenials.{strange_denied, textless_denied, code_denied, behind_denied, end_denied}
use Rattle.bson_text.proofs.CodeDenials.{scope_denied, scope_parsed, number_denied, array_denied, object_denied}
use Rattle.bson_text.proofs.CodeDenials.{no_scope_denied}
use Rattle.bson_text.proofs.Becoming.{ends_in, gives_up, gives_up_at, gives_up_code, lacks_became, quiet, quiet_at, quiet_code, quiet_end}
use Rattle.bson_text.proofs.Scopes.{err_of, code_placed, textless_placed, no_scope_placed, end_placed, scope_placed}
use Rattle.bson_text.proofs.Parsed.{nothing_begins}
use Rattle.bson_text.proofs.Wrapped.{no_fault, reader_stop, number_placed, document_placed, misplaced_placed}
use Rattle.bson_text.proofs.Wrapped.{alone_placed, strange_placed, array_at, object_at}
use Rattle.bson_text.proofs.traversal.Traversal.+values.Goals as goal
use Rattle.json.specs.Json as json
use Rattle.bson_text.specs.declared.traversal_error.TraversalError.TheVariants as failure
use Rattle.bson_text.proofs.Objects.{own_keys}

pub write_array-returns-in-Err-clause-fails : goal.write_array-returns-in-Err-clause-fails
write_array-returns-in-Err-clause-fails g t c =
    let l = c.items in
    let e = c.in-Err.failure in
    let going : (after_end_array l.self.reader ≡ None) × (c.take_end_array.new.self ≡ l.self.reader) = grind arith in (
      lacks_became _ _ _ _ _ c.error_in_element.ensures.kind (items_stopped c.args.level.doubles (g.W.ValueWriter.may_give_up c.args.level.doubles) g.W.ValueWriter.sorts_keys e _ _ l.invariant.6
          (item_stopped c.args.level.doubles (g.W.ValueWriter.may_give_up c.args.level.doubles) g.W.ValueWriter.sorts_keys e (value c.args.level.depth) l.invariant.2 l.self.reader going.0 (rw (← going.1) c.in-Err.ensures.fails.0))),
      items_placed c.args.level.doubles e c.error_in_element.result _ c.args.level.depth l.invariant.2 l.index l.self.reader
          c.write_value.new.self.reader c.error_in_element.new.reader going.0 l.invariant.5 (rw (← going.1) c.in-Err.ensures.fails.1) c.error_in_element.ensures.located,
    )

pub write_array-returns-in_err-index-clause-fails : goal.write_array-returns-in_err-index-clause-fails
write_array-returns-in_err-index-clause-fails g t c =
    let p = err_from_is_err_and c.from_residual-in_err-index.result c.from_residual-in_err-index.ensures.1 in
    let e : c.in_err-index.field-0.0 ≡ failure.OutOfMemory = grind arith in
    rw (p.1, p.2, e) (λ js r is d. d, tt)

pub write_code-returns-in_err-end_object-in-Null-clause-fails : goal.write_code-returns-in_err-end_object-in-Null-clause-fails
write_code-returns-in_err-end_object-in-Null-clause-fails g t c =
    let is : c.args.self.now.reader ≡ Token.null ∷ c.read_scope.new.reader =
    c.in_ok-scope.ensures.ok ∙ ap (λ k. scope_token k ∷ c.read_scope.new.reader) c.in-Null.is in
    let read = ap (value c.args.level.depth) is ∙ value_is c.args.level.depth (Token.null ∷ c.read_scope.new.reader) in
    let back = c.from_residual-in_err-end_object-in-Null in
    let p = err_from_is_err_and back.result back.ensures.1 in
    let at = c.in_err-end_object-in-Null.ensures in
    rw (p.1, p.2) (
      end_denied c.args.level.doubles (g.W.ValueWriter.may_give_up c.args.level.doubles) g.W.ValueWriter.sorts_keys _ c.args.code_follows_scope c.args.level.depth c.args.self.now.reader c.read_scope.new.reader json.null read at.stops,
      end_placed c.args.level.doubles c.args.code_follows_scope _ c.args.level.depth c.args.self.now.reader c.read_scope.new.reader
          c.end_object.new.reader json.null read at.located,
    )

pub write_code-returns-in-Err-clause-fails : goal.write_code-returns-in-Err-clause-fails
write_code-returns-in-Err-clause-fails g t c =
    let is : c.args.self.now.reader ≡ Token.begin_object ∷ c.read_scope.new.reader =
    c.in_ok-scope.ensures.ok ∙ ap (λ k. scope_token k ∷ c.read_scope.new.reader) c.in-Object.is in (
      lacks_became _ _ _ _ _ c.error_in_scope.ensures.kind
          (scope_denied c.args.level.doubles (g.W.ValueWriter.may_give_up c.args.level.doubles) g.W.ValueWriter.sorts_keys c.in-Err.failure c.args.code_follows_scope c.args.level.depth c.args.self.now.reader c.read_scope.new.reader is
          c.in-Err.ensures.fails.0),
      scope_placed c.args.level.doubles c.args.code_follows_scope c.in-Err.failure c.error_in_scope.result c.args.level.depth c.args.self.now.reader
          c.read_scope.new.reader c.write_scope.new.self.reader c.error_in_scope.new.reader is c.in-Err.ensures.fails.1
          c.error_in_scope.ensures.located,
    )

pub write_code-returns-in_err-end_object-in-Object-clause-fails : goal.write_code-returns-in_err-end_object-in-Object-clause-fails
write_code-returns-in_err-end_object-in-Object-clause-fails g t c =
    let is : c.args.self.now.reader ≡ Token.begin_object ∷ c.read_scope.new.reader =
    c.in_ok-scope.ensures.ok ∙ ap (λ k. scope_token k ∷ c.read_scope.new.reader) c.in-Object.is in
    let back = c.from_residual-in_err-end_object-in-Object in
    let p = err_from_is_err_and back.result back.ensures.1 in
    let j = scope_parsed c.args.level.doubles (g.W.ValueWriter.may_give_up c.args.level.doubles) g.W.ValueWriter.sorts_keys c.args.level.depth c.args.self.now.reader c.read_scope.new.reader c.write_scope.new.self.reader _ is
    c.in-Ok.ensures.ok in
    let at = c.in_err-end_object-in-Object.ensures in
    rw (p.1, p.2) (
      end_denied c.args.level.doubles (g.W.ValueWriter.may_give_up c.args.level.doubles) g.W.ValueWriter.sorts_keys _ c.args.code_follows_scope c.args.level.depth c.args.self.now.reader c.write_scope.new.self.reader j.0 j.1 at.stops,
      end_placed c.args.level.doubles c.args.code_follows_scope _ c.args.level.depth c.args.self.now.reader c.write_scope.new.self.reader
          c.end_object-in-Object.new.reader j.0 j.1 at.located,
    )

pub write_document-returns-in-Some-misplaced_wrapper-clause-fails : goal.write_document-returns-in-Some-misplaced_wrapper-clause-fails
write_document-returns-in-Some-misplaced_wrapper-clause-fails g t c =
    let l = c.members in
    let k = c.in-Some.key in
    let bad : (c.args.is_document && is_some (wrapper_of k.now)) ≡ true = grind arith in
    let is : l.pending_key ≡ Some k = grind arith in (
      lacks_became _ _ _ _ _ c.wrong_shape_at_value.ensures.kind
          (members_stopped c.args.level.doubles (g.W.ValueWriter.may_give_up c.args.level.doubles) g.W.ValueWriter.sorts_keys failure.Syntax c.args.is_document _ _ (rw is at l.invariant.7)
          (misplaced_wrapper c.args.level.doubles (g.W.ValueWriter.may_give_up c.args.level.doubles) g.W.ValueWriter.sorts_keys c.args.is_document (value c.args.level.depth) _ k.now l.self.reader bad)),
      misplaced_placed c.args.level.doubles c.wrong_shape_at_value.result c.args.is_document _ c.args.level.depth l.invariant.3 k.now
          l.self.reader c.wrong_shape_at_value.new.reader bad (rw is at l.invariant.6) c.wrong_shape_at_value.ensures.located,
    )

pub write_document-returns-in-Err-clause-fails : goal.write_document-returns-in-Err-clause-fails
write_document-returns-in-Err-clause-fails g t c =
    let l = c.members in
    let k = c.in-Some.key in
    let e = c.in-Err.failure in
    let plain = located c.args.is_document (wrapper_of k.now) (grind arith) in
    let is : l.pending_key ≡ Some k = grind arith in (
      lacks_became _ _ _ _ _ c.error_in_member.ensures.kind
          (members_stopped c.args.level.doubles (g.W.ValueWriter.may_give_up c.args.level.doubles) g.W.ValueWriter.sorts_keys e c.args.is_document _ _ (rw is at l.invariant.7)
          (member_stopped c.args.level.doubles (g.W.ValueWriter.may_give_up c.args.level.doubles) g.W.ValueWriter.sorts_keys e c.args.is_document (value c.args.level.depth) _ k.now l.self.reader c.in-Err.ensures.fails.0)),
      member_placed c.args.level.doubles e c.error_in_member.result c.args.is_document _ c.args.level.depth l.invariant.3 k.now
          l.self.reader c.write_value.new.self.reader c.error_in_member.new.reader plain (rw is at l.invariant.6)
          c.in-Err.ensures.fails.1 c.error_in_member.ensures.located,
    )

pub write_document-returns-in_err-pending_key-clause-fails : goal.write_document-returns-in_err-pending_key-clause-fails
write_document-returns-in_err-pending_key-clause-fails g t c =
    let l = c.members in
    let k = c.in-Some.key in
    let r = c.write_value.new.self.reader in
    let is : l.pending_key ≡ Some k = grind arith in
    let none : read_key r ≡ None = grind arith in
    let read = c.in-Ok-write_value.ensures.ok in
    let j = from_tree tree_of_json (value c.args.level.depth l.self.reader) read.0 r read.2 in
    let back = c.from_residual-in_err-pending_key in
    let p = err_from_is_err_and back.result back.ensures.1 in
    rw (p.1, p.2) (
      members_stopped c.args.level.doubles (g.W.ValueWriter.may_give_up c.args.level.doubles) g.W.ValueWriter.sorts_keys failure.Syntax c.args.is_document _ _ (rw is at l.invariant.7) (none_lacks _ _
          (no_key_behind c.args.level.doubles (value c.args.level.depth) l.invariant.3 k.now l.self.reader r j.0 j.1 none)),
      tt,
    )

pub write_document-returns-in_err-end_document-clause-fails : goal.write_document-returns-in_err-end_document-clause-fails
write_document-returns-in_err-end_document-clause-fails g t c =
    let l = c.members in
    let is : l.pending_key ≡ None = grind arith in
    let W = g.W.ValueWriter in
    let p = err_from_is_err_and c.from_residual-in_err-end_document.result c.from_residual-in_err-end_document.ensures.1 in
    let own = own_keys c.args.self.now.keys.items l.invariant.1 c.as_mut_slice.result.now c.len-outer_len.result
    (c.as_mut_slice.ensures.value ∙ l.invariant.2) (grind arith) in
    let all = end_keys c.args.level.doubles W.wrote_value W.wrote_key _ _ _ l.invariant.1 c.begin_document.new.self l.self.writer
    (rw is at l.invariant.5) in
    let stops = c.in_err-end_document.ensures.stops in
    rw (p.1, p.2) (
      ended_stopped c.args.level.doubles (g.W.ValueWriter.may_give_up c.args.level.doubles) g.W.ValueWriter.sorts_keys _ c.args.is_document _ all.0 _ _ all.1 (all.2 ∙ sym own)
          (ends_in W.may_give_up W.sorts_keys _ _ c.args.level.doubles stops),
      quiet_end W.may_give_up W.sorts_keys _ _ _ stops,
    )

pub write_object-returns-in-Some-clause-fails : goal.write_object-returns-in-Some-clause-fails
write_object-returns-in-Some-clause-fails g t c =
    let scope = rw c.in-Some.is at c.in_ok-code.ensures in
    elim c.match-code_result.branch [
      | write_object-in-Ok w ↦ rw w.result-is tt
      | write_object-in-Err w ↦ rw w.result-is (
        behind_denied c.args.level.doubles (g.W.ValueWriter.may_give_up c.args.level.doubles) g.W.ValueWriter.sorts_keys w.in-Err.failure w.give_up.result c.args.level.depth _ c.args.self.now.reader c.next_key.new.self
            c.in_ok-first_key.ensures.value scope w.give_up.ensures.kind w.in-Err.ensures.fails.0,
        no_fault _ _ w.give_up.ensures.located,
      )
    ]

pub write_object-returns-in-Some-wrapper_named-clause-fails : goal.write_object-returns-in-Some-wrapper_named-clause-fails
write_object-returns-in-Some-wrapper_named-clause-fails g t c =
    let k = Some c.in-Some-first_key.key.now in
    let key : read_key c.args.self.now.reader ≡ Some (k, c.next_key.new.self) = grind arith in
    rw (begins c.args.level.depth k c.args.self.now.reader c.next_key.new.self key) c.write_wrapper.ensures.fails

pub write_object-returns-clause-fails : goal.write_object-returns-clause-fails
write_object-returns-clause-fails g t c =
    let plain : (k : List ℕ) → option_map (λ x. x.now) c.in_ok-first_key.first_key ≡ Some k → wrapper_of k ≡ None = λ k is.
    elim c.match-first_key.branch [
      | write_object-in-Some-first_key+in_default-wrapper_named w ↦ grind arith
      | write_object-in_default-first_key w ↦ grind arith
    ] in
    let key = c.in_ok-first_key.ensures.value in
    if_err c.write_document.result c.write_document.ensures.fails (λ e h. (
      document_denied c.args.level.doubles (g.W.ValueWriter.may_give_up c.args.level.doubles) g.W.ValueWriter.sorts_keys e c.args.level.depth _ c.args.self.now.reader c.next_key.new.self key plain h.0,
      document_placed c.args.level.doubles e c.args.level.depth _ c.args.self.now.reader c.next_key.new.self
          c.write_document.new.self.reader key plain h.1,
    ))

pub write_scope-returns-in_err-first_key-clause-fails : goal.write_scope-returns-in_err-first_key-clause-fails
write_scope-returns-in_err-first_key-clause-fails g t c =
    let none : read_key c.args.self.now.reader ≡ None = grind arith in
    let p = err_from_is_err_and c.from_residual.result c.from_residual.ensures.1 in
    rw (p.1, p.2) (
      λ left. none_lacks _ _ (members_no_key (value (c.args.level.depth - 1)) (length c.args.self.now.reader)
          c.args.self.now.reader none),
      λ left. tt,
    )

pub write_value-returns-in_err-token-clause-fails : goal.write_value-returns-in_err-token-clause-fails
write_value-returns-in_err-token-clause-fails g t c =
    let empty : c.args.self.now.reader ≡ [] = grind arith in
    let e : c.in_err-token.field-0.0 ≡ failure.Syntax = grind arith in
    let p = err_from_is_err_and c.from_residual.result c.from_residual.ensures.1 in
    rw (p.1, p.2, e) (none_lacks _ _ (ap (value c.args.level.depth) empty ∙ value_is c.args.level.depth []), tt)

pub write_value-returns-in_err-parse_number-in-Number-clause-fails : goal.write_value-returns-in_err-parse_number-in-Number-clause-fails
write_value-returns-in_err-parse_number-in-Number-clause-fails g t c =
    let first_key : c.args.self.now.reader ≡ token_of c.in_ok-token.token ∷ c.next.new.self = grind arith in
    let is : c.args.self.now.reader ≡ Token.number c.in-Number.text.now ∷ c.next.new.self = grind (arith, first_key) in
    let back = c.from_residual-in_err-parse_number-in-Number in
    let p = err_from_is_err_and back.result back.ensures.1 in
    let at = c.in_err-parse_number-in-Number.ensures in
    rw (p.1, p.2) (
      number_denied c.args.level.doubles (g.W.ValueWriter.may_give_up c.args.level.doubles) g.W.ValueWriter.sorts_keys _ c.args.level.depth c.in-Number.text.now c.args.self.now.reader c.next.new.self is at.stops,
      number_placed c.args.level.doubles _ c.args.level.depth c.in-Number.text.now c.args.self.now.reader c.next.new.self is
          at.located,
    )

pub write_value-returns-in-EndObject-clause-fails : goal.write_value-returns-in-EndObject-clause-fails
write_value-returns-in-EndObject-clause-fails g t c =
    let first_key : c.args.self.now.reader ≡ token_of c.in_ok-token.token ∷ c.next.new.self = grind arith in (
      none_lacks _ _ (nothing_begins c.args.level.depth c.in_ok-token.token c.args.self.now.reader c.next.new.self first_key
          c.in-EndObject.is),
      tt,
    )

pub write_value-returns-then-level-eq0-clause-fails : goal.write_value-returns-then-level-eq0-clause-fails
write_value-returns-then-level-eq0-clause-fails g t c =
    let first_key : c.args.self.now.reader ≡ token_of c.in_ok-token.token ∷ c.next.new.self = grind arith in
    let ts = Token.begin_array ∷ c.next.new.self in
    let is : c.args.self.now.reader ≡ ts = first_key ∙ ap (λ k. token_of k ∷ c.next.new.self) c.in-BeginArray.is in
    let flat : c.args.level.depth ≡ 0 = omega arith in
    (none_lacks _ _ (ap (value c.args.level.depth) is ∙ ap (λ n. value n ts) flat ∙ value_is 0 ts), tt)

pub write_value-returns-then-level-eq0-2-clause-fails : goal.write_value-returns-then-level-eq0-2-clause-fails
write_value-returns-then-level-eq0-2-clause-fails g t c =
    let first_key : c.args.self.now.reader ≡ token_of c.in_ok-token.token ∷ c.next.new.self = grind arith in
    let ts = Token.begin_object ∷ c.next.new.self in
    let is : c.args.self.now.reader ≡ ts = first_key ∙ ap (λ k. token_of k ∷ c.next.new.self) c.in-BeginObject.is in
    let flat : c.args.level.depth ≡ 0 = omega arith in
    (none_lacks _ _ (ap (value c.args.level.depth) is ∙ ap (λ n. value n ts) flat ∙ value_is 0 ts), tt)

pub write_value-returns-else-level-eq0-clause-fails : goal.write_value-returns-else-level-eq0-clause-fails
write_value-returns-else-level-eq0-clause-fails g t c =
    let first_key : c.args.self.now.reader ≡ token_of c.in_ok-token.token ∷ c.next.new.self = grind arith in
    let is = first_key ∙ ap (λ k. token_of k ∷ c.next.new.self) c.in-BeginArray.is in
    if_err c.write_array.result c.write_array.ensures.fails (λ e h. (
      array_denied c.args.level.doubles (g.W.ValueWriter.may_give_up c.args.level.doubles) g.W.ValueWriter.sorts_keys e c.args.level.depth c.args.self.now.reader c.next.new.self is (omega arith) h.0,
      array_at c.args.level.doubles e c.args.level.depth c.args.self.now.reader c.next.new.self c.write_array.new.self.reader is
          (omega arith) h.1,
    ))

pub write_value-returns-else-level-eq0-2-clause-fails : goal.write_value-returns-else-level-eq0-2-clause-fails
write_value-returns-else-level-eq0-2-clause-fails g t c =
    let first_key : c.args.self.now.reader ≡ token_of c.in_ok-token.token ∷ c.next.new.self = grind arith in
    let is = first_key ∙ ap (λ k. token_of k ∷ c.next.new.self) c.in-BeginObject.is in
    if_err c.write_object.result c.write_object.ensures.fails (λ e h. (
      object_denied c.args.level.doubles (g.W.ValueWriter.may_give_up c.args.level.doubles) g.W.ValueWriter.sorts_keys e c.args.level.depth c.args.self.now.reader c.next.new.self is (omega arith) h.0,
      object_at c.args.level.doubles e c.args.level.depth c.args.self.now.reader c.next.new.self c.write_object.new.self.reader is
          (omega arith) h.1,
    ))

pub write_wrapper-returns-in_err-content-clause-fails : goal.write_wrapper-returns-in_err-content-clause-fails
write_wrapper-returns-in_err-content-clause-fails g t c =
    let p = err_from_is_err_and c.from_residual.result c.from_residual.ensures.1 in
    rw (p.1, p.2) (
      held_broken c.args.level.doubles (g.W.ValueWriter.may_give_up c.args.level.doubles) g.W.ValueWriter.sorts_keys _ c.args.level.depth c.args.key.now c.args.self.now.reader c.in_err-content.ensures.broken,
      reader_stop _ _,
    )

pub write_wrapper-returns-in_err-second_key-clause-fails : goal.write_wrapper-returns-in_err-second_key-clause-fails
write_wrapper-returns-in_err-second_key-clause-fails g t c =
    let none : read_key c.read_wrapper_content.new.reader ≡ None = grind arith in
    let back = c.from_residual-in_err-second_key in
    let p = err_from_is_err_and back.result back.ensures.1 in
    rw (p.1, p.2) (
      no_second c.args.level.doubles (g.W.ValueWriter.may_give_up c.args.level.doubles) g.W.ValueWriter.sorts_keys failure.Syntax c.args.level.depth c.args.key.now c.args.self.now.reader c.read_wrapper_content.new.reader _
          c.in_ok-content.ensures.ok none,
      tt,
    )

pub write_wrapper-returns-in_err-value-clause-fails : goal.write_wrapper-returns-in_err-value-clause-fails
write_wrapper-returns-in_err-value-clause-fails g t c =
    let k = c.args.key.now in
    let ended : read_key c.read_wrapper_content.new.reader ≡ Some (None, c.next_key.new.self) = grind arith in
    let named : wrapper_of k ≡ Some c.args.wrapper = grind arith in
    let p = err_from_is_err_and c.from_residual-in_err-value.result c.from_residual-in_err-value.ensures.1 in
    let (e, read, becomes) = c.in_err-value.ensures.kind in
    let (f, at, wrote_key) = c.in_err-value.ensures.located in
    rw (p.1, p.2) (
      lacks_became _ _ _ _ _ becomes (scalar_denied c.args.level.doubles (g.W.ValueWriter.may_give_up c.args.level.doubles) g.W.ValueWriter.sorts_keys e c.args.level.depth k c.args.wrapper
          c.args.self.now.reader c.read_wrapper_content.new.reader c.next_key.new.self (view c.in_ok-content.content) named c.in_ok-content.ensures.ok
          ended read),
      alone_placed c.args.level.doubles f _ c.args.level.depth k c.args.wrapper c.args.self.now.reader c.read_wrapper_content.new.reader
          c.next_key.new.self (view c.in_ok-content.content) named c.in_ok-content.ensures.ok ended at wrote_key,
    )

pub write_wrapper-returns-then-not-is_code_with_scope-clause-fails : goal.write_wrapper-returns-then-not-is_code_with_scope-clause-fails
write_wrapper-returns-then-not-is_code_with_scope-clause-fails g t c =
    let k = c.args.key.now in
    let l = c.in-Some.second_key.now in
    let named : wrapper_of k ≡ Some c.args.wrapper = grind arith in
    let key : read_key c.read_wrapper_content.new.reader ≡ Some (Some l, c.next_key.new.self) = grind arith in
    let are : (bytes_eq k (codes "$code") && bytes_eq l (codes "$scope")) ≡ false = grind arith in
    let content = c.in_ok-content.ensures.ok in (
      lacks_became _ _ _ _ _ c.wrong_shape_at_value.ensures.kind (strange_denied c.args.level.doubles (g.W.ValueWriter.may_give_up c.args.level.doubles) g.W.ValueWriter.sorts_keys c.args.level.depth k l
          c.args.wrapper c.args.self.now.reader c.read_wrapper_content.new.reader c.next_key.new.self (view c.in_ok-content.content) named content key
          are),
      strange_placed c.args.level.doubles c.wrong_shape_at_value.result c.args.level.depth k l c.args.wrapper c.args.self.now.reader
          c.read_wrapper_content.new.reader c.next_key.new.self c.wrong_shape_at_value.new.reader (view c.in_ok-content.content) named content key are
          c.wrong_shape_at_value.ensures.located,
    )

pub write_wrapper-returns-clause-fails : goal.write_wrapper-returns-clause-fails
write_wrapper-returns-clause-fails g t c =
    let k = c.args.key.now in
    let l = c.in-Some.second_key.now in
    let wrapper : wrapper_of k ≡ Some c.args.wrapper = grind arith in
    let named : read_key c.read_wrapper_content.new.reader ≡ Some (Some l, c.next_key.new.self) = grind arith in
    let are : (bytes_eq k (codes "$code") && bytes_eq l (codes "$scope")) ≡ true = grind arith in
    let content = c.in_ok-content.ensures.ok in
    if_err c.write_code.result c.write_code.ensures.fails (λ e h. (
      code_denied c.args.level.doubles (g.W.ValueWriter.may_give_up c.args.level.doubles) g.W.ValueWriter.sorts_keys e c.args.level.depth k l c.args.wrapper c.args.self.now.reader c.read_wrapper_content.new.reader c.next_key.new.self _
          wrapper content named h.0,
      code_placed c.args.level.doubles e c.args.level.depth k l (string_bytes c.in-Ok.code) c.args.wrapper
          c.args.self.now.reader c.read_wrapper_content.new.reader c.next_key.new.self c.write_code.new.self.reader (view c.in_ok-content.content)
          wrapper content named are c.in-Ok.ensures.ok h.1,
    ))

pub write_wrapper-returns-in_default-text_of-clause-fails : goal.write_wrapper-returns-in_default-text_of-clause-fails
write_wrapper-returns-in_default-text_of-clause-fails g t c =
    let k = c.args.key.now in
    let l = c.in-Some.second_key.now in
    let wrapper : wrapper_of k ≡ Some c.args.wrapper = grind arith in
    let named : read_key c.read_wrapper_content.new.reader ≡ Some (Some l, c.next_key.new.self) = grind arith in
    let none = err_of c.text_of.result _ c.in_default-text_of.not-Ok c.text_of.ensures.not_a_string in
    let content = c.in_ok-content.ensures.ok in
    let at = c.wrong_shape_at_value-in_default-text_of in (
      lacks_became _ _ _ _ _ at.ensures.kind (textless_denied c.args.level.doubles (g.W.ValueWriter.may_give_up c.args.level.doubles) g.W.ValueWriter.sorts_keys c.args.level.depth k l c.args.wrapper
          c.args.self.now.reader c.read_wrapper_content.new.reader c.next_key.new.self (view c.in_ok-content.content) wrapper content named none),
      textless_placed c.args.level.doubles at.result c.args.level.depth k l c.args.wrapper c.args.self.now.reader
          c.read_wrapper_content.new.reader c.next_key.new.self at.new.reader (view c.in_ok-content.content) wrapper content named none
          at.ensures.located,
    )

pub write_code-returns-in_err-scope-clause-fails : goal.write_code-returns-in_err-scope-clause-fails
write_code-returns-in_err-scope-clause-fails g t c =
    let p = err_from_is_err_and c.from_residual.result c.from_residual.ensures.1 in
    let kind = c.in_err-scope.ensures.kind in
    rw (p.1, p.2) (
      lacks_became _ _ _ _ _ kind.0
          (no_scope_denied c.args.level.doubles (g.W.ValueWriter.may_give_up c.args.level.doubles) g.W.ValueWriter.sorts_keys c.args.code_follows_scope c.args.level.depth c.args.self.now.reader kind.1),
      no_scope_placed c.args.level.doubles c.args.code_follows_scope _ c.args.level.depth c.args.self.now.reader c.read_scope.new.reader
          c.in_err-scope.ensures.located,
    )

pub write_array-returns-in_err-open_container-clause-fails : goal.write_array-returns-in_err-open_container-clause-fails
write_array-returns-in_err-open_container-clause-fails g t c =
    let p = err_from_is_err_and c.from_residual.result c.from_residual.ensures.1 in
    let h = c.in_err-open_container.ensures.stops in
    rw (p.1, p.2) (gives_up g.W.ValueWriter.may_give_up _ c.args.level.doubles _ _ _ h, quiet g.W.ValueWriter.may_give_up _ _ h)

pub write_document-returns-in_err-open_container-clause-fails : goal.write_document-returns-in_err-open_container-clause-fails
write_document-returns-in_err-open_container-clause-fails g t c =
    let p = err_from_is_err_and c.from_residual.result c.from_residual.ensures.1 in
    let h = c.in_err-open_container.ensures.stops in
    rw (p.1, p.2) (gives_up g.W.ValueWriter.may_give_up _ c.args.level.doubles _ _ _ h, quiet g.W.ValueWriter.may_give_up _ _ h)

pub write_document-returns-in_err-key-clause-fails : goal.write_document-returns-in_err-key-clause-fails
write_document-returns-in_err-key-clause-fails g t c =
    let p = err_from_is_err_and c.from_residual-in_err-key.result c.from_residual-in_err-key.ensures.1 in
    let h = c.in_err-key.ensures.stops in
    rw (p.1, p.2) (gives_up g.W.ValueWriter.may_give_up _ c.args.level.doubles _ _ _ h, quiet g.W.ValueWriter.may_give_up _ _ h)

pub write_wrapper-returns-in_default-clause-fails : goal.write_wrapper-returns-in_default-clause-fails
write_wrapper-returns-in_default-clause-fails g t c =
    let named : wrapper_of c.args.key.now ≡ Some c.args.wrapper = grind arith in
    let written = wrapper_written c.args.level.doubles c.args.key.now c.args.wrapper (view c.in_ok-content.content) _ named
    c.in_ok-value.ensures.ok in
    if_err c.scalar.result c.scalar.ensures.stops (λ e h. (gives_up_at g.W.ValueWriter.may_give_up _ e c.args.level.doubles _ _ _ written h, quiet_at g.W.ValueWriter.may_give_up _ e _ h))

pub write_code-returns-in_ok-code-in-Null-clause-fails : goal.write_code-returns-in_ok-code-in-Null-clause-fails
write_code-returns-in_ok-code-in-Null-clause-fails g t c =
    let same = c.in_ok-code-in-Null.ensures.ok in
    if_err c.scalar.result c.scalar.ensures.stops (λ e h. (
      gives_up_code g.W.ValueWriter.may_give_up _ _ e c.args.level.doubles _ _ _ same h,
      λ first_key. quiet_code g.W.ValueWriter.may_give_up _ _ e _ same h,
    ))

pub write_code-returns-in_err-open_container-in-Object-clause-fails : goal.write_code-returns-in_err-open_container-in-Object-clause-fails
write_code-returns-in_err-open_container-in-Object-clause-fails g t c =
    let back = c.from_residual-in_err-open_container-in-Object in
    let p = err_from_is_err_and back.result back.ensures.1 in
    let h = c.in_err-open_container-in-Object.ensures.stops in
    rw (p.1, p.2) (gives_up g.W.ValueWriter.may_give_up _ c.args.level.doubles _ _ _ h, λ first_key. quiet g.W.ValueWriter.may_give_up _ _ h)
