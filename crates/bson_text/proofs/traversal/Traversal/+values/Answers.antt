mod Stops
use Rattle.bson_text.proofs.traversal.Traversal.+values.Answers.Stops as stops
use Rattle.std.proofs.Common.{◌≡◌, ◌-◌, ◌+◌, ◌<◌, ◌++◌, [], ◌∷◌, length, option_map, Some, sym, ap, ◌∙◌, arith}
use Rattle.std.proofs.Common.{append_assoc, subst, codes, ◌&&◌, true, bytes_eq, None, List, ℕ, refl}
use Rattle.std.proofs.lemmas.Result.{on_ok_weaker, err_from_is_err_and}
use Rattle.json.specs.Token.{Token}
use Rattle.json.specs.Json.{after_end_array, read_key, value}
use Rattle.json.proofs.Grammar.{read_key-shorter, value_is}
use Rattle.json.specs.Reads.{token_of}
use Rattle.serde_json.specs.Read.{converted}
use Rattle.bson_scalar.specs.Table.{wrapper_of}
use Rattle.bson_scalar.specs.Scalar.{code}
use Rattle.bson_model.specs.Value.{Value, scalar}
use Rattle.bson_model.specs.OrderedTrees.{tree_of_json}
use Rattle.bson_text.specs.TraversalResults.{ReadsTree, ItemsWritten}
use Rattle.bson_text.proofs.Walking.{items_begun, item_passed, items_passed, members_begun, member_passed}
use Rattle.bson_text.proofs.Walking.{members_written, members_passed, array_means, object_means, document_means}
use Rattle.bson_text.proofs.Objects.{append_none, located, begins}
use Rattle.bson_text.proofs.Wrappers.{token_means, number_means, single_means, scope_means, code_means, code_alone}
use Rattle.bson_text.proofs.Wrappers.{code_scoped, behind_means}
use Rattle.bson_tokens.proofs.Offered.{was_read as from_tree, if_err}
use Rattle.bson_text.proofs.Denials.{items_still, item_still, members_still, member_still}
use Rattle.bson_text.proofs.Denials.{number_written}
use Rattle.bson_text.specs.ScopeTokens.{scope_token}
use Rattle.bson_text.proofs.traversal.Traversal.+values.Goals.{write_object-in-Ok, write_object-in-Err}
use Rattle.bson_text.proofs.Faults.{items_from, item_from, members_from, member_from}
use Rattle.bson_text.proofs.CodeDenials.{no_key_denied}
use Rattle.bson_text.proofs.Becoming.{gives_up, gives_up_at, quiet, quiet_at}
use Rattle.serde_json.specs.Data as tree
use Rattle.bson_text.proofs.traversal.Traversal.+values.Goals as goal
use Rattle.bson_text.specs.declared.traversal_error.TraversalError.TheVariants as failure
use Rattle.bson_text.proofs.Objects.{own_keys}

pub write_array-items-init : goal.write_array-items-init
write_array-items-init g t c =
    let W = g.W.ValueWriter in
    let mark = items_begun _ W.wrote_value W.item_name_of _ c.begin_array.new.self in
    (omega arith, refl, length c.args.self.now.reader, omega arith, mark, items_from c.args.level.doubles _, items_still c.args.level.doubles (g.W.ValueWriter.may_give_up c.args.level.doubles) g.W.ValueWriter.sorts_keys _)

pub write_array-items-preserved : goal.write_array-items-preserved
write_array-items-preserved g t c =
    let l = c.items in
    let n = l.invariant.2 in
    let W = g.W.ValueWriter in
    let r = c.write_value.new.self.reader in
    let new = c.write_value.new.self.writer in
    let going : (after_end_array l.self.reader ≡ None) × (c.take_end_array.new.self ≡ l.self.reader) = grind arith in
    let fewer : length r < length l.self.reader = rw (← going.1) c.in-Ok.ensures.shorter in
    let Read : List ℕ → Type 0 = λ k. ReadsTree c.args.level.doubles (converted tree_of_json (value c.args.level.depth l.self.reader)) r
    (λ v. W.wrote_value l.self.writer k v new) in
    let read : Read c.item_name-name.result.now = rw (← going.1) c.in-Ok.ensures.ok in
    let j = from_tree tree_of_json (value c.args.level.depth l.self.reader) read.0 r read.2 in
    let more : c.in_ok-index.index ≡ l.index + 1 = grind arith in (
      omega (arith, fewer, l.invariant.0),
      c.in-Ok.ensures.keys ∙ l.invariant.1,
      n - 1,
      omega (arith, fewer, l.invariant.3),
      rw more (item_passed _ W.wrote_value W.item_name_of _ _ n l.index _ _ c.begin_array.new.self l.self.writer new
          (omega (arith, fewer, l.invariant.3)) going.0 (subst Read c.item_name-name.ensures read) l.invariant.4),
      rw more (item_from c.args.level.doubles _ (value c.args.level.depth) n l.index l.self.reader r j.0 read.0 read.1
          (omega (arith, fewer, l.invariant.3)) going.0 j.1 j.2 read.3 l.invariant.5),
      item_still c.args.level.doubles (g.W.ValueWriter.may_give_up c.args.level.doubles) g.W.ValueWriter.sorts_keys _ (value c.args.level.depth) n l.self.reader r j.0
          (omega (arith, fewer, l.invariant.3)) going.0 j.1 l.invariant.6,
    )

pub write_array-end_array-requires : goal.write_array-end_array-requires
write_array-end_array-requires g t c =
    let l = c.items in
    let W = g.W.ValueWriter in
    let mark = c.begin_array.new.self in
    let closed : after_end_array l.self.reader ≡ Some c.take_end_array.new.self = grind arith in
    let all = items_passed _ W.wrote_value W.item_name_of _ _ _ l.index _ _ mark l.self.writer
    (λ vs. ItemsWritten W.wrote_value W.item_name_of 0 vs mark l.self.writer) l.invariant.3 closed l.invariant.4 (λ vs written. written) in
    (c.args.self.now.writer, mark, c.args.name.now, all.1, c.in_ok-open_container.ensures.written, all.4)

pub write_array-returns-clause-ok : goal.write_array-returns-clause-ok
write_array-returns-clause-ok g t c =
    let l = c.items in
    let W = g.W.ValueWriter in
    let mark = c.begin_array.new.self in
    let closed : after_end_array l.self.reader ≡ Some c.take_end_array.new.self = grind arith in
    on_ok_weaker c.end_array.result
    (λ ended. items_passed _ W.wrote_value W.item_name_of _ _ _ l.index _ _ mark l.self.writer _ l.invariant.3 closed l.invariant.4
    (λ vs written. ended c.args.self.now.writer mark c.args.name.now vs c.in_ok-open_container.ensures.written written)) c.end_array.ensures.written

pub write_document-members-init : goal.write_document-members-init
write_document-members-init g t c = (
  omega arith,
  [],
  sym (append_none c.args.self.now.keys.items),
  length c.args.self.now.reader,
  omega arith,
  members_begun _ _ _ _ _ _,
  members_from c.args.level.doubles c.args.is_document _,
  members_still c.args.level.doubles (g.W.ValueWriter.may_give_up c.args.level.doubles) g.W.ValueWriter.sorts_keys c.args.is_document _,
)

pub write_document-members-preserved : goal.write_document-members-preserved
write_document-members-preserved g t c =
    let l = c.members in
    let n = l.invariant.3 in
    let k = c.in-Some.key in
    let ks = l.invariant.1 in
    let r = c.write_value.new.self.reader in
    let s = c.next_key.new.self in
    let key : read_key r ≡ Some (option_map (λ x. x.now) c.in_ok-pending_key.pending_key, s) = grind arith in
    let shorter = read_key-shorter r _ s key in
    let fewer = c.in-Ok-write_value.ensures.shorter in
    let plain = located c.args.is_document (wrapper_of k.now) (grind arith) in
    let read = c.in-Ok-write_value.ensures.ok in
    let j = from_tree tree_of_json (value c.args.level.depth l.self.reader) read.0 r read.2 in
    let is : l.pending_key ≡ Some k = grind arith in (
      omega (arith, shorter, fewer, l.invariant.0),
      ks ++ k ∷ [],
      c.in-Ok-write_value.ensures.keys ∙ c.in-Ok.ensures.items ∙ ap (λ x. x ++ k ∷ []) l.invariant.2
          ∙ append_assoc c.args.self.now.keys.items ks (k ∷ []),
      n - 1,
      omega (arith, shorter, fewer, l.invariant.4),
      member_passed _ _ _ _ _ _ _ _ _ _ _ _ _ _ _ _ _ (omega (arith, fewer, l.invariant.4)) plain
          c.in_ok-key.ensures.written c.in-Ok-write_value.ensures.ok key (rw is at l.invariant.5),
      member_from c.args.level.doubles c.args.is_document _ (value c.args.level.depth) n k.now l.self.reader r s _ j.0 read.0 read.1
          (omega (arith, fewer, l.invariant.4)) j.1 key j.2 read.3 plain (rw is at l.invariant.6),
      member_still c.args.level.doubles (g.W.ValueWriter.may_give_up c.args.level.doubles) g.W.ValueWriter.sorts_keys c.args.is_document _ (value c.args.level.depth) n k.now l.self.reader r s _ j.0
          (omega (arith, fewer, l.invariant.4)) j.1 key (rw is at l.invariant.7),
    )

pub write_document-end_document-requires : goal.write_document-end_document-requires
write_document-end_document-requires g t c =
    let l = c.members in
    let is : l.pending_key ≡ None = grind arith in
    let mark = c.begin_document.new.self in
    let W = g.W.ValueWriter in
    let all = members_written _ W.wrote_value W.wrote_key _ _ _ l.invariant.1 mark l.self.writer (rw is at l.invariant.5) in
    let own = own_keys c.args.self.now.keys.items l.invariant.1 c.as_mut_slice.result.now c.len-outer_len.result
    (c.as_mut_slice.ensures.value ∙ l.invariant.2) (grind arith) in
    (c.args.self.now.writer, mark, all.0, c.in_ok-open_container.ensures.written, all.1, all.2 ∙ sym own)

pub write_document-returns-clause-ok : goal.write_document-returns-clause-ok
write_document-returns-clause-ok g t c =
    let l = c.members in
    let is : l.pending_key ≡ None = grind arith in
    let W = g.W.ValueWriter in
    let own = own_keys c.args.self.now.keys.items l.invariant.1 c.as_mut_slice.result.now c.len-outer_len.result
    (c.as_mut_slice.ensures.value ∙ l.invariant.2) (grind arith) in
    members_passed _ W.wrote_value W.wrote_key _ _ _ l.invariant.1 c.begin_document.new.self l.self.writer _ (rw is at l.invariant.5)
    (λ ps written keys. c.in_ok-end_document.ensures.written c.args.self.now.writer c.begin_document.new.self ps c.in_ok-open_container.ensures.written written
    (keys ∙ sym own))

pub write_object-returns-in-Some-clause-ok : goal.write_object-returns-in-Some-clause-ok
write_object-returns-in-Some-clause-ok g t c =
    let scope = rw c.in-Some.is at c.in_ok-code.ensures in
    elim c.match-code_result.branch [
      | write_object-in-Ok w ↦
          rw w.result-is (behind_means _ _ _ _ _ _ _ _ c.in_ok-first_key.ensures.value scope w.in-Ok.ensures.ok)
      | write_object-in-Err w ↦ rw w.result-is tt
    ]

pub write_object-returns-in-Some-wrapper_named-clause-ok : goal.write_object-returns-in-Some-wrapper_named-clause-ok
write_object-returns-in-Some-wrapper_named-clause-ok g t c =
    let key : read_key c.args.self.now.reader ≡ Some (Some c.in-Some-first_key.key.now, c.next_key.new.self) = grind arith in
    rw (begins c.args.level.depth (Some c.in-Some-first_key.key.now) c.args.self.now.reader c.next_key.new.self key) c.write_wrapper.ensures.ok

pub write_object-returns-clause-ok : goal.write_object-returns-clause-ok
write_object-returns-clause-ok g t c =
    on_ok_weaker c.write_document.result
    (document_means _ _ _ _ _ _ _ _ c.in_ok-first_key.ensures.value
    (λ ps. c.in_ok-embed_document.ensures.written ps c.write_document.new.self.writer)) c.write_document.ensures.ok

pub write_value-returns-in-String-clause-ok : goal.write_value-returns-in-String-clause-ok
write_value-returns-in-String-clause-ok g t c =
    let first_key : c.args.self.now.reader ≡ token_of c.in_ok-token.token ∷ c.next.new.self = grind arith in
    let s = c.in-String.text.now in
    let is : c.args.self.now.reader ≡ Token.string s ∷ c.next.new.self = grind (arith, first_key) in
    on_ok_weaker c.string.result
    (token_means _ _ _ _ _ (tree.string s) _ _ is (ap (converted tree_of_json) (value_is c.args.level.depth _)) refl) c.string.ensures.written

pub write_value-returns-in-Bool-clause-ok : goal.write_value-returns-in-Bool-clause-ok
write_value-returns-in-Bool-clause-ok g t c =
    let first_key : c.args.self.now.reader ≡ token_of c.in_ok-token.token ∷ c.next.new.self = grind arith in
    let b = c.in-Bool.truth in
    let is : c.args.self.now.reader ≡ Token.boolean b ∷ c.next.new.self = grind (arith, first_key) in
    on_ok_weaker c.boolean.result
    (token_means _ _ _ _ _ (tree.boolean b) _ _ is (ap (converted tree_of_json) (value_is c.args.level.depth _)) refl) c.boolean.ensures.written

pub write_value-returns-in-Null-clause-ok : goal.write_value-returns-in-Null-clause-ok
write_value-returns-in-Null-clause-ok g t c =
    let first_key : c.args.self.now.reader ≡ token_of c.in_ok-token.token ∷ c.next.new.self = grind arith in
    let is : c.args.self.now.reader ≡ Token.null ∷ c.next.new.self = grind (arith, first_key) in
    on_ok_weaker c.null.result
    (token_means _ _ _ _ _ tree.null _ _ is (ap (converted tree_of_json) (value_is c.args.level.depth _)) refl) c.null.ensures.written

pub write_value-returns-in_ok-parse_number-in-Number-clause-ok : goal.write_value-returns-in_ok-parse_number-in-Number-clause-ok
write_value-returns-in_ok-parse_number-in-Number-clause-ok g t c =
    let first_key : c.args.self.now.reader ≡ token_of c.in_ok-token.token ∷ c.next.new.self = grind arith in
    let is : c.args.self.now.reader ≡ Token.number c.in-Number.text.now ∷ c.next.new.self = grind (arith, first_key) in
    let read = c.in_ok-parse_number-in-Number.ensures.ok in
    on_ok_weaker c.scalar.result (number_means _ _ _ _ _ _ _ _ is read.1 read.2) c.scalar.ensures.written

pub write_value-returns-else-level-eq0-clause-ok : goal.write_value-returns-else-level-eq0-clause-ok
write_value-returns-else-level-eq0-clause-ok g t c =
    let first_key : c.args.self.now.reader ≡ token_of c.in_ok-token.token ∷ c.next.new.self = grind arith in
    on_ok_weaker c.write_array.result
    (array_means _ _ _ _ _ _ (first_key ∙ ap (λ k. token_of k ∷ c.next.new.self) c.in-BeginArray.is)
    (omega arith)) c.write_array.ensures.ok

pub write_value-returns-else-level-eq0-2-clause-ok : goal.write_value-returns-else-level-eq0-2-clause-ok
write_value-returns-else-level-eq0-2-clause-ok g t c =
    let first_key : c.args.self.now.reader ≡ token_of c.in_ok-token.token ∷ c.next.new.self = grind arith in
    on_ok_weaker c.write_object.result
    (object_means _ _ _ _ _ _ (first_key ∙ ap (λ k. token_of k ∷ c.next.new.self) c.in-BeginObject.is)
    (omega arith)) c.write_object.ensures.ok

pub write_scope-returns-clause-ok : goal.write_scope-returns-clause-ok
write_scope-returns-clause-ok g t c =
    on_ok_weaker c.write_document.result
    (scope_means _ _ _ _ _ _ _ (omega arith) c.in_ok-first_key.ensures.value) c.write_document.ensures.ok

pub write_code-returns-in_ok-code-in-Null-clause-ok : goal.write_code-returns-in_ok-code-in-Null-clause-ok
write_code-returns-in_ok-code-in-Null-clause-ok g t c =
    let is : c.args.self.now.reader ≡ Token.null ∷ c.read_scope.new.reader =
    c.in_ok-scope.ensures.ok ∙ ap (λ k. scope_token k ∷ c.read_scope.new.reader) c.in-Null.is in
    let text = c.in_ok-code-in-Null.ensures.ok in
    let Wrote : Value → Type 0 = λ v. g.W.ValueWriter.wrote_value c.args.self.now.writer c.args.name.now v c.scalar.new.self in
    on_ok_weaker c.scalar.result
    (λ wrote_value. code_alone _ _ _ _ _ _ _ Wrote is c.in_ok-end_object-in-Null.ensures.ok
    (subst (λ s. Wrote (scalar (code s))) text wrote_value)) c.scalar.ensures.written

pub write_code-returns-in_ok-end_object-in-Object-clause-ok : goal.write_code-returns-in_ok-end_object-in-Object-clause-ok
write_code-returns-in_ok-end_object-in-Object-clause-ok g t c =
    let is : c.args.self.now.reader ≡ Token.begin_object ∷ c.read_scope.new.reader =
    c.in_ok-scope.ensures.ok ∙ ap (λ k. scope_token k ∷ c.read_scope.new.reader) c.in-Object.is in
    let scope = c.in-Ok.ensures in
    let mark = c.in_ok-open_container-in-Object.ensures.written in
    on_ok_weaker c.end_code.result
    (λ ended. code_scoped _ _ _ _ _ _ _ _ _
    (λ v. g.W.ValueWriter.wrote_value c.args.self.now.writer c.args.name.now v c.end_code.new.self) is scope.ok scope.shorter
    c.in_ok-end_object-in-Object.ensures.ok
    (λ ps. ended c.args.self.now.writer c.begin_code.new.self c.args.name.now c.args.code.now ps mark)) c.end_code.ensures.written

pub write_wrapper-returns-in_default-clause-ok : goal.write_wrapper-returns-in_default-clause-ok
write_wrapper-returns-in_default-clause-ok g t c =
    let ended : read_key c.read_wrapper_content.new.reader ≡ Some (None, c.next_key.new.self) = grind arith in
    let named : wrapper_of c.args.key.now ≡ Some c.args.wrapper = grind arith in
    on_ok_weaker c.scalar.result
    (single_means _ _ _ _ _ _ _ _ _ _ named c.in_ok-content.ensures.ok c.in_ok-content.ensures.shorter ended
    c.in_ok-value.ensures.ok) c.scalar.ensures.written

pub write_wrapper-returns-clause-ok : goal.write_wrapper-returns-clause-ok
write_wrapper-returns-clause-ok g t c =
    let k = c.args.key.now in
    let l = c.in-Some.second_key.now in
    let named : read_key c.read_wrapper_content.new.reader ≡ Some (Some l, c.next_key.new.self) = grind arith in
    let are : (bytes_eq k (codes "$code") && bytes_eq l (codes "$scope")) ≡ true = grind arith in
    on_ok_weaker c.write_code.result
    (code_means _ _ _ _ _ _ _ _ _ _ _ c.in_ok-content.ensures.ok c.in_ok-content.ensures.shorter named are
    (c.in-Ok.ensures.ok ∙ ap tree.string (sym c.deref.ensures))) c.write_code.ensures.ok

pub write_array-returns-in-Err-clause-fails : goal.write_array-returns-in-Err-clause-fails
write_array-returns-in-Err-clause-fails = stops.write_array-returns-in-Err-clause-fails

pub write_array-returns-in_err-index-clause-fails : goal.write_array-returns-in_err-index-clause-fails
write_array-returns-in_err-index-clause-fails = stops.write_array-returns-in_err-index-clause-fails

pub write_code-returns-in_err-end_object-in-Null-clause-fails : goal.write_code-returns-in_err-end_object-in-Null-clause-fails
write_code-returns-in_err-end_object-in-Null-clause-fails = stops.write_code-returns-in_err-end_object-in-Null-clause-fails

pub write_code-returns-in-Err-clause-fails : goal.write_code-returns-in-Err-clause-fails
write_code-returns-in-Err-clause-fails = stops.write_code-returns-in-Err-clause-fails

pub write_code-returns-in_err-end_object-in-Object-clause-fails : goal.write_code-returns-in_err-end_object-in-Object-clause-fails
write_code-returns-in_err-end_object-in-Object-clause-fails = stops.write_code-returns-in_err-end_object-in-Object-clause-fails

pub write_document-returns-in-Some-misplaced_wrapper-clause-fails : goal.write_document-returns-in-Some-misplaced_wrapper-clause-fails
write_document-returns-in-Some-misplaced_wrapper-clause-fails = stops.write_document-returns-in-Some-misplaced_wrapper-clause-fails

pub write_document-returns-in-Err-clause-fails : goal.write_document-returns-in-Err-clause-fails
write_document-returns-in-Err-clause-fails = stops.write_document-returns-in-Err-clause-fails

pub write_document-returns-in_err-pending_key-clause-fails : goal.write_document-returns-in_err-pending_key-clause-fails
write_document-returns-in_err-pending_key-clause-fails = stops.write_document-returns-in_err-pending_key-clause-fails

pub write_document-returns-in_err-end_document-clause-fails : goal.write_document-returns-in_err-end_document-clause-fails
write_document-returns-in_err-end_document-clause-fails = stops.write_document-returns-in_err-end_document-clause-fails

pub write_object-returns-in_err-first_key-clause-fails : goal.write_object-returns-in_err-first_key-clause-fails
write_object-returns-in_err-first_key-clause-fails g t c =
    let p = err_from_is_err_and c.from_residual.result c.from_residual.ensures.1 in
    rw (p.1, p.2) (no_key_denied c.args.level.doubles (g.W.ValueWriter.may_give_up c.args.level.doubles) g.W.ValueWriter.sorts_keys failure.Syntax c.args.level.depth c.args.self.now.reader (grind arith), tt)

pub write_object-returns-in-Some-clause-fails : goal.write_object-returns-in-Some-clause-fails
write_object-returns-in-Some-clause-fails = stops.write_object-returns-in-Some-clause-fails

pub write_object-returns-in-Some-wrapper_named-clause-fails : goal.write_object-returns-in-Some-wrapper_named-clause-fails
write_object-returns-in-Some-wrapper_named-clause-fails = stops.write_object-returns-in-Some-wrapper_named-clause-fails

pub write_object-returns-clause-fails : goal.write_object-returns-clause-fails
write_object-returns-clause-fails = stops.write_object-returns-clause-fails

pub write_scope-returns-in_err-first_key-clause-fails : goal.write_scope-returns-in_err-first_key-clause-fails
write_scope-returns-in_err-first_key-clause-fails = stops.write_scope-returns-in_err-first_key-clause-fails

pub write_scope-returns-clause-fails : goal.write_scope-returns-clause-fails
write_scope-returns-clause-fails g t c =
    let same = begins (c.args.level.depth - 1) _ c.args.self.now.reader c.next_key.new.self c.in_ok-first_key.ensures.value in
    if_err c.write_document.result c.write_document.ensures.fails (λ e h. (λ left. rw same h.0, λ left. rw same h.1))

pub write_value-returns-in_err-token-clause-fails : goal.write_value-returns-in_err-token-clause-fails
write_value-returns-in_err-token-clause-fails = stops.write_value-returns-in_err-token-clause-fails

pub write_value-returns-in_err-parse_number-in-Number-clause-fails : goal.write_value-returns-in_err-parse_number-in-Number-clause-fails
write_value-returns-in_err-parse_number-in-Number-clause-fails = stops.write_value-returns-in_err-parse_number-in-Number-clause-fails

pub write_value-returns-in-EndObject-clause-fails : goal.write_value-returns-in-EndObject-clause-fails
write_value-returns-in-EndObject-clause-fails = stops.write_value-returns-in-EndObject-clause-fails

pub write_value-returns-then-level-eq0-clause-fails : goal.write_value-returns-then-level-eq0-clause-fails
write_value-returns-then-level-eq0-clause-fails = stops.write_value-returns-then-level-eq0-clause-fails

pub write_value-returns-then-level-eq0-2-clause-fails : goal.write_value-returns-then-level-eq0-2-clause-fails
write_value-returns-then-level-eq0-2-clause-fails = stops.write_value-returns-then-level-eq0-2-clause-fails

pub write_value-returns-else-level-eq0-clause-fails : goal.write_value-returns-else-level-eq0-clause-fails
write_value-returns-else-level-eq0-clause-fails = stops.write_value-returns-else-level-eq0-clause-fails

pub write_value-returns-else-level-eq0-2-clause-fails : goal.write_value-returns-else-level-eq0-2-clause-fails
write_value-returns-else-level-eq0-2-clause-fails = stops.write_value-returns-else-level-eq0-2-clause-fails

pub write_wrapper-returns-in_err-content-clause-fails : goal.write_wrapper-returns-in_err-content-clause-fails
write_wrapper-returns-in_err-content-clause-fails = stops.write_wrapper-returns-in_err-content-clause-fails

pub write_wrapper-returns-in_err-second_key-clause-fails : goal.write_wrapper-returns-in_err-second_key-clause-fails
write_wrapper-returns-in_err-second_key-clause-fails = stops.write_wrapper-returns-in_err-second_key-clause-fails

pub write_wrapper-returns-in_err-value-clause-fails : goal.write_wrapper-returns-in_err-value-clause-fails
write_wrapper-returns-in_err-value-clause-fails = stops.write_wrapper-returns-in_err-value-clause-fails

pub write_wrapper-returns-then-not-is_code_with_scope-clause-fails : goal.write_wrapper-returns-then-not-is_code_with_scope-clause-fails
write_wrapper-returns-then-not-is_code_with_scope-clause-fails = stops.write_wrapper-returns-then-not-is_code_with_scope-clause-fails

pub write_wrapper-returns-clause-fails : goal.write_wrapper-returns-clause-fails
write_wrapper-returns-clause-fails = stops.write_wrapper-returns-clause-fails

pub write_wrapper-returns-in_default-text_of-clause-fails : goal.write_wrapper-returns-in_default-text_of-clause-fails
write_wrapper-returns-in_default-text_of-clause-fails = stops.write_wrapper-returns-in_default-text_of-clause-fails

pub write_code-returns-in_err-scope-clause-fails : goal.write_code-returns-in_err-scope-clause-fails
write_code-returns-in_err-scope-clause-fails = stops.write_code-returns-in_err-scope-clause-fails

pub write_value-returns-in-String-clause-fails : goal.write_value-returns-in-String-clause-fails
write_value-returns-in-String-clause-fails g t c =
    if_err c.string.result c.string.ensures.stops (λ e h. (gives_up g.W.ValueWriter.may_give_up e c.args.level.doubles _ _ _ h, quiet g.W.ValueWriter.may_give_up e _ h))

pub write_value-returns-in_ok-parse_number-in-Number-clause-fails : goal.write_value-returns-in_ok-parse_number-in-Number-clause-fails
write_value-returns-in_ok-parse_number-in-Number-clause-fails g t c =
    let written = number_written c.args.level.doubles _ _ c.in_ok-parse_number-in-Number.ensures.ok.2 in
    if_err c.scalar.result c.scalar.ensures.stops (λ e h. (gives_up_at g.W.ValueWriter.may_give_up _ e c.args.level.doubles _ _ _ written h, quiet_at g.W.ValueWriter.may_give_up _ e _ h))

pub write_value-returns-in-Bool-clause-fails : goal.write_value-returns-in-Bool-clause-fails
write_value-returns-in-Bool-clause-fails g t c =
    if_err c.boolean.result c.boolean.ensures.stops (λ e h. (gives_up g.W.ValueWriter.may_give_up e c.args.level.doubles _ _ _ h, quiet g.W.ValueWriter.may_give_up e _ h))

pub write_value-returns-in-Null-clause-fails : goal.write_value-returns-in-Null-clause-fails
write_value-returns-in-Null-clause-fails g t c =
    if_err c.null.result c.null.ensures.stops (λ e h. (gives_up g.W.ValueWriter.may_give_up e c.args.level.doubles _ _ _ h, quiet g.W.ValueWriter.may_give_up e _ h))

pub write_array-returns-in_err-open_container-clause-fails : goal.write_array-returns-in_err-open_container-clause-fails
write_array-returns-in_err-open_container-clause-fails = stops.write_array-returns-in_err-open_container-clause-fails

pub write_array-returns-clause-fails : goal.write_array-returns-clause-fails
write_array-returns-clause-fails g t c =
    if_err c.end_array.result c.end_array.ensures.stops (λ e h. (gives_up g.W.ValueWriter.may_give_up e c.args.level.doubles _ _ _ h, quiet g.W.ValueWriter.may_give_up e _ h))

pub write_document-returns-in_err-open_container-clause-fails : goal.write_document-returns-in_err-open_container-clause-fails
write_document-returns-in_err-open_container-clause-fails = stops.write_document-returns-in_err-open_container-clause-fails

pub write_document-returns-in_err-key-clause-fails : goal.write_document-returns-in_err-key-clause-fails
write_document-returns-in_err-key-clause-fails = stops.write_document-returns-in_err-key-clause-fails

pub write_object-returns-in_err-embed_document-clause-fails : goal.write_object-returns-in_err-embed_document-clause-fails
write_object-returns-in_err-embed_document-clause-fails g t c =
    let p = err_from_is_err_and c.from_residual-in_err-embed_document.result c.from_residual-in_err-embed_document.ensures.1 in
    let h = c.in_err-embed_document.ensures.stops in
    rw (p.1, p.2) (gives_up g.W.ValueWriter.may_give_up _ c.args.level.doubles _ _ _ h, quiet g.W.ValueWriter.may_give_up _ _ h)

pub write_wrapper-returns-in_default-clause-fails : goal.write_wrapper-returns-in_default-clause-fails
write_wrapper-returns-in_default-clause-fails = stops.write_wrapper-returns-in_default-clause-fails

pub write_code-returns-in_ok-code-in-Null-clause-fails : goal.write_code-returns-in_ok-code-in-Null-clause-fails
write_code-returns-in_ok-code-in-Null-clause-fails = stops.write_code-returns-in_ok-code-in-Null-clause-fails

pub write_code-returns-in_err-open_container-in-Object-clause-fails : goal.write_code-returns-in_err-open_container-in-Object-clause-fails
write_code-returns-in_err-open_container-in-Object-clause-fails = stops.write_code-returns-in_err-open_container-in-Object-clause-fails

pub write_code-returns-in_ok-end_object-in-Object-clause-fails : goal.write_code-returns-in_ok-end_object-in-Object-clause-fails
write_code-returns-in_ok-end_object-in-Object-clause-fails g t c =
    if_err c.end_code.result c.end_code.ensures.stops (λ e h. (gives_up g.W.ValueWriter.may_give_up e c.args.level.doubles _ _ _ h, λ first_key. quiet g.W.ValueWriter.may_give_up e _ h))
