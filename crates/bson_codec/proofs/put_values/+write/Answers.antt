use Rattle.std.proofs.Common.{◌≡◌, ℕ, ◌+◌, ◌<◌, List, length, arith, sym, ap, subst, ◌∙◌, string_bytes}
use Rattle.std.proofs.lemmas.List.{length-append}
use Rattle.std.proofs.lemmas.Result.{err_from_is_err_and}
use Rattle.bson_bytes.proofs.Offered.{string_utf8}
use Rattle.bson_bytes.specs.PutSteps.{PutResult, PutsBytes, put_nul_and_length}
use Rattle.bson_bytes.specs.Writing.{name_bytes}
use Rattle.bson.specs.Iter.{remaining_entries}
use Rattle.bson.specs.View.{bson_view, values_view, pairs_view, contents}
use Rattle.bson.specs.declared.bson.Bson.{Bson}
use Rattle.bson_codec.proofs.ElementLaws.{array_bad, array_next, array_end, named, left_is, key_stops, key_put}
use Rattle.bson_codec.proofs.ElementLaws.{value_stops}
use Rattle.bson_codec.proofs.ElementLaws.{document_end, next_pair}
use Rattle.bson_codec.proofs.Seen.{scoped_seen}
use Rattle.bson_codec.proofs.Typed.{pairs_typed, document_typed, items_typed, on_ok, string_typed}
use Rattle.bson_codec.proofs.Typed.{code_typed, symbol_typed, regex_typed, scope_typed}
use Rattle.bson.proofs.Offered.{weight, weight_items, weight_pairs, lighter_item}
use Rattle.bson_codec.proofs.put_values.+write.Goals as goal

pub put_value-put_code_with_scope-requires : goal.put_value-put_code_with_scope-requires
put_value-put_code_with_scope-requires t c =
    let seen = ap (λ (v : Bson). weight (bson_view v)) c.in-JavaScriptCodeWithScope.is
    ∙ ap weight (scoped_seen c.in-JavaScriptCodeWithScope.scoped_code) in
    (omega (arith, c.decreases, seen), tt)

-- ---- arrays

pub put_array-put_value-requires : goal.put_array-put_value-requires
put_array-put_value-requires t c =
    let items = c.deref-value-items.result.now in
    let v = c.value-item.result in
    let below : c.loop-index.index < length items = omega (arith, c.loop-index-test.true) in
    let h : 1 + weight (bson_view v) < weight_items (values_view items) =
    subst (λ (w : Bson). 1 + weight (bson_view w) < weight_items (values_view items)) (sym c.value-item.is)
    (lighter_item items c.loop-index.index v below) in
    let all = ap (λ (xs : List Bson). weight_items (values_view xs)) c.deref-value-items.ensures.value in
    (omega (arith, h, all, c.decreases), tt)

pub put_array-returns-in_err-put_value-clause-put : goal.put_array-returns-in_err-put_value-clause-put
put_array-returns-in_err-put_value-clause-put t c =
    let p = err_from_is_err_and c.from_residual-in_err-put_value.result c.from_residual-in_err-put_value.ensures.1 in
    let output = c.loop-index.output.items in
    let v = c.value-item.result in
    let name = named output c.put_name.new.output.items c.format.result.now c.type_of.result v c.loop-index.index
    c.in_ok-put_name.ensures.put c.type_of.ensures c.format.ensures.text in
    rw (p.1, p.2) (array_bad c.in_err-put_value.field-0.0 c.deref-value-items.result.now c.args.values.now.items c.loop-index.index v
    c.args.output.now.items c.put_length_placeholder.new.output.items output c.put_name.new.output.items (omega (arith, c.loop-index-test.true))
    c.value-item.is c.deref-value-items.ensures.value c.in_ok-put_length_placeholder.ensures c.loop-index.invariant.put name
    c.in_err-put_value.ensures.put)

pub put_array-loop-index-preserved : goal.put_array-loop-index-preserved
put_array-loop-index-preserved t c =
    let output = c.loop-index.output.items in
    let v = c.value-item.result in
    let name = named output c.put_name.new.output.items c.format.result.now c.type_of.result v c.loop-index.index
    c.in_ok-put_name.ensures.put c.type_of.ensures c.format.ensures.text in
    let longer = ap length c.in_ok-put_name.ensures.put ∙ length-append output (name_bytes c.type_of.result c.format.result.now) in
    record {
      put = array_next c.deref-value-items.result.now c.loop-index.index v output c.put_name.new.output.items c.put_value.new.output.items _
          (omega (arith, c.loop-index-test.true)) c.value-item.is c.loop-index.invariant.put name c.in_ok-put_value.ensures.put;
      room = omega (arith, c.loop-index.invariant.room, longer, c.in_ok-put_value.ensures.grows);
      typed = items_typed c.deref-value-items.result.now c.loop-index.index v (omega (arith, c.loop-index-test.true)) c.value-item.is
          c.loop-index.invariant.typed c.in_ok-put_value.ensures.typed;
    }

pub put_array-returns-clause-put : goal.put_array-returns-clause-put
put_array-returns-clause-put t c =
    let old = c.args.output.now.items in
    let length_start : c.len-length_start.result ≡ length old = omega (arith, c.len-length_start.ensures, c.args.output.now.ok) in
    let ended = array_end c.deref-value-items.result.now c.args.values.now.items c.loop-index.index old
    c.put_length_placeholder.new.output.items c.loop-index.output.items (omega (arith, c.loop-index-test.false))
    c.deref-value-items.ensures.value c.in_ok-put_length_placeholder.ensures c.loop-index.invariant.put in
    subst (λ (r : PutResult). PutsBytes c.put_nul_and_length.result c.put_nul_and_length.new.output.items r) (sym ended)
    (subst (λ (n : ℕ). PutsBytes c.put_nul_and_length.result c.put_nul_and_length.new.output.items (put_nul_and_length n c.loop-index.output.items)) length_start
    c.put_nul_and_length.ensures.put)

-- ---- documents

pub put_document-returns-in_err-put_key-clause-put : goal.put_document-returns-in_err-put_key-clause-put
put_document-returns-in_err-put_key-clause-put t c =
    let p = err_from_is_err_and c.from_residual-in_err-put_key.result c.from_residual-in_err-put_key.ensures.1 in
    rw (p.1, p.2) (key_stops c.in_err-put_key.field-0.0 c.args.document.now (remaining_entries c.elements.pairs)
    (remaining_entries c.next.new.self) (string_bytes c.in-Some.key.now) c.as_str.result.now c.in-Some.value.now c.type_of.result
    c.args.output.now.items c.reserve_pairs.new.output.items c.elements.output.items c.in-Some.ensures.steps
    c.in_ok-reserve_pairs.ensures.room c.elements.invariant.put c.type_of.ensures c.as_str.ensures.value
    c.in_err-put_key.ensures.put)

pub put_document-returns-in_err-put_value-clause-put : goal.put_document-returns-in_err-put_value-clause-put
put_document-returns-in_err-put_value-clause-put t c =
    let p = err_from_is_err_and c.from_residual-in_err-put_value.result c.from_residual-in_err-put_value.ensures.1 in
    let k = string_bytes c.in-Some.key.now in
    let v = c.in-Some.value.now in
    let name = key_put k c.as_str.result.now v c.type_of.result c.elements.output.items c.put_key.new.output.items
    c.type_of.ensures c.as_str.ensures.value c.in_ok-put_key.ensures.put in
    rw (p.1, p.2) (value_stops c.in_err-put_value.field-0.0 c.args.document.now (remaining_entries c.elements.pairs)
    (remaining_entries c.next.new.self) k v c.args.output.now.items c.reserve_pairs.new.output.items c.elements.output.items
    c.put_key.new.output.items c.in-Some.ensures.steps c.in_ok-reserve_pairs.ensures.room c.elements.invariant.put name
    c.in_err-put_value.ensures.put)

pub put_document-elements-preserved : goal.put_document-elements-preserved
put_document-elements-preserved t c =
    let k = string_bytes c.in-Some.key.now in
    let v = c.in-Some.value.now in
    let rest = remaining_entries c.next.new.self in
    let output = c.elements.output.items in
    let name = key_put k c.as_str.result.now v c.type_of.result output c.put_key.new.output.items c.type_of.ensures
    c.as_str.ensures.value c.in_ok-put_key.ensures.put in
    let lighter = ap (λ (ps : _). weight_pairs (pairs_view ps)) c.in-Some.ensures.steps in
    record {
      put = next_pair k (bson_view v) (pairs_view rest) output c.put_key.new.output.items c.put_value.new.output.items _
          (left_is (remaining_entries c.elements.pairs) rest k v output _ c.in-Some.ensures.steps c.elements.invariant.put) name
          c.in_ok-put_value.ensures.put;
      lighter = omega (arith, lighter, c.elements.invariant.lighter);
      room = omega (arith, c.elements.invariant.room, c.in_ok-put_key.ensures.grows, c.in_ok-put_value.ensures.grows);
      typed = pairs_typed (remaining_entries c.elements.pairs) rest (contents c.args.document.now) k v c.in-Some.ensures.steps
          c.elements.invariant.typed (string_utf8 c.in-Some.key.now) c.in_ok-put_value.ensures.typed;
    }

pub put_document-returns-clause-put : goal.put_document-returns-clause-put
put_document-returns-clause-put t c =
    let old = c.args.output.now.items in
    let length_start : c.len-length_start.result ≡ length old = omega (arith, c.len-length_start.ensures, c.args.output.now.ok) in
    let ended = document_end c.args.document.now (remaining_entries c.elements.pairs) old c.reserve_pairs.new.output.items
    c.elements.output.items c.in_default.ensures.steps.0 c.in_ok-reserve_pairs.ensures.room c.elements.invariant.put in
    subst (λ (r : PutResult). PutsBytes c.put_nul_and_length.result c.put_nul_and_length.new.output.items r) (sym ended)
    (subst (λ (n : ℕ). PutsBytes c.put_nul_and_length.result c.put_nul_and_length.new.output.items (put_nul_and_length n c.elements.output.items)) length_start
    c.put_nul_and_length.ensures.put)

pub put_document-returns-clause-typed : goal.put_document-returns-clause-typed
put_document-returns-clause-typed t c =
    on_ok c.put_nul_and_length.result
    (document_typed c.args.document.now (remaining_entries c.elements.pairs) c.in_default.ensures.steps.0
    c.elements.invariant.typed c.reserve_pairs.ensures.distinct)

-- ---- values

pub put_value-returns-in-String-clause-typed : goal.put_value-returns-in-String-clause-typed
put_value-returns-in-String-clause-typed t c =
    on_ok c.put_text.result (string_typed c.args.value.now c.in-String.text c.in-String.is)

pub put_value-returns-in-RegularExpression-clause-typed : goal.put_value-returns-in-RegularExpression-clause-typed
put_value-returns-in-RegularExpression-clause-typed t c =
    on_ok c.put_regex.result (regex_typed c.args.value.now c.in-RegularExpression.regex c.in-RegularExpression.is)

pub put_value-returns-in-JavaScriptCode-clause-typed : goal.put_value-returns-in-JavaScriptCode-clause-typed
put_value-returns-in-JavaScriptCode-clause-typed t c =
    on_ok c.put_text-in-JavaScriptCode.result (code_typed c.args.value.now c.in-JavaScriptCode.code c.in-JavaScriptCode.is)

pub put_value-returns-in-Symbol-clause-typed : goal.put_value-returns-in-Symbol-clause-typed
put_value-returns-in-Symbol-clause-typed t c =
    on_ok c.put_text-in-Symbol.result (symbol_typed c.args.value.now c.in-Symbol.symbol c.in-Symbol.is)

pub put_code_with_scope-returns-clause-typed : goal.put_code_with_scope-returns-clause-typed
put_code_with_scope-returns-clause-typed t c =
    on_ok c.put_length.result (scope_typed c.args.scoped_code.now c.in_ok-put_document.ensures.typed)
