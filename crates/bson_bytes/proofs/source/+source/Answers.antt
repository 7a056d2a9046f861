use Rattle.std.proofs.Common.{◌≡◌, ◌≤◌, ◌+◌, ◌-◌, length, arith, sym, ap, ◌∙◌, None, Some, true, false}
use Rattle.std.proofs.lemmas.Result.{err_from_is_err_and}
use Rattle.bson_model.specs.Value.{no_pairs}
use Rattle.bson_types.specs.declared.spec.ElementType.TheVariants as tag
use Rattle.bson_bytes.specs.Grammar.{deduplicated}
use Rattle.bson_bytes.specs.Reading.{read_key, read_value_in, read_document_in, no_earlier_keys, insert_pairs_read}
use Rattle.bson_bytes.specs.TypeTags.{type_of_tag}
use Rattle.bson_bytes.proofs.Offered.{elements, bad_byte, bad_tag, bad_name, bad_value, too_deep, bad_size, bad_list}
use Rattle.bson_bytes.proofs.Offered.{document_done, document_wrong, scope_done}
use Rattle.bson_bytes.specs.Source.{earlier_keys}
use Rattle.bson_bytes.proofs.Loop.{stops_by, stops_sink, list_start, list_fault, list_end, list_more, begins, array_read}
use Rattle.bson_bytes.proofs.Loop.{array_fault, embedded_read, embedded_fault, scope_fault, scope_short}
use Rattle.bson_bytes.proofs.source.+source.Goals as goal

-- ---- elements

pub read_elements-elements-init : goal.read_elements-elements-init
read_elements-elements-init g t c =
    (no_pairs, list_start g.S.ValueSink.keys c.args.is_document c.args.depth c.args.bytes.now, (λ start b. b), omega arith)

pub read_elements-returns-in_err-tag-clause-outcome : goal.read_elements-returns-in_err-tag-clause-outcome
read_elements-returns-in_err-tag-clause-outcome g t c =
    let p = err_from_is_err_and c.from_residual-in_err-tag.result c.from_residual-in_err-tag.ensures.1 in
    let i = c.elements.invariant in
    rw (p.1, p.2) (list_fault g.S.ValueSink.keys c.args.is_document c.args.depth i.0 c.elements.rest.now _ i.1 _
    (bad_byte g.S.ValueSink.keys c.args.depth (earlier_keys g.S.ValueSink.keys c.args.is_document i.0) i.1.turns c.elements.rest.now _ c.in_err-tag.ensures.outcome))

pub read_elements-returns-then-tag-eq0-clause-outcome : goal.read_elements-returns-then-tag-eq0-clause-outcome
read_elements-returns-then-tag-eq0-clause-outcome g t c =
    let i = c.elements.invariant in (
      i.0,
      list_end g.S.ValueSink.keys c.args.is_document c.args.depth i.0 c.elements.rest.now _ c.in_ok-tag.tag c.in_ok-tag.after_tag.now i.1 c.in_ok-tag.ensures.outcome
          c.if-tag-eq0.true,
      i.2 c.args.value_sink.now c.in_ok-open_list.ensures.outcome,
    )

pub read_elements-returns-in_default-clause-outcome : goal.read_elements-returns-in_default-clause-outcome
read_elements-returns-in_default-clause-outcome g t c =
    let i = c.elements.invariant in
    let no : type_of_tag c.in_ok-tag.tag ≡ None = sym c.type_of_tag.ensures ∙ c.in_default.is in
    rw c.fault_at.ensures (list_fault g.S.ValueSink.keys c.args.is_document c.args.depth i.0 c.elements.rest.now _ i.1 _
    (bad_tag g.S.ValueSink.keys c.args.depth (earlier_keys g.S.ValueSink.keys c.args.is_document i.0) i.1.turns c.elements.rest.now c.in_ok-tag.tag c.in_ok-tag.after_tag.now i.1.enough
    c.in_ok-tag.ensures.outcome c.if-tag-eq0.false no))

pub read_elements-returns-in_err-name-clause-outcome : goal.read_elements-returns-in_err-name-clause-outcome
read_elements-returns-in_err-name-clause-outcome g t c =
    let p = err_from_is_err_and c.from_residual-in_err-name.result c.from_residual-in_err-name.ensures.1 in
    let i = c.elements.invariant in
    let k : type_of_tag c.in_ok-tag.tag ≡ Some c.in-Some.element_type = sym c.type_of_tag.ensures ∙ c.in-Some.is in
    rw (p.1, p.2) (stops_by g.S.ValueSink.may_stop c.in_err-name.field-0.0 (read_key (earlier_keys g.S.ValueSink.keys c.args.is_document i.0) c.in_ok-tag.after_tag.now) _
    (λ f e. list_fault g.S.ValueSink.keys c.args.is_document c.args.depth i.0 c.elements.rest.now _ i.1 f
    (bad_name g.S.ValueSink.keys c.args.depth (earlier_keys g.S.ValueSink.keys c.args.is_document i.0) i.1.turns c.elements.rest.now c.in_ok-tag.tag c.in_ok-tag.after_tag.now c.in-Some.element_type f
    i.1.enough c.in_ok-tag.ensures.outcome c.if-tag-eq0.false k e))
    (c.in_err-name.ensures.outcome c.args.value_sink.now i.0 (i.2 c.args.value_sink.now c.in_ok-open_list.ensures.outcome)))

pub read_elements-returns-in_err-value-clause-outcome : goal.read_elements-returns-in_err-value-clause-outcome
read_elements-returns-in_err-value-clause-outcome g t c =
    let p = err_from_is_err_and c.from_residual-in_err-value.result c.from_residual-in_err-value.ensures.1 in
    let i = c.elements.invariant in
    let k : type_of_tag c.in_ok-tag.tag ≡ Some c.in-Some.element_type = sym c.type_of_tag.ensures ∙ c.in-Some.is in
    let n = c.in_ok-name.ensures.outcome c.args.value_sink.now i.0 (i.2 c.args.value_sink.now c.in_ok-open_list.ensures.outcome) in
    rw (p.1, p.2) (stops_by g.S.ValueSink.may_stop c.in_err-value.field-0.0
    (read_value_in g.S.ValueSink.keys (read_document_in g.S.ValueSink.keys c.args.depth) c.in-Some.element_type c.in_ok-name.after_name.now) _
    (λ f e. list_fault g.S.ValueSink.keys c.args.is_document c.args.depth i.0 c.elements.rest.now _ i.1 f
    (bad_value g.S.ValueSink.keys c.args.depth (earlier_keys g.S.ValueSink.keys c.args.is_document i.0) i.1.turns c.elements.rest.now c.in_ok-tag.tag c.in_ok-tag.after_tag.now c.in-Some.element_type
    n.0 c.in_ok-name.after_name.now f i.1.enough c.in_ok-tag.ensures.outcome c.if-tag-eq0.false k n.1 e))
    c.in_err-value.ensures.outcome)

pub read_elements-elements-preserved : goal.read_elements-elements-preserved
read_elements-elements-preserved g t c =
    let i = c.elements.invariant in
    let k : type_of_tag c.in_ok-tag.tag ≡ Some c.in-Some.element_type = sym c.type_of_tag.ensures ∙ c.in-Some.is in
    let n = c.in_ok-name.ensures.outcome c.args.value_sink.now i.0 (i.2 c.args.value_sink.now c.in_ok-open_list.ensures.outcome) in
    let v = c.in_ok-value.ensures.outcome in
    let shorter : length c.in_ok-value.after_value.now + 1 ≤ length c.elements.rest.now =
    omega (arith, c.in_ok-tag.ensures.shorter, c.in_ok-name.ensures.shorter, c.in_ok-value.ensures.shorter) in (
      _,
      list_more g.S.ValueSink.keys c.args.is_document c.args.depth i.0 c.elements.rest.now _ c.in_ok-tag.tag c.in_ok-tag.after_tag.now c.in-Some.element_type n.0
          c.in_ok-name.after_name.now v.0 c.in_ok-value.after_value.now i.1 (omega (arith, shorter)) c.in_ok-tag.ensures.outcome
          c.if-tag-eq0.false k n.1 v.1,
      (λ start b. c.in_ok-element.ensures.outcome start _ _ i.0 n.0 v.0 (i.2 start b) n.2 v.2),
      omega (arith, shorter, i.3),
    )

-- ---- documents

pub read_sized_elements-returns-then-depth-eq0-clause-outcome : goal.read_sized_elements-returns-then-depth-eq0-clause-outcome
read_sized_elements-returns-then-depth-eq0-clause-outcome g t c =
    rw c.fault_at.ensures (too_deep g.S.ValueSink.keys c.args.depth (earlier_keys g.S.ValueSink.keys c.args.is_document no_pairs) c.args.bytes.now c.if-depth-eq0.true)

pub read_sized_elements-returns-in_err-size-clause-outcome : goal.read_sized_elements-returns-in_err-size-clause-outcome
read_sized_elements-returns-in_err-size-clause-outcome g t c =
    let p = err_from_is_err_and c.from_residual.result c.from_residual.ensures.1 in
    rw (p.1, p.2) (bad_size g.S.ValueSink.keys c.args.depth (earlier_keys g.S.ValueSink.keys c.args.is_document no_pairs) c.args.bytes.now _ c.if-depth-eq0.false c.in_err-size.ensures.outcome)

pub read_sized_elements-returns-in_err-open_list-clause-outcome : goal.read_sized_elements-returns-in_err-open_list-clause-outcome
read_sized_elements-returns-in_err-open_list-clause-outcome g t c =
    let p = err_from_is_err_and c.from_residual-in_err-open_list.result c.from_residual-in_err-open_list.ensures.1 in
    rw (p.1, p.2) (stops_by g.S.ValueSink.may_stop c.in_err-open_list.field-0.0
    (elements g.S.ValueSink.keys (c.args.depth - 1) (earlier_keys g.S.ValueSink.keys c.args.is_document no_pairs) (length c.in_ok-size.element_bytes.now) c.in_ok-size.element_bytes.now) _
    (λ f e. bad_list g.S.ValueSink.keys c.args.depth (earlier_keys g.S.ValueSink.keys c.args.is_document no_pairs) c.args.bytes.now c.in_ok-size.size c.in_ok-size.element_bytes.now f
    c.if-depth-eq0.false c.in_ok-size.ensures.outcome e) c.in_err-open_list.ensures.outcome)

pub read_sized_elements-returns-then-bytes-rest-clause-outcome : goal.read_sized_elements-returns-then-bytes-rest-clause-outcome
read_sized_elements-returns-then-bytes-rest-clause-outcome g t c =
    let x = c.in_ok-open_list.ensures.outcome in
    rw c.fault_at-then-bytes-rest.ensures (document_wrong g.S.ValueSink.keys c.args.depth (earlier_keys g.S.ValueSink.keys c.args.is_document no_pairs) c.args.bytes.now c.in_ok-size.size
    c.in_ok-size.element_bytes.now x.0 c.in_ok-open_list.rest.now c.if-depth-eq0.false c.in_ok-size.ensures.outcome x.1
    (λ e. c.if-bytes-rest.true (omega (arith, e, c.in_ok-size.ensures.shorter, c.in_ok-open_list.ensures.shorter))))

pub read_sized_elements-returns-clause-outcome : goal.read_sized_elements-returns-clause-outcome
read_sized_elements-returns-clause-outcome g t c =
    let x = c.in_ok-open_list.ensures.outcome in (
      x.0,
      document_done g.S.ValueSink.keys c.args.depth (earlier_keys g.S.ValueSink.keys c.args.is_document no_pairs) c.args.bytes.now c.in_ok-size.size c.in_ok-size.element_bytes.now x.0
          c.in_ok-open_list.rest.now c.if-depth-eq0.false c.in_ok-size.ensures.outcome x.1
          (omega (arith, c.if-bytes-rest.false, c.in_ok-size.ensures.shorter, c.in_ok-open_list.ensures.shorter)),
      x.2,
    )

pub read_first_document-returns-in_err-open_list-clause-outcome : goal.read_first_document-returns-in_err-open_list-clause-outcome
read_first_document-returns-in_err-open_list-clause-outcome g t c =
    let p = err_from_is_err_and c.from_residual.result c.from_residual.ensures.1 in
    rw (p.1, p.2) (stops_by g.S.ValueSink.may_stop c.in_err-open_list.field-0.0 (read_document_in g.S.ValueSink.keys c.args.depth (earlier_keys g.S.ValueSink.keys true no_pairs) c.args.bytes.now) _
    (λ f e. ap (insert_pairs_read no_pairs) (begins g.S.ValueSink.keys c.args.depth c.args.bytes.now ∙ e)) c.in_err-open_list.ensures.outcome)

pub read_first_document-returns-in_err-document-clause-outcome : goal.read_first_document-returns-in_err-document-clause-outcome
read_first_document-returns-in_err-document-clause-outcome g t c =
    let p = err_from_is_err_and c.from_residual-in_err-document.result c.from_residual-in_err-document.ensures.1 in
    rw (p.1, p.2) (stops_sink g.S.ValueSink.may_stop c.in_err-document.field-0.0 (insert_pairs_read no_pairs (read_document_in g.S.ValueSink.keys c.args.depth (no_earlier_keys g.S.ValueSink.keys) c.args.bytes.now)) c.in_err-document.ensures.stop c.in_err-document.ensures.no_fault)

pub read_first_document-returns-clause-outcome : goal.read_first_document-returns-clause-outcome
read_first_document-returns-clause-outcome g t c =
    let x = c.in_ok-open_list.ensures.outcome in
    (_, ap (insert_pairs_read no_pairs) (begins g.S.ValueSink.keys c.args.depth c.args.bytes.now ∙ x.1), c.in_ok-document.ensures.outcome c.args.value_sink.now x.0 x.2)

-- ---- what holds a document

pub read_array-end_array-requires : goal.read_array-end_array-requires
read_array-end_array-requires g t c =
    let x = c.in_ok-open_list.ensures.outcome in
    (c.args.value_sink.now, x.0, x.2)

pub read_array-returns-in_err-open_list-clause-outcome : goal.read_array-returns-in_err-open_list-clause-outcome
read_array-returns-in_err-open_list-clause-outcome g t c =
    let p = err_from_is_err_and c.from_residual.result c.from_residual.ensures.1 in
    rw (p.1, p.2) (stops_by g.S.ValueSink.may_stop c.in_err-open_list.field-0.0 (read_document_in g.S.ValueSink.keys c.args.depth (earlier_keys g.S.ValueSink.keys false no_pairs) c.args.bytes.now) _
    (λ f e. array_fault g.S.ValueSink.keys c.args.depth c.args.bytes.now f e) c.in_err-open_list.ensures.outcome)

pub read_array-returns-clause-outcome : goal.read_array-returns-clause-outcome
read_array-returns-clause-outcome g t c =
    let x = c.in_ok-open_list.ensures.outcome in
    (_, array_read g.S.ValueSink.keys c.args.depth c.args.bytes.now x.0 _ x.1, c.in_ok-value.ensures.outcome c.args.value_sink.now x.0 x.2)

pub read_embedded_document-end_document-requires : goal.read_embedded_document-end_document-requires
read_embedded_document-end_document-requires g t c =
    let x = c.in_ok-open_list.ensures.outcome in
    (c.args.value_sink.now, x.0, x.2)

pub read_embedded_document-returns-in_err-open_list-clause-outcome : goal.read_embedded_document-returns-in_err-open_list-clause-outcome
read_embedded_document-returns-in_err-open_list-clause-outcome g t c =
    let p = err_from_is_err_and c.from_residual.result c.from_residual.ensures.1 in
    rw (p.1, p.2) (stops_by g.S.ValueSink.may_stop c.in_err-open_list.field-0.0 (read_document_in g.S.ValueSink.keys c.args.depth (earlier_keys g.S.ValueSink.keys true no_pairs) c.args.bytes.now) _
    (λ f e. embedded_fault g.S.ValueSink.keys c.args.depth c.args.bytes.now f
    (ap (insert_pairs_read no_pairs) (begins g.S.ValueSink.keys c.args.depth c.args.bytes.now ∙ e))) c.in_err-open_list.ensures.outcome)

pub read_embedded_document-returns-in_err-document-clause-outcome : goal.read_embedded_document-returns-in_err-document-clause-outcome
read_embedded_document-returns-in_err-document-clause-outcome g t c =
    let p = err_from_is_err_and c.from_residual-in_err-document.result c.from_residual-in_err-document.ensures.1 in
    rw (p.1, p.2) (stops_sink g.S.ValueSink.may_stop c.in_err-document.field-0.0 (read_value_in g.S.ValueSink.keys (read_document_in g.S.ValueSink.keys c.args.depth) tag.EmbeddedDocument c.args.bytes.now) c.in_err-document.ensures.stop c.in_err-document.ensures.no_fault)

pub read_embedded_document-returns-clause-outcome : goal.read_embedded_document-returns-clause-outcome
read_embedded_document-returns-clause-outcome g t c =
    let x = c.in_ok-open_list.ensures.outcome in (
      _,
      embedded_read g.S.ValueSink.keys c.args.depth c.args.bytes.now (deduplicated x.0) _
          (ap (insert_pairs_read no_pairs) (begins g.S.ValueSink.keys c.args.depth c.args.bytes.now ∙ x.1)),
      c.in_ok-value.ensures.outcome c.args.value_sink.now _ (c.in_ok-document.ensures.outcome c.args.value_sink.now x.0 x.2),
    )

pub read_first_document-end_document-requires : goal.read_first_document-end_document-requires
read_first_document-end_document-requires g t c =
    let x = c.in_ok-open_list.ensures.outcome in
    (c.args.value_sink.now, x.0, x.2)

pub read_code_with_scope-end_code-requires : goal.read_code_with_scope-end_code-requires
read_code_with_scope-end_code-requires g t c =
    let x = c.in_ok-scope.ensures.outcome in
    (c.args.value_sink.now, _, c.in_ok-text.text.now, x.0, c.in_ok-code.ensures.outcome, x.2)

pub read_code_with_scope-returns-in_err-scope-clause-outcome : goal.read_code_with_scope-returns-in_err-scope-clause-outcome
read_code_with_scope-returns-in_err-scope-clause-outcome g t c =
    let p = err_from_is_err_and c.from_residual-in_err-scope.result c.from_residual-in_err-scope.ensures.1 in
    rw (p.1, p.2) (stops_by g.S.ValueSink.may_stop c.in_err-scope.field-0.0
    (insert_pairs_read no_pairs (read_document_in g.S.ValueSink.keys c.args.depth (no_earlier_keys g.S.ValueSink.keys) c.in_ok-text.rest.now)) _
    (λ f e. scope_fault (read_document_in g.S.ValueSink.keys c.args.depth (no_earlier_keys g.S.ValueSink.keys)) c.args.bytes.now c.in_ok-size.size c.in_ok-size.rest.now c.in_ok-text.text.now
    c.in_ok-text.rest.now f c.in_ok-size.ensures.outcome c.in_ok-text.ensures.outcome e) c.in_err-scope.ensures.outcome)

pub read_code_with_scope-returns-then-bytes-rest-clause-outcome : goal.read_code_with_scope-returns-then-bytes-rest-clause-outcome
read_code_with_scope-returns-then-bytes-rest-clause-outcome g t c =
    let x = c.in_ok-scope.ensures.outcome in
    rw c.fault_at.ensures (scope_short (read_document_in g.S.ValueSink.keys c.args.depth (no_earlier_keys g.S.ValueSink.keys)) c.args.bytes.now c.in_ok-size.size c.in_ok-size.rest.now
    c.in_ok-text.text.now c.in_ok-text.rest.now x.0 c.in_ok-scope.rest.now c.in_ok-size.ensures.outcome
    c.in_ok-text.ensures.outcome x.1
    (λ e. c.if-bytes-rest.true (omega (arith, e, c.in_ok-size.ensures.shorter, c.in_ok-text.ensures.shorter, c.in_ok-scope.ensures.shorter))))

pub read_code_with_scope-returns-clause-outcome : goal.read_code_with_scope-returns-clause-outcome
read_code_with_scope-returns-clause-outcome g t c =
    let x = c.in_ok-scope.ensures.outcome in (
      _,
      scope_done g.S.ValueSink.keys c.args.depth c.args.bytes.now c.in_ok-size.size _ c.in_ok-text.text.now _ x.0
          c.in_ok-scope.rest.now c.in_ok-size.ensures.outcome c.in_ok-text.ensures.outcome x.1
          (omega (arith, c.if-bytes-rest.false, c.in_ok-size.ensures.shorter, c.in_ok-text.ensures.shorter, c.in_ok-scope.ensures.shorter)),
      c.in_ok-value.ensures.outcome c.args.value_sink.now _ c.in_ok-text.text.now x.0 c.in_ok-code.ensures.outcome x.2,
    )
