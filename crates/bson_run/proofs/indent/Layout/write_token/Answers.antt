use Rattle.std.proofs.Common.{◌≡◌, ◌++◌, ◌+◌, ◌-◌, ◌∷◌, [], ◌&&◌, cond, if◌then◌else◌, length, ap, ◌∙◌}
use Rattle.std.proofs.lemmas.List.{length-replicate}
use Rattle.json.specs.Print.{token_text, separator, begins}
use Rattle.json.specs.Layout.{is_value}
use Rattle.json.specs.Reads.{token_of}
use Rattle.bson_run.specs.Indent.{line, white_space, indent_of_token, kind_of_previous_token}
use Rattle.bson_run.proofs.Indenting.{joined}
use Rattle.bson_run.proofs.LinesLaws.{oks}
use Rattle.bson_run.proofs.indent.Layout.write_token.Goals as goal

pub returns-clause-indented_text : goal.returns-clause-indented_text
returns-clause-indented_text c = λ n indent has_indent.
    let s = c.args.self.now in
    let t = token_of c.args.token in
    let b = c.begins-begins.ensures in
    let len : length c.deref.result.now ≡ n = ap length (c.deref.ensures.value ∙ has_indent.bracket_indent) ∙ length-replicate n 32 in
    let line_start : c.remove_line_indent.new.line_start.items ≡ line (indent_of_token n t indent) =
    c.remove_line_indent.ensures indent has_indent.line_start ∙ (λ i. line (if b i then indent else (indent - len i))) in
    let previous_kind = kind_of_previous_token s.previous_kind in
    let comma : c.write_comma.new.written_bytes.items ≡ s.written_bytes.items ++ separator (is_value previous_kind) t =
    c.in_ok-write_comma.ensures ∙ (λ i. s.written_bytes.items ++ cond (is_value previous_kind && b i) (44 ∷ []) []) in
    let between : c.write_white_space.new.written_bytes.items ≡ c.write_comma.new.written_bytes.items ++ white_space previous_kind (begins t) (indent_of_token n t indent) =
    c.in_ok-write_white_space.ensures (indent_of_token n t indent) (c.deref-2.ensures.value ∙ line_start)
    ∙ (λ i. c.write_comma.new.written_bytes.items ++ white_space previous_kind (b i) (indent_of_token n t indent)) in
    oks c.add_line_indent.result (c.add_line_indent.ensures n (indent_of_token n t indent) (c.deref-3.ensures.value ∙ has_indent.bracket_indent) line_start) (λ more. record {
      has_indent = record {
        bracket_indent = has_indent.bracket_indent;
        line_start = more ∙ (λ i. line (if c.opens.ensures i then (indent_of_token n t indent + n) else (indent_of_token n t indent)));
      };
      previous_kind = c.token_kind-self.ensures;
      written_bytes = c.in_ok-write_token_text.ensures.text ∙ ap (λ o. o ++ token_text t) between
          ∙ ap (λ o. (o ++ white_space previous_kind (begins t) (indent_of_token n t indent)) ++ token_text t) comma
          ∙ joined s.written_bytes.items (separator (is_value previous_kind) t) (white_space previous_kind (begins t) (indent_of_token n t indent)) (token_text t);
    })
