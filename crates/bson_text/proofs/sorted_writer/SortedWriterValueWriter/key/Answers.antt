use Rattle.std.proofs.Common.{◌≡◌, ◌∷◌, ◌++◌, [], length, ap, ◌∙◌, arith}
use Rattle.json.specs.Print.{print}
use Rattle.json.specs.Token.{key}
use Rattle.bson_text.specs.SortedOutput.{output_with_comma}
use Rattle.bson_tokens.proofs.Offered.{key_alone}
use Rattle.bson_text.proofs.sorted_writer.SortedWriterValueWriter.key.Goals as goal

pub returns-clause-written : goal.returns-clause-written
returns-clause-written c =
    let k = c.args.name.now in
    let near = c.begin_fragment.new.self in
    let (mode, form, same, kept, comma) = c.in_ok-fragment.ensures.comma in
    let (later_mode, later_form, off, member_starts, text) = c.in_ok-add_fragment.ensures in
    let long : c.len.result ≡ length near.text.items = grind arith in
    let start : c.len.result ≡ length (output_with_comma c.args.self.now) = long ∙ ap length comma in
    let tokens = c.in_ok-key.ensures.ok ∙ ap (λ ts. ts ++ key k ∷ []) c.in_ok-fragment.ensures.empty.1 in (
      later_mode ∙ mode,
      later_form ∙ form,
      off,
      member_starts ∙ c.in-Ok.ensures.items ∙ ap (λ l. l ++ c.len.result ∷ []) kept
          ∙ ap (λ n. c.args.self.now.member_starts.items ++ n ∷ []) start,
      text ∙ ap (λ l. l ++ print c.key.new.self.tokens) comma
          ∙ ap (λ ts. output_with_comma c.args.self.now ++ print ts) tokens
          ∙ ap (λ l. output_with_comma c.args.self.now ++ l) (key_alone k),
    )
