use Rattle.std.proofs.Common.{◌≡◌, ◌++◌, true, false, cond, ap, sym, ◌∙◌}
use Rattle.std.proofs.lemmas.Result.{on_ok_weaker}
use Rattle.std.specs.Prelude.{codes}
use Rattle.json.specs.Tree.{json_tokens}
use Rattle.bson_v1.specs.Upgraded.{is_one_hex_digit, object_of_member, object_of_two_texts, two_digit_subtype}
use Rattle.bson_v1.proofs.v1_shapes.write_binary.Goals as goal

pub returns-then-is_one_hex_digit-clause-ok : goal.returns-then-is_one_hex_digit-clause-ok
returns-then-is_one_hex_digit-clause-ok c =
    let sub_type = c.args.sub_type.now in
    let yes : is_one_hex_digit sub_type ≡ true =
    ap is_one_hex_digit (sym c.as_bytes.ensures.value) ∙ sym c.if-is_one_hex_digit.ensures in
    let digits : c.deref.result.now ≡ two_digit_subtype sub_type =
    c.deref.ensures ∙ c.in_ok-digits.ensures.ok ∙ sym (ap (λ b. cond b (codes "0" ++ sub_type) sub_type) yes) in
    on_ok_weaker c.write_wrapper.result
    (λ is. is ∙ ap (λ s. c.args.writer.now.tokens
    ++ json_tokens (object_of_member (codes "$binary") (object_of_two_texts (codes "base64") c.args.base64.now (codes "subType") s))) digits)
    c.write_wrapper.ensures.ok

pub returns-clause-ok : goal.returns-clause-ok
returns-clause-ok c =
    let sub_type = c.args.sub_type.now in
    let no : is_one_hex_digit sub_type ≡ false =
    ap is_one_hex_digit (sym c.as_bytes.ensures.value) ∙ sym c.if-is_one_hex_digit.ensures in
    let same : sub_type ≡ two_digit_subtype sub_type = sym (ap (λ b. cond b (codes "0" ++ sub_type) sub_type) no) in
    on_ok_weaker c.write_wrapper-2.result
    (λ is. is ∙ ap (λ s. c.args.writer.now.tokens
    ++ json_tokens (object_of_member (codes "$binary") (object_of_two_texts (codes "base64") c.args.base64.now (codes "subType") s))) same)
    c.write_wrapper-2.ensures.ok
