use Rattle.std.proofs.Common.{◌≡◌, [], Some, sym, ap, ◌∙◌, arith, string_bytes}
use Rattle.json.specs.Json.{value}
use Rattle.json.specs.Lex.{tokens}
use Rattle.json.specs.Tree.{json_tokens}
use Rattle.bson_v1.specs.Upgraded.{upgraded}
use Rattle.bson_v1.proofs.Complete.{written}
use Rattle.bson_v1.proofs.upgraded.rewrite_normalized.Goals as goal

pub returns-clause-ok : goal.returns-clause-ok
returns-clause-ok c =
    let passed = c.in_ok-write_value.ensures.ok in
    let j = passed.0 in
    let left : c.write_value.new.reader ≡ [] = grind arith in
    let start : c.in_ok-reader.reader ≡ tokens c.args.text.now = grind arith in
    let whole : value 127 (tokens c.args.text.now) ≡ Some (j, []) =
    ap (value 127) (sym start) ∙ passed.1 ∙ ap (λ r. Some (j, r)) left in
    let is : c.write_value.new.writer.tokens ≡ json_tokens (upgraded j) = grind arith in
    written c.args.text.now (string_bytes c.into_text.result) j c.write_value.new.writer.tokens whole is
    c.into_text.ensures.text c.into_text.ensures.tokens_read_again
