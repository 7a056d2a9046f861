use Rattle.std.proofs.Common.{◌≡◌, [], Some, sym, ap, ◌∙◌, arith}
use Rattle.json.specs.Json.{value}
use Rattle.json.specs.Lex.{tokens}
use Rattle.bson_tokens.proofs.Relations.{answered}
use Rattle.bson_tokens.proofs.Reading.{whole}
use Rattle.bson_tokens.proofs.find_duplicate.first_duplicate_key.Goals as goal

pub returns-clause-ok : goal.returns-clause-ok
returns-clause-ok c =
    let d = c.in_ok-duplicate_path.ensures.ok in
    let done : c.find_in_value.new.reader ≡ [] = grind arith in
    let start : c.in_ok-reader.reader ≡ tokens c.args.text.now = grind arith in
    answered d.0 c.args.text.now c.in_ok-duplicate_path.duplicate_path
    (whole (value 127 (tokens c.args.text.now)) d.0
    (ap (value 127) (sym start) ∙ d.1 ∙ ap (λ r. Some (d.0, r)) done)) d.2
