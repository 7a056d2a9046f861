use Rattle.std.proofs.Common.{◌≡◌, ◌∷◌, Some, rules}
use Rattle.json.specs.Json.{skip_value}
use Rattle.json.specs.Lex.{tokens}
use Rattle.json.specs.Reads.{token_of}
use Rattle.serde_json.specs.Read.{max_depth}
use Rattle.bson_run.proofs.Rules.{more_behind}
use Rattle.bson_run.proofs.syntax_error.find_syntax_error.Goals as goal

pub returns-in-Some-clause-rule : goal.returns-in-Some-clause-rule
returns-in-Some-clause-rule c =
    let t = token_of c.in-Some.field-0 in
    let ts = c.next.new.self in
    let e : skip_value max_depth (tokens c.args.text.now) ≡ Some (t ∷ ts) = search rules in
    more_behind c.args.text.now (c.utf8.text, (t, ts, e))
