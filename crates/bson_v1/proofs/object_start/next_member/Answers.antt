use Rattle.std.proofs.Common.{◌≡◌, [], Some, arith}
use Rattle.std.proofs.lemmas.Result.{err_from_is_err_and}
use Rattle.json.specs.Json.{read_key}
use Rattle.json.proofs.Grammar.{value_is}
use Rattle.bson_tokens.proofs.Offered.{no_key, no_member}
use Rattle.bson_v1.proofs.object_start.next_member.Goals as goal

pub returns-in_err-key-clause-broken : goal.returns-in_err-key-clause-broken
returns-in_err-key-clause-broken c =
    let p = err_from_is_err_and c.from_residual.result c.from_residual.ensures.1 in
    rw p.1 (λ broken depth. no_key depth c.args.reader.now (grind arith))

pub returns-in_err-first_token-clause-broken : goal.returns-in_err-first_token-clause-broken
returns-in_err-first_token-clause-broken c =
    let named : read_key c.args.reader.now ≡ Some (Some c.in-Some.key.now, []) = grind arith in
    let p = err_from_is_err_and c.from_residual-in_err-first_token.result c.from_residual-in_err-first_token.ensures.1 in
    rw p.1 (λ broken depth. no_member depth c.in-Some.key.now c.args.reader.now [] named (value_is depth []))
