use Rattle.std.proofs.Common.{◌≡◌, [], arith, string_bytes}
use Rattle.std.proofs.lemmas.Result.{IfErr-weaker, IfOk-weaker, err_from_is_err_and}
use Rattle.json.specs.Lex.{tokens}
use Rattle.serde_json.specs.Read.{read}
use Rattle.bson_tokens.specs.ReadOutcomes.{NothingReadIfInvalid}
use Rattle.json.specs.declared.error.Error.TheVariants.{OutOfMemory}
use Rattle.bson_tokens.specs.Normalized.{IsNormalizedText}
use Rattle.bson_tokens.proofs.Ranged.{text_none}
use Rattle.bson_tokens.proofs.Whole.{text_normalized, unlike}
use Rattle.bson_tokens.proofs.normalize.normalize_text.Goals as goal

pub returns-in_err-write_value-clause-broken : goal.returns-in_err-write_value-clause-broken
returns-in_err-write_value-clause-broken c =
    let start : c.in_ok-reader.reader ≡ tokens c.args.text.now = grind arith in
    let p = err_from_is_err_and c.from_residual-in_err-write_value.result
    c.from_residual-in_err-write_value.ensures.1 in
    rw (p.1, p.2) (λ broken. text_none c.args.text.now c.in_ok-reader.reader start
    (c.in_err-write_value.ensures.broken broken))

pub returns-clause-ok : goal.returns-clause-ok
returns-clause-ok c =
    let start : c.in_ok-reader.reader ≡ tokens c.args.text.now = grind arith in
    let left : c.write_value.new.reader ≡ [] = grind arith in
    let first = c.in_ok-normalizer.ensures in
    IfOk-weaker c.into_text.result (λ s. string_bytes s ≡ c.write_value.new.normalizer.text.items)
    (λ s. IsNormalizedText c.args.key_order c.args.text.now (string_bytes s))
    (λ s is. text_normalized c.args.key_order c.args.text.now (string_bytes s) c.in_ok-reader.reader
    c.write_value.new.reader c.in_ok-normalizer.normalizer c.write_value.new.normalizer start left first.key_order first.no_comma_yet first.empty
    c.in_ok-write_value.ensures.ok is) c.into_text.ensures.bytes

pub returns-clause-broken : goal.returns-clause-broken
returns-clause-broken c =
    IfErr-weaker c.into_text.result (λ e. e ≡ OutOfMemory) (NothingReadIfInvalid (read c.args.text.now))
    (λ e refused broken. absurd (unlike e refused broken)) c.into_text.ensures.out_of_memory
