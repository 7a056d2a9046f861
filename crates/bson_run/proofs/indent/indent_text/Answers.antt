use Rattle.json.specs.Lex.{tokens}
use Rattle.json.specs.Reads.{token_of}
use Rattle.bson_run.proofs.Indenting.{one_more, all_laid, same_tokens, utf8_more}
use Rattle.bson_run.proofs.indent.indent_text.Goals as goal

pub loop-token-preserved : goal.loop-token-preserved
loop-token-preserved c =
    let (w, utf8) = c.loop-token.invariant in
    let indented_text = c.in_ok-write_token.ensures.indented_text c.args.spaces w.indent w.has_indent in (
      one_more c.args.spaces (tokens c.args.text.now) c.loop-token.reader c.next.new.self (token_of c.in-Some.token)
          c.loop-token.layout c.write_token.new.self c.in-Some.ensures.value w indented_text,
      utf8_more c.args.spaces w.indent c.loop-token.layout c.write_token.new.self (token_of c.in-Some.token) indented_text
          c.in_ok-write_token.ensures.utf8 utf8,
    )

pub returns-clause-layout : goal.returns-clause-layout
returns-clause-layout c =
    all_laid c.args.spaces (tokens c.args.text.now) c.loop-token.reader c.loop-token.layout c.in_default.ensures.value.0
    c.loop-token.invariant.0

pub returns-clause-keeps_tokens : goal.returns-clause-keeps_tokens
returns-clause-keeps_tokens c =
    same_tokens c.args.spaces c.args.text.now c.loop-token.layout.written_bytes.items
    (all_laid c.args.spaces (tokens c.args.text.now) c.loop-token.reader c.loop-token.layout c.in_default.ensures.value.0
    c.loop-token.invariant.0)
