use Rattle.std.proofs.Common.{◌≡◌, ◌∷◌, option_map, subst, arith}
use Rattle.json.specs.Lex.{tokens}
use Rattle.json.specs.Token.{Token}
use Rattle.bson_tokens.proofs.Offered.{if_ok}
use Rattle.bson_text.proofs.TextDenials.{document_read}
use Rattle.bson_text.proofs.traversal.write_document_text.Goals as goal

pub returns : goal.returns
returns g c =
    let q = c.next.new.self in
    let W = g.W.ValueWriter in
    let is : tokens c.args.text.now ≡ Token.begin_object ∷ q = grind arith in
    record {
      ok = if_ok c.finish.result c.finish.ensures.ok (λ writer (last, same).
          let (ps, means, wrote_document) = document_read c.args.doubles c.args.text.now (option_map (λ x. x.now) c.in_ok-first_key.first_key) q
          c.next_key.new.self c.write_document.new.self.reader (λ ps. W.wrote_document c.args.writer ps c.write_document.new.self.writer) is
          c.in_ok-first_key.ensures.value c.in_ok-write_document.ensures.ok last in
          (ps, means, rw same wrote_document));
    }
