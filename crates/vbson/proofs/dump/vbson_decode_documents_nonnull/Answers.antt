use Rattle.std.proofs.Common.{rules}
use Rattle.vbson.proofs.Dumps.{gives_utf8}
use Rattle.vbson.proofs.dump.vbson_decode_documents_nonnull.Goals as goal

pub returns-clause-success : goal.returns-clause-success
returns-clause-success c = λ success.
    let output = c.in-Some-decode_block.documents in
    let (text, diagnostics, is_output, is_text, are_diagnostics) = c.in-Some-decode_block.ensures in
    let utf8 = gives_utf8 _ c.args.block.now text diagnostics output.documents output.consumed is_output in
    record {
      mode = c.in-Some.mode;
      mode_selected = search rules;
      text = text;
      diagnostics = diagnostics;
      is_output = search rules;
      utf8 = utf8.0;
      diagnostic_utf8 = utf8.1;
      is_text = is_text;
      are_diagnostics = are_diagnostics;
    }
