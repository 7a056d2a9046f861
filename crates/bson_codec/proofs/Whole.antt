-- A document that was written after no bytes.
use Rattle.std.proofs.Common.{◌≡◌, suc, List, ℕ, [], Ok, sym, subst}
use Rattle.bson_model.specs.Value.{Value, Pairs, document}
use Rattle.bson_bytes.specs.ReadDocuments.{IsReadAsDocument}
use Rattle.bson_bytes.specs.PutSteps.{put_document}
use Rattle.bson_bytes.specs.Writing.{pairs_read_back}
use Rattle.bson_bytes.proofs.Offered.{told_ok, written_read}
use Rattle.bson_codec.specs.PackedText.{IsBytesOf, DocumentAppended}

pub text_packed : (means : Value → Type 0) (bytes old : List ℕ) (ps : Pairs) → means (document ps)
    → DocumentAppended ps old bytes → old ≡ [] → IsBytesOf means bytes
text_packed means bytes old ps meaning (typed, put, grows) none =
    let diagnostics_before = told_ok ps bytes (subst (λ l. put_document ps l ≡ Ok bytes) none put) in
    record {
      pairs = ps;
      meaning = meaning;
      fits = diagnostics_before.0;
      canonical = diagnostics_before.1;
      back = λ d nests. subst (λ b. IsReadAsDocument (suc d) b (pairs_read_back ps)) (sym diagnostics_before.1)
          (written_read d ps diagnostics_before.0 typed nests);
    }
