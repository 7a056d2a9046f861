-- What is wrong with bytes, as a document that has a text.
use Rattle.std.proofs.Common.{◌≡◌, ℕ, List, true, true≢false, refl, sym, ap, ◌∙◌, arith}
use Rattle.bson_model.specs.declared.options.Options.{Options}
use Rattle.bson_bytes.specs.ReadDocuments.{IsReadAsDocumentIn}
use Rattle.bson_model.specs.Normal.{writable_in}
use Rattle.bson_model.specs.Value.{Pairs, document}
use Rattle.vbson.specs.Convert.{duplicate_keys_of, options_of_call}
use Rattle.vbson.specs.DocumentError.{ExplainsDocument, HasDocumentText, IsFinding, IsFindingOfDocument, finding_code}
use Rattle.vbson.specs.Documents.{depth}
use Rattle.vbson.specs.declared.document_error.Finding.{Finding}
use Rattle.vbson.specs.declared.document_error.Finding.TheVariants.{Nothing, Malformed, FiniteDouble}
use Rattle.vbson.specs.declared.explain.Rejection.{Rejection}
use Rattle.vbson.specs.declared.options.CallOptions.{CallOptions}

-- what is found of the document is found of its bytes
pub of_document : (options : CallOptions) (bytes : List ℕ) (ps : Pairs) (it : Finding)
    → IsReadAsDocumentIn (duplicate_keys_of options) depth bytes ps → IsFindingOfDocument (options_of_call options) ps it → IsFinding options bytes it
of_document options bytes ps Nothing read is = record { pairs = ps; read = read; writable = is }
of_document options bytes ps (Malformed k n) read is = absurd is
of_document options bytes ps FiniteDouble read is = record { pairs = ps; read = read; unwritable = is }

-- nothing is wrong with a document that has a text
pub nothing_found : (o : Options) (ps qs : Pairs) (it : Finding) → ps ≡ qs → writable_in o.doubles (document qs) ≡ true
    → IsFindingOfDocument o ps it → it ≡ Nothing
nothing_found o ps qs Nothing same writes is = refl
nothing_found o ps qs (Malformed k n) same writes is = absurd is
nothing_found o ps qs FiniteDouble same writes is =
    absurd (true≢false (sym writes ∙ ap (λ xs. writable_in o.doubles (document xs)) (sym same) ∙ is))

without_code : (options : CallOptions) (bytes : List ℕ) (it : Finding) (n : ℕ) → IsFinding options bytes it → n ≡ finding_code it → n ≡ 0
    → HasDocumentText options bytes
without_code options bytes Nothing n is_finding is zero = is_finding
without_code options bytes (Malformed k m) n is_finding is zero = absurd (omega (arith, is, zero))
without_code options bytes FiniteDouble n is_finding is zero = absurd (omega (arith, is, zero))

pub accepted_from : (options : CallOptions) (bytes : List ℕ) (out : Rejection) → ExplainsDocument options bytes out → out.code ≡ 0
    → HasDocumentText options bytes
accepted_from options bytes out h zero = without_code options bytes h.finding out.code h.is_finding h.error_report.code zero
