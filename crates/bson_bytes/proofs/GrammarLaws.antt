-- The grammar relates what reading gives, and nothing else.
use Rattle.std.proofs.Common.{◌≡◌, ℕ, cond, eqb, List, [], ◌++◌, length, None, Ok, Err, refl, sym, ap, subst, ◌∙◌}
use Rattle.std.proofs.lemmas.Bool.{eqb-true}
use Rattle.std.proofs.lemmas.List.{append-nil, append_cancel_right, nil_from_length}
use Rattle.bson_model.specs.Value.{Pairs, no_pairs}
use Rattle.bson_bytes.specs.declared.fault.FaultKind.TheVariants.{Trailing}
use Rattle.bson_bytes.specs.Fault.{fault_at}
use Rattle.bson_bytes.specs.Grammar.{IsDocument, AreAllowedKeys, deduplicated_onto, deduplicated}
use Rattle.bson_bytes.specs.Reading.{insert_pairs_read, read_document_in, reads_bytes_in, no_earlier_keys}
use Rattle.bson_bytes.specs.ReadDocuments.{IsReadAsDocumentIn, IsFirstDocumentIn}
use Rattle.bson_model.specs.declared.options.DuplicateKeys.{DuplicateKeys}
use Rattle.bson_bytes.proofs.PartLaws.{IsBytes, bind_ok, if_ok, ok_is}
use Rattle.bson_bytes.proofs.Takes.{document_takes}
use Rattle.bson_bytes.proofs.Again.{document_again}
use Rattle.bson_bytes.proofs.Rounds.{of_mapped}
use Rattle.bson_bytes.proofs.Standing.{may_stand, stand_from}

pub grammar_from : (keys : DuplicateKeys) (d : ℕ) (bytes : List ℕ) (qs : Pairs) → IsBytes bytes
    → reads_bytes_in keys d bytes ≡ Ok qs → IsReadAsDocumentIn keys d bytes qs
unfolding reads_bytes_in
grammar_from keys d bytes qs fits e =
    let read = read_document_in keys d (no_earlier_keys keys) bytes in
    let test = λ (x : Pairs × List ℕ). cond (eqb (length x.1) 0) (Ok x.0) (Err (fault_at Trailing x.1)) in
    let x = bind_ok (insert_pairs_read no_pairs read) test qs e in
    let g = if_ok (eqb (length x.0.1) 0) (Ok x.0.0) (fault_at Trailing x.0.1) qs x.2 in
    let m = of_mapped (deduplicated_onto no_pairs) read x.0.0 x.0.1 x.1 in
    let t = document_takes keys d (no_earlier_keys keys) bytes m.pairs x.0.1 fits m.read in
    let nothing : x.0.1 ≡ [] = nil_from_length x.0.1 (eqb-true _ _ g.0) in
    let whole : bytes ≡ t.front = t.parts ∙ ap (λ (r : List ℕ). t.front ++ r) nothing ∙ append-nil t.front in
    record {
      elements = m.pairs;
      grammar = subst (λ (b : List ℕ). IsDocument keys d b m.pairs) (sym whole) t.spelled.0;
      keys_allowed = may_stand keys m.pairs t.spelled.1;
      pairs = sym (m.is ∙ ok_is x.0.0 qs g.1);
    }

pub grammar_read : (keys : DuplicateKeys) (d : ℕ) (bytes : List ℕ) (ps : Pairs) → IsDocument keys d bytes ps
    → AreAllowedKeys keys ps → reads_bytes_in keys d bytes ≡ Ok (deduplicated ps)
unfolding reads_bytes_in
grammar_read keys d bytes ps w once =
    let read : read_document_in keys d (no_earlier_keys keys) bytes ≡ Ok (ps, []) =
    ap (read_document_in keys d (no_earlier_keys keys)) (sym (append-nil bytes))
    ∙ document_again w (no_earlier_keys keys) (stand_from keys ps once) [] in
    rw read refl

pub is_read : (keys : DuplicateKeys) (d : ℕ) (bytes : List ℕ) (qs : Pairs) → IsReadAsDocumentIn keys d bytes qs
    → reads_bytes_in keys d bytes ≡ Ok qs
is_read keys d bytes qs h =
    grammar_read keys d bytes h.elements h.grammar h.keys_allowed ∙ ap (λ (ps : Pairs). Ok ps) (sym h.pairs)

-- no document's bytes begin another's, and none represent two
pub one_of : (keys : DuplicateKeys) (d : ℕ) (a b x y : List ℕ) (ps qs : Pairs) → IsDocument keys d a ps
    → IsDocument keys d b qs → a ++ x ≡ b ++ y → (a ≡ b) × (ps ≡ qs)
one_of keys d a b x y ps qs v w e =
    let both = ok_is (ps, x) (qs, y)
    (sym (document_again v None tt x) ∙ ap (read_document_in keys d None) e ∙ document_again w None tt y) in
    let rests : x ≡ y = ap (λ (p : Pairs × List ℕ). p.1) both in
    (append_cancel_right a b y (ap (λ (r : List ℕ). a ++ r) (sym rests) ∙ e), ap (λ (p : Pairs × List ℕ). p.0) both)

-- ---- the front of bytes

pub front_from : (keys : DuplicateKeys) (d : ℕ) (bytes : List ℕ) (qs : Pairs) (rest : List ℕ) → IsBytes bytes
    → insert_pairs_read no_pairs (read_document_in keys d (no_earlier_keys keys) bytes) ≡ Ok (qs, rest) → IsFirstDocumentIn keys d bytes qs rest
front_from keys d bytes qs rest fits e =
    let m = of_mapped (deduplicated_onto no_pairs) (read_document_in keys d (no_earlier_keys keys) bytes) qs rest e in
    let t = document_takes keys d (no_earlier_keys keys) bytes m.pairs rest fits m.read in
    record {
      front = t.front;
      read = record {
        elements = m.pairs;
        grammar = t.spelled.0;
        keys_allowed = may_stand keys m.pairs t.spelled.1;
        pairs = sym m.is;
      };
      parts = t.parts;
    }

pub front_read : (keys : DuplicateKeys) (d : ℕ) (bytes : List ℕ) (qs : Pairs) (rest : List ℕ)
    → IsFirstDocumentIn keys d bytes qs rest
    → insert_pairs_read no_pairs (read_document_in keys d (no_earlier_keys keys) bytes) ≡ Ok (qs, rest)
front_read keys d bytes qs rest h =
    let ps = h.read.elements in
    let read : read_document_in keys d (no_earlier_keys keys) bytes ≡ Ok (ps, rest) =
    ap (read_document_in keys d (no_earlier_keys keys)) h.parts
    ∙ document_again h.read.grammar (no_earlier_keys keys) (stand_from keys ps h.read.keys_allowed) rest in
    ap (insert_pairs_read no_pairs) read ∙ ap (λ (q : Pairs). Ok (q, rest)) (sym h.read.pairs)
