-- What a reference for writing lends.
use Rattle.std.specs.Prelude.{ℕ, List, Option, Result}
use Rattle.std.specs.Borrow.{Fml, LendsIf, LendsIfOk, MutBor}
use denote.RattleType.{RattleType}
use Rattle.bson_store.specs.Pairs.{insert_pair}
use Rattle.bson.specs.LoanTypes.{bson_rust_type, document_rust_type}
use Rattle.bson.specs.View.{contents, document_of_pairs}
use Rattle.bson.specs.declared.bson.Bson.{Bson}
use Rattle.bson.specs.declared.document.Document.{Document}

-- once the loan of the reference ends, the document has at the key the last value written through it; without a loan it stays
abbrev pub WritesBackValue : (document : MutBor Document) → (old_document : Document) → (key : List ℕ)
    → (value_reference : Option (MutBor Bson))
    → Fml
WritesBackValue document old_document key value_reference =
    LendsIf document_rust_type bson_rust_type document value_reference
    (λ new_value. document_of_pairs (insert_pair key new_value (contents old_document))) old_document

-- the same of what a value of one kind holds: the value there holds what was last written
abbrev pub WritesBackAtKey : {E : Type 0} (content_type : RattleType) → (value_of : content_type.Denot → Bson)
    → (document : MutBor Document) → (old_document : Document)
    → (key : List ℕ) → (value_reference : Result (MutBor content_type.Denot) E) → Fml
WritesBackAtKey content_type value_of document old_document key value_reference =
    LendsIfOk document_rust_type content_type document value_reference
    (λ new_value. document_of_pairs (insert_pair key (value_of new_value) (contents old_document))) old_document
