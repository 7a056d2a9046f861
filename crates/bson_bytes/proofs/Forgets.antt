-- What is read where no key may occur twice is read as the same document where any may.
use Rattle.std.proofs.Common.{ℕ, List}
use Rattle.bson_model.specs.Value.{Value, Pairs}
use Rattle.bson_types.specs.declared.spec.ElementType.{ElementType}
use Rattle.bson_model.specs.declared.options.DuplicateKeys.{DuplicateKeys}
use Rattle.bson_model.specs.declared.options.DuplicateKeys.TheVariants.{LastWins}
use Rattle.bson_bytes.specs.Grammar.{IsDocument, is_document, IsElementList, is_empty, is_element, IsValue, is_double, is_text}
use Rattle.bson_bytes.specs.Grammar.{is_embedded_document, is_array, is_binary, is_old_binary, is_undefined, is_object_id}
use Rattle.bson_bytes.specs.Grammar.{is_false, is_true, is_date, is_null, is_regex, is_pointer, is_code, is_symbol}
use Rattle.bson_bytes.specs.Grammar.{is_scope, is_int32, is_timestamp, is_int64, is_decimal, is_min_key, is_max_key}
use Rattle.bson_bytes.specs.ReadDocuments.{IsReadAsDocumentIn, IsReadAsDocument}

mutual
  value_kept : {keys : DuplicateKeys} {d : ℕ} {t : ElementType} {bytes : List ℕ} {v : Value} → IsValue keys d t bytes v
      → IsValue LastWins d t bytes v
  value_kept (is_double d p f) = is_double d p f
  value_kept (is_text d s f) = is_text d s f
  value_kept (is_embedded_document d bytes ps w once) = is_embedded_document d bytes ps (document_kept w) tt
  value_kept (is_array d bytes ps w) = is_array d bytes ps (document_kept w)
  value_kept (is_binary d b s f g k) = is_binary d b s f g k
  value_kept (is_old_binary d s f) = is_old_binary d s f
  value_kept (is_undefined d) = is_undefined d
  value_kept (is_object_id d id f) = is_object_id d id f
  value_kept (is_false d) = is_false d
  value_kept (is_true d) = is_true d
  value_kept (is_date d n f) = is_date d n f
  value_kept (is_null d) = is_null d
  value_kept (is_regex d p o f g) = is_regex d p o f g
  value_kept (is_pointer d s id f g) = is_pointer d s id f g
  value_kept (is_code d s f) = is_code d s f
  value_kept (is_symbol d s f) = is_symbol d s f
  value_kept (is_scope d s bytes ps f w once g) = is_scope d s bytes ps f (document_kept w) tt g
  value_kept (is_int32 d n f) = is_int32 d n f
  value_kept (is_timestamp d i t f g) = is_timestamp d i t f g
  value_kept (is_int64 d n f) = is_int64 d n f
  value_kept (is_decimal d s f) = is_decimal d s f
  value_kept (is_min_key d) = is_min_key d
  value_kept (is_max_key d) = is_max_key d

  list_kept : {keys : DuplicateKeys} {d : ℕ} {list : List ℕ} {ps : Pairs} → IsElementList keys d list ps → IsElementList LastWins d list ps
  list_kept (is_empty d) = is_empty d
  list_kept (is_element d t k bytes list v ps name w ws) =
      is_element d t k bytes list v ps name (value_kept w) (list_kept ws)

  document_kept : {keys : DuplicateKeys} {d : ℕ} {bytes : List ℕ} {ps : Pairs} → IsDocument keys d bytes ps
      → IsDocument LastWins d bytes ps
  document_kept (is_document d list ps ws f) = is_document d list ps (list_kept ws) f

pub read_in_order : (keys : DuplicateKeys) (d : ℕ) (bytes : List ℕ) (ps : Pairs) → IsReadAsDocumentIn keys d bytes ps → IsReadAsDocument d bytes ps
read_in_order keys d bytes ps h =
    record { elements = h.elements; grammar = document_kept h.grammar; keys_allowed = tt; pairs = h.pairs }
