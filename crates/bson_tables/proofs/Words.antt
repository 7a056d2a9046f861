-- The words for a hasher, computed: a number its bytes, the lowest first; a text its bytes, and then 0xFF; a list its
-- length, and then its elements; a document its length, and then its pairs by ascending key.
use Rattle.std.proofs.Common.{◌≡◌, [], ◌∷◌, pos, true, refl}
use Rattle.std.specs.Prelude.{codes}
use Rattle.std.specs.Hash.{le_bytes}
use Rattle.bson_scalar.specs.Scalar as kind
use Rattle.bson_model.specs.HashInput.{sorted_hash_input}
use Rattle.bson_model.specs.Value as model

list_words : sorted_hash_input
    (model.array
    (model.value (model.scalar (kind.int32 (pos 1))) (model.value (model.scalar (kind.boolean true)) model.no_values)))
    ≡ (2 ∷ 0 ∷ 0 ∷ 0 ∷ 0 ∷ 0 ∷ 0 ∷ 0 ∷ []) ∷ (1 ∷ 0 ∷ 0 ∷ 0 ∷ []) ∷ (1 ∷ []) ∷ []
unfolding le_bytes
list_words = refl

document_words : sorted_hash_input
    (model.document
    (model.pair (codes "b") (model.scalar kind.null)
    (model.pair (codes "aa") (model.scalar (kind.boolean true)) model.no_pairs))) ≡ (2 ∷ 0 ∷ 0 ∷ 0 ∷ 0 ∷ 0 ∷ 0 ∷ 0 ∷ [])
    ∷ codes "aa" ∷ (0xFF ∷ []) ∷ (1 ∷ []) ∷ codes "b" ∷ (0xFF ∷ []) ∷ []
unfolding le_bytes
document_words = refl

scope_words : sorted_hash_input (model.code_scope (codes "s") model.no_pairs) ≡ codes "s" ∷ (0xFF ∷ [])
    ∷ (0 ∷ 0 ∷ 0 ∷ 0 ∷ 0 ∷ 0 ∷ 0 ∷ 0 ∷ []) ∷ []
unfolding le_bytes
scope_words = refl

timestamp_words : sorted_hash_input (model.scalar (kind.timestamp 1 2)) ≡ (1 ∷ 0 ∷ 0 ∷ 0 ∷ []) ∷ (2 ∷ 0 ∷ 0 ∷ 0 ∷ []) ∷ []
unfolding le_bytes
timestamp_words = refl

symbol_words : sorted_hash_input (model.scalar (kind.symbol (codes "x"))) ≡ codes "x" ∷ (0xFF ∷ []) ∷ []
symbol_words = refl
