-- The engine STANDARD writes the text of RFC 4648 section 4, and decodes no other.
use Rattle.std.proofs.Common.{◌≡◌, ℕ, suc, ◌+◌, ◌*◌, ◌/◌, ◌%◌, List, [], ◌∷◌, ◌++◌, length, Ok, refl, sym, ap, ◌∙◌}
use Rattle.std.proofs.Common.{arith}
use Rattle.std.specs.Prelude.{replicate}
use Rattle.base64.specs.Rfc4648.{encode_symbols, padding_len}
use Rattle.base64.specs.Engines.{standard}
use Rattle.base64.specs.GeneralPurpose.{IsBytes, decode_of, encode_of, engine_symbols}
use Rattle.base64.proofs.EngineFacts.{decode_of_strict, decode_of-encode_of}
use Rattle.bson_types.specs.Base64.{IsBase64, base64_digit, padded_base64}
use Rattle.bson_types.proofs.ByteRanges.{base64_bytes}

three_more : (n : ℕ) → padding_len (suc (suc (suc n))) ≡ padding_len n
three_more n = omega arith

pub padded : (bytes : List ℕ) → encode_of standard bytes ≡ padded_base64 bytes
unfolding encode_symbols
padded [] = refl
padded (a ∷ []) = refl
padded (a ∷ b ∷ []) = refl
padded (a ∷ b ∷ c ∷ rest) =
    let digits = encode_symbols (engine_symbols standard) rest in
    let end : digits ++ replicate (padding_len (length (a ∷ b ∷ c ∷ rest))) 61 ≡ padded_base64 rest =
    ap (λ n. digits ++ replicate n 61) (three_more (length rest))
    ∙ padded rest in
    ap (λ t. base64_digit (a / 4) ∷ base64_digit (a % 4 * 16 + b / 16) ∷ base64_digit (b % 16 * 4 + c / 64) ∷ base64_digit (c % 64) ∷ t) end

-- what decodes in a text of bytes is what the text says
pub base64_from : (text bytes : List ℕ) → IsBytes text → decode_of standard text ≡ Ok bytes → IsBase64 text bytes
base64_from text bytes chars h =
    (base64_bytes text bytes h, decode_of_strict standard text bytes (refl, refl) chars h ∙ padded bytes)

pub base64_to : (text bytes : List ℕ) → IsBase64 text bytes → decode_of standard text ≡ Ok bytes
base64_to text bytes is = ap (decode_of standard) (is.1 ∙ sym (padded bytes))
    ∙ decode_of-encode_of standard bytes refl is.0
