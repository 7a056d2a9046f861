-- How a scalar is read, by its type.
use Rattle.std.specs.Prelude.{ℕ, List, Result, Ok}
use Rattle.std.specs.Int.{w32, w64, cast_signed}
use Rattle.bson_scalar.specs.Scalar as kind
use Rattle.bson_scalar.specs.Scalar.{Scalar}
use Rattle.bson_model.specs.Value.{Value, scalar}
use Rattle.bson_bytes.specs.declared.fault.Fault.{Fault}
use Rattle.bson_bytes.specs.Fault.{◌>>=◌}
use Rattle.bson_bytes.specs.Reading.{read_integer, read_bytes, read_string}

abbrev pub ReadValue : Type 0
ReadValue = Result (Value × List ℕ) Fault

abbrev pub double_from_bytes : (bytes : List ℕ) → ReadValue
double_from_bytes bytes = read_integer w64 bytes >>= λ number. Ok (scalar (kind.double number.0), number.1)

abbrev pub date_from_bytes : (bytes : List ℕ) → ReadValue
date_from_bytes bytes =
    read_integer w64 bytes >>= λ number. Ok (scalar (kind.date (cast_signed w64 number.0)), number.1)

abbrev pub int32_from_bytes : (bytes : List ℕ) → ReadValue
int32_from_bytes bytes =
    read_integer w32 bytes >>= λ number. Ok (scalar (kind.int32 (cast_signed w32 number.0)), number.1)

abbrev pub int64_from_bytes : (bytes : List ℕ) → ReadValue
int64_from_bytes bytes =
    read_integer w64 bytes >>= λ number. Ok (scalar (kind.int64 (cast_signed w64 number.0)), number.1)

abbrev pub string_from_bytes : (bytes : List ℕ) → ReadValue
string_from_bytes bytes = read_string bytes >>= λ text. Ok (scalar (kind.text text.0), text.1)

abbrev pub symbol_from_bytes : (bytes : List ℕ) → ReadValue
symbol_from_bytes bytes = read_string bytes >>= λ symbol. Ok (scalar (kind.symbol symbol.0), symbol.1)

abbrev pub code_from_bytes : (bytes : List ℕ) → ReadValue
code_from_bytes bytes = read_string bytes >>= λ code. Ok (scalar (kind.code code.0), code.1)

abbrev pub object_id_from_bytes : (bytes : List ℕ) → ReadValue
object_id_from_bytes bytes = read_bytes 12 bytes >>= λ id. Ok (scalar (kind.object_id id.0), id.1)

abbrev pub decimal_from_bytes : (bytes : List ℕ) → ReadValue
decimal_from_bytes bytes =
    read_bytes 16 bytes >>= λ bit_pattern. Ok (scalar (kind.decimal bit_pattern.0), bit_pattern.1)

-- a type whose only value has no bytes
abbrev pub empty_value_from_bytes : Scalar → (bytes : List ℕ) → ReadValue
empty_value_from_bytes scalar_value bytes = Ok (scalar scalar_value, bytes)
