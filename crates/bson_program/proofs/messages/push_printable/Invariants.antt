use Rattle.std.specs.Prelude.{◌≡◌, ◌++◌, string_bytes, encode_utf8_all}
use Rattle.std.specs.Char.Escape.{escape_default}
use Rattle.std.specs.Char.Iter.{escape_rest}
use Rattle.bson_program.proofs.messages.push_printable.Given as goal

abbrev pub invariant-loop-escaped_char : goal.invariant-loop-escaped_char
invariant-loop-escaped_char l = string_bytes l.text ++ encode_utf8_all (escape_rest l.escaped_char-iterator)
    ≡ string_bytes l.initial.text ++ encode_utf8_all (escape_default l.fn.character)
