-- Texts of Rust's types are UTF-8.
use Rattle.std.proofs.Common.{◌≡◌, true, String, string_bytes}
use Rattle.std.specs.Str.{is_utf8}
use Rattle.std.proofs.lemmas.Str.{is_utf8-from_IsUtf8, IsUtf8-string_bytes}

pub string_utf8 : {Z : Type 0} (s : String Z) → is_utf8 (string_bytes s) ≡ true
string_utf8 s = is_utf8-from_IsUtf8 (string_bytes s) (IsUtf8-string_bytes s)
