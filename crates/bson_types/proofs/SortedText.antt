-- Sorting the characters of a text that is sorted changes nothing.
use Rattle.std.proofs.Common.{◌≡◌, ℕ, List, [], ◌∷◌, Bool, true, false, refl}
use Rattle.std.specs.List.{AllByRecursion}
use Rattle.std.specs.Str.{chars, is_utf8, encode_utf8_all}
use lib.Utf8.{scalar, scalars}
use Rattle.std.proofs.lemmas.Bool.{and_parts}
use Rattle.std.proofs.lemmas.Str.{scalars-chars, chars-encodes, IsUtf8-from_is_utf8, is_utf8-from_IsUtf8}
use Rattle.bson_types.specs.Regex.{sorted_regex_options, ascending_numbers}
use Rattle.bson_types.proofs.Sorting.{ascending_numbers-again, all-ascending_numbers}

abbrev IsCharacter : ℕ → Type 0
IsCharacter c = scalar c ≡ true

characters_from : (cs : List ℕ) → scalars cs ≡ true → AllByRecursion IsCharacter cs
characters_from [] h = tt
characters_from (c ∷ cs) h = let p = and_parts (scalar c) (scalars cs) h in (p.0, characters_from cs p.1)

characters_to : (cs : List ℕ) → AllByRecursion IsCharacter cs → scalars cs ≡ true
characters_to [] h = refl
characters_to (c ∷ cs) h = rw (h.0, characters_to cs h.1) refl

still_characters : (cs : List ℕ) → scalars cs ≡ true → scalars (ascending_numbers cs) ≡ true
still_characters cs h = characters_to _ (all-ascending_numbers IsCharacter cs (characters_from cs h))

sorted_at : (b : Bool) (s : List ℕ) → is_utf8 s ≡ b → sorted_regex_options (sorted_regex_options s) ≡ sorted_regex_options s
unfolding sorted_regex_options
sorted_at false s e = rw e (rw e refl)
sorted_at true s e =
    let text = IsUtf8-from_is_utf8 s e in
    let characters = still_characters (chars s) (scalars-chars s text) in
    let again : is_utf8 (encode_utf8_all (ascending_numbers (chars s))) ≡ true =
    is_utf8-from_IsUtf8 (encode_utf8_all (ascending_numbers (chars s)))
    (ascending_numbers (chars s), (characters, refl)) in
    let spelled = chars-encodes (ascending_numbers (chars s)) characters in
    rw e (rw (again, spelled, ascending_numbers-again (chars s)) refl)

-- sorted options stay as they are
pub sorted_regex_options-again : (s : List ℕ) → sorted_regex_options (sorted_regex_options s) ≡ sorted_regex_options s
sorted_regex_options-again s = sorted_at _ s refl
