-- Numbers that some programs write as words outside of strings: `NaN`, `Infinity` and `-Infinity` (older mongoexport,
-- JavaScript, the json module of Python). RFC 8259 (section 6) does not permit them.
use Rattle.std.specs.Prelude.{ℕ, ◌==◌, ◌||◌, ◌&&◌, List, [], ◌∷◌, ◌++◌, Bool, false, codes, nat_le, if◌then◌else◌}
use Rattle.std.specs.Str.{bytes_eq}
use Rattle.bson_v1.specs.Upgraded.{is_digit}
use Rattle.bson_v1.specs.declared.bare_words.WordState as declared
use Rattle.bson_v1.specs.declared.bare_words.WordState.TheVariants as scanned
use Rattle.bson_v1.specs.declared.bare_words.WordForm.{WordForm}
use Rattle.bson_v1.specs.declared.bare_words.WordForm.TheVariants.{Wrapper, Digits}

-- a byte of a name or of a number
abbrev pub is_word_byte : (byte : ℕ) → Bool
is_word_byte byte =
    is_digit byte || (nat_le 65 byte && nat_le byte 90) || (nat_le 97 byte && nat_le byte 122)
    || (byte == 0x5F) || (byte == 0x24) || (byte == 0x2B) || (byte == 0x2D) || (byte == 0x2E)

-- what replaces each of the three words; any other word stays
abbrev pub replaced_by : (nan infinity minus_infinity word : List ℕ) → List ℕ
replaced_by nan infinity minus_infinity word =
    if bytes_eq word (codes "NaN") then nan
    else if bytes_eq word (codes "Infinity") then infinity
    else if bytes_eq word (codes "-Infinity") then minus_infinity
    else word

-- the wrapper of a double in Extended JSON v2, or a number of JSON that is as long as the word
abbrev pub replaced_word : WordForm → (word : List ℕ) → List ℕ
replaced_word Wrapper word =
    replaced_by (codes "{\"$numberDouble\":\"NaN\"}") (codes "{\"$numberDouble\":\"Infinity\"}")
    (codes "{\"$numberDouble\":\"-Infinity\"}") word
replaced_word Digits word = replaced_by (codes "100") (codes "10000000") (codes "-10000000") word

-- the next byte is outside of strings, in a string, or after a backslash in one
pub data WordState : Type 0 where
  outside : WordState
  in_string : WordState
  in_escape : WordState

-- the byte is one of a word, or the state after it
abbrev pub continues_word : WordState → (byte : ℕ) → Bool
continues_word outside byte = is_word_byte byte
continues_word other_state byte = false

abbrev pub next_word_state : WordState → (byte : ℕ) → WordState
next_word_state outside byte = if byte == 0x22 then in_string else outside
next_word_state in_string byte = if byte == 0x22 then outside else (if byte == 0x5C then in_escape else in_string)
next_word_state in_escape byte = in_string

-- the text from a byte on, after the bytes of a word that have been read
unfoldable pub with_words_from : WordForm → WordState → (word text : List ℕ) → List ℕ
with_words_from word_form word_state word [] = replaced_word word_form word
with_words_from word_form word_state word (byte ∷ later_bytes) =
    if continues_word word_state byte
    then with_words_from word_form (next_word_state word_state byte) (word ++ byte ∷ []) later_bytes
    else replaced_word word_form word ++ byte ∷ with_words_from word_form (next_word_state word_state byte) [] later_bytes

-- the text, with these words replaced outside of strings: each one that is all bytes of a word in a row
abbrev pub with_words : WordForm → (text : List ℕ) → List ℕ
with_words word_form text = with_words_from word_form outside [] text

-- ---- for private clauses

abbrev pub word_state_of : declared.WordState → WordState
word_state_of scanned.Outside = outside
word_state_of scanned.InString = in_string
word_state_of scanned.InEscape = in_escape
