-- The message that says where the error of a rejected text is.
use Rattle.std.specs.Prelude.{◌≡◌, ◌≢◌, ◌⊎◌, ◌↔◌, ◌+◌, ◌<◌, ◌/◌, ◌%◌, ◌==◌, ℕ, List, [], ◌∷◌, ◌++◌, codes, length, nat_lt, take, sum_by, Option, None, Some, IsUtf8, string_bytes, Bool, true, false, not, suc, ◌-◌, min}
use Rattle.std.specs.Prelude.{count_by, reverse, take_while}
use Rattle.std.specs.Prelude.{if◌then◌else◌}
use Rattle.std.specs.Char.{is_control, digit_char, encode_utf8}
use Rattle.std.specs.Fmt.{decimal}
use Rattle.std.specs.List.{flat_map}
use Rattle.std.specs.Str.{chars}
use Rattle.json.specs.Json.{skip_value}
use Rattle.json.specs.Lex.{tokens}
use Rattle.json.specs.Token.{Token, begin_object, end_object, begin_array, end_array, bad}
use Rattle.serde_json.specs.Data.{Data}
use Rattle.serde_json.specs.Read.{max_depth}
use Rattle.bson.specs.TextMeaning.{IsNotJsonText, IsTextOf}
use Rattle.bson_tree.specs.Place.{PathSegment, path_text, path_of}
use Rattle.bson_tree.specs.declared.place.Place.{Place}
use Rattle.bson_tree.specs.declared.place.Reason.{Reason}
use Rattle.bson_tree.specs.declared.place.Reason.TheVariants.{BadObjectId, WrongShape}
use Rattle.bson_convert.specs.declared.error.Error.{Error}
use Rattle.bson_convert.specs.declared.error.Error.TheVariants.{NotJson, NotExtendedJson, NotCanonical}
use Rattle.bson_v1.specs.BareWords.{with_words}
use Rattle.bson_v1.specs.declared.bare_words.WordForm.TheVariants.{Digits}
use Rattle.bson_run.specs.declared.explain.Explanation.{Explanation}
use Rattle.bson_run.specs.declared.explain.Explanation.TheVariants as explained
use Rattle.bson_run.specs.declared.rule.Rule.{Rule}
use Rattle.bson_run.specs.declared.rule.Rule.TheVariants.{Utf8, UnexpectedEnd, TrailingData, OutOfRange}
use Rattle.bson_run.specs.declared.rule.Rule.TheVariants.{ExpectedValue, Number, ControlCharacter, Escape, ExpectedElement}
use Rattle.bson_run.specs.declared.rule.Rule.TheVariants.{Quotes, Separator, ExpectedColonAndValue, Depth, RewrittenDepth}
use Rattle.bson_run.specs.TaskNames.{rule_message}

-- an empty path is left out
abbrev pub path_message : (path : List ℕ) → List ℕ
path_message [] = []
path_message (first_byte ∷ other_bytes) = codes " at " ++ first_byte ∷ other_bytes

-- a character in a message: as its escape in JSON if it breaks a line or controls a terminal, any other unchanged
abbrev pub escaped_char : (code_point : ℕ) → List ℕ
escaped_char code_point = if code_point == 0x2028 then codes "\\u2028"
    else (if code_point == 0x2029 then codes "\\u2029"
    else (if is_control code_point
    then codes "\\u00" ++ digit_char (code_point / 16) ∷ digit_char (code_point % 16) ∷ [] else encode_utf8 code_point))

-- a character by its escape, where escapes are wanted, or as it is
abbrev pub char_or_escape : (escapes : Bool) → (code_point : ℕ) → List ℕ
char_or_escape true = escaped_char
char_or_escape false = encode_utf8

-- the first characters of a message, and two points if there are more
abbrev pub truncated : (max_chars : ℕ) → (write_char : ℕ → List ℕ) → (full_message : List ℕ) → List ℕ
truncated max_chars write_char full_message =
    flat_map write_char (take max_chars (chars full_message))
    ++ (if nat_lt max_chars (length (chars full_message)) then codes ".." else [])

-- a message cut to 300 characters
abbrev pub escaped_message : (full_message : List ℕ) → List ℕ
escaped_message full_message = truncated 300 escaped_char full_message

-- the quote of a value: 60 characters
abbrev pub found_message : (value : List ℕ) → List ℕ
found_message value = codes "; found " ++ truncated 60 encode_utf8 value

-- it is a contiguous part of the text
abbrev pub IsSubslice : (part text : List ℕ) → Type 0
IsSubslice part text = (text_before : List ℕ) × (text_after : List ℕ) × (text ≡ text_before ++ part ++ text_after)

-- the part begins after this number of bytes of the text
abbrev pub IsSubsliceAt : (offset : ℕ) → (part text : List ℕ) → Type 0
IsSubsliceAt offset part text =
    (text_before : List ℕ) × (text_after : List ℕ) × (text ≡ text_before ++ part ++ text_after)
    × (length text_before ≡ offset)

-- no value and no quote; or the offset of a part of the text, with its quote or without one; no contract says that it is
-- the value at the path
abbrev pub IsQuotedValue : (text : List ℕ) → (offset : Option ℕ) → (quote : List ℕ) → Type 0
IsQuotedValue text None quote = quote ≡ []
IsQuotedValue text (Some offset) quote =
    (part : List ℕ) × IsSubsliceAt offset part text × ((quote ≡ []) ⊎ (quote ≡ found_message part))

-- what was expected, and after it the quote; any message for an object id
abbrev pub IsQuotingMessage : Reason → (quote full_message : List ℕ) → Type 0
IsQuotingMessage (WrongShape expected) quote full_message = full_message ≡ expected.now ++ quote
IsQuotingMessage (BadObjectId object_id_error) quote full_message = Unit {0}

-- the reason, after which a value of the text is quoted that begins at the offset
abbrev pub IsReasonMessage : (text : List ℕ) → (offset : Option ℕ) → Reason → (full_message : List ℕ) → Type 0
IsReasonMessage text offset reason full_message =
    (quote : List ℕ) × IsQuotedValue text offset quote × IsQuotingMessage reason quote full_message

-- the path of the error, and its reason
abbrev pub IsPathMessage : (text : List ℕ) → Place → (full_message : List ℕ) → Type 0
IsPathMessage text place full_message =
    (offset : Option ℕ) × (message : List ℕ) × IsReasonMessage text offset place.reason message
    × (full_message
    ≡ path_message (escaped_message (path_text (path_of place))) ++ codes " (" ++ escaped_message message ++ codes ")")

-- the bytes are UTF-8 and one value by the grammar of JSON, arrays and objects nesting as deep as texts may (RFC 8259)
abbrev pub IsWellFormedJson : (bytes : List ℕ) → Type 0
IsWellFormedJson bytes = IsUtf8 bytes × (skip_value max_depth (tokens bytes) ≡ Some [])

-- the bytes are the text of a tree: they have the grammar, and each number is in range
abbrev pub IsTextOfTree : (bytes : List ℕ) → Type 0
IsTextOfTree bytes = (tree : Data) × IsTextOf bytes tree

-- the text begins with one value, and has more input after it
abbrev pub HasTrailingData : (bytes : List ℕ) → Type 0
HasTrailingData bytes =
    IsUtf8 bytes × ((next_token : Token) × (more_tokens : List Token)
    × (skip_value max_depth (tokens bytes) ≡ Some (next_token ∷ more_tokens)))

-- how many brackets a token opens, and how many it closes
abbrev pub opens : Token → ℕ
opens begin_object = 1
opens begin_array = 1
opens token = 0

abbrev pub closes : Token → ℕ
closes end_object = 1
closes end_array = 1
closes token = 0

-- after some of the tokens more brackets are open than the limit allows
abbrev pub NestsDeeper : (token_list : List Token) → Type 0
NestsDeeper token_list =
    (tokens_before : List Token) × (tokens_after : List Token) × (token_list ≡ tokens_before ++ tokens_after)
    × (sum_by closes tokens_before + max_depth < sum_by opens tokens_before)

-- some bytes of the text are not a token
abbrev pub HasInvalidToken : (token_list : List Token) → Type 0
HasInvalidToken token_list =
    (tokens_before : List Token) × (tokens_after : List Token) × (token_list ≡ tokens_before ++ bad ∷ tokens_after)

-- the rules for bytes that are not a token
abbrev pub IsInvalidTokenRule : Rule → Type 0
IsInvalidTokenRule ExpectedValue = Unit {0}
IsInvalidTokenRule Number = Unit {0}
IsInvalidTokenRule ControlCharacter = Unit {0}
IsInvalidTokenRule Escape = Unit {0}
IsInvalidTokenRule ExpectedElement = Unit {0}
IsInvalidTokenRule rule = ⊥

-- which rule bytes break that are not JSON: three rules are named if and only if they are broken; blank input ends
-- too early; a nesting or token rule is named only if there is such a position. Bytes that are JSON are rejected only
-- if the rewritten text, which is read instead, nests too deep
pub record BreaksRule (bytes : List ℕ) (rule : Rule) : Type 0 where
  pub utf8 : rule ≡ Utf8 ↔ ¬ (IsUtf8 bytes)
  pub number : rule ≡ OutOfRange ↔ IsWellFormedJson bytes × IsNotJsonText bytes
  pub rewritten : rule ≡ RewrittenDepth ↔ IsTextOfTree bytes
  pub more : rule ≡ TrailingData ↔ HasTrailingData bytes
  pub blank : IsUtf8 bytes → tokens bytes ≡ [] → rule ≡ UnexpectedEnd
  pub depth : rule ≡ Depth → NestsDeeper (tokens bytes)
  pub no_token : IsInvalidTokenRule rule → HasInvalidToken (tokens bytes)

-- the bytes before a place among them, which are not all
abbrev pub bytes_before : (offset : ℕ) → (bytes : List ℕ) → List ℕ
bytes_before offset bytes = take (min offset (length bytes - 1)) bytes

-- its line, and its column in that line, both counted from 1
abbrev pub line_at : (offset : ℕ) → (bytes : List ℕ) → ℕ
line_at offset bytes = suc (count_by (λ byte. byte == 10) (bytes_before offset bytes))

abbrev pub column_at : (offset : ℕ) → (bytes : List ℕ) → ℕ
column_at offset bytes = suc (length (take_while (λ byte. not (byte == 10)) (reverse (bytes_before offset bytes))))

-- a column, which one no contract says, and the rule that is broken there
abbrev pub column_and_rule : (column : ℕ) → Rule → List ℕ
column_and_rule column rule = codes " at column " ++ decimal column ++ codes " (" ++ rule_message rule ++ codes ")"

-- the column of the first byte in which a text differs from the canonical one
abbrev pub column_message : (column : ℕ) → List ℕ
column_message column = codes " at column " ++ decimal column

-- the text in which a syntax error is located: with v1, bare words such as `NaN` are numbers of their length
abbrev pub located_text : (v1 : Bool) → (text : List ℕ) → List ℕ
located_text true text = with_words Digits text
located_text false text = text

-- the column at which bytes are not JSON, and the rule that they break
abbrev pub IsSyntaxPosition : (bytes full_message : List ℕ) → Type 0
IsSyntaxPosition bytes full_message = (column : ℕ) × (rule : Rule) × BreaksRule bytes rule
    × (full_message ≡ column_and_rule column rule)

-- the fault is not that of a text
abbrev pub HasNoPosition : Error → Type 0
HasNoPosition NotJson = ⊥
HasNoPosition (NotExtendedJson place) = ⊥
HasNoPosition (NotCanonical column) = ⊥
HasNoPosition other_error = Unit {0}

-- why a text is rejected: the rule that it breaks, or the path of its error, the reason in a message and the offset of
-- the value, or nothing
abbrev pub IsExplanation : (v1 : Bool) → (text : List ℕ) → Error → Explanation → Type 0
IsExplanation v1 text fault (explained.Syntax syntax_error) =
    (fault ≡ NotJson) × BreaksRule (located_text v1 text) syntax_error.rule
IsExplanation v1 text fault (explained.Value place reason offset) =
    (fault ≡ NotExtendedJson place.now)
    × ((message : List ℕ) × IsReasonMessage text offset place.now.reason message
    × (string_bytes reason ≡ escaped_message message))
IsExplanation v1 text fault (explained.Difference column) = fault ≡ NotCanonical column
IsExplanation v1 text fault explained.Other = HasNoPosition fault

-- the message of an explanation
abbrev pub explanation_message : (text : List ℕ) → Explanation → List ℕ
explanation_message text (explained.Syntax syntax_error) =
    column_and_rule (column_at syntax_error.offset text) syntax_error.rule
explanation_message text (explained.Value place reason offset) =
    path_message (escaped_message (path_text (path_of place.now))) ++ codes " (" ++ string_bytes reason ++ codes ")"
explanation_message text (explained.Difference column) = column_message column
explanation_message text explained.Other = []

-- how many bytes of the text are before its error, if that is known; at most all but one if it ends too early
abbrev pub explanation_offset : (text : List ℕ) → Explanation → Option ℕ
explanation_offset text (explained.Syntax syntax_error) = Some (min syntax_error.offset (length text - 1))
explanation_offset text (explained.Value place reason offset) = offset
explanation_offset text (explained.Difference column) = Some (column - 1)
explanation_offset text explained.Other = None

-- the path to a value, from it outward
abbrev pub explanation_path : Explanation → Option (List PathSegment)
explanation_path (explained.Value place reason offset) = Some (path_of place.now)
explanation_path explanation = None

-- where the error of a text is; nothing for an error that is not one of a text
abbrev pub IsPositionMessage : (v1 : Bool) → (text : List ℕ) → Error → (full_message : List ℕ) → Type 0
IsPositionMessage v1 text NotJson full_message = IsSyntaxPosition (located_text v1 text) full_message
IsPositionMessage v1 text (NotExtendedJson place) full_message = IsPathMessage text place full_message
IsPositionMessage v1 text (NotCanonical column) full_message = full_message ≡ column_message column
IsPositionMessage v1 text other_error full_message = full_message ≡ []

-- ---- for private clauses

-- a rule that a text breaks which is UTF-8 and begins with no value
abbrev pub IsValueSyntaxRule : Rule → Type 0
IsValueSyntaxRule rule = (rule ≢ Utf8) × (rule ≢ OutOfRange) × (rule ≢ TrailingData) × (rule ≢ RewrittenDepth)

-- a rule that a token breaks at its position, with this number of open brackets
abbrev pub IsTokenRule : (depth : ℕ) → Token → Rule → Type 0
IsTokenRule depth token rule =
    (rule ≡ Quotes) ⊎ (rule ≡ Separator) ⊎ (rule ≡ ExpectedColonAndValue)
    ⊎ ((rule ≡ Depth) × (closes token ≡ 0) × (max_depth < depth + opens token))
