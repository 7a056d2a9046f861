-- The members of an object in the output, and the object with sorted members. For private clauses.
use Rattle.std.specs.Prelude.{◌≡◌, ◌<◌, ◌≤◌, ◌-◌, ℕ, Bool, true, false, if◌then◌else◌}
use Rattle.std.specs.Prelude.{List, [], ◌∷◌, ◌++◌, length, map, slice_index_or, slice_range, Option, Some, None, Ok}
use Rattle.std.specs.Borrow.{Bor}
use Rattle.std.specs.List.{range_with_len}
use Rattle.std.specs.List.Sorted.{IsPermutation}
use Rattle.std.specs.Str.{bytes_eq, is_utf8}
use Rattle.json.specs.Print.{quoted}
use Rattle.serde_json.specs.Data.{Data}
use Rattle.serde_json.specs.Written.{comma_if}
use Rattle.bson_scalar.specs.TreeText.{text_of}
use Rattle.bson_scalar.specs.declared.form.Doubles.{Doubles}
use Rattle.bson_scalar.specs.declared.form.Form.{Form}
use Rattle.bson_model.specs.Value.{Value}
use Rattle.bson_model.specs.Writing.{writes_value_in}
use Rattle.bson_model.specs.StableOrder.{IsStableByKey}
use Rattle.bson_text.specs.declared.member_spans.MemberSpan.{MemberSpan}
use Rattle.bson_tokens.specs.PutMembers.{KeyIsGreater}

abbrev pub span_key : MemberSpan → List ℕ
span_key member_span = member_span.key.now

abbrev pub span_text : (buffer : List ℕ) → MemberSpan → List ℕ
span_text buffer member_span = slice_range buffer member_span.start member_span.end

-- where a member ends before the next one: right before the comma
abbrev pub end_before_next : (later_starts : List ℕ) → (end : ℕ) → ℕ
end_before_next [] end = end
end_before_next (first_offset ∷ member_starts) end = first_offset - 1

-- the members of these keys, one after another from these offsets up to the end
abbrev pub spans_from : (key_list : List (Bor (List ℕ))) → (member_starts : List ℕ) → (end : ℕ) → List MemberSpan
spans_from [] member_starts end = []
spans_from (member_key ∷ key_list) [] end = []
spans_from (member_key ∷ key_list) (first_offset ∷ member_starts) end =
    record { key = member_key; start = first_offset; end = end_before_next member_starts end }
    ∷ spans_from key_list member_starts end

-- ---- keys

-- the keys of the members ascend
abbrev pub SpanKeysAscend : (last_key : Option (List ℕ)) → List MemberSpan → Type 0
SpanKeysAscend last_key [] = Unit {0}
SpanKeysAscend last_key (member_span ∷ span_list) = KeyIsGreater last_key (span_key member_span)
    × SpanKeysAscend (Some (span_key member_span)) span_list

-- ---- positions

abbrev pub empty_span : MemberSpan
empty_span = record { key = record { ref_ptr = (0, 0); now = [] }; start = 0; end = 0 }

-- the member at a position, and the key
abbrev pub span_at_or_empty : (span_list : List MemberSpan) → (member_index : ℕ) → MemberSpan
span_at_or_empty span_list member_index = slice_index_or span_list member_index empty_span

abbrev pub key_at_or_empty : (key_list : List (Bor (List ℕ))) → (member_index : ℕ) → List ℕ
key_at_or_empty key_list member_index = slice_index_or (map (λ member_key. member_key.now) key_list) member_index []

-- the members at the positions
abbrev pub spans_at : (span_list : List MemberSpan) → (indexes : List ℕ) → List MemberSpan
spans_at span_list indexes = map (span_at_or_empty span_list) indexes

-- the first position has the key
abbrev pub first_index_has_key : (key_list : List (Bor (List ℕ))) → (member_key indexes : List ℕ) → Bool
first_index_has_key key_list member_key [] = false
first_index_has_key key_list member_key (member_index ∷ indexes) =
    bytes_eq (key_at_or_empty key_list member_index) member_key

-- all positions of the keys, those of one key in input order
abbrev pub AreIndexesByKey : (key_list : List (Bor (List ℕ))) → (indexes : List ℕ) → Type 0
AreIndexesByKey key_list indexes = IsPermutation (range_with_len 0 (length key_list)) indexes
    × IsStableByKey (key_at_or_empty key_list) (range_with_len 0 (length key_list)) indexes

-- ---- joined

-- the members with commas between them
abbrev pub unfinished_text : (buffer : List ℕ) → (needs_comma : Bool) → List MemberSpan → List ℕ
unfinished_text buffer needs_comma [] = []
unfinished_text buffer needs_comma (member_span ∷ span_list) =
    comma_if needs_comma ++ (span_text buffer member_span ++ unfinished_text buffer true span_list)

-- the same with the brace that ends the object
abbrev pub members_text : (buffer : List ℕ) → (needs_comma : Bool) → List MemberSpan → List ℕ
members_text buffer needs_comma [] = 125 ∷ []
members_text buffer needs_comma (member_span ∷ span_list) =
    comma_if needs_comma ++ (span_text buffer member_span ++ members_text buffer true span_list)

abbrev pub object_text : (buffer : List ℕ) → (span_list : List MemberSpan) → List ℕ
object_text buffer span_list = 123 ∷ members_text buffer false span_list

abbrev pub IsSpanWithin : (buffer : List ℕ) → MemberSpan → Type 0
IsSpanWithin buffer member_span = (member_span.start < member_span.end) × (member_span.end ≤ length buffer)

-- the first member has the key
abbrev pub next_has_key : (member_key : List ℕ) → List MemberSpan → Bool
next_has_key member_key [] = false
next_has_key member_key (member_span ∷ span_list) = bytes_eq (span_key member_span) member_key

-- the last of neighbours with the same key
abbrev pub last_of_each_key : List MemberSpan → List MemberSpan
last_of_each_key [] = []
last_of_each_key (member_span ∷ span_list) =
    if next_has_key (span_key member_span) span_list then last_of_each_key span_list
    else member_span ∷ last_of_each_key span_list

-- the object was written with the last member of each key
abbrev pub IsTextOfSpans : (span_list : List MemberSpan) → (buffer written : List ℕ) → Type 0
IsTextOfSpans span_list buffer written = SpanKeysAscend None (last_of_each_key span_list)
    × (written ≡ object_text buffer (last_of_each_key span_list))

-- the object sorted by key, with the last member of each key
abbrev pub IsSortedObject : (spans : List MemberSpan) → (buffer written : List ℕ) → Type 0
IsSortedObject spans buffer written =
    (span_list : List MemberSpan) × IsStableByKey span_key spans span_list × IsPermutation spans span_list
    × SpanKeysAscend None (last_of_each_key span_list)
    × (written ≡ object_text buffer (last_of_each_key span_list))

-- the members come after the old output in input order
abbrev pub IsUnfinishedObject : (old buffer : List ℕ) → (span_list : List MemberSpan) → Type 0
IsUnfinishedObject old buffer span_list = buffer ≡ old ++ 123 ∷ unfinished_text buffer false span_list

-- the finished object replaces the members
abbrev pub IsObjectWritten : (spans : List MemberSpan) → (old buffer new : List ℕ) → Type 0
IsObjectWritten spans old buffer new = (written : List ℕ) × IsSortedObject spans buffer written × (new ≡ old ++ written)

-- the text ends with a brace, and is UTF-8 before it
abbrev pub EndsWithBrace : (text : List ℕ) → Type 0
EndsWithBrace text = (front : List ℕ) × (is_utf8 front ≡ true) × (text ≡ front ++ 125 ∷ [])

-- ---- of values

-- the text of a member of this key and value
abbrev pub IsMemberText : Doubles → Form → (member_key : List ℕ) → Value → (text : List ℕ) → Type 0
IsMemberText doubles form member_key member_value text = (value_tree : Data)
    × (writes_value_in doubles form member_value ≡ Ok value_tree)
    × (text ≡ quoted member_key ++ 58 ∷ text_of value_tree)

-- the values of the members, by the offsets at which they begin
abbrev pub ValuesByStart : Type 0
ValuesByStart = ℕ → Value

abbrev pub value_of_span : (values : ValuesByStart) → MemberSpan → Value
value_of_span values member_span = values member_span.start

-- the member is within the output, with a text of its key and value
abbrev pub IsMemberSpan : (IsTextOfMember : List ℕ → Value → List ℕ → Type 0) → (buffer : List ℕ)
    → (values : ValuesByStart) → MemberSpan → Type 0
IsMemberSpan IsTextOfMember buffer values member_span = IsSpanWithin buffer member_span
    × IsTextOfMember (span_key member_span) (value_of_span values member_span) (span_text buffer member_span)
