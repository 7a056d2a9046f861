-- The state of the writer that normalizes objects. For private clauses.
use Rattle.std.specs.Prelude.{◌≡◌, ◌≢◌, ◌⊎◌, ◌<◌, ◌≤◌, ◌-◌, ◌&&◌, ℕ, List, [], ◌∷◌, ◌++◌, length, map, slice_index_or, slice_range}
use Rattle.std.specs.Prelude.{Bool, true, false, is_some, Option, Some, None, MatchOption, if◌then◌else◌, Vec}
use Rattle.std.specs.declared.alloc.Global.{Global}
use Rattle.std.specs.Cmp.Lexicographic.{slice_cmp}
use Rattle.std.specs.List.{All}
use Rattle.std.specs.List.Sorted as Sorted
use Rattle.std.specs.List.Sorted.{IsPermutation}
use Rattle.std.specs.Ordering.{is_lt, nat_cmp, ordering_then}
use Rattle.std.specs.declared.cmp.Ordering.{Ordering}
use Rattle.json.specs.Json.{Json, null, boolean, number, string, array, object, Items, no_items, item}
use Rattle.json.specs.Json.{Members, no_members, member, Parse, items, members, value}
use Rattle.json.specs.Print.{print, quoted}
use Rattle.json.specs.Strict.{AreDistinct}
use Rattle.json.specs.Token.{Token}
use Rattle.json.specs.Tree.{json_tokens}
use Rattle.serde_json.specs.Read.{number_of}
use Rattle.serde_json.specs.Written.{comma_if}
use Rattle.bson_tokens.specs.PutMembers.{members_of, merged, put_all_members, KeysAscendFrom, PositionsAscend}
use Rattle.bson_model.specs.declared.options.KeyOrder.{KeyOrder}
use Rattle.bson_model.specs.declared.options.KeyOrder.TheVariants.{AsGiven, Ascending}
use Rattle.bson_tokens.specs.declared.normalizer.Normalizer.{Normalizer}
use Rattle.bson_tokens.specs.declared.member_order.MemberSpan.{MemberSpan}

-- the elements of an array to its end, and the members of an object to its end
abbrev pub array_rest : (depth : ℕ) → Parse Items
array_rest depth input_tokens = items (value depth) (length input_tokens) input_tokens

abbrev pub object_rest : (depth : ℕ) → Parse Members
object_rest depth input_tokens = members (value depth) (length input_tokens) input_tokens

-- ---- numbers

abbrev pub is_number_in_range : List ℕ → Bool
is_number_in_range text_bytes = is_some (number_of text_bytes)

-- each number is in range
abbrev mutual
  pub all_numbers_in_range : Json → Bool
  all_numbers_in_range null = true
  all_numbers_in_range (boolean truth) = true
  all_numbers_in_range (number text_bytes) = is_number_in_range text_bytes
  all_numbers_in_range (string text_bytes) = true
  all_numbers_in_range (array json_items) = item_numbers_in_range json_items
  all_numbers_in_range (object json_members) = member_numbers_in_range json_members

  pub item_numbers_in_range : Items → Bool
  item_numbers_in_range no_items = true
  item_numbers_in_range (item json_value json_items) =
      all_numbers_in_range json_value && item_numbers_in_range json_items

  pub member_numbers_in_range : Members → Bool
  member_numbers_in_range no_members = true
  member_numbers_in_range (member member_key json_value json_members) =
      all_numbers_in_range json_value && member_numbers_in_range json_members

-- the value that was read, if it passes the test
abbrev pub if_valid : {A : Type 0} → (is_valid : A → Bool) → (parse_result : Option (A × List Token))
    → Option (A × List Token)
if_valid is_valid None = None
if_valid is_valid (Some parsed) = if is_valid parsed.0 then Some parsed else None

-- ---- the text

-- this text was appended, and the next value needs a comma or not
pub record TextAppended (old : Normalizer) (text_bytes : List ℕ) (comma_needed_next : Bool)
    (new : Normalizer) : Type 0 where
  pub key_order : new.key_order ≡ old.key_order
  pub needs_comma : new.needs_comma ≡ comma_needed_next
  pub text : new.text.items ≡ old.text.items ++ text_bytes

-- the same, with a comma before it if one is needed
abbrev pub AppendedAfterComma : (old : Normalizer) → (appended : List ℕ) → (needs_comma : Bool) → (new : Normalizer)
    → Type 0
AppendedAfterComma old text_bytes needs_comma new =
    TextAppended old (comma_if old.needs_comma ++ text_bytes) needs_comma new

abbrev pub ValueAppended : (old : Normalizer) → Json → (new : Normalizer) → Type 0
ValueAppended old json_value new = AppendedAfterComma old (print (json_tokens json_value)) true new

-- something was read, these tokens remain, and the value of it was appended
abbrev pub ReadAndNormalized : {A : Type 0} → (read_result : Option (A × List Token)) → (json_of_read : A → Json)
    → (remaining_tokens : List Token) → (old : Normalizer)
    → (new : Normalizer) → Type 0
ReadAndNormalized {A} read_result json_of_read remaining_tokens old new = (value_read : A)
    × (read_result ≡ Some (value_read, remaining_tokens)) × ValueAppended old (json_of_read value_read) new

-- an object was opened, whose members start here
abbrev pub ObjectOpened : (old : Normalizer) → (start : ℕ) → (new : Normalizer) → Type 0
ObjectOpened old start new = (start ≡ length new.text.items) × AppendedAfterComma old (123 ∷ []) false new

-- a member was opened, whose text starts here in its object
abbrev pub MemberOpened : (old : Normalizer) → (start : ℕ) → (member_key : List ℕ) → (offset_in_object : ℕ)
    → (new : Normalizer) → Type 0
MemberOpened old start member_key offset_in_object new =
    (offset_in_object ≡ length (old.text.items ++ comma_if old.needs_comma) - start)
    × AppendedAfterComma old (quoted member_key ++ 58 ∷ []) false new

-- ---- the members of an object

-- a key with its value
abbrev pub JsonMember : Type 0
JsonMember = List ℕ × Json

abbrev pub json_entry_key : JsonMember → List ℕ
json_entry_key json_entry = json_entry.0

abbrev pub json_entry_value : JsonMember → Json
json_entry_value json_entry = json_entry.1

abbrev pub entry_members : List JsonMember → Members
entry_members = members_of json_entry_key json_entry_value

abbrev pub put_json_members : KeyOrder → (json_entries : List JsonMember) → Members
put_json_members key_order json_entries =
    put_all_members json_entry_key json_entry_value key_order json_entries no_members

abbrev pub member_text : JsonMember → List ℕ
member_text json_entry = quoted json_entry.0 ++ 58 ∷ print (json_tokens json_entry.1)

-- the texts with commas between them
abbrev pub comma_if_then_member_texts : (needs_comma : Bool) → (json_entries : List JsonMember) → List ℕ
comma_if_then_member_texts needs_comma [] = []
comma_if_then_member_texts needs_comma (json_entry ∷ json_entries) =
    comma_if needs_comma ++ (member_text json_entry ++ comma_if_then_member_texts true json_entries)

-- ---- the spans of members

-- the values of spans, by where their texts begin
abbrev pub MemberSpanValues : Type 0
MemberSpanValues = ℕ → Json

abbrev pub member_span_key : MemberSpan → List ℕ
member_span_key member_span = member_span.key.now

abbrev pub span_offset : MemberSpan → ℕ
span_offset member_span = member_span.offset_in_object

abbrev pub span_value : MemberSpanValues → MemberSpan → Json
span_value values member_span = values member_span.start

abbrev pub member_span_text : (body : List ℕ) → MemberSpan → List ℕ
member_span_text body member_span = slice_range body member_span.start member_span.end

-- the position of the first with the text of the second
abbrev pub merge : (member_span other_span : MemberSpan) → MemberSpan
merge member_span other_span =
    record { key = member_span.key; offset_in_object = member_span.offset_in_object; start = other_span.start; end = other_span.end }

abbrev pub entry_at : MemberSpanValues → MemberSpan → JsonMember
entry_at values member_span = (member_span_key member_span, values member_span.start)

abbrev pub IsMemberSpanWithin : (body : List ℕ) → MemberSpan → Type 0
IsMemberSpanWithin body member_span = (member_span.start < member_span.end) × (member_span.end ≤ length body)

abbrev pub IsMemberSpanOf : (body : List ℕ) → MemberSpanValues → MemberSpan → Type 0
IsMemberSpanOf body values member_span = IsMemberSpanWithin body member_span
    × (member_span_text body member_span ≡ member_text (entry_at values member_span))

-- there is an entry
abbrev pub has_entries : List JsonMember → Bool
has_entries [] = false
has_entries (json_entry ∷ json_entries) = true

-- the spans are the texts of these entries, concatenated
pub record SpansMatch (body : List ℕ) (member_spans : List MemberSpan) (json_entries : List JsonMember) : Type 0 where
  pub values : MemberSpanValues
  pub body_is_member_texts : body ≡ comma_if_then_member_texts false json_entries
  pub entries : map (entry_at values) member_spans ≡ json_entries
  pub all : All (IsMemberSpanOf body values) member_spans
  pub rise : PositionsAscend span_offset 0 member_spans
  pub below : All (λ member_span. member_span.offset_in_object < length body) member_spans

-- the spans are those of the entries that normalizing the first entries gives
abbrev pub SpansMatchNormalized : KeyOrder → (first_entries : List JsonMember) → (body : List ℕ)
    → (member_spans : List MemberSpan)
    → Type 0
SpansMatchNormalized key_order json_entries body member_spans = (normalized_entries : List JsonMember)
    × SpansMatch body member_spans normalized_entries
    × (entry_members normalized_entries ≡ put_json_members key_order json_entries)

-- the spans are normalized in the old text, or in this new text
abbrev pub SpansNormalized : KeyOrder → (body : List ℕ) → (spans_before spans_after : List MemberSpan)
    → (text : Option (Vec ℕ Global)) → Type 0
SpansNormalized key_order body spans_before spans_after text = (json_entries : List JsonMember)
    → SpansMatch body spans_before json_entries
    → MatchOption text (SpansMatchNormalized key_order json_entries body spans_after)
    (λ joined_text. SpansMatchNormalized key_order json_entries joined_text.items spans_after)

-- the members of the object that starts here are normalized
abbrev pub IsObjectNormalized : (normalizer_before : Normalizer) → (start : ℕ)
    → (spans_before spans_after : List MemberSpan) → (normalizer_after : Normalizer)
    → Type 0
IsObjectNormalized normalizer_before start spans_before spans_after normalizer_after =
    (normalizer_after.key_order ≡ normalizer_before.key_order)
    × (normalizer_after.needs_comma ≡ normalizer_before.needs_comma)
    × ((text_before_object body : List ℕ) (json_entries : List JsonMember)
    → normalizer_before.text.items ≡ text_before_object ++ body → start ≡ length text_before_object
    → SpansMatch body spans_before json_entries
    → (joined_text : List ℕ) × (normalizer_after.text.items ≡ text_before_object ++ joined_text)
    × SpansMatchNormalized normalizer_before.key_order json_entries joined_text spans_after)

-- the same before the object ends: the normalized members stay the same
abbrev pub IsObjectNormalizedEarly : (normalizer_before : Normalizer) → (start : ℕ)
    → (spans_before spans_after : List MemberSpan)
    → (normalizer_after : Normalizer) → Type 0
IsObjectNormalizedEarly normalizer_before start spans_before spans_after normalizer_after =
    (normalizer_after.key_order ≡ normalizer_before.key_order)
    × (normalizer_after.needs_comma ≡ normalizer_before.needs_comma)
    × ((text_before_object body : List ℕ) (json_entries : List JsonMember)
    → normalizer_before.text.items ≡ text_before_object ++ body → start ≡ length text_before_object
    → SpansMatch body spans_before json_entries
    → (joined_text : List ℕ) × (normalized_entries : List JsonMember)
    × (normalizer_after.text.items ≡ text_before_object ++ joined_text)
    × SpansMatch joined_text spans_after normalized_entries
    × (put_json_members normalizer_before.key_order normalized_entries
    ≡ put_json_members normalizer_before.key_order json_entries)
    × (has_entries normalized_entries ≡ has_entries json_entries))

-- the texts of the spans are concatenated
abbrev pub AreSpansJoined : (body : List ℕ) → (spans_before spans_after : List MemberSpan) → (joined : List ℕ) → Type 0
AreSpansJoined body spans_before spans_after text = (values : MemberSpanValues)
    → All (IsMemberSpanOf body values) spans_before
    → SpansMatch text spans_after (map (entry_at values) spans_before)

-- ---- their order

-- the keys are in the key order, each once
abbrev pub AreKeysInOrder : KeyOrder → (key_list : List (List ℕ)) → Type 0
AreKeysInOrder key_order key_list = KeysAscendFrom None key_list ⊎ ((key_order ≡ AsGiven) × AreDistinct key_list)

-- no span before this one has its key
abbrev pub IsFirstSpanOfKey : (member_spans : List MemberSpan) → (span_index : ℕ) → Type 0
IsFirstSpanOfKey member_spans span_index = (earlier_index : ℕ) (default_span : MemberSpan) → earlier_index < span_index
    → member_span_key (slice_index_or member_spans earlier_index default_span) ≢ member_span_key
    (slice_index_or member_spans span_index default_span)

-- spans in ascending key order, rearranged in the key order
abbrev pub AreSpansArranged : KeyOrder → (spans_before spans_after : List MemberSpan) → Type 0
AreSpansArranged AsGiven spans_before spans_after = IsPermutation spans_before spans_after
    × Sorted.IsSortedByKey span_offset nat_cmp spans_after
AreSpansArranged Ascending spans_before spans_after = spans_after ≡ spans_before

-- by key, and spans of one key by position
abbrev pub key_and_offset_cmp : (member_span other_span : MemberSpan) → Ordering
key_and_offset_cmp member_span other_span =
    ordering_then (slice_cmp nat_cmp (member_span_key member_span) (member_span_key other_span))
    (nat_cmp (span_offset member_span) (span_offset other_span))

-- each key once, in the key order: with the position of its first span and the text of its last
pub record AreSpansOrdered (key_order : KeyOrder) (spans_before spans_after : List MemberSpan) : Type 0 where
  pub sorted_spans : List MemberSpan
  pub same : IsPermutation spans_before sorted_spans
  pub sorted : Sorted.IsSortedBy
      (λ member_span other_span. is_lt (key_and_offset_cmp member_span other_span)) sorted_spans
  pub placed : AreSpansArranged key_order (merged member_span_key merge sorted_spans) spans_after
