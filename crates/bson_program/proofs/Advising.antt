-- Texts of an input, one after the other: each is a part of its bytes.
use Rattle.std.proofs.Common.{◌≡◌, ◌⊎◌, inl, inr, ◌<◌, ◌-◌, ℕ, List, [], ◌∷◌, ◌++◌, Option, None, Some, take, drop, length}
use Rattle.std.proofs.Common.{refl, ap, sym, ◌∙◌, append_assoc, append-nil, take-append-drop, length-drop, arith}
use Rattle.std.proofs.lemmas.List.{take_rest}
use Rattle.std.specs.Option.{IfSome}
use Rattle.bson_run.specs.ErrorMessages.{BreaksRule, IsSubslice, located_text}
use Rattle.bson_run.specs.declared.rule.Rule.{Rule}
use Rattle.bson_program.specs.Hints.{IsAdvice, IsSyntaxAdvice, IsSplit, advice_for_rule}
use Rattle.bson_program.specs.Messages.{line_len}
use Rattle.bson_program.specs.declared.advice.Advice.{Advice}
use Rattle.bson_program.specs.declared.invocation.Invocation.{Invocation}
use Rattle.bson_program.proofs.Verdicts.{line_moves, line_within}

-- these are the last of the bytes
abbrev pub IsEnd : (rest bytes : List ℕ) → Type 0
IsEnd rest bytes = (front : List ℕ) × (bytes ≡ front ++ rest)

pub starts : (bytes : List ℕ) → IsEnd bytes bytes
starts bytes = ([], refl)

pub goes_on : (first_bytes rest text next : List ℕ) → IsSplit rest text next → IsEnd rest first_bytes → IsEnd next first_bytes
goes_on first_bytes rest text next (mark, split) (front, is) =
    (front ++ (text ++ mark), is ∙ ap (λ r. front ++ r) split ∙ sym (append_assoc front (text ++ mark) next))

pub is_part : (first_bytes rest text next : List ℕ) → IsSplit rest text next → IsEnd rest first_bytes → IsSubslice text first_bytes
is_part first_bytes rest text next (mark, split) (front, is) = (
  front,
  mark ++ next,
  is ∙ ap (λ r. front ++ r) (split ∙ append_assoc text mark next) ∙ sym (append_assoc front text (mark ++ next)),
)

pub part_of_part : (part text bytes : List ℕ) → IsSubslice part text → IsSubslice text bytes → IsSubslice part bytes
part_of_part part text bytes (front, rest, of_text) (before, after, of_bytes) = (
  before ++ front,
  rest ++ after,
  of_bytes ∙ ap (λ it. (before ++ it) ++ after) of_text
      ∙ ap (λ it. it ++ after) (sym (append_assoc before (front ++ part) rest))
      ∙ append_assoc (before ++ (front ++ part)) rest after
      ∙ ap (λ it. it ++ (rest ++ after)) (sym (append_assoc before front part)),
)

pub all_of : (bytes : List ℕ) → IsSubslice bytes bytes
all_of bytes = ([], [], sym (append-nil bytes))

pub end_of : (n : ℕ) (bytes : List ℕ) → IsSubslice (drop n bytes) bytes
end_of n bytes =
    (take n bytes, [], sym (take-append-drop n bytes) ∙ sym (append-nil (take n bytes ++ drop n bytes)))

pub start_of : (n : ℕ) (bytes : List ℕ) → IsSubslice (take n bytes) bytes
start_of n bytes = ([], drop n bytes, sym (take-append-drop n bytes))

pub split_by : (rest text next : List ℕ)
    → ((rest ≡ text) × (next ≡ [])) ⊎ ((x : ℕ) × (rest ≡ text ++ x ∷ next)) → IsSplit rest text next
split_by rest text next (inl (is, ends)) =
    ([], is ∙ sym (append-nil text) ∙ sym (append-nil (text ++ [])) ∙ ap (λ it. (text ++ []) ++ it) (sym ends))
split_by rest text next (inr (x, is)) = (x ∷ [], is ∙ sym (append_assoc text (x ∷ []) next))

pub after_shorter : (bytes next : List ℕ) → next ≡ drop (line_len bytes) bytes → 0 < length bytes
    → length next < length bytes
after_shorter bytes next is some =
    let left : length next ≡ length bytes - line_len bytes = ap length is ∙ length-drop (line_len bytes) bytes in
    omega (arith, left, line_moves bytes some, line_within bytes)

-- ---- what helps

pub at_stop : (invocation : Invocation) (text : List ℕ) (rule : Rule) (offset : ℕ) (result : Option Advice)
    → BreaksRule (located_text invocation.task.preprocessing.v1 text) rule
    → result ≡ advice_for_rule invocation.input invocation.options.doubles rule (take (length text - offset) (drop offset text))
    → IfSome result (IsSyntaxAdvice invocation text)
at_stop invocation text rule offset None breaks is = tt
at_stop invocation text rule offset (Some it) breaks is = (
  rule,
  offset,
  breaks,
  ap (λ rest. advice_for_rule invocation.input invocation.options.doubles rule rest) (sym (take_rest text offset)) ∙ sym is,
)

pub within : (invocation : Invocation) (part bytes : List ℕ) (it : Advice) → IsSubslice part bytes
    → IsAdvice invocation part it → IsAdvice invocation bytes it
within invocation part bytes it inside (fault, text, found, rejected, helps) =
    (fault, text, part_of_part text part bytes found inside, rejected, helps)
