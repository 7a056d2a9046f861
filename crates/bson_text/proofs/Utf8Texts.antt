-- Texts of UTF-8: joined, and cut at a byte of ASCII.
use Rattle.std.proofs.Common.{◌≡◌, ℕ, ◌<◌, Bool, true, false, cond, List, [], ◌∷◌, ◌++◌, length, IsUtf8, sym, refl, ap, ◌∙◌, subst}
use Rattle.std.proofs.Common.{◌-◌, take, arith, append_assoc, append-nil}
use Rattle.std.proofs.lemmas.List.{take_at, drop_at, get_or_at, length-append}
use Rattle.std.proofs.lemmas.List.Elements.{All-nil, All-head, All-tail, All-cons}
use Rattle.std.proofs.lemmas.List.Sorted.{All-permutation}
use Rattle.std.proofs.lemmas.Str.{IsUtf8-append, IsUtf8-drop, IsUtf8-encode, IsUtf8-from_is_utf8, IsUtf8-nil, IsUtf8-past_char}
use Rattle.std.proofs.lemmas.Str.{IsUtf8-take, IsCharBoundary-before_ascii, encode_ascii, is_utf8-from_IsUtf8}
use Rattle.std.specs.List.{All}
use Rattle.std.specs.Str.{is_utf8}
use Rattle.serde_json.specs.Written.{comma_if}
use Rattle.bson_text.specs.MemberSpans.{span_text, unfinished_text, EndsWithBrace, IsObjectWritten, IsUnfinishedObject, last_of_each_key}
use Rattle.bson_text.specs.declared.member_spans.MemberSpan.{MemberSpan}
use Rattle.bson_text.proofs.SpansInOrder.{all_last, closed}
use lib.Utf8.{low_scalar}

-- a byte of ASCII
pub byte_utf8 : (b : ℕ) → b < 128 → IsUtf8 (b ∷ [])
byte_utf8 b low = subst IsUtf8 (encode_ascii b low) (IsUtf8-encode b (low_scalar b (omega arith)))

pub nothing_utf8 : (xs : List ℕ) → xs ≡ [] → is_utf8 xs ≡ true
nothing_utf8 xs none = ap is_utf8 none ∙ is_utf8-from_IsUtf8 [] IsUtf8-nil

-- a text after another
pub joined_utf8 : (xs ys new : List ℕ) → is_utf8 xs ≡ true → IsUtf8 ys → new ≡ xs ++ ys → is_utf8 new ≡ true
joined_utf8 xs ys new u v is =
    ap is_utf8 is ∙ is_utf8-from_IsUtf8 (xs ++ ys) (IsUtf8-append xs ys (IsUtf8-from_is_utf8 xs u) v)

-- the same where the text may stay
pub extended_utf8 : (b : Bool) (xs ys new : List ℕ) → is_utf8 xs ≡ true → IsUtf8 ys → new ≡ cond b (xs ++ ys) xs
    → is_utf8 new ≡ true
extended_utf8 true xs ys new u v is = joined_utf8 xs ys new u v is
extended_utf8 false xs ys new u v is = ap is_utf8 is ∙ u

-- what precedes a byte of ASCII, and after it
pub cut_at : (xs ys : List ℕ) (b : ℕ) → b < 128 → IsUtf8 (xs ++ b ∷ ys) → IsUtf8 xs × IsUtf8 ys
cut_at xs ys b low u =
    let whole = xs ++ b ∷ ys in
    let n = length xs in
    let at = IsCharBoundary-before_ascii whole n (omega (arith, length-append xs (b ∷ ys)))
    (omega (arith, get_or_at xs b ys 0 n refl)) in (
      subst IsUtf8 (take_at xs (b ∷ ys) n refl) (IsUtf8-take whole n u at),
      IsUtf8-past_char (b ∷ ys) ys b (subst IsUtf8 (drop_at xs (b ∷ ys) n refl) (IsUtf8-drop whole n u at))
          (ap (λ l. l ++ ys) (sym (encode_ascii b low))),
    )

-- ---- the members of an object

comma_utf8 : (needs_comma : Bool) → IsUtf8 (comma_if needs_comma)
comma_utf8 true = byte_utf8 44 (omega arith)
comma_utf8 false = IsUtf8-nil

module _ (texts : List ℕ) where
  abbrev IsUtf8Span : MemberSpan → Type 0
  IsUtf8Span p = IsUtf8 (span_text texts p)

  -- commas separate them
  separate : (p : MemberSpan) (ps : List MemberSpan) → IsUtf8 (span_text texts p ++ unfinished_text texts true ps) → All IsUtf8Span (p ∷ ps)
  separate p [] u = All-cons IsUtf8Span p [] (subst IsUtf8 (append-nil (span_text texts p)) u) (All-nil IsUtf8Span)
  separate p (q ∷ ps) u =
      let (here, rest) = cut_at (span_text texts p) (span_text texts q ++ unfinished_text texts true ps) 44 (omega arith) u in
      All-cons IsUtf8Span p (q ∷ ps) here (separate q ps rest)

  spans_utf8 : (ps : List MemberSpan) → IsUtf8 (unfinished_text texts false ps) → All IsUtf8Span ps
  spans_utf8 [] u = All-nil IsUtf8Span
  spans_utf8 (p ∷ ps) u = separate p ps u

  open_utf8 : (needs_comma : Bool) (ps : List MemberSpan) → All IsUtf8Span ps → IsUtf8 (unfinished_text texts needs_comma ps)
  open_utf8 needs_comma [] h = IsUtf8-nil
  open_utf8 needs_comma (p ∷ ps) h =
      IsUtf8-append (comma_if needs_comma) (span_text texts p ++ unfinished_text texts true ps) (comma_utf8 needs_comma)
      (IsUtf8-append (span_text texts p) (unfinished_text texts true ps) (All-head IsUtf8Span p ps h)
      (open_utf8 true ps (All-tail IsUtf8Span p ps h)))

-- what precedes an open object
pub before_utf8 : (before texts : List ℕ) (ps : List MemberSpan) → IsUnfinishedObject before texts ps → is_utf8 texts ≡ true → IsUtf8 before
before_utf8 before texts ps began_document u =
    (cut_at before (unfinished_text texts false ps) 123 (omega arith) (subst IsUtf8 began_document (IsUtf8-from_is_utf8 texts u))).0

-- the object that was ended, its pieces in another order
pub ended_utf8 : (before texts new : List ℕ) (spans : List MemberSpan) → IsUnfinishedObject before texts spans → is_utf8 texts ≡ true
    → IsObjectWritten spans before texts new → EndsWithBrace new
ended_utf8 before texts new spans began_document u (written, (ps, stable, same, up, is), put) =
    let (first, rest) = cut_at before (unfinished_text texts false spans) 123 (omega arith)
    (subst IsUtf8 began_document (IsUtf8-from_is_utf8 texts u)) in
    let all = All-permutation (IsUtf8Span texts) spans ps same (spans_utf8 texts spans rest) in
    let qs = last_of_each_key ps in
    let members = unfinished_text texts false qs in
    let front = before ++ 123 ∷ members in (
      front,
      is_utf8-from_IsUtf8 front (IsUtf8-append before (123 ∷ members) first
          (IsUtf8-append (123 ∷ []) members (byte_utf8 123 (omega arith))
          (open_utf8 texts false qs (all_last (IsUtf8Span texts) ps all)))),
      put ∙ ap (λ l. before ++ l) is ∙ ap (λ l. before ++ 123 ∷ l) (sym (closed texts false qs))
          ∙ sym (append_assoc before (123 ∷ members) (125 ∷ [])),
    )

pub braced_utf8 : (new : List ℕ) → EndsWithBrace new → is_utf8 new ≡ true
braced_utf8 new (front, u, is) = joined_utf8 front (125 ∷ []) new u (byte_utf8 125 (omega arith)) is

-- and without its last byte
pub unbraced_utf8 : (text : List ℕ) (n : ℕ) → EndsWithBrace text → n ≡ length text → is_utf8 (take (n - 1) text) ≡ true
unbraced_utf8 text n (front, u, is) long =
    ap is_utf8 (ap (take (n - 1)) is
    ∙ take_at front (125 ∷ []) (n - 1) (omega (arith, long, ap length is, length-append front (125 ∷ []))))
    ∙ u
