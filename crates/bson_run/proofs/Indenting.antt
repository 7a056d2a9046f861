-- The layout of tokens, a token at a time, and that it has the tokens that it was made of.
use Rattle.std.proofs.Common.{◌≡◌, ◌+◌, ◌-◌, ℕ, zero, suc, max, List, [], ◌∷◌, ◌++◌, length, map, take, replicate, Bool, true, false, Some, inl, inr, refl, sym, ap, ◌∙◌, subst, arith, append_assoc, append-nil}
use Rattle.std.proofs.Common.{◌&&◌, cond, IsUtf8}
use Rattle.std.proofs.lemmas.Str.{IsUtf8-append, IsUtf8-nil}
use Rattle.std.proofs.lemmas.List.{replicate-append-replicate, take-replicate, length-replicate}
use Rattle.json.specs.Json.{Json, value as json_value}
use Rattle.json.specs.Layout.{Last, nothing, bracket, name, value, is_value, after}
use Rattle.json.specs.Lex.{tokens}
use Rattle.json.specs.Print.{token_text, separator, begins, ends, print, print_from, ArePrintable}
use Rattle.json.specs.Spaced.{IsGap, AreGaps, print_spaced}
use Rattle.json.specs.Token.{Token, begin_object, end_object, begin_array, end_array, key, string, number, boolean, null, bad}
use Rattle.json.specs.Tree.{json_tokens}
use Rattle.json.proofs.Numbered.{ArePrintableOrBad-tokens, value-HasNumbers}
use Rattle.json.proofs.Printed.Tokens.{tokens-print_spaced}
use Rattle.json.proofs.Printed.Utf8.{IsUtf8-are_ascii}
use Rattle.json.proofs.Printed.Trees.{ArePrintable-json_tokens}
use Rattle.json.proofs.Unique.Spelling.{value-json_tokens_back}
use Rattle.bson_run.specs.Indent.{line, white_space, indent_of_token, indent_after, with_white_space, indented, HasSameTokens, kind_of_previous_token, IsTokenWritten, IsWholeLayout}
use Rattle.bson_run.specs.declared.indent.Layout.{Layout}

pub print_one : (t : Token) → print (t ∷ []) ≡ token_text t
unfolding print_from
print_one t = append-nil (token_text t)

-- ---- the beginning of a line

pub stepped_out : (spaces indent : ℕ) → take (max (length (line indent) - spaces) 1) (line indent) ≡ line (indent - spaces)
stepped_out spaces indent =
    let stays : max (length (line indent) - spaces) 1 ≡ suc (indent - spaces) =
    ap (λ k. max (suc k - spaces) 1) (length-replicate indent 32) ∙ omega arith in
    ap (λ k. take k (line indent)) stays ∙ ap (λ l. 10 ∷ l) (take-replicate (indent - spaces) indent 32 (omega arith))

pub stepped_in : (n indent : ℕ) → line indent ++ replicate n 32 ≡ line (indent + n)
stepped_in n indent = ap (λ l. 10 ∷ l) (replicate-append-replicate indent n 32)

-- ---- a token more

ends_value : (t : Token) → is_value (after t 0).0 ≡ ends t
ends_value begin_object = refl
ends_value end_object = refl
ends_value begin_array = refl
ends_value end_array = refl
ends_value (key s) = refl
ends_value (string s) = refl
ends_value (number s) = refl
ends_value (boolean b) = refl
ends_value null = refl
ends_value bad = refl

regrouped : (written_bytes comma between text rest : List ℕ)
    → (written_bytes ++ (comma ++ (between ++ text))) ++ rest ≡ written_bytes ++ (comma ++ (between ++ (text ++ rest)))
regrouped written_bytes comma between text rest = simp append_assoc

pub one_more : (n : ℕ) (all left ts : List Token) (t : Token) (s u : Layout) → left ≡ t ∷ ts → (w : IsWholeLayout n all left s)
    → IsTokenWritten n w.indent s u t → IsWholeLayout n all ts u
unfolding print_spaced with_white_space
one_more n all left ts t s u e w l =
    let more = λ (last : Last). with_white_space n last (indent_after n t w.indent) ts in
    let last = kind_of_previous_token s.previous_kind in
    record {
      indent = indent_after n t w.indent;
      has_indent = l.has_indent;
      whole = ap (λ written_bytes. written_bytes ++ print_spaced (is_value (kind_of_previous_token u.previous_kind)) (more (kind_of_previous_token u.previous_kind))) l.written_bytes
          ∙ ap (λ now. (s.written_bytes.items ++ (separator (is_value last) t ++ (white_space last (begins t) (indent_of_token n t w.indent)
          ++ token_text t))) ++ print_spaced (is_value now) (more now)) l.previous_kind
          ∙ regrouped s.written_bytes.items (separator (is_value last) t) (white_space last (begins t) (indent_of_token n t w.indent)) (token_text t)
          (print_spaced (is_value (after t 0).0) (more (after t 0).0))
          ∙ ap (λ b. s.written_bytes.items ++ (separator (is_value last) t ++ (white_space last (begins t) (indent_of_token n t w.indent)
          ++ (token_text t ++ print_spaced b (more (after t 0).0))))) (ends_value t)
          ∙ ap (λ ts. s.written_bytes.items ++ print_spaced (is_value last) (with_white_space n last w.indent ts)) (sym e)
          ∙ w.whole;
    }

pub all_laid : (n : ℕ) (all left : List Token) (s : Layout) → left ≡ [] → IsWholeLayout n all left s
    → s.written_bytes.items ≡ indented n all
unfolding print_spaced with_white_space
all_laid n all left s e w =
    sym (append-nil s.written_bytes.items)
    ∙ ap (λ ts. s.written_bytes.items ++ print_spaced (is_value (kind_of_previous_token s.previous_kind)) (with_white_space n (kind_of_previous_token s.previous_kind) w.indent ts)) (sym e)
    ∙ w.whole

-- ---- UTF-8

spaces_utf8 : (n : ℕ) → IsUtf8 (replicate n 32)
spaces_utf8 zero = IsUtf8-nil
spaces_utf8 (suc n) = IsUtf8-append (32 ∷ []) (replicate n 32) (IsUtf8-are_ascii (32 ∷ []) refl) (spaces_utf8 n)

line_utf8 : (indent : ℕ) → IsUtf8 (line indent)
line_utf8 indent = IsUtf8-append (10 ∷ []) (replicate indent 32) (IsUtf8-are_ascii (10 ∷ []) refl) (spaces_utf8 indent)

gap_utf8 : (last : Last) (begins : Bool) (indent : ℕ) → IsUtf8 (white_space last begins indent)
gap_utf8 nothing begins indent = IsUtf8-nil
gap_utf8 bracket true indent = line_utf8 indent
gap_utf8 bracket false indent = IsUtf8-nil
gap_utf8 name begins indent = IsUtf8-are_ascii (32 ∷ []) refl
gap_utf8 value begins indent = line_utf8 indent

comma_utf8 : (due : Bool) → IsUtf8 (cond due (44 ∷ []) [])
comma_utf8 true = IsUtf8-are_ascii (44 ∷ []) refl
comma_utf8 false = IsUtf8-nil

-- a token more
pub utf8_more : (n indent : ℕ) (s u : Layout) (t : Token) → IsTokenWritten n indent s u t → IsUtf8 (token_text t)
    → IsUtf8 s.written_bytes.items → IsUtf8 u.written_bytes.items
utf8_more n indent s u t l text previous_kind =
    let last = kind_of_previous_token s.previous_kind in
    let comma = separator (is_value last) t in
    let between = white_space last (begins t) (indent_of_token n t indent) in
    subst IsUtf8 (sym l.written_bytes)
    (IsUtf8-append s.written_bytes.items (comma ++ (between ++ token_text t)) previous_kind
    (IsUtf8-append comma (between ++ token_text t) (comma_utf8 (is_value last && begins t))
    (IsUtf8-append between (token_text t) (gap_utf8 last (begins t) (indent_of_token n t indent)) text)))

pub joined : (written_bytes comma between text : List ℕ) → ((written_bytes ++ comma) ++ between) ++ text ≡ written_bytes ++ (comma ++ (between ++ text))
joined written_bytes comma between text = simp append_assoc

-- ---- the tokens of a layout

spaces_are_gap : (k : ℕ) → IsGap (replicate k 32)
spaces_are_gap zero = tt
spaces_are_gap (suc k) = (inl refl, spaces_are_gap k)

line_is_gap : (indent : ℕ) → IsGap (line indent)
line_is_gap indent = (inr refl, spaces_are_gap indent)

gap_is_gap : (last : Last) (b : Bool) (indent : ℕ) → IsGap (white_space last b indent)
gap_is_gap nothing b indent = tt
gap_is_gap bracket true indent = line_is_gap indent
gap_is_gap bracket false indent = tt
gap_is_gap name b indent = (inl refl, tt)
gap_is_gap value b indent = line_is_gap indent

spaced_gaps : (n : ℕ) (last : Last) (indent : ℕ) (ts : List Token) → AreGaps (with_white_space n last indent ts)
unfolding with_white_space
spaced_gaps n last indent [] = tt
spaced_gaps n last indent (t ∷ ts) = (gap_is_gap last (begins t) (indent_of_token n t indent), spaced_gaps n (after t 0).0 (indent_after n t indent) ts)

spaced_tokens : (n : ℕ) (last : Last) (indent : ℕ) (ts : List Token) → map (λ p. p.1) (with_white_space n last indent ts) ≡ ts
unfolding with_white_space
spaced_tokens n last indent [] = refl
spaced_tokens n last indent (t ∷ ts) = ap (λ l. t ∷ l) (spaced_tokens n (after t 0).0 (indent_after n t indent) ts)

printable : (text : List ℕ) (depth : ℕ) (tree : Json) → json_value depth (tokens text) ≡ Some (tree, [])
    → ArePrintable (tokens text)
printable text depth tree h =
    subst ArePrintable (sym (value-json_tokens_back depth (tokens text) [] tree h ∙ append-nil (json_tokens tree)))
    (ArePrintable-json_tokens tree (value-HasNumbers depth (tokens text) [] tree (ArePrintableOrBad-tokens text) h))

pub same_tokens : (n : ℕ) (text indented_text : List ℕ) → indented_text ≡ indented n (tokens text) → HasSameTokens text indented_text
same_tokens n text indented_text e = λ depth tree h.
    let ts = tokens text in
    let back = spaced_tokens n nothing 0 ts in
    ap tokens e ∙ tokens-print_spaced (with_white_space n nothing 0 ts) (spaced_gaps n nothing 0 ts)
    (subst ArePrintable (sym back) (printable text depth tree h)) ∙ back
