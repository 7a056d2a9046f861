-- How white space and the structural characters are lexed.
use Rattle.std.proofs.Common.{◌≡◌, ℕ, true, false, List, [], ◌∷◌, ◌++◌, refl, ap, ◌∙◌, append_assoc}
use Rattle.json.specs.Word.{ends_word}
use Rattle.json.specs.Lex.{Lexeme, lex, lex_byte, class, operator, between, operator_lexeme, begins_colon}
use Rattle.bson_json.specs.Grammar.{IsWs, no_ws, space, tab, line_feed, carriage_return, IsStructural, mark}

pub lex-ws : {w : List ℕ} (r : List ℕ) → IsWs w → lex between (w ++ r) ≡ lex between r
unfolding lex
lex-ws r no_ws = refl
lex-ws r (space h) = lex-ws r h
lex-ws r (tab h) = lex-ws r h
lex-ws r (line_feed h) = lex-ws r h
lex-ws r (carriage_return h) = lex-ws r h

pub ends-ws : {w : List ℕ} (r : List ℕ) → IsWs w → ends_word r ≡ true → ends_word (w ++ r) ≡ true
ends-ws r no_ws e = e
ends-ws r (space h) e = refl
ends-ws r (tab h) e = refl
ends-ws r (line_feed h) e = refl
ends-ws r (carriage_return h) e = refl

pub lex-operator : (c : ℕ) (r : List ℕ) → class c ≡ operator → lex between (c ∷ r) ≡ operator_lexeme c ∷ lex between r
unfolding lex
lex-operator c r e = ap (λ k. lex_byte between k c r (λ m. lex m r)) e

pub lex-mark : {c : ℕ} {m : List ℕ} (r : List ℕ) → class c ≡ operator → IsStructural c m → lex between (m ++ r) ≡ operator_lexeme c ∷ lex between r
lex-mark {c = c} r e (mark {ws_before = a} {ws_after = b} h k) =
    ap (lex between) (append_assoc a (c ∷ b) r) ∙ lex-ws (c ∷ (b ++ r)) h ∙ lex-operator c (b ++ r) e ∙ ap (λ l. operator_lexeme c ∷ l) (lex-ws r k)

pub ends-mark : {c : ℕ} {m : List ℕ} (r : List ℕ) → ends_word (c ∷ []) ≡ true → IsStructural c m → ends_word (m ++ r) ≡ true
ends-mark {c = c} r e (mark {ws_before = a} {ws_after = b} h k) = ap ends_word (append_assoc a (c ∷ b) r) ∙ ends-ws (c ∷ (b ++ r)) h e

-- what may follow a value: the end, or white space and then a character that is no colon
pub record Follows (r : List ℕ) : Type 0 where
  pub ended : ends_word r ≡ true
  pub no_colon : begins_colon (lex between r) ≡ false

pub follows-ws : {w : List ℕ} → IsWs w → Follows w
unfolding lex
follows-ws no_ws = record { ended = refl; no_colon = refl }
follows-ws (space h) = record { ended = refl; no_colon = (follows-ws h).no_colon }
follows-ws (tab h) = record { ended = refl; no_colon = (follows-ws h).no_colon }
follows-ws (line_feed h) = record { ended = refl; no_colon = (follows-ws h).no_colon }
follows-ws (carriage_return h) = record { ended = refl; no_colon = (follows-ws h).no_colon }

pub follows-mark : {c : ℕ} {m : List ℕ} (r : List ℕ) → class c ≡ operator → ends_word (c ∷ []) ≡ true → begins_colon (operator_lexeme c ∷ []) ≡ false → IsStructural c m → Follows (m ++ r)
follows-mark {c = c} r o e n h = record {
  ended = ends-mark r e h;
  no_colon = ap begins_colon (lex-mark r o h) ∙ one (operator_lexeme c) (lex between r) n;
}
  where
    one : (l : Lexeme) (ls : List Lexeme) → begins_colon (l ∷ []) ≡ false → begins_colon (l ∷ ls) ≡ false
    one (Rattle.json.specs.Lex.token t) ls e = e
    one Rattle.json.specs.Lex.comma ls e = e
    one Rattle.json.specs.Lex.colon ls e = e
