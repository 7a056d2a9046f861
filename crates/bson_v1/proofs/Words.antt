-- The bytes that are copied, those that are not yet, and those that are to be read.
use Rattle.std.proofs.Common.{◌≡◌, ℕ, ◌+◌, ◌-◌, ◌<◌, ◌≤◌, true, false, cond, List, [], ◌∷◌, ◌++◌, length, drop, take, get_or}
use Rattle.std.proofs.Common.{refl, sym, ap, ◌∙◌, arith, append_assoc}
use Rattle.std.proofs.lemmas.List.{drop_more, drop_all, drop-drop, drop-take, take-take, take-append-drop, take_all}
use Rattle.std.proofs.lemmas.List.Edits.{between_more, between_none}
use Rattle.std.proofs.lemmas.Slice.{between_from_start, between_to_end}
use Rattle.std.specs.List.{between}
use Rattle.bson_v1.specs.BareWords.{WordState, outside, continues_word, replaced_word, next_word_state, with_words, with_words_from}
use Rattle.bson_v1.specs.declared.bare_words.WordForm.{WordForm}

joined : (xs : List ℕ) (a b c : ℕ) → a ≤ b → b ≤ c → between a b xs ++ between b c xs ≡ between a c xs
joined xs a b c ab bc =
    let ys = drop a xs in
    let m = b - a in
    let n = c - b in
    let total : m + n ≡ c - a = omega arith in
    let place : b ≡ a + m = omega arith in
    ap (λ zs. take m ys ++ take n zs) (ap (λ k. drop k xs) place ∙ sym (drop-drop m a xs))
    ∙ ap (λ zs. zs ++ take n (drop m ys)) (sym (take-take m (m + n) ys (omega arith)))
    ∙ ap (λ zs. take m (take (m + n) ys) ++ zs) (sym (drop-take m n ys))
    ∙ take-append-drop m (take (m + n) ys)
    ∙ ap (λ k. take k ys) total

word_goes_on : (f : WordForm) (m : WordState) (w : List ℕ) (x : ℕ) (xs : List ℕ) → continues_word m x ≡ true
    → with_words_from f m w (x ∷ xs) ≡ with_words_from f (next_word_state m x) (w ++ x ∷ []) xs
unfolding with_words_from
word_goes_on f m w x xs e =
    ap (λ b. cond b (with_words_from f (next_word_state m x) (w ++ x ∷ []) xs)
    (replaced_word f w ++ x ∷ with_words_from f (next_word_state m x) [] xs)) e

word_ends : (f : WordForm) (m : WordState) (w : List ℕ) (x : ℕ) (xs : List ℕ) → continues_word m x ≡ false
    → with_words_from f m w (x ∷ xs) ≡ replaced_word f w ++ x ∷ with_words_from f (next_word_state m x) [] xs
unfolding with_words_from
word_ends f m w x xs e =
    ap (λ b. cond b (with_words_from f (next_word_state m x) (w ++ x ∷ []) xs)
    (replaced_word f w ++ x ∷ with_words_from f (next_word_state m x) [] xs)) e

text_ends : (f : WordForm) (m : WordState) (w : List ℕ) → with_words_from f m w [] ≡ replaced_word f w
unfolding with_words_from
text_ends f m w = refl

-- what was written, the bytes from there to the word, the word, and what is to be read
abbrev pub IsPart : (f : WordForm) (xs out : List ℕ) (copied start at : ℕ) → WordState → Type 0
IsPart f xs out copied start at m =
    with_words f xs ≡ out ++ (between copied start xs ++ with_words_from f m (between start at xs) (drop at xs))

pub begins : (f : WordForm) (xs : List ℕ) → IsPart f xs [] 0 0 0 outside
begins f xs = refl

module _ (f : WordForm) (xs out : List ℕ) (copied start at : ℕ) (m : WordState) (from_start : copied ≤ start) (to_place : start ≤ at)
    (part : IsPart f xs out copied start at m) where
  abbrev x : ℕ
  x = get_or xs at 0

  abbrev rest : List ℕ
  rest = drop (at + 1) xs

  abbrev word : List ℕ
  word = between start at xs

  abbrev front : List ℕ
  front = between copied start xs

  module _ (inside : at < length xs) where
    pub goes_on : continues_word m x ≡ true → IsPart f xs out copied start (at + 1) (next_word_state m x)
    goes_on e =
        part ∙ ap (λ ys. out ++ (front ++ with_words_from f m word ys)) (drop_more xs at 0 inside)
        ∙ ap (λ ys. out ++ (front ++ ys)) (word_goes_on f m word x rest e)
        ∙ ap (λ w. out ++ (front ++ with_words_from f (next_word_state m x) w rest)) (sym (between_more xs start at 0 to_place inside))

    ended : continues_word m x ≡ false
        → with_words f xs ≡ out ++ (front ++ (replaced_word f word ++ x ∷ with_words_from f (next_word_state m x) [] rest))
    ended e =
        part ∙ ap (λ ys. out ++ (front ++ with_words_from f m word ys)) (drop_more xs at 0 inside)
        ∙ ap (λ ys. out ++ (front ++ ys)) (word_ends f m word x rest e)

    next_word : (ys : List ℕ) → ys ++ with_words_from f (next_word_state m x) [] rest
        ≡ ys ++ with_words_from f (next_word_state m x) (between (at + 1) (at + 1) xs) rest
    next_word ys = ap (λ w. ys ++ with_words_from f (next_word_state m x) w rest) (sym (between_none xs (at + 1)))

    pub word_stays : continues_word m x ≡ false → replaced_word f word ≡ word
        → IsPart f xs out copied (at + 1) (at + 1) (next_word_state m x)
    word_stays e same =
        let later = with_words_from f (next_word_state m x) [] rest in
        ended e ∙ ap (λ w. out ++ (front ++ (w ++ x ∷ later))) same
        ∙ ap (λ ys. out ++ ys) (sym (append_assoc front word (x ∷ later))
        ∙ ap (λ ys. ys ++ x ∷ later) (joined xs copied start at from_start to_place)
        ∙ sym (append_assoc (between copied at xs) (x ∷ []) later)
        ∙ ap (λ ys. ys ++ later) (sym (between_more xs copied at 0 (omega (arith, from_start, to_place)) inside))
        ∙ next_word (between copied (at + 1) xs))

    pub word_replaced : (new : List ℕ) → continues_word m x ≡ false → new ≡ out ++ front ++ replaced_word f word
        → IsPart f xs new at (at + 1) (at + 1) (next_word_state m x)
    word_replaced new e is =
        let later = with_words_from f (next_word_state m x) [] rest in
        let one : between at (at + 1) xs ≡ x ∷ [] =
        between_more xs at at 0 (omega arith) inside ∙ ap (λ ys. ys ++ x ∷ []) (between_none xs at) in
        ended e ∙ sym (append_assoc out front (replaced_word f word ++ x ∷ later))
        ∙ sym (append_assoc (out ++ front) (replaced_word f word) (x ∷ later))
        ∙ ap (λ ys. ys ++ x ∷ later) (sym is)
        ∙ ap (λ ys. new ++ (ys ++ later)) (sym one)
        ∙ ap (λ ys. new ++ ys) (next_word (between at (at + 1) xs))

  module _ (all : length xs ≤ at) (all_start : start ≤ length xs) where
    -- the bytes after the last word
    abbrev end : List ℕ
    end = between start (length xs) xs

    last_word : with_words f xs ≡ out ++ (front ++ replaced_word f end)
    last_word =
        part ∙ ap (λ ys. out ++ (front ++ with_words_from f m word ys)) (drop_all at xs all)
        ∙ ap (λ ys. out ++ (front ++ ys)) (text_ends f m word)
        ∙ ap (λ w. out ++ (front ++ replaced_word f w))
        (between_to_end xs start at all ∙ sym (between_to_end xs start (length xs) (omega arith)))

    pub last_replaced : (new : List ℕ) → new ≡ out ++ front ++ replaced_word f end → new ≡ with_words f xs
    last_replaced new is = is ∙ append_assoc out front (replaced_word f end) ∙ sym last_word

    pub last_stays : replaced_word f end ≡ end → with_words f xs ≡ out ++ between copied (length xs) xs
    last_stays same =
        last_word ∙ ap (λ w. out ++ (front ++ w)) same
        ∙ ap (λ ys. out ++ ys) (joined xs copied start (length xs) from_start all_start)

    pub text_stays : copied ≡ 0 → out ≡ [] → replaced_word f end ≡ end → with_words f xs ≡ xs
    text_stays zero nothing same =
        last_stays same ∙ ap (λ o. o ++ between copied (length xs) xs) nothing
        ∙ ap (λ n. between n (length xs) xs) zero ∙ between_from_start xs (length xs)
        ∙ take_all (length xs) xs (omega arith)
