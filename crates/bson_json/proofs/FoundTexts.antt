-- The texts that are found are those of a sequence, where each is JSON.
use Rattle.std.proofs.Common.{◌≡◌, ◌≢◌, ◌⊎◌, inl, inr, ℕ, zero, suc, ◌≤◌, Bool, true, false, ◌==◌, ◌||◌, List, [], ◌∷◌, ◌++◌, length, length-append, refl, sym, ap, ◌∙◌, subst, append_assoc, append-nil, arith}
use Rattle.std.proofs.lemmas.Bool.{eqb-true, false≢true}
use Rattle.std.specs.List.{AllByRecursion}
use Rattle.json.specs.Json.{Json}
use Rattle.json.specs.Word.{is_space}
use Rattle.bson_json.specs.Grammar.{IsWs, no_ws, space, tab, line_feed, carriage_return}
use Rattle.bson_json.specs.Grammar.{IsJson}
use Rattle.bson_json.specs.declared.sequence.Separator.{Separator}
use Rattle.bson_json.specs.declared.sequence.Separator.TheVariants.{WhiteSpace}
use Rattle.bson_json.specs.Sequence.{IsTrimmed, AreTexts, no_texts, texts, no_more_texts, more_texts}
use Rattle.bson_json.specs.Sequence.{ScanState, outside, in_string, in_escape, is_separator, scan, separates, prepend_to_part, split_or_prepend_byte, parts, texts_of_parts, texts_in}
use Rattle.bson_json.proofs.Scanned.{put_before, put_first, Passes}
use Rattle.bson_json.proofs.Sequences.{cons_not_nil, text_full, ws-append, core_in, with_full, behind_space, nothing_in}

-- ---- the texts that are found are those of a sequence, where each is JSON

pub not_nil : {p : List ℕ} {ps : List (List ℕ)} → p ∷ ps ≡ [] → ⊥
not_nil e = cc

pub tail_nil : {q r : List ℕ} {qs : List (List ℕ)} → q ∷ qs ≡ r ∷ [] → qs ≡ []
tail_nil e = cc

pub onto_full : (x : ℕ) (ps : List (List ℕ)) → prepend_to_part x ps ≡ [] → ⊥
onto_full x [] e = not_nil e
onto_full x (p ∷ ps) e = not_nil e

pub part_full : (b : Bool) (x : ℕ) (next same : List (List ℕ)) → split_or_prepend_byte b x next same ≡ [] → ⊥
part_full true x next same e = not_nil e
part_full false x next same e = onto_full x same e

pub parts_full : (k : Separator) (m : ScanState) (xs : List ℕ) → parts k m xs ≡ [] → ⊥
unfolding parts
parts_full k m [] e = not_nil e
parts_full k m (x ∷ xs) e = part_full (separates k m x) x (parts k (outside zero) xs) (parts k (scan m x) xs) e

-- the part is all, or a separator and other parts come after it
abbrev pub Rest : (k : Separator) → (xs part : List ℕ) → (more : List (List ℕ)) → Type 0
Rest k xs part more = ((xs ≡ part) × (more ≡ []))
    ⊎ ((x : ℕ) × (r : List ℕ) × (xs ≡ part ++ x ∷ r) × (is_separator k x ≡ true) × (more ≡ parts k (outside zero) r))

-- the first part, and what follows it
pub record First (k : Separator) (m : ScanState) (xs : List ℕ) : Type 0 where
  pub part : List ℕ
  pub more : List (List ℕ)
  pub is : parts k m xs ≡ part ∷ more
  pub whole : parts k m part ≡ part ∷ []
  pub rest : Rest k xs part more

pub separator_is : (k : Separator) (m : ScanState) (x : ℕ) → separates k m x ≡ true → is_separator k x ≡ true
separator_is k (outside zero) x e = e
separator_is k (outside (suc n)) x e = absurd (false≢true e)
separator_is k (in_string n) x e = absurd (false≢true e)
separator_is k (in_escape n) x e = absurd (false≢true e)

pub at_separator : (k : Separator) (m : ScanState) (x : ℕ) (xs : List ℕ) → separates k m x ≡ true → First k m (x ∷ xs)
unfolding parts
at_separator k m x xs e = record {
  part = [];
  more = parts k (outside zero) xs;
  is = ap (λ b. split_or_prepend_byte b x (parts k (outside zero) xs) (parts k (scan m x) xs)) e;
  whole = refl;
  rest = inr (x, xs, refl, separator_is k m x e, refl);
}

pub within_part : (k : Separator) (m : ScanState) (x : ℕ) (xs : List ℕ) → separates k m x ≡ false
    → parts k m (x ∷ xs) ≡ prepend_to_part x (parts k (scan m x) xs)
unfolding parts
within_part k m x xs e = ap (λ b. split_or_prepend_byte b x (parts k (outside zero) xs) (parts k (scan m x) xs)) e

pub longer_rest : (k : Separator) (x : ℕ) {xs part : List ℕ} {more : List (List ℕ)} → Rest k xs part more
    → Rest k (x ∷ xs) (x ∷ part) more
longer_rest k x (inl h) = inl (ap (λ l. x ∷ l) h.0, h.1)
longer_rest k x (inr h) = inr (h.0, h.1, ap (λ l. x ∷ l) h.2, h.3, h.4)

pub longer : (k : Separator) (m : ScanState) (x : ℕ) (xs : List ℕ) → separates k m x ≡ false → First k (scan m x) xs → First k m (x ∷ xs)
longer k m x xs e f = record {
  part = x ∷ f.part;
  more = f.more;
  is = within_part k m x xs e ∙ ap (prepend_to_part x) f.is;
  whole = within_part k m x f.part e ∙ ap (prepend_to_part x) f.whole;
  rest = longer_rest k x f.rest;
}

pub bool_cases : (b : Bool) (P : Type 0) → (b ≡ true → P) → (b ≡ false → P) → P
bool_cases true P f g = f refl
bool_cases false P f g = g refl

pub first_of : (k : Separator) (m : ScanState) (xs : List ℕ) → First k m xs
unfolding parts
first_of k m [] = record { part = []; more = []; is = refl; whole = refl; rest = inl (refl, refl) }
first_of k m (x ∷ xs) = bool_cases (separates k m x) (First k m (x ∷ xs)) (at_separator k m x xs)
    (λ e. longer k m x xs e (first_of k (scan m x) xs))

pub separated : (k : Separator) (m : ScanState) (x : ℕ) (xs : List ℕ) → separates k m x ≡ true
    → parts k m (x ∷ xs) ≡ [] ∷ parts k (outside zero) xs
unfolding parts
separated k m x xs e = ap (λ b. split_or_prepend_byte b x (parts k (outside zero) xs) (parts k (scan m x) xs)) e

-- ---- a part that is JSON is bare

abbrev pub IsSingle : List (List ℕ) → Type 0
IsSingle ps = (p : List ℕ) × (ps ≡ p ∷ [])

pub single_onto : (x : ℕ) (ps : List (List ℕ)) → IsSingle (prepend_to_part x ps) → ps ≢ [] → IsSingle ps
single_onto x [] h full = absurd (full refl)
single_onto x (p ∷ ps) h full = (p, ap (λ qs. p ∷ qs) (tail_nil h.1))

pub onto_single : (x : ℕ) (ps : List (List ℕ)) → IsSingle ps → IsSingle (prepend_to_part x ps)
onto_single x ps h = (x ∷ h.0, ap (prepend_to_part x) h.1)

pub not_single : (p : List ℕ) (m : ScanState) (xs : List ℕ) → IsSingle (p ∷ parts WhiteSpace m xs) → ⊥
not_single p m xs h = parts_full WhiteSpace m xs (tail_nil h.1)

-- where white space at the end separates nothing, no more of it does
pub goes_on : (m : ScanState) {y : ℕ} → IsWs (y ∷ []) → IsSingle (parts WhiteSpace m (y ∷ [])) → IsSingle (parts WhiteSpace m (y ∷ 0x20 ∷ []))
unfolding parts
goes_on (outside zero) (space h) s = absurd (not_single [] (outside zero) [] s)
goes_on (outside zero) (tab h) s = absurd (not_single [] (outside zero) [] s)
goes_on (outside zero) (line_feed h) s = absurd (not_single [] (outside zero) [] s)
goes_on (outside zero) (carriage_return h) s = absurd (not_single [] (outside zero) [] s)
goes_on (outside (suc n)) (space h) s = (_, refl)
goes_on (outside (suc n)) (tab h) s = (_, refl)
goes_on (outside (suc n)) (line_feed h) s = (_, refl)
goes_on (outside (suc n)) (carriage_return h) s = (_, refl)
goes_on (in_string n) (space h) s = (_, refl)
goes_on (in_string n) (tab h) s = (_, refl)
goes_on (in_string n) (line_feed h) s = (_, refl)
goes_on (in_string n) (carriage_return h) s = (_, refl)
goes_on (in_escape n) (space h) s = (_, refl)
goes_on (in_escape n) (tab h) s = (_, refl)
goes_on (in_escape n) (line_feed h) s = (_, refl)
goes_on (in_escape n) (carriage_return h) s = (_, refl)

pub more_space : (m : ScanState) (r : List ℕ) {y : ℕ} → IsWs (y ∷ []) → IsSingle (parts WhiteSpace m (r ++ y ∷ []))
    → IsSingle (parts WhiteSpace m (r ++ y ∷ 0x20 ∷ []))
more_space m [] h s = goes_on m h s
more_space m (x ∷ r) {y = y} h s = bool_cases (separates WhiteSpace m x) (IsSingle (parts WhiteSpace m (x ∷ (r ++ y ∷ 0x20 ∷ []))))
    (λ e. absurd (not_single [] (outside zero) (r ++ y ∷ []) (subst IsSingle (separated WhiteSpace m x (r ++ y ∷ []) e) s)))
    (λ e. subst IsSingle (sym (within_part WhiteSpace m x (r ++ y ∷ 0x20 ∷ []) e)) (onto_single x _ (more_space (scan m x) r h
    (single_onto x _ (subst IsSingle (within_part WhiteSpace m x (r ++ y ∷ []) e) s) (parts_full WhiteSpace (scan m x) (r ++ y ∷ []))))))

pub record Last (a : List ℕ) : Type 0 where
  pub init : List ℕ
  pub last : ℕ
  pub split : a ≡ init ++ last ∷ []
  pub is : IsWs (last ∷ [])

pub rest_ws : {x : ℕ} {a : List ℕ} → IsWs (x ∷ a) → IsWs a
rest_ws (space h) = h
rest_ws (tab h) = h
rest_ws (line_feed h) = h
rest_ws (carriage_return h) = h

pub last_ws : (x : ℕ) (a : List ℕ) → IsWs (x ∷ a) → Last (x ∷ a)
last_ws x [] h = record { init = []; last = x; split = refl; is = h }
last_ws x (y ∷ a) h =
    let l = last_ws y a (rest_ws h) in
    record { init = x ∷ l.init; last = l.last; split = ap (λ s. x ∷ s) l.split; is = l.is }

pub head_space : {x : ℕ} {a : List ℕ} → IsWs (x ∷ a) → is_space x ≡ true
head_space (space h) = refl
head_space (tab h) = refl
head_space (line_feed h) = refl
head_space (carriage_return h) = refl

-- white space that begins a part is none
pub no_front : (t : List ℕ) → IsSingle (parts WhiteSpace (outside zero) t) → (t ≡ [] → ⊥) → (a r : List ℕ) → t ≡ a ++ r → IsWs a → a ≡ []
no_front t s full [] r e h = refl
no_front t s full (x ∷ a) r e h =
    absurd (not_single [] (outside zero) (a ++ r) (subst IsSingle (ap (parts WhiteSpace (outside zero)) e ∙ behind_space x (a ++ r) (head_space h)) s))

pub cut : (c : List ℕ) (x : ℕ) (u : List ℕ) → Passes WhiteSpace (outside zero) c (outside zero) → is_space x ≡ true
    → IsSingle (parts WhiteSpace (outside zero) (c ++ x ∷ u)) → ⊥
cut c x u p e s = not_single (c ++ []) (outside zero) u (subst IsSingle (p.passed (x ∷ u)
    ∙ ap (put_before c) (behind_space x u e) ∙ put_first c [] (parts WhiteSpace (outside zero) u)) s)

-- what passes, white space and a space are not one part
pub two_parts : (c b : List ℕ) → Passes WhiteSpace (outside zero) c (outside zero) → IsWs b → IsSingle (parts WhiteSpace (outside zero) (c ++ (b ++ 0x20 ∷ []))) → ⊥
two_parts c [] p h s = cut c 0x20 [] p refl s
two_parts c (x ∷ b) p h s = cut c x (b ++ 0x20 ∷ []) p (head_space h) s

pub no_back : {t : List ℕ} {j : Json} → IsJson t j → IsSingle (parts WhiteSpace (outside zero) t) → (r a : List ℕ) → t ≡ r ++ a → IsWs a
    → a ≡ []
no_back {t = t} j s r [] e h = refl
no_back {t = t} j s r (x ∷ a) e h =
    let l = last_ws x a h in
    let c = core_in {k = WhiteSpace} j in
    let front : c.front ≡ [] = no_front t s (text_full j) c.front (c.core ++ c.back) c.split c.is_front in
    let ended : t ≡ (r ++ l.init) ++ l.last ∷ [] =
    e ∙ ap (λ z. r ++ z) l.split ∙ sym (append_assoc r l.init (l.last ∷ [])) in
    let spaced : IsSingle (parts WhiteSpace (outside zero) ((r ++ l.init) ++ l.last ∷ 0x20 ∷ [])) =
    more_space (outside zero) (r ++ l.init) l.is (subst (λ z. IsSingle (parts WhiteSpace (outside zero) z)) ended s) in
    let same : (r ++ l.init) ++ l.last ∷ 0x20 ∷ [] ≡ c.core ++ (c.back ++ 0x20 ∷ []) =
    sym (append_assoc (r ++ l.init) (l.last ∷ []) (0x20 ∷ [])) ∙ ap (λ z. z ++ 0x20 ∷ []) (sym ended)
    ∙ ap (λ z. z ++ 0x20 ∷ []) (c.split ∙ ap (λ z. z ++ (c.core ++ c.back)) front)
    ∙ append_assoc c.core c.back (0x20 ∷ []) in
    absurd (two_parts c.core c.back c.passes c.is_back (subst (λ z. IsSingle (parts WhiteSpace (outside zero) z)) same spaced))

pub bare_part : {t : List ℕ} {j : Json} → IsJson t j → IsSingle (parts WhiteSpace (outside zero) t) → IsTrimmed t
bare_part {t = t} j s = record { front = no_front t s (text_full j); back = no_back j s }

-- ---- a sequence of them

pub behind_ws : {x : ℕ} {u : List ℕ} {ts : List (List ℕ)} → IsWs (x ∷ []) → AreTexts u ts → AreTexts (x ∷ u) ts
behind_ws h (no_texts a) = no_texts (ws-append h a)
behind_ws h (texts a j bare m) = texts (ws-append h a) j bare m

pub none_of : {a b c d : Bool} → a ≡ false → b ≡ false → c ≡ false → d ≡ false → (a || b || c || d) ≡ false
none_of e f g h = rw e (rw f (rw g h))

pub space_is : (x : ℕ) → is_space x ≡ true → IsWs (x ∷ [])
space_is x e = bool_cases (x == 0x20) (IsWs (x ∷ [])) (λ f. subst (λ y. IsWs (y ∷ [])) (sym (eqb-true x 0x20 f)) (space no_ws))
    (λ f. bool_cases (x == 0x09) (IsWs (x ∷ [])) (λ g. subst (λ y. IsWs (y ∷ [])) (sym (eqb-true x 0x09 g)) (tab no_ws))
    (λ g. bool_cases (x == 0x0A) (IsWs (x ∷ [])) (λ h. subst (λ y. IsWs (y ∷ [])) (sym (eqb-true x 0x0A h)) (line_feed no_ws))
    (λ h. bool_cases (x == 0x0D) (IsWs (x ∷ [])) (λ k. subst (λ y. IsWs (y ∷ [])) (sym (eqb-true x 0x0D k)) (carriage_return no_ws))
    (λ k. absurd (false≢true (sym (none_of f g h k) ∙ e))))))

pub filled_nil : texts_of_parts WhiteSpace [] ≡ []
unfolding texts_of_parts
filled_nil = refl

pub filled_empty : (ps : List (List ℕ)) → texts_of_parts WhiteSpace ([] ∷ ps) ≡ texts_of_parts WhiteSpace ps
unfolding texts_of_parts
filled_empty ps = refl

pub shorter : (n : ℕ) (xs part : List ℕ) (x : ℕ) (r : List ℕ) → xs ≡ part ++ x ∷ r → length xs ≤ suc n → length r ≤ n
shorter n xs part x r e few = omega (arith, ap length e ∙ length-append part (x ∷ r), few)

pub no_room : (xs part : List ℕ) (x : ℕ) (r : List ℕ) → xs ≡ part ++ x ∷ r → length xs ≤ zero → ⊥
no_room xs part x r e few = omega (arith, ap length e ∙ length-append part (x ∷ r), few)

abbrev pub AreJson : List (List ℕ) → Type 0
AreJson ts = AllByRecursion (λ t. (j : Json) × IsJson t j) ts

-- one text, which is all or has more after it
pub alone_text : {xs : List ℕ} {j : Json} → IsJson xs j → IsSingle (parts WhiteSpace (outside zero) xs) → AreTexts xs (xs ∷ [])
alone_text {xs = xs} j s = subst (λ z. AreTexts z (xs ∷ [])) (append-nil xs) (texts no_ws j (bare_part j s) no_more_texts)

pub by_first : (n : ℕ) (xs part : List ℕ) (more : List (List ℕ)) → length xs ≤ n → parts WhiteSpace (outside zero) xs ≡ part ∷ more
    → IsSingle (parts WhiteSpace (outside zero) part) → Rest WhiteSpace xs part more → AreJson (texts_in WhiteSpace xs) → AreTexts xs (texts_in WhiteSpace xs)
by_first n xs [] more few is whole (inl h) all =
    subst (λ z. AreTexts z (texts_in WhiteSpace z)) (sym h.0) (subst (AreTexts []) (sym nothing_in) (no_texts no_ws))
by_first n xs (y ∷ part) more few is whole (inl h) all =
    let found : texts_in WhiteSpace xs ≡ (y ∷ part) ∷ [] =
    ap (texts_of_parts WhiteSpace) (is ∙ ap (λ m. (y ∷ part) ∷ m) h.1) ∙ with_full (y ∷ part) [] (cons_not_nil y part) ∙ ap (λ m. (y ∷ part) ∷ m) filled_nil in
    let json = (subst AreJson found all).0 in
    subst (AreTexts xs) (sym found)
    (subst (λ z. AreTexts z ((y ∷ part) ∷ [])) (sym h.0) (alone_text json.1 whole))
by_first zero xs part more few is whole (inr h) all = absurd (no_room xs part h.0 h.1 h.2 few)
by_first (suc n) xs [] more few is whole (inr h) all =
    let found : texts_in WhiteSpace xs ≡ texts_in WhiteSpace h.1 = ap (texts_of_parts WhiteSpace) (is ∙ ap (λ m. [] ∷ m) h.4) ∙ filled_empty (parts WhiteSpace (outside zero) h.1) in
    subst (AreTexts xs) (sym found) (subst (λ z. AreTexts z (texts_in WhiteSpace h.1)) (sym h.2) (behind_ws (space_is h.0 h.3)
    (let f = first_of WhiteSpace (outside zero) h.1 in
    by_first n h.1 f.part f.more (shorter n xs [] h.0 h.1 h.2 few) f.is (f.part, f.whole) f.rest (subst AreJson found all))))
by_first (suc n) xs (y ∷ part) more few is whole (inr h) all =
    let found : texts_in WhiteSpace xs ≡ (y ∷ part) ∷ texts_in WhiteSpace h.1 =
    ap (texts_of_parts WhiteSpace) (is ∙ ap (λ m. (y ∷ part) ∷ m) h.4) ∙ with_full (y ∷ part) (parts WhiteSpace (outside zero) h.1) (cons_not_nil y part) in
    let both = subst AreJson found all in
    subst (AreTexts xs) (sym found) (subst (λ z. AreTexts z ((y ∷ part) ∷ texts_in WhiteSpace h.1)) (sym h.2)
    (texts no_ws both.0.1 (bare_part both.0.1 whole)
    (more_texts (space_is h.0 h.3) (let f = first_of WhiteSpace (outside zero) h.1 in
    by_first n h.1 f.part f.more (shorter n xs (y ∷ part) h.0 h.1 h.2 few) f.is (f.part, f.whole) f.rest both.1))))

pub texts_are : (xs : List ℕ) → AreJson (texts_in WhiteSpace xs) → AreTexts xs (texts_in WhiteSpace xs)
texts_are xs all =
    let f = first_of WhiteSpace (outside zero) xs in
    by_first (length xs) xs f.part f.more (omega arith) f.is (f.part, f.whole) f.rest all
