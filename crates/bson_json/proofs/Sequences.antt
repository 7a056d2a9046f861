-- The texts of a sequence are those that are found in it.
use Rattle.std.proofs.Common.{◌≡◌, ℕ, zero, suc, true, false, ◌==◌, List, [], ◌∷◌, ◌++◌, refl, sym, ap, ◌∙◌, subst, append_assoc, append-nil}
use Rattle.json.specs.Json.{Json}
use Rattle.json.specs.Word.{is_space}
use Rattle.bson_json.specs.Grammar.{IsWs, no_ws, space, tab, line_feed, carriage_return, IsStructural, mark}
use Rattle.bson_json.specs.Grammar.{IsInt, zero_alone, from_one}
use Rattle.bson_json.specs.Grammar.{number}
use Rattle.bson_json.specs.Grammar.{string}
use Rattle.bson_json.specs.Grammar.{IsJsonValue, false_name, null_name, true_name, an_object, an_array, a_number, a_string}
use Rattle.bson_json.specs.Grammar.{IsJson, text}
use Rattle.bson_json.specs.declared.sequence.Separator.{Separator}
use Rattle.bson_json.specs.declared.sequence.Separator.TheVariants.{WhiteSpace}
use Rattle.bson_json.specs.Sequence.{IsTrimmed, AreTexts, no_texts, texts, MoreTexts, no_more_texts, more_texts}
use Rattle.bson_json.specs.Sequence.{outside, is_opener, is_closer, scan, split_or_prepend_byte, parts, texts_of_parts, texts_in}
use Rattle.bson_json.proofs.Forward.{three}
use Rattle.bson_json.proofs.Scanned.{put_before, put_first, Passes, then, pass_number, pass_false, pass_true, pass_null, pass_string}
use Rattle.bson_json.proofs.Scanned.{pass_ws, open_byte, close_byte, pass_values, pass_members}

-- ---- a text of a sequence

pub ends : (o : ℕ) (b t d : List ℕ) (c : ℕ) (e : List ℕ)
    → (o ∷ b) ++ (t ++ (d ++ c ∷ e)) ≡ ((o ∷ b) ++ (t ++ (d ++ c ∷ []))) ++ e
ends o b t d c e = sym (append_assoc (o ∷ b) (t ++ (d ++ c ∷ [])) e ∙ ap (λ l. (o ∷ b) ++ l)
    (append_assoc t (d ++ c ∷ []) e ∙ ap (λ l. t ++ l) (append_assoc d (c ∷ []) e)))

-- white space, what passes outside of all brackets, and white space
pub record Core (k : Separator) (t : List ℕ) : Type 0 where
  pub front : List ℕ
  pub core : List ℕ
  pub back : List ℕ
  pub split : t ≡ front ++ (core ++ back)
  pub is_front : IsWs front
  pub is_back : IsWs back
  pub passes : Passes k (outside zero) core (outside zero)

pub alone : {k : Separator} {t : List ℕ} → Passes k (outside zero) t (outside zero) → Core k t
alone {t = t} p = record { front = []; core = t; back = []; split = sym (append-nil t); is_front = no_ws; is_back = no_ws; passes = p }

pub bracketed : {k : Separator} {o c : ℕ} {a b : List ℕ} (t : List ℕ) → is_space o ≡ false → (o == 0x2C) ≡ false → (o == 0x22) ≡ false → is_opener o ≡ true → (c == 0x22) ≡ false
    → is_opener c ≡ false → is_closer c ≡ true → IsStructural o a → Passes k (outside (suc zero)) t (outside (suc zero)) → IsStructural c b
    → Core k (a ++ (t ++ b))
bracketed {o = o} {c = c} t so mo qo oo qc oc sc (mark {ws_before = a} {ws_after = b} wa wb) p (mark {ws_before = d} {ws_after = e} wd we) = record {
  front = a;
  core = (o ∷ b) ++ (t ++ (d ++ c ∷ []));
  back = e;
  split = append_assoc a (o ∷ b) (t ++ (d ++ c ∷ e)) ∙ ap (λ l. a ++ l) (ends o b t d c e);
  is_front = wa;
  is_back = we;
  passes = then (then (open_byte so mo qo oo) (pass_ws wb)) (then p (then (pass_ws wd) (close_byte qc oc sc)));
}

pub core_of : {k : Separator} {t : List ℕ} {j : Json} → IsJsonValue t j → Core k t
core_of false_name = alone pass_false
core_of null_name = alone pass_null
core_of true_name = alone pass_true
core_of (an_object a h b) = bracketed _ refl refl refl refl refl refl refl a (pass_members h) b
core_of (an_array a h b) = bracketed _ refl refl refl refl refl refl refl a (pass_values h) b
core_of (a_number h) = alone (pass_number h)
core_of (a_string h) = alone (pass_string h)

pub nil_left : (s t : List ℕ) → s ++ t ≡ [] → s ≡ []
nil_left [] t e = refl
nil_left (x ∷ s) t e = absurd cc

pub nil_right : (s t : List ℕ) → s ++ t ≡ [] → t ≡ []
nil_right [] t e = e
nil_right (x ∷ s) t e = absurd cc

pub cons_not_nil : (x : ℕ) (xs : List ℕ) → x ∷ xs ≡ [] → ⊥
cons_not_nil x xs e = cc

pub not_marked : {c : ℕ} {t : List ℕ} → IsStructural c t → t ≡ [] → ⊥
not_marked (mark {ws_before = a} {ws_after = b} h k) e = cons_not_nil _ b (nil_right a _ e)

pub int_full : {t : List ℕ} → IsInt t → t ≡ [] → ⊥
int_full zero_alone e = cons_not_nil _ _ e
int_full (from_one h o k) e = cons_not_nil _ _ e

pub value_full : {t : List ℕ} {j : Json} → IsJsonValue t j → t ≡ [] → ⊥
value_full false_name e = cons_not_nil _ _ e
value_full null_name e = cons_not_nil _ _ e
value_full true_name e = cons_not_nil _ _ e
value_full (an_object {begin_text = a} h m b) e = not_marked h (nil_left a _ e)
value_full (an_array {begin_text = a} h m b) e = not_marked h (nil_left a _ e)
value_full (a_number (number {minus_text = m} {int_text = i} h k f x)) e = int_full k (nil_left i _ (nil_right m _ e))
value_full (a_string (string h)) e = cons_not_nil _ _ e

pub text_full : {t : List ℕ} {j : Json} → IsJson t j → t ≡ [] → ⊥
text_full (text {ws_before = a} {value_text = t} h v k) e = value_full v (nil_left t _ (nil_right a _ e))

pub ws-append : {s t : List ℕ} → IsWs s → IsWs t → IsWs (s ++ t)
ws-append no_ws k = k
ws-append (space h) k = space (ws-append h k)
ws-append (tab h) k = tab (ws-append h k)
ws-append (line_feed h) k = line_feed (ws-append h k)
ws-append (carriage_return h) k = carriage_return (ws-append h k)

-- the same of a text
pub core_in : {k : Separator} {t : List ℕ} {j : Json} → IsJson t j → Core k t
core_in {k = s} (text {ws_before = a} {value_text = t} {ws_after = b} h v k) =
    let c = core_of {k = s} v in
    record {
      front = a ++ c.front;
      core = c.core;
      back = c.back ++ b;
      split = ap (λ l. a ++ (l ++ b)) c.split ∙ ap (λ l. a ++ l) (three c.front c.core c.back b)
          ∙ sym (append_assoc a c.front (c.core ++ (c.back ++ b)));
      is_front = ws-append h c.is_front;
      is_back = ws-append c.is_back k;
      passes = c.passes;
    }

pub bare_passes : {t : List ℕ} {j : Json} → IsJson t j → IsTrimmed t → Passes WhiteSpace (outside zero) t (outside zero)
bare_passes {t = t} h bare =
    let c = core_in {k = WhiteSpace} h in
    let no_front : c.front ≡ [] = bare.front c.front (c.core ++ c.back) c.split c.is_front in
    let no_back : c.back ≡ [] =
    bare.back (c.front ++ c.core) c.back (c.split ∙ sym (append_assoc c.front c.core c.back)) c.is_back in
    let same : t ≡ c.core =
    c.split ∙ ap (λ l. l ++ (c.core ++ c.back)) no_front ∙ ap (λ l. c.core ++ l) no_back ∙ append-nil c.core in
    subst (λ s. Passes WhiteSpace (outside zero) s (outside zero)) (sym same) c.passes

pub with_full : (t : List ℕ) (ps : List (List ℕ)) → (t ≡ [] → ⊥) → texts_of_parts WhiteSpace (t ∷ ps) ≡ t ∷ texts_of_parts WhiteSpace ps
unfolding texts_of_parts
with_full [] ps full = absurd (full refl)
with_full (x ∷ t) ps full = refl

pub one_space : {x : ℕ} → IsWs (x ∷ []) → is_space x ≡ true
one_space (space h) = refl
one_space (tab h) = refl
one_space (line_feed h) = refl
one_space (carriage_return h) = refl

pub behind_space : (x : ℕ) (u : List ℕ) → is_space x ≡ true → parts WhiteSpace (outside zero) (x ∷ u) ≡ [] ∷ parts WhiteSpace (outside zero) u
unfolding parts
behind_space x u e = ap (λ b. split_or_prepend_byte b x (parts WhiteSpace (outside zero) u) (parts WhiteSpace (scan (outside zero) x) u)) e

pub skip_one : (x : ℕ) (u : List ℕ) → is_space x ≡ true → texts_in WhiteSpace (x ∷ u) ≡ texts_in WhiteSpace u
unfolding texts_of_parts
skip_one x u e = ap (texts_of_parts WhiteSpace) (behind_space x u e)

pub skip_ws : {a : List ℕ} (u : List ℕ) → IsWs a → texts_in WhiteSpace (a ++ u) ≡ texts_in WhiteSpace u
skip_ws u no_ws = refl
skip_ws u (space h) = skip_one _ _ refl ∙ skip_ws u h
skip_ws u (tab h) = skip_one _ _ refl ∙ skip_ws u h
skip_ws u (line_feed h) = skip_one _ _ refl ∙ skip_ws u h
skip_ws u (carriage_return h) = skip_one _ _ refl ∙ skip_ws u h

pub nothing_in : texts_in WhiteSpace [] ≡ []
unfolding texts_of_parts parts
nothing_in = refl

pub at_end : (t : List ℕ) → (t ≡ [] → ⊥) → texts_of_parts WhiteSpace (put_before t (parts WhiteSpace (outside zero) [])) ≡ t ∷ []
unfolding texts_of_parts parts
at_end t full = ap (texts_of_parts WhiteSpace) (put_first t [] [] ∙ ap (λ s. s ∷ []) (append-nil t)) ∙ with_full t [] full

pub at_space : (t : List ℕ) (x : ℕ) (u : List ℕ) → (t ≡ [] → ⊥) → is_space x ≡ true
    → texts_of_parts WhiteSpace (put_before t (parts WhiteSpace (outside zero) (x ∷ u))) ≡ t ∷ texts_in WhiteSpace u
at_space t x u full e =
    ap (λ ps. texts_of_parts WhiteSpace (put_before t ps)) (behind_space x u e)
    ∙ ap (texts_of_parts WhiteSpace) (put_first t [] (parts WhiteSpace (outside zero) u) ∙ ap (λ s. s ∷ parts WhiteSpace (outside zero) u) (append-nil t))
    ∙ with_full t (parts WhiteSpace (outside zero) u) full

mutual
  pub texts_found : {content : List ℕ} {ts : List (List ℕ)} → AreTexts content ts → texts_in WhiteSpace content ≡ ts
  texts_found (no_texts {ws = a} h) = ap (texts_in WhiteSpace) (sym (append-nil a)) ∙ skip_ws [] h ∙ nothing_in
  texts_found (texts {ws_before = a} {first_text = t} {later_content = u} h j bare m) =
      skip_ws (t ++ u) h ∙ ap (texts_of_parts WhiteSpace) ((bare_passes j bare).passed u) ∙ more_found t (text_full j) m

  pub more_found : {u : List ℕ} {ts : List (List ℕ)} (t : List ℕ) → (t ≡ [] → ⊥) → MoreTexts u ts
      → texts_of_parts WhiteSpace (put_before t (parts WhiteSpace (outside zero) u)) ≡ t ∷ ts
  more_found t full no_more_texts = at_end t full
  more_found t full (more_texts {ws_byte = x} {later_content = u} h k) =
      at_space t x u full (one_space h) ∙ ap (λ ts. t ∷ ts) (texts_found k)
