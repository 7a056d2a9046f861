-- The place of a refused text's fault.
use Rattle.std.proofs.Common.{◌≡◌, ◌<◌, ◌==◌, ◌^◌, ◌-◌, ◌++◌, ℕ, List, [], ◌∷◌, Bool, true, false, cond, length, codes, refl, sym, ap, subst}
use Rattle.std.proofs.Common.{◌∙◌, inl, inr, append_assoc, arith, Option, Some, None, Result, Ok, Err, OnOk, take, nat_lt}
use Rattle.std.specs.Char.{is_control}
use Rattle.std.specs.Fmt.{digits, digits_output, format_spec, padded_integral, radix_digits, styled_digits_output, ◌++?◌}
use Rattle.std.specs.List.{flat_map, slice_get}
use Rattle.std.specs.Option.{is_some, option_map, IfSome}
use Rattle.std.specs.Result.{is_ok}
use Rattle.std.specs.Str.{chars}
use Rattle.std.proofs.lemmas.Bool.{le-ltb, lt-ltb}
use Rattle.std.proofs.lemmas.Fmt.{hex_byte}
use Rattle.std.proofs.lemmas.Option.{slice_get_cases, slice_get_within}
use Rattle.bson_tree.specs.Place.{path_text, path_of}
use Rattle.bson_tree.specs.declared.place.Place.{Place}
use Rattle.bson_convert.specs.declared.error.Error.{Error}
use Rattle.bson_convert.specs.declared.error.Error.TheVariants as errors
use Rattle.bson_run.specs.ErrorMessages.{IsExplanation, HasNoPosition, IsPositionMessage, column_message, path_message, column_at, truncated, escaped_char, escaped_message}
use Rattle.bson_run.specs.ErrorMessages.{explanation_message}
use Rattle.bson_run.specs.declared.explain.Explanation.{Explanation}
use Rattle.bson_run.specs.declared.explain.Explanation.TheVariants as explained

at_none : (path : List ℕ) → length path ≡ 0 → path_message path ≡ []
at_none [] h = refl
at_none (x ∷ xs) h = absurd (omega arith)

at_some : (path : List ℕ) → 0 < length path → path_message path ≡ codes " at " ++ path
at_some [] h = absurd (omega arith)
at_some (x ∷ xs) h = refl

pub placed_bare : (place : Place) (path reason full_message : List ℕ) → path ≡ escaped_message (path_text (path_of place)) → length path ≡ 0
    → full_message ≡ codes " (" ++ reason ++ codes ")"
    → full_message ≡ path_message (escaped_message (path_text (path_of place))) ++ codes " (" ++ reason ++ codes ")"
placed_bare place path reason full_message e none is =
    is ∙ ap (λ p. p ++ codes " (" ++ reason ++ codes ")") (sym (at_none path none) ∙ ap path_message e)

pub placed_at : (place : Place) (path reason full_message : List ℕ) → path ≡ escaped_message (path_text (path_of place)) → 0 < length path
    → full_message ≡ codes " at " ++ path ++ codes " (" ++ reason ++ codes ")"
    → full_message ≡ path_message (escaped_message (path_text (path_of place))) ++ codes " (" ++ reason ++ codes ")"
placed_at place path reason full_message e some is =
    is ∙ ap (λ p. p ++ codes " (" ++ reason ++ codes ")") (sym (at_some path some) ∙ ap path_message e)

-- ---- an explanation

other_where : (v1 : Bool) (text : List ℕ) (fault : Error) → HasNoPosition fault → IsPositionMessage v1 text fault []
other_where v1 text errors.CannotRead h = refl
other_where v1 text errors.NotJson h = absurd h
other_where v1 text (errors.NotExtendedJson place) h = absurd h
other_where v1 text (errors.NoBytes why) h = refl
other_where v1 text (errors.NotCanonical column) h = absurd h
other_where v1 text errors.OutOfMemory h = refl
other_where v1 text errors.CannotWrite h = refl

-- the message of an explanation says where the error is
pub where_from : (v1 : Bool) (text : List ℕ) (fault : Error) (e : Explanation) → IsExplanation v1 text fault e
    → IsPositionMessage v1 text fault (explanation_message text e)
where_from v1 text fault (explained.Syntax stop) h =
    subst (λ (f : Error). IsPositionMessage v1 text f (explanation_message text (explained.Syntax stop))) (sym h.0) (column_at stop.offset text, stop.rule, h.1, refl)
where_from v1 text fault (explained.Value place reason offset) h =
    subst (λ (f : Error). IsPositionMessage v1 text f (explanation_message text (explained.Value place reason offset))) (sym h.0) (
      offset,
      h.1.0,
      h.1.1,
      ap (λ t. path_message (escaped_message (path_text (path_of place.now))) ++ codes " (" ++ t ++ codes ")") h.1.2,
    )
where_from v1 text fault (explained.Difference column) h =
    subst (λ (f : Error). IsPositionMessage v1 text f (column_message column)) (sym h) refl
where_from v1 text fault explained.Other h = other_where v1 text fault h

-- ---- cut and escaped messages

pub added : {E : Type 0} (r : Result (Unit {0}) E) (old new text wanted : List ℕ)
    → new ≡ cond (is_ok r) (old ++ text) old → text ≡ wanted → OnOk r (new ≡ old ++ wanted)
added (Ok x) old new text wanted e is = e ∙ ap (λ t. old ++ t) is
added (Err x) old new text wanted e is = tt

-- the escape of a control character
pub shown_control : (c : ℕ) → c < 256 → (c == 0x2028) ≡ false → (c == 0x2029) ≡ false → is_control c ≡ true
    → codes "\\u00" ++ padded_integral (format_spec 32 0 4 2 (2 ^ 64 - 1)) false [] (digits 16 false c) ≡ escaped_char c
shown_control c small line paragraph control =
    rw (line, paragraph, control) (ap (λ ds. codes "\\u00" ++ ds) (hex_byte false c small))

-- the two hexadecimal digits that a format string writes after a text
pub hole : (d : _) (s : _) (text : List ℕ) (n : ℕ) → digits_output d ≡ Some (radix_digits 16 false n)
    → s ≡ format_spec 32 0 4 2 (2 ^ 64 - 1) → IfSome (Some (codes "\\u00") ++? styled_digits_output d s) (λ bs. text ≡ bs)
    → text ≡ codes "\\u00" ++ padded_integral (format_spec 32 0 4 2 (2 ^ 64 - 1)) false [] (digits 16 false n)
hole d s text n e f h = rw (f, e) at h

-- whether there are more characters than so many
are_more : (r : Option ℕ) (cs : List ℕ) (n : ℕ) → option_map (λ c. c) r ≡ slice_get cs n → is_some r ≡ nat_lt n (length cs)
are_more (Some x) cs n is = sym (lt-ltb n (length cs) (slice_get_within cs n x (sym is)))
are_more None cs n is = elim (slice_get_cases cs n).1 [
  | inl h ↦ absurd cc
  | inr h ↦ sym (le-ltb n (length cs) h.0)
]

pub cut_there : (max_chars : ℕ) (add_diagnostic : ℕ → List ℕ) (full_message said more : List ℕ) (next : Option ℕ)
    → said ≡ flat_map add_diagnostic (take max_chars (chars full_message)) → option_map (λ c. c) next ≡ slice_get (chars full_message) max_chars
    → more ≡ said ++ cond (is_some next) (codes "..") [] → more ≡ truncated max_chars add_diagnostic full_message
cut_there max_chars add_diagnostic full_message said more next e at is =
    is ∙ ap (λ s. s ++ cond (is_some next) (codes "..") []) e
    ∙ ap (λ b. flat_map add_diagnostic (take max_chars (chars full_message)) ++ cond b (codes "..") []) (are_more next (chars full_message) max_chars at)
