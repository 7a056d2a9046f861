-- Which rule bytes break that are no text.
use Rattle.std.proofs.Common.{◌≡◌, ◌≢◌, ◌+◌, ◌<◌, ◌++◌, ℕ, List, [], ◌∷◌, None, Option, Some, IsUtf8, refl, sym, ap, ◌∙◌}
use Rattle.std.proofs.Common.{inl, inr, arith, append_assoc, option_and_then, option_map, sum_by, subst}
use Rattle.std.proofs.lemmas.List.Sums.{sum_by_push}
use Rattle.json.specs.Json.{Json, if_last, skip_value, value}
use Rattle.json.specs.Lex.{tokens}
use Rattle.json.specs.Token.{Token, bad}
use Rattle.serde_json.specs.Data.{Data}
use Rattle.serde_json.specs.Read.{max_depth, of_json}
use Rattle.bson_run.specs.ErrorMessages.{BreaksRule, IsWellFormedJson, HasTrailingData, IsTextOfTree, IsInvalidTokenRule, IsTokenRule, IsValueSyntaxRule, NestsDeeper}
use Rattle.bson_run.specs.ErrorMessages.{HasInvalidToken}
use Rattle.bson_run.specs.ErrorMessages.{closes, opens}
use Rattle.bson_run.specs.declared.rule.Rule.{Rule}
use Rattle.bson_run.specs.declared.rule.Rule.TheVariants.{UnexpectedEnd, TrailingData}
use Rattle.bson_run.specs.declared.rule.Rule.TheVariants.{Quotes, Separator, ExpectedColonAndValue, Depth}

of_nothing : skip_value max_depth [] ≡ None
unfolding value
of_nothing = refl

-- there is no value at bytes that are not a token
of_none : (bytes : List ℕ) → tokens bytes ≡ [] → skip_value max_depth (tokens bytes) ≡ None
of_none bytes e = ap (λ ts. skip_value max_depth ts) e ∙ of_nothing

has_one : (front : List Token) (t : Token) (rest : List Token) → ¬ (front ++ t ∷ rest ≡ [])
has_one [] t rest e = absurd cc
has_one (x ∷ xs) t rest e = absurd cc

-- ---- a text that has the grammar

all_read : (v : Option (Json × List Token)) (t : Data)
    → option_and_then of_json (option_and_then (λ p. if_last p.0 p.1) v) ≡ Some t → option_map (λ p. p.1) v ≡ Some []
all_read None t e = absurd cc
all_read (Some (j, [])) t e = refl
all_read (Some (j, x ∷ xs)) t e = absurd cc

has_grammar : (bytes : List ℕ) → IsTextOfTree bytes → IsWellFormedJson bytes
has_grammar bytes (t, is) = (is.utf8, all_read (value max_depth (tokens bytes)) t is.tree_read)

-- ---- more input after a value

pub more_behind : (bytes : List ℕ) → HasTrailingData bytes → BreaksRule bytes TrailingData
more_behind bytes m = record {
  utf8 = (λ e. absurd cc, λ n. absurd (n m.0));
  number = (λ e. absurd cc, λ g. let one = g.0.1 in let other = m.1.2 in absurd cc);
  rewritten = (λ e. absurd cc, λ h. let one = (has_grammar bytes h).1 in let other = m.1.2 in absurd cc);
  more = (λ e. m, λ x. refl);
  blank = λ u e. let one = m.1.2 in let none = of_none bytes e in absurd cc;
  depth = λ e. absurd cc;
  no_token = λ h. absurd h;
}

-- ---- those of a text with no value at its beginning

module _ (bytes : List ℕ) (u : IsUtf8 bytes) (none : skip_value max_depth (tokens bytes) ≡ None) where
  of_value : (rule : Rule) → IsValueSyntaxRule rule → (tokens bytes ≡ [] → rule ≡ UnexpectedEnd)
      → (rule ≡ Depth → NestsDeeper (tokens bytes)) → (IsInvalidTokenRule rule → HasInvalidToken (tokens bytes)) → BreaksRule bytes rule
  of_value rule other blank depth no_token = record {
    utf8 = (λ e. absurd (other.0 e), λ n. absurd (n u));
    number = (λ e. absurd (other.1 e), λ g. let one = g.0.1 in absurd cc);
    rewritten = (λ e. absurd (other.3 e), λ h. let one = (has_grammar bytes h).1 in absurd cc);
    more = (λ e. absurd (other.2 e), λ m. let one = m.1.2 in absurd cc);
    blank = λ x e. blank e;
    depth = depth;
    no_token = no_token;
  }

  pub at_end : BreaksRule bytes UnexpectedEnd
  at_end = of_value UnexpectedEnd (λ e. absurd cc, λ e. absurd cc, λ e. absurd cc, λ e. absurd cc) (λ e. refl) (λ e. absurd cc) (λ h. absurd h)

  pub at_bad : (rule : Rule) (front rest : List Token) → tokens bytes ≡ front ++ bad ∷ rest
      → IsValueSyntaxRule rule × (rule ≢ Depth) → BreaksRule bytes rule
  at_bad rule front rest e h =
      of_value rule h.0 (λ n. absurd (has_one front bad rest (sym e ∙ n))) (λ d. absurd (h.1 d)) (λ x. (front, rest, e))

  deeper : (depth : ℕ) (t : Token) (front rest : List Token) → tokens bytes ≡ front ++ t ∷ rest
      → depth + sum_by closes front ≡ sum_by opens front → closes t ≡ 0 → max_depth < depth + opens t
      → NestsDeeper (tokens bytes)
  deeper depth t front rest e count shut deep = (
    front ++ t ∷ [],
    rest,
    e ∙ sym (append_assoc front (t ∷ []) rest),
    omega (arith, count, shut, deep, sum_by_push closes front t, sum_by_push opens front t),
  )

  pub at_token : (rule : Rule) (depth : ℕ) (t : Token) (front rest : List Token) → tokens bytes ≡ front ++ t ∷ rest
      → depth + sum_by closes front ≡ sum_by opens front → IsTokenRule depth t rule → BreaksRule bytes rule
  at_token rule depth t front rest e count (inl is) = subst (λ r. BreaksRule bytes r) (sym is)
      (of_value Quotes (λ f. absurd cc, λ f. absurd cc, λ f. absurd cc, λ f. absurd cc) (λ n. absurd (has_one front t rest (sym e ∙ n))) (λ f. absurd cc) (λ h. absurd h))
  at_token rule depth t front rest e count (inr (inl is)) = subst (λ r. BreaksRule bytes r) (sym is)
      (of_value Separator (λ f. absurd cc, λ f. absurd cc, λ f. absurd cc, λ f. absurd cc) (λ n. absurd (has_one front t rest (sym e ∙ n))) (λ f. absurd cc) (λ h. absurd h))
  at_token rule depth t front rest e count (inr (inr (inl is))) = subst (λ r. BreaksRule bytes r) (sym is)
      (of_value ExpectedColonAndValue (λ f. absurd cc, λ f. absurd cc, λ f. absurd cc, λ f. absurd cc) (λ n. absurd (has_one front t rest (sym e ∙ n))) (λ f. absurd cc) (λ h. absurd h))
  at_token rule depth t front rest e count (inr (inr (inr h))) = subst (λ r. BreaksRule bytes r) (sym h.0)
      (of_value Depth (λ f. absurd cc, λ f. absurd cc, λ f. absurd cc, λ f. absurd cc) (λ n. absurd (has_one front t rest (sym e ∙ n)))
      (λ f. deeper depth t front rest e count h.1 h.2) (λ x. absurd x))
