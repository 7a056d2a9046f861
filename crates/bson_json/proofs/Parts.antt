-- Numbers and strings alone: what the kit's reader reads is what the grammar has.
use Rattle.std.proofs.Common.{◌≡◌, ℕ, List, [], ◌∷◌, ◌++◌, Some, append-nil, sym, ap, ◌∙◌, subst}
use Rattle.json.specs.Text.{content, plain}
use Rattle.json.specs.Word.{after_number}
use Rattle.bson_json.specs.Grammar.{IsNumber, AreChars}
use Rattle.bson_json.proofs.Numbers.{Passed, is_read, number_passed}
use Rattle.bson_json.proofs.Strings.{content-chars}
use Rattle.bson_json.proofs.Unescaped.{Found, string_found}

pub number_from : (text : List ℕ) → IsNumber text → after_number text ≡ Some []
number_from text h = is_read h

pub number_to : (text : List ℕ) → after_number text ≡ Some [] → IsNumber text
number_to text e = whole (subst (Passed IsNumber text) e (number_passed text))
  where
    whole : Passed IsNumber text (Some []) → IsNumber text
    whole p = subst IsNumber (sym (p.1 ∙ append-nil p.0)) p.2

-- chars, and then a quotation mark
abbrev pub Quoted : List ℕ → List ℕ → Type 0
Quoted after bytes = (text : List ℕ) × (rest : List ℕ) × (after ≡ text ++ 0x22 ∷ rest) × AreChars text bytes

pub string_from : (after bytes : List ℕ) → Quoted after bytes → content plain after ≡ Some bytes
string_from after bytes h = ap (content plain) h.2 ∙ content-chars h.1 h.3

pub string_to : (after bytes : List ℕ) → content plain after ≡ Some bytes → Quoted after bytes
string_to after bytes e = subst (Found AreChars after) e (string_found after)
