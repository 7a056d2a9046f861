-- The UTF-8 of characters that may stay unescaped is the UTF-8 that has only unescaped bytes.
use Rattle.std.proofs.Common.{◌≡◌, ◌≢◌, ℕ, ◌<◌, ◌≤◌, Bool, true, false, cond, ◌&&◌, List, [], ◌∷◌, ◌++◌, inl, inr, ◌⊎◌, refl, sym, ap, ◌∙◌, subst, arith}
use Rattle.std.proofs.Math.Dec.{ltb}
use Rattle.std.proofs.lemmas.Bool.{le-ltb, cases_lt, and_parts, and_from}
use Rattle.std.proofs.lemmas.Str.{encode_ascii}
use Rattle.std.specs.Char.{IsScalar}
use Rattle.std.specs.List.{AllByRecursion}
use Rattle.std.specs.Str.{IsUtf8, encode_utf8_all, all_scalars}
use lib.Utf8.{encode, scalar}
use Rattle.bson_json.specs.Characters.{IsUnescapedCharacter}
use Rattle.bson_json.specs.Grammar.{IsUnescaped}

abbrev Bytes : List ℕ → Type 0
Bytes t = AllByRecursion IsUnescaped t

abbrev Characters : List ℕ → Type 0
Characters cs = AllByRecursion IsUnescapedCharacter cs

joined : (s t : List ℕ) → Bytes s → Bytes t → Bytes (s ++ t)
joined [] t h k = k
joined (x ∷ s) t h k = (h.0, joined s t h.1 k)

first_of_both : (s t : List ℕ) → Bytes (s ++ t) → Bytes s
first_of_both [] t h = tt
first_of_both (x ∷ s) t h = (h.0, first_of_both s t h.1)

last_of_both : (s t : List ℕ) → Bytes (s ++ t) → Bytes t
last_of_both [] t h = h
last_of_both (x ∷ s) t h = last_of_both s t h.1

-- a byte that is not ASCII is unescaped
high : (x : ℕ) → 128 ≤ x → IsUnescaped x
high x h = (omega arith, λ e. omega arith, λ e. omega arith)

by_length : (a b : Bool) (x₂ y₂ x₃ y₃ z₃ x₄ y₄ z₄ w₄ : ℕ) → Bytes (x₂ ∷ y₂ ∷ []) → Bytes (x₃ ∷ y₃ ∷ z₃ ∷ []) → Bytes (x₄ ∷ y₄ ∷ z₄ ∷ w₄ ∷ [])
    → Bytes (cond a (x₂ ∷ y₂ ∷ []) (cond b (x₃ ∷ y₃ ∷ z₃ ∷ []) (x₄ ∷ y₄ ∷ z₄ ∷ w₄ ∷ [])))
by_length true b x₂ y₂ x₃ y₃ z₃ x₄ y₄ z₄ w₄ p q r = p
by_length false true x₂ y₂ x₃ y₃ z₃ x₄ y₄ z₄ w₄ p q r = q
by_length false false x₂ y₂ x₃ y₃ z₃ x₄ y₄ z₄ w₄ p q r = r

high_bytes : (c : ℕ) → 128 ≤ c → Bytes (encode c)
unfolding encode
high_bytes c h =
    rw (le-ltb c 128 h) (by_length (ltb c 2048) (ltb c 65536) _ _ _ _ _ _ _ _ _ (high _ (omega arith), (high _ (omega arith), tt))
    (high _ (omega arith), (high _ (omega arith), (high _ (omega arith), tt)))
    (high _ (omega arith), (high _ (omega arith), (high _ (omega arith), (high _ (omega arith), tt)))))

-- ---- one character

to_byte : (c : ℕ) → IsUnescapedCharacter c → IsUnescaped c
to_byte c (s, inl h) = (omega arith, λ e. omega arith, λ e. omega arith)
to_byte c (s, inr (inl h)) = (omega arith, λ e. omega arith, λ e. omega arith)
to_byte c (s, inr (inr h)) = (omega arith, λ e. omega arith, λ e. omega arith)

to_bytes : (c : ℕ) → IsUnescapedCharacter c → Bytes (encode c)
to_bytes c h = go (cases_lt c 128)
  where
    go : (c < 128) ⊎ (128 ≤ c) → Bytes (encode c)
    go (inl l) = subst Bytes (sym (encode_ascii c l)) (to_byte c h, tt)
    go (inr l) = high_bytes c l

from_byte : (c : ℕ) → scalar c ≡ true → IsUnescaped c → IsUnescapedCharacter c
from_byte c s h = (s, go (cases_lt c 0x22) (cases_lt c 0x5C))
  where
    go : (c < 0x22) ⊎ (0x22 ≤ c) → (c < 0x5C) ⊎ (0x5C ≤ c) → ((0x20 ≤ c) × (c ≤ 0x21)) ⊎ (((0x23 ≤ c) × (c ≤ 0x5B)) ⊎ (0x5D ≤ c))
    go (inl a) b = inl (h.0, omega arith)
    go (inr a) (inl b) = inr (inl (omega (arith, h.1), omega arith))
    go (inr a) (inr b) = inr (inr (omega (arith, h.2)))

from_bytes : (c : ℕ) → scalar c ≡ true → Bytes (encode c) → IsUnescapedCharacter c
from_bytes c s h = go (cases_lt c 128)
  where
    low : Bytes (c ∷ []) → IsUnescapedCharacter c
    low b = from_byte c s b.0

    go : (c < 128) ⊎ (128 ≤ c) → IsUnescapedCharacter c
    go (inl l) = low (subst Bytes (encode_ascii c l) h)
    go (inr l) = (s, inr (inr (omega arith)))

-- ---- all of them

all_from : (cs : List ℕ) → all_scalars cs ≡ true → Bytes (encode_utf8_all cs) → Characters cs
all_from [] s h = tt
all_from (c ∷ cs) s h =
    let p = and_parts (scalar c) (all_scalars cs) s in (
      from_bytes c p.0 (first_of_both (encode c) (encode_utf8_all cs) h),
      all_from cs p.1 (last_of_both (encode c) (encode_utf8_all cs) h),
    )

all_to : (cs : List ℕ) → Characters cs → Bytes (encode_utf8_all cs)
all_to [] h = tt
all_to (c ∷ cs) h = joined (encode c) (encode_utf8_all cs) (to_bytes c h.0) (all_to cs h.1)

all_are_scalars : (cs : List ℕ) → Characters cs → all_scalars cs ≡ true
all_are_scalars [] h = refl
all_are_scalars (c ∷ cs) h = and_from (scalar c) (all_scalars cs) h.0.0 (all_are_scalars cs h.1)

pub characters_from : (t : List ℕ) → IsUtf8 t × Bytes t → (cs : List ℕ) × Characters cs × (encode_utf8_all cs ≡ t)
characters_from t ((cs, u), h) = (cs, all_from cs u.0 (subst Bytes (sym u.1) h), u.1)

pub characters_to : (t : List ℕ) → (cs : List ℕ) × Characters cs × (encode_utf8_all cs ≡ t) → IsUtf8 t × Bytes t
characters_to t h = ((h.0, (all_are_scalars h.0 h.1, h.2)), subst Bytes h.2 (all_to h.0 h.1))
