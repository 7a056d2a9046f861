-- Keys that may follow others.
use Rattle.std.proofs.Common.{◌≡◌, ℕ, Bool, true, false, cond, List, [], ◌∷◌, Some, None, Ok, Err, refl, subst, ◌∙◌}
use Rattle.std.specs.Str.{bytes_eq}
use Rattle.std.proofs.lemmas.Bool.{false_from_ne_true}
use Rattle.std.proofs.lemmas.Slice.Eq.{bytes_eq-Decides}
use Rattle.bson_model.specs.Value.{Value, Pairs, no_pairs, pair}
use Rattle.bson_bytes.specs.declared.fault.FaultKind.TheVariants.{DuplicateKey}
use Rattle.bson_model.specs.declared.options.DuplicateKeys.{DuplicateKeys}
use Rattle.bson_model.specs.declared.options.DuplicateKeys.TheVariants.{LastWins, Reject}
use Rattle.bson_bytes.specs.Fault.{fault_at}
use Rattle.bson_bytes.specs.Grammar.{IsNewKey, KeysOccurOnce, AreAllowedKeys}
use Rattle.bson_bytes.specs.Reading.{EarlierKeys, no_earlier_keys, add_earlier_key, is_new_key, read_key, read_name}
use Rattle.bson_bytes.proofs.PartLaws.{bind_ok, if_ok, ok_is}

-- the keys of the pairs may follow those
abbrev pub Stand : EarlierKeys → Pairs → Type 0
Stand None ps = Unit {0}
Stand (Some ks) ps = KeysOccurOnce ks ps

-- the key may
abbrev pub Fresh : EarlierKeys → List ℕ → Type 0
Fresh None k = Unit {0}
Fresh (Some ks) k = IsNewKey ks k

pub stand_none : (before : EarlierKeys) → Stand before no_pairs
stand_none None = tt
stand_none (Some ks) = tt

pub stand_more : (before : EarlierKeys) (k : List ℕ) (v : Value) (ps : Pairs) → Fresh before k → Stand (add_earlier_key k before) ps
    → Stand before (pair k v ps)
stand_more None k v ps f h = tt
stand_more (Some ks) k v ps f h = (f, h)

pub stand_first : (before : EarlierKeys) (k : List ℕ) (v : Value) (ps : Pairs) → Stand before (pair k v ps) → Fresh before k
stand_first None k v ps h = tt
stand_first (Some ks) k v ps h = h.0

pub stand_rest : (before : EarlierKeys) (k : List ℕ) (v : Value) (ps : Pairs) → Stand before (pair k v ps)
    → Stand (add_earlier_key k before) ps
stand_rest None k v ps h = tt
stand_rest (Some ks) k v ps h = h.1

pub may_stand : (keys : DuplicateKeys) (ps : Pairs) → Stand (no_earlier_keys keys) ps → AreAllowedKeys keys ps
may_stand LastWins ps h = tt
may_stand Reject ps h = h

pub stand_from : (keys : DuplicateKeys) (ps : Pairs) → AreAllowedKeys keys ps → Stand (no_earlier_keys keys) ps
stand_from LastWins ps h = tt
stand_from Reject ps h = h

-- ---- the test

unequal : (k l : List ℕ) → bytes_eq k l ≡ false → k ≡ l → ⊥
unequal k l e same =
    let t : bytes_eq k l ≡ true = (bytes_eq-Decides k l).1 same in
    absurd cc

neither : (b c : Bool) → cond b false c ≡ true → (b ≡ false) × (c ≡ true)
neither true c e = absurd cc
neither false c e = (refl, e)

pub new_from : (k : List ℕ) (ks : List (List ℕ)) → is_new_key k ks ≡ true → IsNewKey ks k
new_from k [] e = tt
new_from k (l ∷ ks) e =
    let both = neither (bytes_eq k l) (is_new_key k ks) e in
    (unequal k l both.0, new_from k ks both.1)

pub new_again : (k : List ℕ) (ks : List (List ℕ)) → IsNewKey ks k → is_new_key k ks ≡ true
new_again k [] h = refl
new_again k (l ∷ ks) h =
    let apart : bytes_eq k l ≡ false = false_from_ne_true (bytes_eq k l) (λ t. h.0 ((bytes_eq-Decides k l).0 t)) in
    rw apart (new_again k ks h.1)

pub key_takes : (before : EarlierKeys) (bytes s rest : List ℕ) → read_key before bytes ≡ Ok (s, rest)
    → (read_name bytes ≡ Ok (s, rest)) × Fresh before s
key_takes None bytes s rest e = (e, tt)
key_takes (Some ks) bytes s rest e =
    let b = bind_ok (read_name bytes) (λ n. cond (is_new_key n.0 ks) (Ok n) (Err (fault_at DuplicateKey bytes))) (s, rest) e in
    let g = if_ok (is_new_key b.0.0 ks) (Ok b.0) (fault_at DuplicateKey bytes) (s, rest) b.2 in
    let same : b.0 ≡ (s, rest) = ok_is b.0 (s, rest) g.1 in
    (b.1 ∙ g.1, subst (λ (n : List ℕ × List ℕ). IsNewKey ks n.0) same (new_from b.0.0 ks g.0))

pub key_again : (before : EarlierKeys) (bytes s rest : List ℕ) → read_name bytes ≡ Ok (s, rest) → Fresh before s
    → read_key before bytes ≡ Ok (s, rest)
key_again None bytes s rest e f = e
key_again (Some ks) bytes s rest e f = rw (e, new_again s ks f) refl
