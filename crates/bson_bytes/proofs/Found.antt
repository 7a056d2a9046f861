-- The last element with a key has the value that the document has at the key.
use Rattle.std.proofs.Common.{◌≡◌, ℕ, Bool, true, false, cond, List, Option, None, Some, refl, sym, ap, ◌∙◌}
use Rattle.std.specs.Str.{bytes_eq}
use Rattle.std.proofs.lemmas.Slice.Eq.{bytes_eq-Decides}
use Rattle.bson_model.specs.Value.{Value, Pairs, no_pairs, pair, value_at_key}
use Rattle.bson_bytes.specs.Grammar.{insert_value, deduplicated_onto, deduplicated}
use Rattle.bson_bytes.specs.ReadElements.{last_value}

put_there : (b : Bool) (v w : Value) (o : Option Value) → cond b (Some v) o ≡ cond b (Some v) (cond b (Some w) o)
put_there true v w o = refl
put_there false v w o = refl

put_after : (b c : Bool) (v w : Value) (o : Option Value) → (b ≡ true → c ≡ true → ⊥)
    → cond c (Some w) (cond b (Some v) o) ≡ cond b (Some v) (cond c (Some w) o)
put_after true true v w o never = absurd (never refl refl)
put_after true false v w o never = refl
put_after false true v w o never = refl
put_after false false v w o never = refl

put_by : (e : Bool) (key k l : List ℕ) (v w : Value) (ps more : Pairs) → bytes_eq k l ≡ e
    → value_at_key key more ≡ cond (bytes_eq key k) (Some v) (value_at_key key ps)
    → value_at_key key (cond e (pair l v ps) (pair l w more)) ≡ cond (bytes_eq key k) (Some v) (value_at_key key (pair l w ps))
put_by true key k l v w ps more e h =
    let same : k ≡ l = (bytes_eq-Decides k l).0 e in rw same (put_there (bytes_eq key l) v w (value_at_key key ps))
put_by false key k l v w ps more e h =
    ap (λ (o : Option Value). cond (bytes_eq key l) (Some w) o) h
    ∙ put_after (bytes_eq key k) (bytes_eq key l) v w (value_at_key key ps)
    (λ a b.
    let same : k ≡ l = sym ((bytes_eq-Decides key k).0 a) ∙ (bytes_eq-Decides key l).0 b in
    let yes : bytes_eq k l ≡ true = (bytes_eq-Decides k l).1 same in
    absurd cc)

put_value : (key k : List ℕ) (v : Value) (ps : Pairs)
    → value_at_key key (insert_value k v ps) ≡ cond (bytes_eq key k) (Some v) (value_at_key key ps)
put_value key k v no_pairs = refl
put_value key k v (pair l w ps) = put_by (bytes_eq k l) key k l v w ps (insert_value k v ps) refl (put_value key k v ps)

settled_value : (key : List ℕ) (ps done : Pairs) → value_at_key key (deduplicated_onto done ps) ≡ last_value key (value_at_key key done) ps
settled_value key no_pairs done = refl
settled_value key (pair k v ps) done =
    settled_value key ps (insert_value k v done) ∙ ap (λ (o : Option Value). last_value key o ps) (put_value key k v done)

pub value_is : (key : List ℕ) (ps : Pairs) → value_at_key key (deduplicated ps) ≡ last_value key None ps
value_is key ps = settled_value key ps no_pairs
