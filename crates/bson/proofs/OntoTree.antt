-- What was written so far, with what is still to be written.
use Rattle.std.proofs.Common.{◌≡◌, ℕ, true, false, List, [], ◌∷◌, ◌++◌, Result, Ok, Err, refl, sym, ap, ◌∙◌}
use Rattle.std.specs.List.{IsDistinct, AllByRecursion}
use Rattle.std.specs.Str.{bytes_eq}
use Rattle.std.proofs.lemmas.Slice.Eq.{bytes_eq-Decides}
use Rattle.serde_json.specs.Data.{Data, Items, no_items, item, Members, no_members, put}
use Rattle.serde_json.specs.View.{items_of}
use Rattle.bson_store.specs.Pairs.{keys, HasDistinctKeys}
use Rattle.bson_model.specs.Value.{Value, Values, value}
use Rattle.bson_scalar.specs.declared.form.Doubles.{Doubles}
use Rattle.bson_scalar.specs.declared.form.Form.{Form}
use Rattle.bson_scalar.specs.Written.{WriteFault, finite, ◌>>=◌, IsWriteFailureOf}
use Rattle.bson_model.specs.Writing.{writes_value_in, writes_items_in, writes_pairs_in}
use Rattle.bson_scalar.specs.declared.write_error.WriteError.{WriteError}
use Rattle.bson_scalar.specs.declared.write_error.WriteError.TheVariants.{FiniteDouble, OutOfMemory}
use Rattle.bson_model.proofs.Offered.{put_members_swap}
use Rattle.bson.specs.View.{bson_view, pairs_view}
use Rattle.bson.proofs.Seen.{Entry}

-- ---- a list, from its front

abbrev pub onto_items : List Data → Result Items WriteFault → Result Items WriteFault
onto_items [] r = r
onto_items (x ∷ xs) r = onto_items xs r >>= λ ds. Ok (item x ds)

onto_items-snoc : (xs : List Data) (x : Data) (r : Result Items WriteFault)
    → onto_items (xs ++ x ∷ []) r ≡ onto_items xs (r >>= λ ds. Ok (item x ds))
onto_items-snoc [] x r = refl
onto_items-snoc (y ∷ xs) x r = ap (λ q. q >>= λ ds. Ok (item y ds)) (onto_items-snoc xs x r)

onto_items-err : (xs : List Data) → onto_items xs (Err finite) ≡ Err finite
onto_items-err [] = refl
onto_items-err (y ∷ xs) = ap (λ q. q >>= λ ds. Ok (item y ds)) (onto_items-err xs)

pub onto_items-ok : (xs : List Data) → onto_items xs (Ok no_items) ≡ Ok (items_of xs)
onto_items-ok [] = refl
onto_items-ok (y ∷ xs) = ap (λ q. q >>= λ ds. Ok (item y ds)) (onto_items-ok xs)

pub items_stop : (D : Doubles) (f : Form) (e : WriteError) (xs : List Data) (v : Value) (vs : Values)
    (total : Result Items WriteFault)
    → IsWriteFailureOf e (writes_value_in D f v) → onto_items xs (writes_items_in D f (value v vs)) ≡ total → IsWriteFailureOf e total
items_stop D f OutOfMemory xs v vs total h is = tt
items_stop D f FiniteDouble xs v vs total h is = sym is
    ∙ ap (λ r. onto_items xs (r >>= λ d. writes_items_in D f vs >>= λ ds. Ok (item d ds))) h ∙ onto_items-err xs

pub items_step : (D : Doubles) (f : Form) (xs : List Data) (v : Value) (d : Data) (vs : Values)
    (total : Result Items WriteFault)
    → writes_value_in D f v ≡ Ok d → onto_items xs (writes_items_in D f (value v vs)) ≡ total
    → onto_items (xs ++ d ∷ []) (writes_items_in D f vs) ≡ total
items_step D f xs v d vs total h is = onto_items-snoc xs d (writes_items_in D f vs)
    ∙ ap (λ r. onto_items xs (r >>= λ c. writes_items_in D f vs >>= λ ds. Ok (item c ds))) (sym h) ∙ is

-- ---- a document, in its order

-- the members, with those of the pairs that are still to be written
abbrev pub onto_members : Doubles → Form → List Entry → Members → Result Members WriteFault
onto_members D f [] ms = Ok ms
onto_members D f (x ∷ xs) ms = writes_value_in D f (bson_view x.1) >>= λ d. onto_members D f xs (put x.0 d ms)

pub bind_same : {A B : Type 0} (r : Result A WriteFault) (f g : A → Result B WriteFault) → ((x : A) → f x ≡ g x)
    → (r >>= f) ≡ (r >>= g)
bind_same (Ok x) f g h = h x
bind_same (Err e) f g h = refl

bind_out : {A B C : Type 0} (r : Result A WriteFault) (f : A → Result B WriteFault) (g : B → Result C WriteFault)
    → ((r >>= f) >>= g) ≡ (r >>= λ x. f x >>= g)
bind_out (Ok x) f g = refl
bind_out (Err e) f g = refl

apart : (k l : List ℕ) → bytes_eq k l ≡ false → l ≡ k → ⊥
apart k l h e = let t : bytes_eq k l ≡ true = (bytes_eq-Decides k l).1 (sym e) in cc

-- a member whose key none of the pairs has may be inserted last
put_last : (D : Doubles) (f : Form) (xs : List Entry) (k : List ℕ) (d : Data) (ms : Members)
    → AllByRecursion (λ y. bytes_eq k y ≡ false) (keys xs)
    → onto_members D f xs (put k d ms) ≡ (onto_members D f xs ms >>= λ ns. Ok (put k d ns))
put_last D f [] k d ms h = refl
put_last D f (x ∷ xs) k d ms h =
    bind_same (writes_value_in D f (bson_view x.1)) _ _
    (λ e. ap (onto_members D f xs) (put_members_swap x.0 k e d ms (apart k x.0 h.0))
    ∙ put_last D f xs k d (put x.0 e ms) h.1)
    ∙ sym (bind_out (writes_value_in D f (bson_view x.1)) (λ e. onto_members D f xs (put x.0 e ms)) (λ ns. Ok (put k d ns)))

pub onto_members-start : (D : Doubles) (f : Form) (xs : List Entry) → HasDistinctKeys xs
    → onto_members D f xs no_members ≡ writes_pairs_in D f (pairs_view xs)
unfolding IsDistinct
onto_members-start D f [] h = refl
onto_members-start D f (x ∷ xs) h =
    bind_same (writes_value_in D f (bson_view x.1)) _ _
    (λ d. put_last D f xs x.0 d no_members h.0
    ∙ ap (λ r. r >>= λ ns. Ok (put x.0 d ns)) (onto_members-start D f xs h.1))

pub members_stop : (D : Doubles) (f : Form) (e : WriteError) (xs : List Entry) (x : Entry) (ms : Members)
    (total : Result Members WriteFault)
    → IsWriteFailureOf e (writes_value_in D f (bson_view x.1)) → onto_members D f (x ∷ xs) ms ≡ total → IsWriteFailureOf e total
members_stop D f OutOfMemory xs x ms total h is = tt
members_stop D f FiniteDouble xs x ms total h is = sym is ∙ ap (λ r. r >>= λ d. onto_members D f xs (put x.0 d ms)) h

pub members_step : (D : Doubles) (f : Form) (xs : List Entry) (x : Entry) (d : Data) (ms : Members)
    (total : Result Members WriteFault)
    → writes_value_in D f (bson_view x.1) ≡ Ok d → onto_members D f (x ∷ xs) ms ≡ total
    → onto_members D f xs (put x.0 d ms) ≡ total
members_step D f xs x d ms total h is = ap (λ r. r >>= λ c. onto_members D f xs (put x.0 c ms)) (sym h) ∙ is
