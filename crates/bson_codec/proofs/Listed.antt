-- Values and pairs that are read one after another.
use Rattle.std.proofs.Common.{◌≡◌, ℕ, Bool, true, false, cond, List, [], ◌∷◌, ◌++◌, Result, refl, sym, ap}
use Rattle.std.proofs.Common.{◌∙◌, subst, string_bytes}
use Rattle.std.specs.Str.{bytes_eq}
use Rattle.bson_store.specs.declared.small.Pair.{Pair}
use Rattle.bson_model.specs.Value.{Value, Values, no_values, value, Pairs, no_pairs, pair}
use Rattle.bson_bytes.specs.Grammar.{pair_values, insert_value, deduplicated_onto, deduplicated}
use Rattle.bson_bytes.specs.Reading.{read_key, read_name}
use Rattle.bson_model.specs.declared.options.DuplicateKeys.{DuplicateKeys}
use Rattle.bson_model.specs.declared.options.DuplicateKeys.TheVariants.{LastWins, Reject}
use Rattle.bson.specs.Pairs.{insert_pair}
use Rattle.bson.specs.InsertedPairs.{insert_entries}
use Rattle.bson.specs.View.{bson_view, document_view, values_view, pairs_view, contents}
use Rattle.bson.specs.declared.bson.Bson.{Bson}
use Rattle.bson.specs.declared.document.Document.{Document}
use Rattle.bson_bytes.specs.Source.{ReadsTo, earlier_keys, with_last_pair}
use Rattle.bson_bytes.specs.declared.stop.Stop.{Stop}
use Rattle.bson_codec.proofs.Seen.{document_view-pairs}
use Rattle.bson_codec.specs.ReadToMemory.{DocumentOrArray, entries_view}

-- ---- a document of entries

put_view_by : (b : Bool) (k : List ℕ) (v : Bson) (p : List ℕ × Bson) (ps more : List (List ℕ × Bson)) (rest : Pairs) → pairs_view more ≡ rest
    → pairs_view (cond b ((p.0, v) ∷ ps) (p ∷ more)) ≡ cond b (pair p.0 (bson_view v) (pairs_view ps)) (pair p.0 (bson_view p.1) rest)
put_view_by true k v p ps more rest e = refl
put_view_by false k v p ps more rest e = ap (λ (q : Pairs). pair p.0 (bson_view p.1) q) e

pub pairs_view-put : (k : List ℕ) (v : Bson) (ps : List (List ℕ × Bson)) → pairs_view (insert_pair k v ps) ≡ insert_value k (bson_view v) (pairs_view ps)
pairs_view-put k v [] = refl
pairs_view-put k v (p ∷ ps) = put_view_by (bytes_eq k p.0) k v p ps (insert_pair k v ps) (insert_value k (bson_view v) (pairs_view ps)) (pairs_view-put k v ps)

view-insert_entries : (es : List (Pair Bson)) (ps : List (List ℕ × Bson))
    → pairs_view (insert_entries es ps) ≡ deduplicated_onto (pairs_view ps) (entries_view es)
view-insert_entries [] ps = refl
view-insert_entries (e ∷ es) ps =
    view-insert_entries es (insert_pair (string_bytes e.key) e.value ps)
    ∙ ap (λ (q : Pairs). deduplicated_onto q (entries_view es)) (pairs_view-put (string_bytes e.key) e.value ps)

pub document_is : (d : Document) (es : List (Pair Bson)) (ps : Pairs) → contents d ≡ insert_entries es []
    → entries_view es ≡ ps → document_view d ≡ deduplicated ps
document_is d es ps h made = document_view-pairs d ∙ ap pairs_view h ∙ view-insert_entries es [] ∙ ap deduplicated made

-- ---- one more

entries_last : (es : List (Pair Bson)) (e : Pair Bson)
    → entries_view (es ++ e ∷ []) ≡ with_last_pair (entries_view es) (string_bytes e.key) (bson_view e.value)
entries_last [] e = refl
entries_last (x ∷ es) e = ap (pair (string_bytes x.key) (bson_view x.value)) (entries_last es e)

pub entries_more : (es : List (Pair Bson)) (e : Pair Bson) (ps : Pairs) → entries_view es ≡ ps
    → entries_view (es ++ e ∷ []) ≡ with_last_pair ps (string_bytes e.key) (bson_view e.value)
entries_more es e ps is = entries_last es e ∙ ap (λ (q : Pairs). with_last_pair q (string_bytes e.key) (bson_view e.value)) is

abbrev value_last : Values → Value → Values
value_last no_values v = value v no_values
value_last (value w vs) v = value w (value_last vs v)

values_last : (xs : List Bson) (x : Bson) → values_view (xs ++ x ∷ []) ≡ value_last (values_view xs) (bson_view x)
values_last [] x = refl
values_last (y ∷ xs) x = ap (value (bson_view y)) (values_last xs x)

items_last : (ps : Pairs) (k : List ℕ) (v : Value) → pair_values (with_last_pair ps k v) ≡ value_last (pair_values ps) v
items_last no_pairs k v = refl
items_last (pair l w ps) k v = ap (value w) (items_last ps k v)

pub items_more : (xs : List Bson) (x : Bson) (ps : Pairs) (k : List ℕ) → values_view xs ≡ pair_values ps
    → values_view (xs ++ x ∷ []) ≡ pair_values (with_last_pair ps k (bson_view x))
items_more xs x ps k is =
    values_last xs x ∙ ap (λ (q : Values). value_last q (bson_view x)) is ∙ sym (items_last ps k (bson_view x))

-- ---- a document or an array

pub of_document : (b : Bool) (D A : Type 0) → b ≡ true → DocumentOrArray b D A → D
of_document true D A t h = h
of_document false D A t h = absurd cc

pub either_kind : (b : Bool) (D A : Type 0) → D → A → DocumentOrArray b D A
either_kind true D A d a = d
either_kind false D A d a = a

pub pair_put : {P : Type 0} (Holds : Pairs → P → Type 0) (b : Bool) (A B : Type 0) (old new : P) (key : List ℕ) (x : Value)
    (ps : Pairs) (k : List ℕ) (v : Value) → b ≡ true → (Holds ps old → Holds (with_last_pair ps key x) new)
    → DocumentOrArray b (Holds ps old) A → DocumentOrArray b (key ≡ k) (Unit {0}) → x ≡ v → DocumentOrArray b (Holds (with_last_pair ps k v) new) B
pair_put Holds true A B old new key x ps k v t put list name is =
    subst (λ q. Holds (with_last_pair ps q v) new) name (subst (λ w. Holds (with_last_pair ps key w) new) is (put list))
pair_put Holds false A B old new key x ps k v t put list name is = absurd cc

pub item_put : (b : Bool) (D E : Type 0) (old new : List Bson) (x : Bson) (ps : Pairs) (k : List ℕ) (v : Value) → b ≡ false
    → (values_view old ≡ pair_values ps → values_view new ≡ pair_values (with_last_pair ps k (bson_view x)))
    → DocumentOrArray b D (values_view old ≡ pair_values ps) → bson_view x ≡ v → DocumentOrArray b E (values_view new ≡ pair_values (with_last_pair ps k v))
item_put true D E old new x ps k v t put list is = absurd cc
item_put false D E old new x ps k v t put list is = put list ∙ ap (λ w. pair_values (with_last_pair ps k w)) is

-- ---- names

pub named_key : {X : Type 0} (May : Stop → Type 0) (rest name : X → List ℕ) (b : Bool) (keys : DuplicateKeys) (ps : Pairs)
    (bytes : List ℕ) (r : Result X Stop) → b ≡ true
    → ReadsTo May rest (λ s x. name x ≡ s) r (read_key (earlier_keys keys true ps) bytes)
    → ReadsTo May rest (λ s x. DocumentOrArray b (name x ≡ s) (Unit {0})) r (read_key (earlier_keys keys b ps) bytes)
named_key May rest name true keys ps bytes r t h = h
named_key May rest name false keys ps bytes r t h = absurd cc

pub named_free : {X : Type 0} (May : Stop → Type 0) (rest name : X → List ℕ) (b : Bool) (keys : DuplicateKeys) (ps : Pairs)
    (bytes : List ℕ) (r : Result X Stop) → b ≡ false → ReadsTo May rest (λ s x. Unit {0}) r (read_name bytes)
    → ReadsTo May rest (λ s x. DocumentOrArray b (name x ≡ s) (Unit {0})) r (read_key (earlier_keys keys b ps) bytes)
named_free May rest name true keys ps bytes r t h = absurd cc
named_free May rest name false LastWins ps bytes r t h = h
named_free May rest name false Reject ps bytes r t h = h
