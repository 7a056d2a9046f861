-- What the types of a document say of it: its texts are UTF-8, and no key occurs twice.
use Rattle.std.proofs.Common.{◌≡◌, ℕ, ◌+◌, ◌<◌, true, false, List, [], ◌∷◌, ◌++◌, length, get_or, drop, String, string_bytes}
use Rattle.std.proofs.Common.{Result, Ok, Err, OnOk, refl, sym, ap, subst, ◌∙◌, append_assoc, rules}
use Rattle.std.specs.declared.alloc.Global.{Global}
use Rattle.std.specs.Cmp.Lexicographic.{nat_list_eq_equiv}
use Rattle.std.specs.List.{IsDistinct, AllByRecursion}
use Rattle.std.specs.Str.{bytes_eq, is_utf8}
use Rattle.std.proofs.lemmas.List.{append-nil}
use Rattle.bson.specs.Pairs.{keys, HasDistinctKeys}
use Rattle.bson_types.specs.declared.regex.Regex.{Regex}
use Rattle.bson.specs.Scalar.{text, code, symbol, regex}
use Rattle.bson_model.specs.Value.{Pairs, pair, scalar, code_scope}
use Rattle.bson_bytes.proofs.Offered.{string_utf8}
use Rattle.bson_bytes.specs.Grammar.{insert_value, deduplicated_onto, deduplicated}
use Rattle.bson_bytes.specs.Writing.{IsWellTyped, AreWellTyped, PairsAreWellTyped, IsWellTypedDocument}
use Rattle.bson.specs.View.{bson_view, code_with_scope_view, document_view, values_view, pairs_view, contents}
use Rattle.bson.specs.declared.bson.Bson.{Bson, the_lemmas as of_values}
use Rattle.bson.specs.declared.bson.JavaScriptCodeWithScope.{JavaScriptCodeWithScope, the_lemmas as of_scopes}
use Rattle.bson.specs.declared.bson.Bson.TheVariants as kinds
use Rattle.bson.specs.declared.document.Document.{Document}
use Rattle.bson_codec.proofs.ElementLaws.{item_here}
use Rattle.bson_codec.proofs.Seen.{document_view-pairs}

-- ---- no key occurs twice

-- none of the pairs has the key
abbrev Lacks : List ℕ → List (List ℕ × Bson) → Type 0
Lacks k done = AllByRecursion (λ l. bytes_eq k l ≡ false) (keys done)

abbrev LackAll : List (List ℕ × Bson) → List (List ℕ × Bson) → Type 0
LackAll done ps = AllByRecursion (λ k. Lacks k done) (keys ps)

put_last : (k : List ℕ) (v : Bson) (done : List (List ℕ × Bson)) → Lacks k done
    → insert_value k (bson_view v) (pairs_view done) ≡ pairs_view (done ++ (k, v) ∷ [])
put_last k v [] h = refl
put_last k v (p ∷ ps) h =
    rw h.0 (ap (λ (q : Pairs). pair p.0 (bson_view p.1) q) (put_last k v ps h.1))

lacks_one_more : (k : List ℕ) (done : List (List ℕ × Bson)) (p : List ℕ × Bson) → Lacks k done
    → bytes_eq k p.0 ≡ false → Lacks k (done ++ p ∷ [])
lacks_one_more k [] p h e = (e, tt)
lacks_one_more k (q ∷ done) p h e = (h.0, lacks_one_more k done p h.1 e)

lack_one_more : (done : List (List ℕ × Bson)) (p : List ℕ × Bson) (ps : List (List ℕ × Bson)) → LackAll done ps
    → AllByRecursion (λ l. bytes_eq p.0 l ≡ false) (keys ps) → LackAll (done ++ p ∷ []) ps
lack_one_more done p [] h d = tt
lack_one_more done p (q ∷ ps) h d =
    (lacks_one_more q.0 done p h.0 (nat_list_eq_equiv.symm q.0 p.0 ∙ d.0), lack_one_more done p ps h.1 d.1)

settle_distinct : (done ps : List (List ℕ × Bson)) → LackAll done ps → HasDistinctKeys ps
    → deduplicated_onto (pairs_view done) (pairs_view ps) ≡ pairs_view (done ++ ps)
unfolding IsDistinct
settle_distinct done [] h d = ap pairs_view (sym (append-nil done))
settle_distinct done (p ∷ ps) h d =
    ap (λ (q : Pairs). deduplicated_onto q (pairs_view ps)) (put_last p.0 p.1 done h.0)
    ∙ settle_distinct (done ++ p ∷ []) ps (lack_one_more done p ps h.1 d.0) d.1
    ∙ ap pairs_view (append_assoc done (p ∷ []) ps)

lack_none : (ps : List (List ℕ × Bson)) → LackAll [] ps
lack_none [] = tt
lack_none (p ∷ ps) = (tt, lack_none ps)

distinct_once : (d : Document) → HasDistinctKeys (contents d) → deduplicated (document_view d) ≡ document_view d
distinct_once d h =
    ap deduplicated (document_view-pairs d) ∙ settle_distinct [] (contents d) (lack_none (contents d)) h
    ∙ sym (document_view-pairs d)

-- ---- what is left of a loop

-- where what is left is typed, so are the pairs
pub pairs_typed : (left rest all : List (List ℕ × Bson)) (k : List ℕ) (v : Bson) → left ≡ (k, v) ∷ rest
    → (PairsAreWellTyped (pairs_view left) → PairsAreWellTyped (pairs_view all)) → is_utf8 k ≡ true → IsWellTyped (bson_view v)
    → PairsAreWellTyped (pairs_view rest) → PairsAreWellTyped (pairs_view all)
pairs_typed left rest all k v is inv utf8 typed h =
    inv (subst (λ (ps : List (List ℕ × Bson)). PairsAreWellTyped (pairs_view ps)) (sym is) (utf8, typed, h))

pub document_typed : (d : Document) (left : List (List ℕ × Bson)) → left ≡ []
    → (PairsAreWellTyped (pairs_view left) → PairsAreWellTyped (pairs_view (contents d))) → HasDistinctKeys (contents d)
    → IsWellTypedDocument (document_view d)
document_typed d left none inv distinct = (
  subst PairsAreWellTyped (sym (document_view-pairs d))
      (inv (subst (λ (ps : List (List ℕ × Bson)). PairsAreWellTyped (pairs_view ps)) (sym none) tt)),
  distinct_once d distinct,
)

pub items_typed : (items : List Bson) (i : ℕ) (v : Bson) → i < length items → v ≡ get_or items i v
    → (AreWellTyped (values_view (drop i items)) → AreWellTyped (values_view items)) → IsWellTyped (bson_view v)
    → AreWellTyped (values_view (drop (i + 1) items)) → AreWellTyped (values_view items)
items_typed items i v lt is inv typed h = inv (subst AreWellTyped (sym (item_here items i v lt is)) (typed, h))

-- ---- the clause after the last part was appended

pub on_ok : {X E T : Type 0} (r : Result X E) → T → OnOk r T
on_ok (Ok x) t = t
on_ok (Err e) t = tt

string_seen : (s : String Global) → bson_view (kinds.String s) ≡ scalar (text (string_bytes s))
string_seen s = search (rules, of_values)

code_seen : (s : String Global) → bson_view (kinds.JavaScriptCode s) ≡ scalar (code (string_bytes s))
code_seen s = search (rules, of_values)

symbol_seen : (s : String Global) → bson_view (kinds.Symbol s) ≡ scalar (symbol (string_bytes s))
symbol_seen s = search (rules, of_values)

regex_seen : (r : Regex)
    → bson_view (kinds.RegularExpression r) ≡ scalar (regex (string_bytes r.pattern) (string_bytes r.options))
regex_seen r = search (rules, of_values)

scope_seen : (s : JavaScriptCodeWithScope) → code_with_scope_view s ≡ code_scope (string_bytes s.code) (document_view s.scope)
scope_seen s = search (rules, of_scopes)

pub string_typed : (v : Bson) (s : String Global) → v ≡ kinds.String s → IsWellTyped (bson_view v)
string_typed v s e = subst IsWellTyped (sym (ap bson_view e ∙ string_seen s)) (string_utf8 s)

pub code_typed : (v : Bson) (s : String Global) → v ≡ kinds.JavaScriptCode s → IsWellTyped (bson_view v)
code_typed v s e = subst IsWellTyped (sym (ap bson_view e ∙ code_seen s)) (string_utf8 s)

pub symbol_typed : (v : Bson) (s : String Global) → v ≡ kinds.Symbol s → IsWellTyped (bson_view v)
symbol_typed v s e = subst IsWellTyped (sym (ap bson_view e ∙ symbol_seen s)) (string_utf8 s)

pub regex_typed : (v : Bson) (r : Regex) → v ≡ kinds.RegularExpression r → IsWellTyped (bson_view v)
regex_typed v r e =
    subst IsWellTyped (sym (ap bson_view e ∙ regex_seen r)) (string_utf8 r.pattern, string_utf8 r.options)

pub scope_typed : (s : JavaScriptCodeWithScope) → IsWellTypedDocument (document_view s.scope) → IsWellTyped (code_with_scope_view s)
scope_typed s t = subst IsWellTyped (sym (scope_seen s)) (string_utf8 s.code, t.0, t.1)
