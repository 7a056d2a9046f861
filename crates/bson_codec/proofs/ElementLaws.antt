-- Elements one after the other, as a loop writes them.
use Rattle.std.proofs.Common.{◌≡◌, ℕ, ◌+◌, ◌<◌, ◌≤◌, ◌++◌, [], ◌∷◌, List, length, get_or, drop, Ok, refl, sym}
use Rattle.std.proofs.Common.{ap, subst, ◌∙◌}
use Rattle.std.specs.Prelude.{decimal}
use Rattle.std.proofs.lemmas.List.{drop_all, drop_more}
use Rattle.bson_types.specs.declared.spec.ElementType.{ElementType}
use Rattle.bson_model.specs.Value.{Value, Values, no_values, value, Pairs, no_pairs, pair, scalar, code_scope, array}
use Rattle.bson_model.specs.Value.{document}
use Rattle.bson_bytes.proofs.Offered.{told_err, document_fits}
use Rattle.bson_bytes.specs.PutSteps.{PutResult, then, put_name, put_value, put_array_elements, put_elements, put_length_placeholder, put_nul_and_length}
use Rattle.bson_bytes.specs.PutSteps.{put_document, StopsFor}
use Rattle.bson_bytes.specs.Writing.{type_of, name_bytes, FitsDocument, nul_in_key, nul_in_regex, too_long}
use Rattle.bson_codec.proofs.Seen.{document_view-pairs}
use Rattle.bson.specs.ElementType.{value_type}
use Rattle.bson.specs.View.{bson_view, document_view, values_view, pairs_view, contents}
use Rattle.bson.specs.declared.bson.Bson.{Bson}
use Rattle.bson.specs.declared.document.Document.{Document}
use Rattle.bson_codec.specs.WriteErrors.{IsWriteErrorFor}
use Rattle.bson_bytes.specs.declared.error.Error.{Error}
use Rattle.bson_bytes.specs.declared.error.Error.TheVariants as errors

pub same_type : (v : Value) → value_type v ≡ type_of v
same_type (scalar x) = refl
same_type (code_scope s ps) = refl
same_type (array vs) = refl
same_type (document ps) = refl

-- ---- what stops a part stops the whole

pub stops_then : (e : Error) (r : PutResult) (f : List ℕ → PutResult) → StopsFor e r → StopsFor e (then r f)
stops_then errors.OutOfMemory r f h = tt
stops_then errors.Key r f h = rw h refl
stops_then errors.Regex r f h = rw h refl
stops_then errors.Size r f h = rw h refl

pub stops_as : (e : Error) (r q : PutResult) → r ≡ q → StopsFor e r → StopsFor e q
stops_as e r q s h = subst (λ (x : PutResult). StopsFor e x) s h

-- ---- pairs

pub bad_key : (e : Error) (k : List ℕ) (v : Value) (ps : Pairs) (out : List ℕ) (total : PutResult)
    → put_elements (pair k v ps) out ≡ total → StopsFor e (put_name (type_of v) k out) → StopsFor e total
unfolding put_elements
bad_key e k v ps out total is h =
    stops_as e _ total is (stops_then e (put_name (type_of v) k out) (λ a. then (put_value v a) (λ b. put_elements ps b)) h)

pub bad_value : (e : Error) (k : List ℕ) (v : Value) (ps : Pairs) (out a : List ℕ) (total : PutResult)
    → put_elements (pair k v ps) out ≡ total → put_name (type_of v) k out ≡ Ok a → StopsFor e (put_value v a)
    → StopsFor e total
unfolding put_elements
bad_value e k v ps out a total is name h =
    let step = ap (λ (r : PutResult). then r (λ b. then (put_value v b) (λ c. put_elements ps c))) name in
    stops_as e _ total (sym step ∙ is) (stops_then e (put_value v a) (λ b. put_elements ps b) h)

pub next_pair : (k : List ℕ) (v : Value) (ps : Pairs) (out a b : List ℕ) (total : PutResult)
    → put_elements (pair k v ps) out ≡ total → put_name (type_of v) k out ≡ Ok a → put_value v a ≡ Ok b
    → put_elements ps b ≡ total
unfolding put_elements
next_pair k v ps out a b total is name put =
    let step = ap (λ (r : PutResult). then r (λ b. then (put_value v b) (λ c. put_elements ps c))) name in
    let then_value = ap (λ (r : PutResult). then r (λ c. put_elements ps c)) put in
    sym then_value ∙ sym step ∙ is

pub last_pair : (out : List ℕ) (total : PutResult) → put_elements no_pairs out ≡ total → total ≡ Ok out
unfolding put_elements
last_pair out total is = sym is

-- ---- items

pub bad_item : (e : Error) (n : ℕ) (v : Value) (vs : Values) (out : List ℕ) (total : PutResult)
    → put_array_elements n (value v vs) out ≡ total → StopsFor e (put_value v (out ++ name_bytes (type_of v) (decimal n)))
    → StopsFor e total
unfolding put_array_elements
bad_item e n v vs out total is h =
    stops_as e _ total is (stops_then e (put_value v (out ++ name_bytes (type_of v) (decimal n))) (λ b. put_array_elements (n + 1) vs b) h)

pub next_item : (n : ℕ) (v : Value) (vs : Values) (out b : List ℕ) (total : PutResult)
    → put_array_elements n (value v vs) out ≡ total → put_value v (out ++ name_bytes (type_of v) (decimal n)) ≡ Ok b
    → put_array_elements (n + 1) vs b ≡ total
unfolding put_array_elements
next_item n v vs out b total is put = sym (ap (λ (r : PutResult). then r (λ c. put_array_elements (n + 1) vs c)) put) ∙ is

pub last_item : (n : ℕ) (out : List ℕ) (total : PutResult) → put_array_elements n no_values out ≡ total → total ≡ Ok out
unfolding put_array_elements
last_item n out total is = sym is

-- the values from a place on begin with the one that is there
pub item_here : (vs : List Bson) (i : ℕ) (v : Bson) → i < length vs → v ≡ get_or vs i v
    → values_view (drop i vs) ≡ value (bson_view v) (values_view (drop (i + 1) vs))
item_here vs i v lt is =
    ap values_view (drop_more vs i v lt)
    ∙ ap (λ (w : Bson). value (bson_view w) (values_view (drop (i + 1) vs))) (sym is)

-- ---- an array

array_stops : (e : Error) (vs : Values) (old : List ℕ) → StopsFor e (put_array_elements 0 vs (put_length_placeholder old))
    → StopsFor e (put_value (array vs) old)
unfolding put_value
array_stops e vs old h = stops_then e (put_array_elements 0 vs (put_length_placeholder old)) (put_nul_and_length (length old)) h

array_is : (vs : Values) (old out : List ℕ) → put_array_elements 0 vs (put_length_placeholder old) ≡ Ok out
    → put_value (array vs) old ≡ put_nul_and_length (length old) out
unfolding put_value
array_is vs old out h = ap (λ (r : PutResult). then r (put_nul_and_length (length old))) h

items_whole : (items all : List Bson) (old start : List ℕ) → items ≡ all → start ≡ put_length_placeholder old
    → put_array_elements 0 (values_view items) start ≡ put_array_elements 0 (values_view all) (put_length_placeholder old)
items_whole items all old start same room =
    ap (λ (xs : List Bson). put_array_elements 0 (values_view xs) start) same ∙ ap (put_array_elements 0 (values_view all)) room

pub array_bad : (e : Error) (items all : List Bson) (i : ℕ) (v : Bson) (old start out a : List ℕ) → i < length items
    → v ≡ get_or items i v → items ≡ all → start ≡ put_length_placeholder old
    → put_array_elements i (values_view (drop i items)) out ≡ put_array_elements 0 (values_view items) start
    → a ≡ out ++ name_bytes (type_of (bson_view v)) (decimal i) → StopsFor e (put_value (bson_view v) a)
    → StopsFor e (put_value (array (values_view all)) old)
array_bad e items all i v old start out a lt is same room inv name h =
    let others = values_view (drop (i + 1) items) in
    let left = ap (λ (vs : Values). put_array_elements i vs out) (sym (item_here items i v lt is)) ∙ inv
    ∙ items_whole items all old start same room in
    array_stops e (values_view all) old (bad_item e i (bson_view v) others out (put_array_elements 0 (values_view all) (put_length_placeholder old)) left
    (subst (λ (b : List ℕ). StopsFor e (put_value (bson_view v) b)) name h))

pub array_next : (items : List Bson) (i : ℕ) (v : Bson) (out a new : List ℕ) (total : PutResult) → i < length items
    → v ≡ get_or items i v → put_array_elements i (values_view (drop i items)) out ≡ total
    → a ≡ out ++ name_bytes (type_of (bson_view v)) (decimal i) → put_value (bson_view v) a ≡ Ok new
    → put_array_elements (i + 1) (values_view (drop (i + 1) items)) new ≡ total
array_next items i v out a new total lt is inv name put =
    next_item i (bson_view v) (values_view (drop (i + 1) items)) out new total
    (ap (λ (vs : Values). put_array_elements i vs out) (sym (item_here items i v lt is)) ∙ inv)
    (ap (put_value (bson_view v)) (sym name) ∙ put)

pub array_end : (items all : List Bson) (i : ℕ) (old start out : List ℕ) → length items ≤ i → items ≡ all → start ≡ put_length_placeholder old
    → put_array_elements i (values_view (drop i items)) out ≡ put_array_elements 0 (values_view items) start
    → put_value (array (values_view all)) old ≡ put_nul_and_length (length old) out
array_end items all i old start out le same room inv =
    let left : put_array_elements i no_values out ≡ put_array_elements 0 (values_view all) (put_length_placeholder old) =
    ap (λ (xs : List Bson). put_array_elements i (values_view xs) out) (sym (drop_all i items le)) ∙ inv
    ∙ items_whole items all old start same room in
    array_is (values_view all) old out (last_item i out (put_array_elements 0 (values_view all) (put_length_placeholder old)) left)

-- the tag and the name are those of the value at the place
pub named : (out new name : List ℕ) (t : ElementType) (v : Bson) (i : ℕ) → new ≡ out ++ name_bytes t name
    → t ≡ type_of (bson_view v) → name ≡ decimal i → new ≡ out ++ name_bytes (type_of (bson_view v)) (decimal i)
named out new name t v i e f g =
    e ∙ ap (λ (k : ElementType). out ++ name_bytes k name) f
    ∙ ap (λ (k : List ℕ). out ++ name_bytes (type_of (bson_view v)) k) g

-- ---- a document

-- what is left begins with the pair, and is written to the whole document
pub left_is : (left rest : List (List ℕ × Bson)) (k : List ℕ) (v : Bson) (out : List ℕ) (total : PutResult)
    → left ≡ (k, v) ∷ rest → put_elements (pairs_view left) out ≡ total
    → put_elements (pair k (bson_view v) (pairs_view rest)) out ≡ total
left_is left rest k v out total is inv = ap (λ (ps : List (List ℕ × Bson)). put_elements (pairs_view ps) out) (sym is) ∙ inv

pub pairs_whole : (d : Document) (old start : List ℕ) → start ≡ put_length_placeholder old
    → put_elements (pairs_view (contents d)) start ≡ put_elements (document_view d) (put_length_placeholder old)
pairs_whole d old start room =
    ap (put_elements (pairs_view (contents d))) room ∙ ap (λ (ps : Pairs). put_elements ps (put_length_placeholder old)) (sym (document_view-pairs d))

pub key_stops : (e : Error) (d : Document) (left rest : List (List ℕ × Bson)) (k name : List ℕ) (v : Bson) (t : ElementType)
    (old start out : List ℕ) → left ≡ (k, v) ∷ rest → start ≡ put_length_placeholder old
    → put_elements (pairs_view left) out ≡ put_elements (pairs_view (contents d)) start → t ≡ type_of (bson_view v) → name ≡ k
    → StopsFor e (put_name t name out) → StopsFor e (put_document (document_view d) old)
key_stops e d left rest k name v t old start out is room inv type same h =
    stops_then e (put_elements (document_view d) (put_length_placeholder old)) (put_nul_and_length (length old))
    (bad_key e k (bson_view v) (pairs_view rest) out (put_elements (document_view d) (put_length_placeholder old))
    (left_is left rest k v out _ is inv ∙ pairs_whole d old start room)
    (subst (λ (n : List ℕ). StopsFor e (put_name (type_of (bson_view v)) n out)) same
    (subst (λ (u : ElementType). StopsFor e (put_name u name out)) type h)))

pub key_put : (k name : List ℕ) (v : Bson) (t : ElementType) (out a : List ℕ) → t ≡ type_of (bson_view v) → name ≡ k
    → put_name t name out ≡ Ok a → put_name (type_of (bson_view v)) k out ≡ Ok a
key_put k name v t out a type same h =
    ap (λ (n : List ℕ). put_name (type_of (bson_view v)) n out) (sym same) ∙ ap (λ (u : ElementType). put_name u name out) (sym type) ∙ h

pub value_stops : (e : Error) (d : Document) (left rest : List (List ℕ × Bson)) (k : List ℕ) (v : Bson)
    (old start out a : List ℕ) → left ≡ (k, v) ∷ rest → start ≡ put_length_placeholder old
    → put_elements (pairs_view left) out ≡ put_elements (pairs_view (contents d)) start
    → put_name (type_of (bson_view v)) k out ≡ Ok a
    → StopsFor e (put_value (bson_view v) a) → StopsFor e (put_document (document_view d) old)
value_stops e d left rest k v old start out a is room inv name h =
    stops_then e (put_elements (document_view d) (put_length_placeholder old)) (put_nul_and_length (length old))
    (bad_value e k (bson_view v) (pairs_view rest) out a (put_elements (document_view d) (put_length_placeholder old))
    (left_is left rest k v out _ is inv ∙ pairs_whole d old start room) name h)

pub document_end : (d : Document) (left : List (List ℕ × Bson)) (old start out : List ℕ) → left ≡ [] → start ≡ put_length_placeholder old
    → put_elements (pairs_view left) out ≡ put_elements (pairs_view (contents d)) start
    → put_document (document_view d) old ≡ put_nul_and_length (length old) out
document_end d left old start out none room inv =
    let over : put_elements no_pairs out ≡ put_elements (document_view d) (put_length_placeholder old) =
    ap (λ (ps : List (List ℕ × Bson)). put_elements (pairs_view ps) out) (sym none) ∙ inv ∙ pairs_whole d old start room in
    ap (λ (r : PutResult). then r (put_nul_and_length (length old))) (last_pair out (put_elements (document_view d) (put_length_placeholder old)) over)

-- ---- what was written

pub refusal : (e : Error) (ps : Pairs) → StopsFor e (put_document ps []) → IsWriteErrorFor e ps
refusal errors.OutOfMemory ps h = tt
refusal errors.Key ps h = told_err ps nul_in_key h
refusal errors.Regex ps h = told_err ps nul_in_regex h
refusal errors.Size ps h = told_err ps too_long h

pub only_memory : (e : Error) (ps : Pairs) → FitsDocument ps → IsWriteErrorFor e ps → e ≡ errors.OutOfMemory
only_memory errors.OutOfMemory ps f h = refl
only_memory errors.Key ps f h = absurd (document_fits ps nul_in_key f h)
only_memory errors.Regex ps f h = absurd (document_fits ps nul_in_regex f h)
only_memory errors.Size ps f h = absurd (document_fits ps too_long f h)
