-- Values that a writer pushes one after another, and what is made of them.
use Rattle.std.proofs.Common.{◌≡◌, ◌+◌, ◌++◌, ◌∷◌, [], ℕ, List, Vec, Global, String, string_bytes, map, Result, Ok, Err}
use Rattle.std.proofs.Common.{OnOk, IfErr, Bool, true, false, cond, bytes_eq, rules, refl, sym, ap, ◌∙◌, subst}
use Rattle.std.proofs.Common.{append_assoc, append-nil}
use Rattle.std.proofs.lemmas.List.{same_from_push}
use Rattle.bson_text.proofs.Offered.{put_in_turn, once_sorted}
use Rattle.bson_text.specs.TraversalErrors.{IsWriterError, IsScalarWriterError}
use Rattle.bson_text.specs.TraversalResults.{ItemsWritten, PairsWritten, each_key_once, with_pair_set, with_pairs_set}
use Rattle.bson_text.specs.declared.traversal_error.TraversalError.{TraversalError}
use Rattle.bson_text.specs.declared.traversal_error.TraversalError.TheVariants.{OutOfMemory, DuplicateKey, GaveUp, Syntax, Fault}
use Rattle.bson_model.specs.Sorted.{insert_sorted_pair, sorted, sorted_items}
use Rattle.bson_model.specs.Value.{Value, scalar, array, document, code_scope, Values, no_values, value}
use Rattle.bson_model.specs.Value.{Pairs, no_pairs, pair}
use Rattle.bson_scalar.specs.Scalar as kind
use Rattle.bson_scalar.specs.Scalar.{Scalar}
use Rattle.bson_store.specs.Pairs.{insert_pair}
use Rattle.bson_store.specs.KeyIndex.{stored_pairs}
use Rattle.bson.proofs.Seen.{bson_view-Array, bson_view-Document}
use Rattle.bson.specs.SortedMembers.{Member, pairs_of_members, insert_members}
use Rattle.bson.specs.BsonWriterState.{value_in_order, pairs_by_key_order, document_in_order, insert_entries_by_key, container_pairs, is_document, key_in_container, HasPushedBson, HasPushedValue}
use Rattle.bson.specs.BsonWriterState.{HasPushedDocument, HasBegunArray, HasBegunDocument, HasBegunCode}
use Rattle.bson.specs.InsertedPairs.{insert_entries}
use Rattle.bson.specs.View.{bson_view, document_view, pairs_view, values_view}
use Rattle.bson.specs.declared.bson.Bson as bson_form
use Rattle.bson.specs.declared.bson.Bson.{Bson}
use Rattle.bson.specs.declared.bson.Bson.TheVariants as bson
use Rattle.bson.specs.declared.document.Document.{Document}
use Rattle.bson_model.specs.declared.options.KeyOrder.{KeyOrder}
use Rattle.bson_model.specs.declared.options.KeyOrder.TheVariants.{Ascending, AsGiven}
use Rattle.bson.specs.declared.extjson.bson_writer.EnclosingContainer.{EnclosingContainer}
use Rattle.bson.specs.declared.extjson.bson_writer.BsonWriter.{BsonWriter}
use Rattle.bson.specs.declared.extjson.bson_writer.Container.{Container}
use Rattle.bson.specs.declared.extjson.bson_writer.Container.TheVariants.{Array, Document as OfPairs}

-- ---- the order

scalar_by : (o : KeyOrder) (x : Scalar) → value_in_order o (scalar x) ≡ scalar x
scalar_by Ascending x = refl
scalar_by AsGiven x = refl

document_is : (o : KeyOrder) (ps : Pairs) → value_in_order o (document ps) ≡ document (pairs_by_key_order o ps)
document_is Ascending ps = refl
document_is AsGiven ps = refl

code_is : (o : KeyOrder) (s : List ℕ) (ps : Pairs) → value_in_order o (code_scope s ps) ≡ code_scope s (pairs_by_key_order o ps)
code_is Ascending s ps = refl
code_is AsGiven s ps = refl

abbrev items_by : KeyOrder → Values → Values
items_by Ascending vs = sorted_items vs
items_by AsGiven vs = vs

array_is : (o : KeyOrder) (vs : Values) → value_in_order o (array vs) ≡ array (items_by o vs)
array_is Ascending vs = refl
array_is AsGiven vs = refl

no_items : (o : KeyOrder) → items_by o no_values ≡ no_values
no_items Ascending = refl
no_items AsGiven = refl

next_item : (o : KeyOrder) (v : Value) (vs : Values) → items_by o (value v vs) ≡ value (value_in_order o v) (items_by o vs)
next_item Ascending v vs = refl
next_item AsGiven v vs = refl

-- ---- what was pushed

pub on_ok : {A E P Q : Type 0} (r : Result A E) → OnOk r P → (P → Q) → OnOk r Q
on_ok (Ok x) h f = f h
on_ok (Err e) h f = tt

pub scalar_pushed : {E : Type 0} (r : Result (Unit {0}) E) (k : List ℕ) (old new : BsonWriter) (x : Bson) (s : Scalar)
    → OnOk r (HasPushedBson old k x new) → bson_view x ≡ scalar s → OnOk r (HasPushedValue old k (scalar s) new)
scalar_pushed r k old new x s pushed seen =
    on_ok r pushed (λ is. (x, is, seen ∙ sym (scalar_by old.key_order s)))

-- for want of memory alone
stops_at : (e : TraversalError) (s : Scalar) → IsWriterError (λ D. ⊥) e → IsScalarWriterError (λ D. ⊥) s e
stops_at OutOfMemory s h = tt
stops_at DuplicateKey s h = h
stops_at GaveUp s h = λ D written. h D
stops_at Syntax s h = h
stops_at (Fault place) s h = h

pub scalar_stops : {A : Type 0} (r : Result A TraversalError) (s : Scalar) → IfErr r (IsWriterError (λ D. ⊥))
    → IfErr r (IsScalarWriterError (λ D. ⊥) s)
scalar_stops (Ok x) s h = tt
scalar_stops (Err e) s h = stops_at e s h

pub text_is : (s : String Global) → bson_view (bson.String s) ≡ scalar (kind.text (string_bytes s))
text_is s = search (rules, bson_form.the_lemmas)

pub boolean_is : (b : Bool) → bson_view (bson.Boolean b) ≡ scalar (kind.boolean b)
boolean_is b = search (rules, bson_form.the_lemmas)

pub null_is : bson_view bson.Null ≡ scalar kind.null
null_is = search (rules, bson_form.the_lemmas)

-- ---- containers

pub pairs_last : (es : List Member) (e : Member)
    → stored_pairs (es ++ e ∷ []) ≡ stored_pairs es ++ (string_bytes e.key, e.value) ∷ []
pairs_last [] e = refl
pairs_last (d ∷ es) e = ap (λ l. (string_bytes d.key, d.value) ∷ l) (pairs_last es e)

-- the elements of an array as it holds them, and from what it holds
abbrev unnamed : List Bson → List (List ℕ × Bson)
unnamed xs = map (λ x. ([], x)) xs

pub items_last : (xs : List Bson) (x : Bson) → unnamed (xs ++ x ∷ []) ≡ unnamed xs ++ ([], x) ∷ []
items_last [] x = refl
items_last (y ∷ xs) x = ap (λ l. ([], y) ∷ l) (items_last xs x)

values_are : (xs : List Bson) → map (λ (p : List ℕ × Bson). p.1) (unnamed xs) ≡ xs
values_are [] = refl
values_are (x ∷ xs) = ap (λ l. x ∷ l) (values_are xs)

pub items_are : (xs ys : List Bson) → unnamed xs ≡ unnamed ys → xs ≡ ys
items_are xs ys is = sym (values_are xs) ∙ ap (map (λ (p : List ℕ × Bson). p.1)) is ∙ values_are ys

no_key : (c : Container) → key_in_container c [] ≡ []
no_key (Array v) = refl
no_key (OfPairs v) = refl

own_key : (c : Container) (k : List ℕ) → is_document c ≡ true → key_in_container c k ≡ k
own_key (Array v) k is = cc
own_key (OfPairs v) k is = refl

-- ---- values pushed one after another

abbrev Added : BsonWriter → List (List ℕ × Bson) → BsonWriter → Type 0
Added old es new = (new.key_order ≡ old.key_order) × (is_document new.container ≡ is_document old.container)
    × (container_pairs new.container ≡ container_pairs old.container ++ es)

none_added : (old new : BsonWriter) → old ≡ new → Added old [] new
none_added old new is = (
  ap (λ (w : BsonWriter). w.key_order) (sym is),
  ap (λ (w : BsonWriter). is_document w.container) (sym is),
  ap (λ (w : BsonWriter). container_pairs w.container) (sym is) ∙ sym (append-nil (container_pairs old.container)),
)

one_added : (old mid new : BsonWriter) (k : List ℕ) (x : Bson) (es : List (List ℕ × Bson)) → HasPushedBson old k x mid
    → Added mid es new → Added old ((key_in_container old.container k, x) ∷ es) new
one_added old mid new k x es (key_order, same, one) (later, still, more) = (
  later ∙ key_order,
  still ∙ same,
  more ∙ ap (λ l. l ++ es) one ∙ append_assoc (container_pairs old.container) ((key_in_container old.container k, x) ∷ []) es,
)

items_pushed : (n : ℕ) (vs : Values) (old new : BsonWriter) → ItemsWritten HasPushedValue (λ i. []) n vs old new
    → (xs : List Bson) × Added old (unnamed xs) new × (values_view xs ≡ items_by old.key_order vs)
items_pushed n no_values old new is = ([], none_added old new is, sym (no_items old.key_order))
items_pushed n (value v vs) old new (mid, (x, pushed, seen), more) =
    let (xs, rest, all) = items_pushed (n + 1) vs mid new more in (
      x ∷ xs,
      subst (λ k. Added old ((k, x) ∷ unnamed xs) new) (no_key old.container)
          (one_added old mid new [] x (unnamed xs) pushed rest),
      ap (λ y. value y (values_view xs)) seen
          ∙ ap (value (value_in_order old.key_order v)) (all ∙ ap (λ o. items_by o vs) pushed.0)
          ∙ sym (next_item old.key_order v vs),
    )

-- the pairs, the values in the order
abbrev each_by : KeyOrder → Pairs → Pairs
each_by o no_pairs = no_pairs
each_by o (pair k v ps) = pair k (value_in_order o v) (each_by o ps)

pairs_pushed : (ps : Pairs) (old new : BsonWriter) → is_document old.container ≡ true
    → PairsWritten HasPushedValue (λ a k b. b ≡ a) ps old new
    → (es : List (List ℕ × Bson)) × Added old es new × (pairs_view es ≡ each_by old.key_order ps)
pairs_pushed no_pairs old new kind is = ([], none_added old new is, refl)
pairs_pushed (pair k v ps) old new kind (named, mid, keyed, wrote, more) =
    let (x, pushed, seen) : HasPushedValue old k v mid = subst (λ w. HasPushedValue w k v mid) keyed wrote in
    let (es, rest, all) = pairs_pushed ps mid new (pushed.1 ∙ kind) more in (
      (k, x) ∷ es,
      subst (λ l. Added old ((l, x) ∷ es) new) (own_key old.container k kind)
          (one_added old mid new k x es pushed rest),
      ap (λ y. pair k y (pairs_view es)) seen
          ∙ ap (pair k (value_in_order old.key_order v)) (all ∙ ap (λ o. each_by o ps) pushed.0),
    )

-- ---- what was begun

-- a value inserted into the container around it
pushed_around : (start now new : BsonWriter) (k l : List ℕ) (outer : Container) (x : Bson) → now.key_order ≡ start.key_order
    → outer ≡ start.container → key_in_container start.container l ≡ key_in_container start.container k → new.key_order ≡ now.key_order
    → is_document new.container ≡ is_document outer → container_pairs new.container ≡ container_pairs outer ++ (key_in_container outer l, x) ∷ []
    → HasPushedBson start k x new
pushed_around start now new k l outer x key_order around key later kind last = (
  later ∙ key_order,
  kind ∙ ap is_document around,
  last ∙ ap (λ c. container_pairs c ++ (key_in_container c l, x) ∷ []) around
      ∙ ap (λ n. container_pairs start.container ++ (n, x) ∷ []) key,
)

-- it is an array that was begun, and a document
pub still_array : (vs : Values) (k : List ℕ) (start mid now : BsonWriter) (enclosing : EnclosingContainer) → HasBegunArray start k enclosing mid
    → ItemsWritten HasPushedValue (λ i. []) 0 vs mid now → is_document now.container ≡ false
still_array vs k start mid now enclosing begins written =
    let (xs, (key_order, same, items), all) = items_pushed 0 vs mid now written in same ∙ begins.1

pub still_document : (ps : Pairs) (start mid now : BsonWriter) (enclosing : EnclosingContainer) → HasBegunDocument start enclosing mid
    → PairsWritten HasPushedValue (λ a k b. b ≡ a) ps mid now → is_document now.container ≡ true
still_document ps start mid now enclosing begins written =
    let (es, (key_order, same, items), all) = pairs_pushed ps mid now begins.1 written in same ∙ begins.1

pub array_pushed : (vs : Values) (k : List ℕ) (start mid now new : BsonWriter) (enclosing : EnclosingContainer) (v w : Vec Bson Global)
    (outer : Container) → HasBegunArray start k enclosing mid → ItemsWritten HasPushedValue (λ i. []) 0 vs mid now
    → now.container ≡ Array v → outer ≡ enclosing.outer → w.items ≡ v.items → new.key_order ≡ now.key_order
    → is_document new.container ≡ is_document outer
    → container_pairs new.container ≡ container_pairs outer ++ (key_in_container outer (string_bytes enclosing.key), bson.Array w) ∷ []
    → HasPushedValue start k (array vs) new
array_pushed vs k start mid now new enclosing v w outer (mode, is_array, empty, around, key) written kind after own later same
    last =
    let (xs, (key_order, still, items), all) = items_pushed 0 vs mid now written in
    let all_items = items_are v.items xs (sym (ap container_pairs kind) ∙ items ∙ ap (λ l. l ++ unnamed xs) empty) in (
      bson.Array w,
      pushed_around start now new k (string_bytes enclosing.key) outer (bson.Array w) (key_order ∙ mode) (after ∙ around) key
          later same last,
      bson_view-Array w ∙ ap (λ l. array (values_view l)) (own ∙ all_items)
          ∙ ap array (all ∙ ap (λ o. items_by o vs) mode) ∙ sym (array_is start.key_order vs),
    )

turns_sorted : (ps found : Pairs) → insert_entries_by_key (each_by Ascending ps) found ≡ put_in_turn ps found
turns_sorted no_pairs found = refl
turns_sorted (pair k v ps) found = turns_sorted ps (insert_sorted_pair k (sorted v) found)

each_as_given : (ps : Pairs) → each_by AsGiven ps ≡ ps
each_as_given no_pairs = refl
each_as_given (pair k v ps) = ap (pair k v) (each_as_given ps)

-- pairs in the order, inserted in turn, are the pairs inserted in turn and then in the order
once_by : (o : KeyOrder) (ps : Pairs) → document_in_order o (each_by o ps) ≡ pairs_by_key_order o (each_key_once ps)
once_by Ascending ps = turns_sorted ps no_pairs ∙ sym (once_sorted ps)
once_by AsGiven ps = ap each_key_once (each_as_given ps)

pub document_pushed : (ps : Pairs) (start mid now new : BsonWriter) (enclosing : EnclosingContainer) (v : Vec Member Global) (d : Document)
    (outer : Container) → HasBegunDocument start enclosing mid → PairsWritten HasPushedValue (λ a k b. b ≡ a) ps mid now
    → now.container ≡ OfPairs v → outer ≡ enclosing.outer → document_view d ≡ document_in_order now.key_order (pairs_of_members v.items)
    → new.key_order ≡ now.key_order → is_document new.container ≡ is_document outer
    → container_pairs new.container ≡ container_pairs outer ++ (key_in_container outer (string_bytes enclosing.key), bson.Document d) ∷ []
    → HasPushedDocument start (each_key_once ps) new
document_pushed ps start mid now new enclosing v d outer (mode, is_pairs, empty, around, key) written kind after seen later
    same last =
    let (es, (key_order, still, items), all) = pairs_pushed ps mid now is_pairs written in
    let first = key_order ∙ mode in
    let pairs : pairs_of_members v.items ≡ each_by start.key_order ps =
    ap pairs_view (sym (ap container_pairs kind) ∙ items ∙ ap (λ l. l ++ es) empty) ∙ all ∙ ap (λ o. each_by o ps) mode in (
      d,
      pushed_around start now new (string_bytes start.key) (string_bytes enclosing.key) outer (bson.Document d) first
          (after ∙ around) key later same last,
      seen ∙ ap (document_in_order now.key_order) pairs ∙ ap (λ o. document_in_order o (each_by start.key_order ps)) first
          ∙ once_by start.key_order ps,
    )

abbrev pub with_key : BsonWriter → String Global → BsonWriter
with_key w key = record { alloc = w.alloc; key_order = w.key_order; container = w.container; key = key }

pub embedded : (ps : Pairs) (k : List ℕ) (old end : BsonWriter) (key : String Global)
    → key_in_container old.container (string_bytes key) ≡ key_in_container old.container k → HasPushedDocument (with_key old key) ps end
    → HasPushedValue old k (document ps) end
embedded ps k old end key same (d, pushed, seen) = (
  bson.Document d,
  pushed_around old old end k (string_bytes key) old.container (bson.Document d) refl refl same pushed.0 pushed.1
      pushed.2,
  bson_view-Document d ∙ ap document seen ∙ sym (document_is old.key_order ps),
)

-- ---- code

same_pairs : (ps qs : Pairs) → document ps ≡ document qs → ps ≡ qs
same_pairs ps qs is = cc

same_document : (d e : Document) → bson.Document d ≡ bson.Document e → document_view d ≡ document_view e
same_document d e is =
    same_pairs (document_view d) (document_view e) (sym (bson_view-Document d) ∙ ap bson_view is ∙ bson_view-Document e)

same_code : (s t : String Global) → bson.JavaScriptCode s ≡ bson.JavaScriptCode t → s ≡ t
same_code s t is = cc

pub code_begun : (s k : List ℕ) (old new : BsonWriter) (enclosing : EnclosingContainer) (c : Container) (v : Vec Bson Global)
    (code : String Global) → c ≡ Array v → v.items ≡ [] → new.key_order ≡ old.key_order
    → is_document new.container ≡ is_document c
    → container_pairs new.container ≡ container_pairs c ++ (key_in_container c [], bson.JavaScriptCode code) ∷ [] → enclosing.outer ≡ old.container
    → key_in_container old.container (string_bytes enclosing.key) ≡ key_in_container old.container k → string_bytes code ≡ s
    → HasBegunCode old k s enclosing new
code_begun s k old new enclosing c v code is empty key_order kind all around key text = (
  code,
  text,
  (
    key_order,
    kind ∙ ap is_document is,
    all ∙ ap (λ d. container_pairs d ++ (key_in_container d [], bson.JavaScriptCode code) ∷ []) is
        ∙ ap (λ l. unnamed l ++ ([], bson.JavaScriptCode code) ∷ []) empty,
    around,
    key,
  ),
)

-- code and its scope are in an array
pub code_items : (s : List ℕ) (ps : Pairs) (k : List ℕ) (start mid now : BsonWriter) (enclosing : EnclosingContainer)
    → HasBegunCode start k s enclosing mid → HasPushedDocument mid ps now
    → (is_document now.container ≡ false) × (code : String Global) × (d : Document)
    × (container_pairs now.container ≡ unnamed (bson.JavaScriptCode code ∷ bson.Document d ∷ []))
    × (string_bytes code ≡ s) × (document_view d ≡ pairs_by_key_order mid.key_order ps)
code_items s ps k start mid now enclosing (code, text, (mode, kind, empty, around, key)) (d, (key_order, same, items), seen) = (
  same ∙ kind,
  code,
  d,
  items ∙ ap (λ l. l ++ (key_in_container mid.container (string_bytes mid.key), bson.Document d) ∷ []) empty
      ∙ ap (λ n. ([], bson.JavaScriptCode code) ∷ (n, bson.Document d) ∷ []) (none mid.container kind),
  text,
  seen,
)
  where
    none : (c : Container) → is_document c ≡ false → key_in_container c (string_bytes mid.key) ≡ []
    none (Array v) is = refl
    none (OfPairs v) is = cc

pub code_pushed : (s : List ℕ) (ps : Pairs) (k : List ℕ) (start mid now new : BsonWriter) (enclosing : EnclosingContainer)
    (v : Vec Bson Global) (kept rest : List Bson) (code : String Global) (scope : Document) (x y z : Bson)
    (outer : Container) → HasBegunCode start k s enclosing mid → HasPushedDocument mid ps now → now.container ≡ Array v
    → outer ≡ enclosing.outer → v.items ≡ kept ++ y ∷ [] → y ≡ bson.Document scope → kept ≡ rest ++ z ∷ [] → z ≡ bson.JavaScriptCode code
    → bson_view x ≡ code_scope (string_bytes code) (document_view scope) → new.key_order ≡ now.key_order
    → is_document new.container ≡ is_document outer
    → container_pairs new.container ≡ container_pairs outer ++ (key_in_container outer (string_bytes enclosing.key), x) ∷ []
    → HasPushedValue start k (code_scope s ps) new
code_pushed s ps k start mid now new enclosing v kept rest code scope x y z outer begins framed kind after last of_scope
    former of_code seen later same is =
    let (is_array, own, d, items, text, pairs) = code_items s ps k start mid now enclosing begins framed in
    let (own_code, own_text, (mode, own_kind, empty, around, key)) = begins in
    let (own_scope, (key_order, still, more), own_seen) = framed in
    let all = items_are v.items (bson.JavaScriptCode own ∷ bson.Document d ∷ []) (sym (ap container_pairs kind) ∙ items) in
    let scopes = same_from_push kept (bson.JavaScriptCode own ∷ []) y (bson.Document d) (sym last ∙ all) in
    let codes = same_from_push rest [] z (bson.JavaScriptCode own) (sym former ∙ scopes.0) in
    let one_scope = same_document scope d (sym of_scope ∙ scopes.1) in
    let one_code = same_code code own (sym of_code ∙ codes.1) in (
      x,
      pushed_around start now new k (string_bytes enclosing.key) outer x (key_order ∙ mode) (after ∙ around) key later same is,
      seen ∙ ap (λ (t : String Global). code_scope (string_bytes t) (document_view scope)) one_code
          ∙ ap (code_scope (string_bytes own)) one_scope
          ∙ ap (λ t. code_scope t (document_view d)) text ∙ ap (code_scope s) (pairs ∙ ap (λ o. pairs_by_key_order o ps) mode)
          ∙ sym (code_is start.key_order s ps),
    )

-- ---- the document of entries

set_at : (b : Bool) (k : List ℕ) (v : Bson) (p : List ℕ × Bson) (ps : List (List ℕ × Bson))
    → pairs_view (insert_pair k v ps) ≡ with_pair_set k (bson_view v) (pairs_view ps)
    → pairs_view (cond b ((p.0, v) ∷ ps) (p ∷ insert_pair k v ps))
    ≡ cond b (pair p.0 (bson_view v) (pairs_view ps))
    (pair p.0 (bson_view p.1) (with_pair_set k (bson_view v) (pairs_view ps)))
set_at true k v p ps is = refl
set_at false k v p ps is = ap (pair p.0 (bson_view p.1)) is

set_view : (k : List ℕ) (v : Bson) (ps : List (List ℕ × Bson))
    → pairs_view (insert_pair k v ps) ≡ with_pair_set k (bson_view v) (pairs_view ps)
set_view k v [] = refl
set_view k v (p ∷ ps) = set_at (bytes_eq k p.0) k v p ps (set_view k v ps)

entries_set : (es : List Member) (ps : List (List ℕ × Bson))
    → pairs_view (insert_entries es ps) ≡ with_pairs_set (pairs_of_members es) (pairs_view ps)
entries_set [] ps = refl
entries_set (e ∷ es) ps =
    entries_set es (insert_pair (string_bytes e.key) e.value ps)
    ∙ ap (with_pairs_set (pairs_of_members es)) (set_view (string_bytes e.key) e.value ps)

pub entries_once : (es : List Member) → pairs_view (insert_entries es []) ≡ each_key_once (pairs_of_members es)
entries_once es = entries_set es []

pub entries_turned : (es : List Member) (found : Pairs) → insert_members es found ≡ insert_entries_by_key (pairs_of_members es) found
entries_turned [] found = refl
entries_turned (e ∷ es) found = entries_turned es (insert_sorted_pair (string_bytes e.key) (bson_view e.value) found)
