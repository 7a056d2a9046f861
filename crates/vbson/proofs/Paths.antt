-- The elements of a path, written one after the other.
use Rattle.std.proofs.Common.{◌≡◌, ℕ, List, [], ◌∷◌, Ok, Err, refl, sym, ap, ◌∙◌, length, subst, arith}
use Rattle.std.specs.Prelude.{decimal, map}
use Rattle.std.proofs.lemmas.List.{length-map}
use Rattle.bson_tree.specs.Place.{segment_of}
use Rattle.bson_tree.specs.declared.place.Segment.{Segment}
use Rattle.bson_model.specs.Value.{Pairs, no_pairs, pair}
use Rattle.bson_bytes.specs.PutSteps.{PutResult, then, put_name, put_value, put_elements, put_length_placeholder, put_nul_and_length, put_document, StopsFor}
use Rattle.bson_bytes.specs.Writing.{type_of, FitsDocument, nul_in_key, nul_in_regex, too_long}
use Rattle.bson_bytes.specs.declared.error.Error.{Error}
use Rattle.bson_bytes.specs.declared.error.Error.TheVariants as errors
use Rattle.bson_bytes.proofs.Offered.{told_err, document_fits}
use Rattle.vbson.specs.Path.{path_pairs, segment_value, concat_pairs}

then_then : (r : PutResult) (f g : List ℕ → PutResult) → then (then r f) g ≡ then r (λ a. then (f a) g)
then_then (Ok out) f g = refl
then_then (Err c) f g = refl

same_then : (r : PutResult) (f g : List ℕ → PutResult) → ((a : List ℕ) → f a ≡ g a) → then r f ≡ then r g
same_then (Ok out) f g h = h out
same_then (Err c) f g h = refl

-- pairs that follow others are written after them
pub put_with : (ps qs : Pairs) (out : List ℕ) → put_elements (concat_pairs ps qs) out ≡ then (put_elements ps out) (put_elements qs)
unfolding put_elements
put_with no_pairs qs out = refl
put_with (pair k v ps) qs out =
    same_then (put_name (type_of v) k out) (λ a. then (put_value v a) (λ b. put_elements (concat_pairs ps qs) b))
    (λ a. then (then (put_value v a) (λ b. put_elements ps b)) (put_elements qs))
    (λ a. same_then (put_value v a) (λ b. put_elements (concat_pairs ps qs) b) (λ b. then (put_elements ps b) (put_elements qs))
    (λ b. put_with ps qs b) ∙ sym (then_then (put_value v a) (λ b. put_elements ps b) (put_elements qs)))
    ∙ sym (then_then (put_name (type_of v) k out) (λ a. then (put_value v a) (λ b. put_elements ps b)) (put_elements qs))

pub stops_then : (e : Error) (r : PutResult) (f : List ℕ → PutResult) → StopsFor e r → StopsFor e (then r f)
stops_then errors.OutOfMemory r f h = tt
stops_then errors.Key r f h = rw h refl
stops_then errors.Regex r f h = rw h refl
stops_then errors.Size r f h = rw h refl

-- what fits is refused for memory alone
pub only_memory : (e : Error) (ps : Pairs) → FitsDocument ps → StopsFor e (put_document ps []) → e ≡ errors.OutOfMemory
only_memory errors.OutOfMemory ps fits h = refl
only_memory errors.Key ps fits h = absurd (document_fits ps nul_in_key fits (told_err ps nul_in_key h))
only_memory errors.Regex ps fits h = absurd (document_fits ps nul_in_regex fits (told_err ps nul_in_regex h))
only_memory errors.Size ps fits h = absurd (document_fits ps too_long fits (told_err ps too_long h))

-- ---- a path

pub no_segments : (segments : List Segment) (out : List ℕ) → length segments ≡ 0
    → put_elements (path_pairs (map segment_of segments)) out ≡ Ok out
unfolding put_elements
no_segments [] out is = refl
no_segments (segment ∷ outer) out is = absurd (omega (arith, is))

one_more : (segment : Segment) (outer : List Segment) (out : List ℕ)
    → put_elements (path_pairs (map segment_of (segment ∷ outer))) out
    ≡ then (put_elements (path_pairs (map segment_of outer)) out)
    (put_elements (pair (decimal (length outer)) (segment_value (segment_of segment)) no_pairs))
one_more segment outer out =
    put_with (path_pairs (map segment_of outer))
    (pair (decimal (length (map segment_of outer))) (segment_value (segment_of segment)) no_pairs) out
    ∙ ap (λ n. then (put_elements (path_pairs (map segment_of outer)) out)
    (put_elements (pair (decimal n) (segment_value (segment_of segment)) no_pairs))) (length-map outer segment_of)

pub segments_stop : (e : Error) (segments outer : List Segment) (segment : Segment) (out : List ℕ)
    → segments ≡ segment ∷ outer → StopsFor e (put_elements (path_pairs (map segment_of outer)) out)
    → StopsFor e (put_elements (path_pairs (map segment_of segments)) out)
segments_stop e segments outer segment out is h =
    subst (λ (xs : List Segment). StopsFor e (put_elements (path_pairs (map segment_of xs)) out)) (sym is)
    (subst (λ (r : PutResult). StopsFor e r) (sym (one_more segment outer out))
    (stops_then e (put_elements (path_pairs (map segment_of outer)) out)
    (put_elements (pair (decimal (length outer)) (segment_value (segment_of segment)) no_pairs)) h))

pub segment_put : (segments outer : List Segment) (segment : Segment) (out a : List ℕ) → segments ≡ segment ∷ outer
    → put_elements (path_pairs (map segment_of outer)) out ≡ Ok a
    → put_elements (path_pairs (map segment_of segments)) out
    ≡ put_elements (pair (decimal (length outer)) (segment_value (segment_of segment)) no_pairs) a
segment_put segments outer segment out a is put =
    ap (λ (xs : List Segment). put_elements (path_pairs (map segment_of xs)) out) is ∙ one_more segment outer out
    ∙ ap (λ (r : PutResult). then r (put_elements (pair (decimal (length outer)) (segment_value (segment_of segment)) no_pairs))) put

-- ---- a document

pub document_put : (ps : Pairs) (out : List ℕ) → put_elements ps (put_length_placeholder []) ≡ Ok out → put_document ps [] ≡ put_nul_and_length 0 out
document_put ps out put = ap (λ (r : PutResult). then r (put_nul_and_length 0)) put

pub document_stops : (e : Error) (ps : Pairs) → StopsFor e (put_elements ps (put_length_placeholder [])) → StopsFor e (put_document ps [])
document_stops e ps h = stops_then e (put_elements ps (put_length_placeholder [])) (put_nul_and_length 0) h
