-- Elements one after the other, as the one loop gives them to a sink.
use Rattle.std.proofs.Common.{◌≡◌, ℕ, ◌+◌, ◌<◌, ◌≤◌, Bool, true, false, List, [], ◌∷◌, length, Some, None, Result, Ok, Err}
use Rattle.std.proofs.Common.{refl, sym, ap, ◌∙◌, subst, arith}
use Rattle.std.proofs.lemmas.Bool.{ne_eqb}
use Rattle.bson_types.specs.declared.spec.ElementType.{ElementType}
use Rattle.bson_types.specs.declared.spec.ElementType.TheVariants as tag
use Rattle.bson_model.specs.Value.{Value, Pairs, no_pairs, pair, array, document}
use Rattle.bson_bytes.specs.declared.fault.Fault.{Fault}
use Rattle.bson_bytes.specs.declared.fault.FaultKind.TheVariants.{Length}
use Rattle.bson_model.specs.declared.options.DuplicateKeys.{DuplicateKeys}
use Rattle.bson_model.specs.declared.options.DuplicateKeys.TheVariants.{LastWins, Reject}
use Rattle.bson_bytes.specs.Fault.{fault_at, ◌>>=◌}
use Rattle.bson_bytes.specs.Grammar.{pair_values}
use Rattle.bson_bytes.specs.Reading.{read_byte, read_key, read_length, read_string, read_code_with_scope, insert_pairs_read, read_value_in, read_document_in}
use Rattle.bson_bytes.specs.Reading.{EarlierKeys, no_earlier_keys, add_earlier_key}
use Rattle.bson_bytes.specs.TypeTags.{type_of_tag}
use Rattle.bson_bytes.proofs.Offered.{Read, elements, then_pairs, no_more, one_more}
use Rattle.bson_bytes.specs.Source.{StopsReadingFor, IsSinkStop, reversed_keys, earlier_keys, with_last_pair}
use Rattle.bson_bytes.specs.declared.stop.Stop.{Stop}
use Rattle.bson_bytes.specs.declared.stop.Stop.TheVariants as stops

-- ---- why a walk stops

pub stops_by : {A B : Type 0} (May : Stop → Type 0) (e : Stop) (part : Result A Fault) (whole : Result B Fault)
    → ((f : Fault) → part ≡ Err f → whole ≡ Err f) → StopsReadingFor May e part → StopsReadingFor May e whole
stops_by May (stops.Fault f) part whole g h = g f h
stops_by May stops.GaveUp part whole g h = h
stops_by May stops.OutOfMemory part whole g h = h

pub stopped_at : {A : Type 0} (May : Stop → Type 0) (e : Stop) (f : Fault) (whole : Result A Fault) → e ≡ stops.Fault f
    → StopsReadingFor May e whole → whole ≡ Err f
stopped_at May e f whole is h = subst (λ (x : Stop). StopsReadingFor May x whole) is h

pub stops_sink : {A : Type 0} (May : Stop → Type 0) (e : Stop) (whole : Result A Fault) → May e → IsSinkStop e
    → StopsReadingFor May e whole
stops_sink May (stops.Fault f) whole m n = absurd n
stops_sink May stops.GaveUp whole m n = m
stops_sink May stops.OutOfMemory whole m n = m

-- ---- pairs that are done, and those that follow

abbrev pub join : Pairs → Pairs → Pairs
join no_pairs qs = qs
join (pair k v ps) qs = pair k v (join ps qs)

pub join_more : (ps : Pairs) (k : List ℕ) (v : Value) (qs : Pairs) → join (with_last_pair ps k v) qs ≡ join ps (pair k v qs)
join_more no_pairs k v qs = refl
join_more (pair l w ps) k v qs = ap (pair l w) (join_more ps k v qs)

pub join_none : (ps : Pairs) → join ps no_pairs ≡ ps
join_none no_pairs = refl
join_none (pair k v ps) = ap (pair k v) (join_none ps)

abbrev pub onto : Pairs → Read → Read
onto ps r = r >>= λ x. Ok (join ps x.0, x.1)

onto_none : (r : Read) → onto no_pairs r ≡ r
onto_none (Ok x) = refl
onto_none (Err f) = refl

onto_then : (ps : Pairs) (k : List ℕ) (v : Value) (r : Read) → onto (with_last_pair ps k v) r ≡ onto ps (r >>= then_pairs k v)
onto_then ps k v (Ok x) = ap (λ (q : Pairs). Ok (q, x.1)) (join_more ps k v x.0)
onto_then ps k v (Err f) = refl

-- ---- the loop

pub keys_back_more : (ps : Pairs) (ks : List (List ℕ)) (k : List ℕ) (v : Value)
    → reversed_keys (with_last_pair ps k v) ks ≡ k ∷ reversed_keys ps ks
keys_back_more no_pairs ks k v = refl
keys_back_more (pair l w ps) ks k v = keys_back_more ps (l ∷ ks) k v

before_more : (keys : DuplicateKeys) (doc : Bool) (ps : Pairs) (k : List ℕ) (v : Value)
    → earlier_keys keys doc (with_last_pair ps k v) ≡ add_earlier_key k (earlier_keys keys doc ps)
before_more LastWins doc ps k v = refl
before_more Reject true ps k v = ap (λ ks. Some ks) (keys_back_more ps [] k v)
before_more Reject false ps k v = refl

-- what is read after the pairs that are done, written after them, is the whole
pub record ListLeft (keys : DuplicateKeys) (doc : Bool) (d : ℕ) (ps : Pairs) (rest : List ℕ) (total : Read) : Type 0 where
  pub turns : ℕ
  pub enough : length rest ≤ turns
  pub read : onto ps (elements keys d (earlier_keys keys doc ps) turns rest) ≡ total

pub list_start : (keys : DuplicateKeys) (doc : Bool) (d : ℕ) (bytes : List ℕ)
    → ListLeft keys doc d no_pairs bytes (elements keys d (earlier_keys keys doc no_pairs) (length bytes) bytes)
list_start keys doc d bytes = record {
  turns = length bytes;
  enough = omega arith;
  read = onto_none (elements keys d (earlier_keys keys doc no_pairs) (length bytes) bytes);
}

pub list_fault : (keys : DuplicateKeys) (doc : Bool) (d : ℕ) (ps : Pairs) (rest : List ℕ) (total : Read)
    (i : ListLeft keys doc d ps rest total) (f : Fault) → elements keys d (earlier_keys keys doc ps) i.turns rest ≡ Err f
    → total ≡ Err f
list_fault keys doc d ps rest total i f h = sym i.read ∙ ap (onto ps) h

pub list_end : (keys : DuplicateKeys) (doc : Bool) (d : ℕ) (ps : Pairs) (rest : List ℕ) (total : Read) (t : ℕ) (a : List ℕ)
    → ListLeft keys doc d ps rest total → read_byte rest ≡ Ok (t, a) → t ≡ 0 → total ≡ Ok (ps, a)
list_end keys doc d ps rest total t a i e z =
    sym i.read ∙ ap (onto ps) (no_more keys d (earlier_keys keys doc ps) i.turns rest t a i.enough e z)
    ∙ ap (λ (q : Pairs). Ok (q, a)) (join_none ps)

pub list_more : (keys : DuplicateKeys) (doc : Bool) (d : ℕ) (ps : Pairs) (rest : List ℕ) (total : Read) (t : ℕ) (a : List ℕ)
    (k : ElementType) (s b : List ℕ) (v : Value) (c : List ℕ) → ListLeft keys doc d ps rest total → length c < length rest
    → read_byte rest ≡ Ok (t, a) → (t ≡ 0 → ⊥) → type_of_tag t ≡ Some k → read_key (earlier_keys keys doc ps) a ≡ Ok (s, b)
    → read_value_in keys (read_document_in keys d) k b ≡ Ok (v, c) → ListLeft keys doc d (with_last_pair ps s v) c total
list_more keys doc d ps rest total t a k s b v c i lt e n k-is h w =
    let g = one_more keys d (earlier_keys keys doc ps) i.turns rest t a k s b v c i.enough lt e n k-is h w in
    record {
      turns = g.turns;
      enough = g.enough;
      read = onto_then ps s v (elements keys d (earlier_keys keys doc (with_last_pair ps s v)) g.turns c)
          ∙ ap (λ (before : EarlierKeys). onto ps (elements keys d before g.turns c >>= then_pairs s v)) (before_more keys doc ps s v)
          ∙ ap (onto ps) (sym g.read) ∙ i.read;
    }

-- a sink to which pairs were written since it was opened
abbrev pub Given : {S O : Type 0} → (S → Pairs → O → S → Type 0) → Pairs → (first : O) → (begun : S) → O → S → Type 0
Given {S} B ps first begun list now = (start : S) → B start no_pairs first begun → B start ps list now

-- ---- what holds a document

pub begins : (keys : DuplicateKeys) (d : ℕ) (bytes : List ℕ)
    → read_document_in keys d (no_earlier_keys keys) bytes ≡ read_document_in keys d (earlier_keys keys true no_pairs) bytes
begins LastWins d bytes = refl
begins Reject d bytes = refl

begins_array : (keys : DuplicateKeys) (d : ℕ) (bytes : List ℕ)
    → read_document_in keys d None bytes ≡ read_document_in keys d (earlier_keys keys false no_pairs) bytes
begins_array LastWins d bytes = refl
begins_array Reject d bytes = refl

pub array_read : (keys : DuplicateKeys) (d : ℕ) (bytes : List ℕ) (ps : Pairs) (rest : List ℕ)
    → read_document_in keys d (earlier_keys keys false no_pairs) bytes ≡ Ok (ps, rest)
    → read_value_in keys (read_document_in keys d) tag.Array bytes ≡ Ok (array (pair_values ps), rest)
unfolding read_value_in
array_read keys d bytes ps rest h = rw (begins_array keys d bytes ∙ h) refl

pub array_fault : (keys : DuplicateKeys) (d : ℕ) (bytes : List ℕ) (f : Fault)
    → read_document_in keys d (earlier_keys keys false no_pairs) bytes ≡ Err f
    → read_value_in keys (read_document_in keys d) tag.Array bytes ≡ Err f
unfolding read_value_in
array_fault keys d bytes f h = rw (begins_array keys d bytes ∙ h) refl

pub embedded_read : (keys : DuplicateKeys) (d : ℕ) (bytes : List ℕ) (ps : Pairs) (rest : List ℕ)
    → insert_pairs_read no_pairs (read_document_in keys d (no_earlier_keys keys) bytes) ≡ Ok (ps, rest)
    → read_value_in keys (read_document_in keys d) tag.EmbeddedDocument bytes ≡ Ok (document ps, rest)
unfolding read_value_in
embedded_read keys d bytes ps rest h = rw h refl

pub embedded_fault : (keys : DuplicateKeys) (d : ℕ) (bytes : List ℕ) (f : Fault)
    → insert_pairs_read no_pairs (read_document_in keys d (no_earlier_keys keys) bytes) ≡ Err f
    → read_value_in keys (read_document_in keys d) tag.EmbeddedDocument bytes ≡ Err f
unfolding read_value_in
embedded_fault keys d bytes f h = rw h refl

pub scope_fault : (inner : List ℕ → Read) (bytes : List ℕ) (n : ℕ) (a s b : List ℕ) (f : Fault) → read_length bytes ≡ Ok (n, a)
    → read_string a ≡ Ok (s, b) → insert_pairs_read no_pairs (inner b) ≡ Err f → read_code_with_scope inner bytes ≡ Err f
unfolding read_code_with_scope
scope_fault inner bytes n a s b f size text read = rw (size, text, read) refl

pub scope_short : (inner : List ℕ → Read) (bytes : List ℕ) (n : ℕ) (a s b : List ℕ) (ps : Pairs) (rest : List ℕ)
    → read_length bytes ≡ Ok (n, a) → read_string a ≡ Ok (s, b) → insert_pairs_read no_pairs (inner b) ≡ Ok (ps, rest)
    → (n + length rest ≡ length bytes → ⊥) → read_code_with_scope inner bytes ≡ Err (fault_at Length bytes)
unfolding read_code_with_scope
scope_short inner bytes n a s b ps rest size text read k = rw (size, text, read, ne_eqb (n + length rest) (length bytes) k) refl
