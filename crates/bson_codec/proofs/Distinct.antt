-- A document in which no key may occur twice, as pairs are inserted into it.
use Rattle.std.proofs.Common.{◌≡◌, ℕ, Bool, true, false, cond, List, [], ◌∷◌, Option, Some, None, Ok, Err, refl, sym, ap}
use Rattle.std.proofs.Common.{◌∙◌, subst}
use Rattle.std.specs.Prelude.{is_some}
use Rattle.std.specs.Str.{bytes_eq}
use Rattle.std.proofs.lemmas.Slice.Eq.{bytes_eq-Decides}
use Rattle.bson_model.specs.Value.{Value, Pairs, no_pairs, pair}
use Rattle.bson_bytes.specs.declared.fault.Fault.{Fault}
use Rattle.bson_bytes.specs.declared.fault.FaultKind.TheVariants.{DuplicateKey}
use Rattle.bson_bytes.specs.Fault.{fault_at}
use Rattle.bson_bytes.specs.Grammar.{insert_value, deduplicated_onto, deduplicated}
use Rattle.bson_bytes.specs.Reading.{read_name, read_key, is_new_key}
use Rattle.bson.specs.Pairs.{get, insert_pair}
use Rattle.bson.specs.View.{bson_view, document_view, pairs_view, contents}
use Rattle.bson.specs.declared.bson.Bson.{Bson}
use Rattle.bson.specs.declared.document.Document.{Document}
use Rattle.bson_bytes.specs.Source.{reversed_keys, with_last_pair}
use Rattle.bson_bytes.proofs.OfferedSource.{keys_back_more}
use Rattle.bson_codec.proofs.Listed.{pairs_view-put}
use Rattle.bson_codec.proofs.Seen.{document_view-pairs}
use Rattle.bson_codec.specs.ReadToMemory.{HaveKeys}

-- ---- its keys once a pair is inserted

some_by : (b : Bool) (v : Bson) → is_some (cond b (Some v) None) ≡ cond b true false
some_by true v = refl
some_by false v = refl

put_there : (c : Bool) (v w : Bson) (o : Option Bson)
    → is_some (cond c (Some v) o) ≡ cond c true (is_some (cond c (Some w) o))
put_there true v w o = refl
put_there false v w o = refl

put_behind : (c e : Bool) (w : Bson) (m o : Option Bson) → is_some m ≡ cond c true (is_some o)
    → is_some (cond e (Some w) m) ≡ cond c true (is_some (cond e (Some w) o))
put_behind true true w m o h = refl
put_behind true false w m o h = h
put_behind false true w m o h = refl
put_behind false false w m o h = h

put_either : (b : Bool) (q k : List ℕ) (v : Bson) (p : List ℕ × Bson) (ps more : List (List ℕ × Bson))
    → (b ≡ true → k ≡ p.0) → is_some (get q more) ≡ cond (bytes_eq q k) true (is_some (get q ps))
    → is_some (get q (cond b ((p.0, v) ∷ ps) (p ∷ more))) ≡ cond (bytes_eq q k) true (is_some (get q (p ∷ ps)))
put_either true q k v p ps more same h =
    put_there (bytes_eq q p.0) v p.1 (get q ps)
    ∙ ap (λ (l : List ℕ). cond (bytes_eq q l) true (is_some (get q (p ∷ ps)))) (sym (same refl))
put_either false q k v p ps more same h = put_behind (bytes_eq q k) (bytes_eq q p.0) p.1 (get q more) (get q ps) h

keys_put : (q k : List ℕ) (v : Bson) (ps : List (List ℕ × Bson))
    → is_some (get q (insert_pair k v ps)) ≡ cond (bytes_eq q k) true (is_some (get q ps))
keys_put q k v [] = some_by (bytes_eq q k) v
keys_put q k v (p ∷ ps) =
    put_either (bytes_eq k p.0) q k v p ps (insert_pair k v ps) (λ t. (bytes_eq-Decides k p.0).0 t) (keys_put q k v ps)

known_by : (b c : Bool) → cond b true (cond c false true) ≡ cond (cond b false c) false true
known_by true c = refl
known_by false c = refl

keys_more : (ks : List (List ℕ)) (ps qs : List (List ℕ × Bson)) (k : List ℕ) (v : Bson) → HaveKeys ks ps
    → qs ≡ insert_pair k v ps → HaveKeys (k ∷ ks) qs
keys_more ks ps qs k v h is = λ q.
    ap (λ (x : List (List ℕ × Bson)). is_some (get q x)) is ∙ keys_put q k v ps
    ∙ ap (λ (b : Bool). cond (bytes_eq q k) true b) (h q) ∙ known_by (bytes_eq q k) (is_new_key q ks)

-- ---- the pairs that it holds

-- the document is that of the pairs, and has their keys
abbrev pub Distinct : Pairs → Document → Type 0
Distinct ps d = (document_view d ≡ deduplicated ps) × HaveKeys (reversed_keys ps []) (contents d)

settle_more : (done ps : Pairs) (k : List ℕ) (v : Value) → deduplicated_onto done (with_last_pair ps k v) ≡ insert_value k v (deduplicated_onto done ps)
settle_more done no_pairs k v = refl
settle_more done (pair l w ps) k v = settle_more (insert_value l w done) ps k v

pub distinct_none : (d : Document) → contents d ≡ [] → Distinct no_pairs d
distinct_none d none =
    (document_view-pairs d ∙ ap pairs_view none, λ q. ap (λ (x : List (List ℕ × Bson)). is_some (get q x)) none)

pub distinct_more : (ps : Pairs) (d new : Document) (k : List ℕ) (v : Bson) → contents new ≡ insert_pair k v (contents d)
    → Distinct ps d → Distinct (with_last_pair ps k (bson_view v)) new
distinct_more ps d new k v put (seen, keys) = (
  document_view-pairs new ∙ ap pairs_view put ∙ pairs_view-put k v (contents d)
      ∙ ap (insert_value k (bson_view v)) (sym (document_view-pairs d) ∙ seen) ∙ sym (settle_more no_pairs ps k (bson_view v)),
  subst (λ ks. HaveKeys ks (contents new)) (sym (keys_back_more ps [] k (bson_view v)))
      (keys_more (reversed_keys ps []) (contents d) (contents new) k v keys put),
)

-- ---- its keys

pub key_bad : (ks : List (List ℕ)) (bytes : List ℕ) (f : Fault) → read_name bytes ≡ Err f → read_key (Some ks) bytes ≡ Err f
key_bad ks bytes f e = rw e refl

new_by : (b c : Bool) → c ≡ cond b false true → c ≡ true → b ≡ false
new_by true c is t = absurd cc
new_by false c is t = refl

new_unless : (b c : Bool) → c ≡ cond b false true → c ≡ false → b ≡ true
new_unless true c is t = refl
new_unless false c is t = absurd cc

pub key_twice : (ks : List (List ℕ)) (ps : List (List ℕ × Bson)) (bytes s rest : List ℕ) → HaveKeys ks ps
    → read_name bytes ≡ Ok (s, rest) → is_some (get s ps) ≡ true → read_key (Some ks) bytes ≡ Err (fault_at DuplicateKey bytes)
key_twice ks ps bytes s rest h e t = rw (e, new_by (is_new_key s ks) (is_some (get s ps)) (h s) t) refl

pub key_once : (ks : List (List ℕ)) (ps : List (List ℕ × Bson)) (bytes s rest : List ℕ) → HaveKeys ks ps
    → read_name bytes ≡ Ok (s, rest) → is_some (get s ps) ≡ false → read_key (Some ks) bytes ≡ Ok (s, rest)
key_once ks ps bytes s rest h e t = rw (e, new_unless (is_new_key s ks) (is_some (get s ps)) (h s) t) refl
