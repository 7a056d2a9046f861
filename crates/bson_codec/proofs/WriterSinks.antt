-- Values, pairs and keys that a sink hands to a writer one after another.
use Rattle.std.proofs.Common.{◌≡◌, ℕ, ◌+◌, ◌-◌, Bool, true, false, cond, List, [], ◌∷◌, ◌++◌, length, map, take, drop}
use Rattle.std.proofs.Common.{refl, sym, ap, ◌∙◌, subst, arith, append_assoc, bytes_eq, take_all, length-drop}
use Rattle.std.proofs.lemmas.Bool.{or_parts, or_from}
use Rattle.bson_model.specs.DistinctKeys.{has_pair}
use Rattle.bson_model.specs.Value.{Value, Pairs, no_pairs, pair, array, document}
use Rattle.bson_model.proofs.OfferedInOrder.{turned}
use Rattle.bson_bytes.specs.Grammar.{insert_value, deduplicated_onto, deduplicated, pair_values}
use Rattle.bson_bytes.specs.Source.{with_last_pair}
use Rattle.bson_text.specs.TraversalResults.{ItemsWritten, PairsWritten, keys_of}
use Rattle.bson_codec.specs.ReadToMemory.{DocumentOrArray}
use Rattle.bson_codec.specs.WriterSinks.{IsSound, AreSound, Key, HasKeysAdded}

-- ---- keys

abbrev pub texts : List Key → List (List ℕ)
texts keys = map (λ k. k.now) keys

texts_join : (ks ls : List Key) → texts (ks ++ ls) ≡ texts ks ++ texts ls
texts_join [] ls = refl
texts_join (k ∷ ks) ls = ap (λ xs. k.now ∷ xs) (texts_join ks ls)

keys_last : (ps : Pairs) (k : List ℕ) (v : Value) → keys_of (with_last_pair ps k v) ≡ keys_of ps ++ k ∷ []
keys_last no_pairs k v = refl
keys_last (pair l w ps) k v = ap (λ xs. l ∷ xs) (keys_last ps k v)

pub keys_more : (ps : Pairs) (k : List ℕ) (v : Value) (old mid new last : List Key) → HasKeysAdded old (keys_of ps) mid
    → HasKeysAdded mid (k ∷ []) new → last ≡ new → HasKeysAdded old (keys_of (with_last_pair ps k v)) last
keys_more ps k v old mid new last (ks, is, named) (ls, more, name) same = (
  ks ++ ls,
  same ∙ more ∙ ap (λ xs. xs ++ ls) is ∙ append_assoc old ks ls,
  texts_join ks ls ∙ ap (λ xs. xs ++ texts ls) named ∙ ap (λ xs. keys_of ps ++ xs) name ∙ sym (keys_last ps k v),
)

drop_first : (old ks : List Key) → drop (length old) (old ++ ks) ≡ ks
drop_first [] ks = refl
drop_first (k ∷ old) ks = drop_first old ks

-- the keys after the old ones
pub own_keys : (old all : List Key) (names : List (List ℕ)) (n : ℕ) → HasKeysAdded old names all → n ≡ length old
    → texts (take (length all - n) (drop n all)) ≡ names
own_keys old all names n (ks, is, named) at =
    ap texts (take_all _ (drop n all) (omega (arith, length-drop n all)) ∙ ap (λ m. drop m all) at ∙ ap (drop (length old)) is ∙ drop_first old ks)
    ∙ named

-- ---- pairs and elements

pub sound_more : (ps : Pairs) (k : List ℕ) (v : Value) → AreSound ps → IsSound v → AreSound (with_last_pair ps k v)
sound_more no_pairs k v h sound = (sound, tt)
sound_more (pair l w ps) k v h sound = (h.0, sound_more ps k v h.1 sound)

module _ {W : Type 0} (wrote : W → List ℕ → Value → W → Type 0) where
  pub pairs_more : (wrote_key : W → List ℕ → W → Type 0) (ps : Pairs) (k : List ℕ) (v : Value) (begun before mid now : W)
      → PairsWritten wrote wrote_key ps begun before → wrote_key before k mid → wrote mid k v now
      → PairsWritten wrote wrote_key (with_last_pair ps k v) begun now
  pairs_more wrote_key no_pairs k v begun before mid now is key put =
      (mid, now, subst (λ s. wrote_key s k mid) (sym is) key, put, refl)
  pairs_more wrote_key (pair l w ps) k v begun before mid now (named, next, first_key, first, more) key put =
      (named, next, first_key, first, pairs_more wrote_key ps k v next before mid now more key put)

  pub items_more : (name : ℕ → List ℕ) (n : ℕ) (ps : Pairs) (k : List ℕ) (v : Value) (begun before now : W)
      → ItemsWritten wrote name n (pair_values ps) begun before → ((m : List ℕ) → wrote before m v now)
      → ItemsWritten wrote name n (pair_values (with_last_pair ps k v)) begun now
  items_more name n no_pairs k v begun before now is put = (now, subst (λ s. wrote s (name n) v now) (sym is) (put (name n)), refl)
  items_more name n (pair l w ps) k v begun before now (next, first, more) put =
      (next, first, items_more name (n + 1) ps k v next before now more put)

  -- a value under its name, or in an array
  pub element_given : (b : Bool) (wrote_key : W → List ℕ → W → Type 0) (name : ℕ → List ℕ) (Opened OpenedArray : W → Type 0) (First : Type 0)
      (old mid named last : List Key) (before between now : W) (ps : Pairs) (k : List ℕ) (v : Value)
      → ((w : W) (n m : List ℕ) (x : Value) (u : W) → wrote w n x u → wrote w m x u)
      → DocumentOrArray b
      ((begun : W) × Opened begun × PairsWritten wrote wrote_key ps begun before × First × HasKeysAdded old (keys_of ps) mid × AreSound ps)
      ((begun : W) × OpenedArray begun × ItemsWritten wrote name 0 (pair_values ps) begun before × (mid ≡ old) × AreSound ps)
      → DocumentOrArray b (wrote_key before k between × HasKeysAdded mid (k ∷ []) named) ((between ≡ before) × (named ≡ mid))
      → wrote between [] v now × (last ≡ named) × IsSound v
      → DocumentOrArray b
      ((begun : W) × Opened begun × PairsWritten wrote wrote_key (with_last_pair ps k v) begun now × First
      × HasKeysAdded old (keys_of (with_last_pair ps k v)) last × AreSound (with_last_pair ps k v))
      ((begun : W) × OpenedArray begun × ItemsWritten wrote name 0 (pair_values (with_last_pair ps k v)) begun now × (last ≡ old)
      × AreSound (with_last_pair ps k v))
  element_given true wrote_key name Opened OpenedArray First old mid named last before between now ps k v any
      (begun, opened, written, first, keys, sound) (key, added) (put, same, is) = (
        begun,
        opened,
        pairs_more wrote_key ps k v begun before between now written key (any between [] k v now put),
        first,
        keys_more ps k v old mid named last keys added same,
        sound_more ps k v sound is,
      )
  element_given false wrote_key name Opened OpenedArray First old mid named last before between now ps k v any
      (begun, opened, written, keys, sound) (still, kept) (put, same, is) = (
        begun,
        opened,
        items_more name 0 ps k v begun before now written (λ m. any before [] m v now (subst (λ s. wrote s [] v now) still put)),
        same ∙ kept ∙ keys,
        sound_more ps k v sound is,
      )

-- ---- ranges, and documents of which each key is there once

pub sound_items : (ps : Pairs) → AreSound ps → IsSound (array (pair_values ps))
sound_items no_pairs h = (tt, tt)
sound_items (pair k v ps) h = let rest = sound_items ps h.1 in ((h.0.0, rest.0), (h.0.1, rest.1))

has_by : (b : Bool) (q l : List ℕ) (v w : Value) (ps qs : Pairs) → bytes_eq q l ≡ false → has_pair q ps ≡ false
    → has_pair q qs ≡ false → has_pair q (cond b (pair l v ps) (pair l w qs)) ≡ false
has_by true q l v w ps qs apart h g = or_from (bytes_eq q l) (has_pair q ps) apart h
has_by false q l v w ps qs apart h g = or_from (bytes_eq q l) (has_pair q qs) apart g

has_after : (q k : List ℕ) (v : Value) (ps : Pairs) → bytes_eq q k ≡ false → has_pair q ps ≡ false
    → has_pair q (insert_value k v ps) ≡ false
has_after q k v no_pairs apart h = or_from (bytes_eq q k) false apart refl
has_after q k v (pair l w ps) apart h =
    let parts = or_parts (bytes_eq q l) (has_pair q ps) h in
    has_by (bytes_eq k l) q l v w ps (insert_value k v ps) parts.0 parts.1 (has_after q k v ps apart parts.1)

sound_by : (b : Bool) (k l : List ℕ) (v w : Value) (ps : Pairs) → bytes_eq k l ≡ b → IsSound v
    → IsSound (document (pair l w ps)) → IsSound (document (insert_value k v ps))
    → IsSound (document (cond b (pair l v ps) (pair l w (insert_value k v ps))))
sound_by true k l v w ps is sound ((r, rs), (lacks, d, ds)) more = ((sound.0, rs), (lacks, sound.1, ds))
sound_by false k l v w ps is sound ((r, rs), (lacks, d, ds)) more =
    ((r, more.0), (has_after l k v ps (turned k l is) lacks, d, more.1))

sound_after : (k : List ℕ) (v : Value) (ps : Pairs) → IsSound v → IsSound (document ps) → IsSound (document (insert_value k v ps))
sound_after k v no_pairs sound h = ((sound.0, tt), (refl, sound.1, tt))
sound_after k v (pair l w ps) sound ((r, rs), (lacks, d, ds)) =
    sound_by (bytes_eq k l) k l v w ps refl sound ((r, rs), (lacks, d, ds)) (sound_after k v ps sound (rs, ds))

sound_onto : (ps found : Pairs) → AreSound ps → IsSound (document found) → IsSound (document (deduplicated_onto found ps))
sound_onto no_pairs found h sound = sound
sound_onto (pair k v ps) found h sound = sound_onto ps (insert_value k v found) h.1 (sound_after k v found h.0 sound)

pub sound_document : (ps : Pairs) → AreSound ps → IsSound (document (deduplicated ps))
sound_document ps h = sound_onto ps no_pairs h (tt, tt)
