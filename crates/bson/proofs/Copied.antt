-- Copies of pairs, seen by their values, and pairs inserted in turn.
use Rattle.std.proofs.Common.{◌≡◌, ℕ, suc, ◌+◌, cond, List, [], ◌∷◌, ◌++◌, map, take, None, Some, option_map, slice_get}
use Rattle.std.proofs.Common.{String, Global, string_bytes, refl, sym, ap, ◌∙◌}
use Rattle.std.specs.Str.{bytes_eq}
use Rattle.bson_store.specs.Pairs.{position_of, insert_pair, keys, values, HasDistinctKeys}
use Rattle.bson.specs.InsertedPairs.{insert_all_pairs}
use Rattle.bson_store.proofs.Offered.{absent-before, take-next}
use Rattle.bson_model.specs.Value.{Value}
use Rattle.bson.specs.View.{bson_view}
use Rattle.bson.specs.declared.bson.Bson.{Bson}
use Rattle.bson.proofs.Places.{pair_from}

abbrev pub viewed : List (List ℕ × Bson) → List (List ℕ × Value)
viewed ps = map (λ p. (p.0, bson_view p.1)) ps

place-viewed : (k : List ℕ) (ps : List (List ℕ × Bson)) → position_of k (viewed ps) ≡ position_of k ps
place-viewed k [] = refl
place-viewed k (p ∷ ps) = ap (λ r. cond (bytes_eq k p.0) (Some 0) (option_map suc r)) (place-viewed k ps)

viewed-push : (ps : List (List ℕ × Bson)) (p : List ℕ × Bson)
    → viewed (ps ++ p ∷ []) ≡ viewed ps ++ (p.0, bson_view p.1) ∷ []
viewed-push [] p = refl
viewed-push (q ∷ ps) p = ap (λ l. (q.0, bson_view q.1) ∷ l) (viewed-push ps p)

-- of a copy of the first pairs, the next key, which is copied as `key`, and its value
module _ (copies ps : List (List ℕ × Bson)) (i : ℕ) (key k : List ℕ) (v : Bson) (is : key ≡ k)
    (at_k : Some k ≡ slice_get (keys ps) i) (at_v : Some v ≡ slice_get (values ps) i)
    (h : viewed copies ≡ viewed (take i ps)) where
  -- the copy lacks the key
  pub copy_lacks : HasDistinctKeys ps → position_of key copies ≡ None
  copy_lacks d =
      ap (λ l. position_of l copies) is ∙ sym (place-viewed k copies) ∙ ap (position_of k) h
      ∙ place-viewed k (take i ps) ∙ absent-before ps i (k, v) d (pair_from ps i k v at_k at_v)

  -- and one more pair makes it a copy of one more
  pub copy_next : (w : Bson) → bson_view w ≡ bson_view v → viewed (copies ++ (key, w) ∷ []) ≡ viewed (take (i + 1) ps)
  copy_next w s =
      viewed-push copies (key, w) ∙ (λ j. h j ++ (is j, s j) ∷ []) ∙ sym (viewed-push (take i ps) (k, v))
      ∙ ap viewed (sym (take-next ps i (k, v) (pair_from ps i k v at_k at_v)))

pub put_all-push : {V : Type 0} (xs : List (String Global × V)) (x : String Global × V) (ps : List (List ℕ × V))
    → insert_all_pairs (xs ++ x ∷ []) ps ≡ insert_pair (string_bytes x.0) x.1 (insert_all_pairs xs ps)
put_all-push [] x ps = refl
put_all-push (y ∷ xs) x ps = put_all-push xs x (insert_pair (string_bytes y.0) y.1 ps)
