-- Pairs inserted one after another, without a duplicate key.
use Rattle.std.proofs.Common.{◌≡◌, ℕ, List, [], ◌∷◌, ◌++◌, length, None, Some, slice_get, refl, sym, ap, subst, ◌∙◌}
use Rattle.std.proofs.Common.{append_assoc}
use Rattle.std.proofs.Math.Seq.{take-append_seam}
use Rattle.std.proofs.lemmas.List.{append-nil}
use Rattle.bson_store.specs.Pairs.{position_of, insert_pairs, HasDistinctKeys}
use Rattle.bson_store.proofs.Distinct.{absent-before}
use Rattle.bson_store.proofs.Found.{put-absent}

module _ {V : Type 0} where
  seam : (ps : List (List ℕ × V)) (p : List ℕ × V) (qs : List (List ℕ × V))
      → slice_get (ps ++ p ∷ qs) (length ps) ≡ Some p
  seam [] p qs = refl
  seam (q ∷ ps) p qs = seam ps p qs

  put_behind : (qs done : List (List ℕ × V)) → HasDistinctKeys (done ++ qs) → insert_pairs qs done ≡ done ++ qs
  put_behind [] done d = sym (append-nil done)
  put_behind (p ∷ qs) done d =
      let absent : position_of p.0 done ≡ None =
      ap (position_of p.0) (sym (take-append_seam done (p ∷ qs)))
      ∙ absent-before (done ++ p ∷ qs) (length done) p d (seam done p qs) in
      ap (insert_pairs qs) (sym (put-absent p.0 done p.1 absent))
      ∙ put_behind qs (done ++ p ∷ []) (subst (λ ps. HasDistinctKeys ps) (sym (append_assoc done (p ∷ []) qs)) d)
      ∙ append_assoc done (p ∷ []) qs

  -- they are the same list
  pub put_distinct : (ps : List (List ℕ × V)) → HasDistinctKeys ps → insert_pairs ps [] ≡ ps
  put_distinct ps d = put_behind ps [] d
