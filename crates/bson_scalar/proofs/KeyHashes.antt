-- Numbers of which no two are equal.
use Rattle.std.proofs.Common.{◌≢◌, ℕ, List, IsPermutation, arith}
use Rattle.std.proofs.lemmas.Bool.Decides.{nat_tests, Decides-eqb}
use Rattle.std.proofs.lemmas.List.Kept.{AllPairs-from_increasing}
use Rattle.std.proofs.lemmas.List.Sorted.{IsPermutation-sym}
use Rattle.std.proofs.lemmas.Map.Keys.{IsDistinct-IsPermutation}
use Rattle.std.proofs.lemmas.Map.Made.{AllPairs-from_IsDistinct, IsDistinct-from_AllPairs}
use Rattle.std.proofs.Math.Dec.{eqb}
use Rattle.std.specs.List.{AllPairs}
use Rattle.std.specs.List.Sorted.{IsStrictlyIncreasing}

differ : (rising : List ℕ) → IsStrictlyIncreasing rising → AllPairs (λ x y. x ≢ y) rising
differ rising h i j d less within e =
    let below = AllPairs-from_increasing rising h i j d less within in omega (arith, below, e)

-- the same numbers in another order
pub moved_differ : (ns rising : List ℕ) → IsPermutation ns rising → IsStrictlyIncreasing rising
    → AllPairs (λ x y. x ≢ y) ns
moved_differ ns rising moved h =
    let apart = IsDistinct-from_AllPairs Decides-eqb rising (differ rising h) in
    AllPairs-from_IsDistinct Decides-eqb ns
    (IsDistinct-IsPermutation eqb (λ x y. grind (arith, nat_tests)) rising ns (IsPermutation-sym ns rising moved) apart)
