use Rattle.std.proofs.Common.{◌<◌, ◌^◌, ℕ, suc, List, [], ◌∷◌, get_or, Fits, w32}
use Rattle.std.specs.List.{AllByRecursion}
use Rattle.bson_types.proofs.vector.float32_words_in_range.Goals as goal

small : (xs : List ℕ) → ((i : ℕ) → Fits w32 (get_or xs i 0)) → AllByRecursion (λ n. n < 2 ^ 32) xs
small [] h = tt
small (x ∷ xs) h = ((h 0).fits, small xs (λ i. h (suc i)))

pub returns : goal.returns
returns c = small c.args.items.now c.type_inv.items
