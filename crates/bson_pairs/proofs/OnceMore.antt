-- What is converted to itself has no other output.
use Rattle.std.proofs.Common.{◌≡◌, ◌≢◌, ℕ, List, refl}
use Rattle.bson_convert.specs.Convert.{Converts, IsFixedPoint}
use Rattle.bson_convert.specs.declared.mode.Mode.{Mode}
use Rattle.bson_convert.specs.declared.mode.Mode.TheVariants.{Canonical, Relaxed, Show}

pub once_more : (mode : Mode) (once twice : List ℕ) → mode ≢ Show → IsFixedPoint mode once → Converts mode once twice
    → ((other : List ℕ) → Converts mode once other → other ≡ twice) → once ≡ twice
once_more Canonical once twice form kept x one = one once (kept.again (kept.shallow_if_text x.tree x.text))
once_more Relaxed once twice form kept x one = one once (kept.again (kept.shallow_if_text x.tree x.text))
once_more Show once twice form kept x one = absurd (form refl)
