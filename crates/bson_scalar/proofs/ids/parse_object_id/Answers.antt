use Rattle.std.proofs.Common.{◌≡◌, List, ℕ, Result, Ok, Err, refl, ap, rules}
use Rattle.hex.specs.declared.error.FromHexError.{FromHexError}
use Rattle.bson_types.proofs.Offered.{sized_from, sized_to}
use Rattle.bson_scalar.specs.Faults.{wrong_id}
use Rattle.bson_scalar.specs.Reading.{id_or_fault}
use Rattle.bson_scalar.proofs.ids.parse_object_id.Goals as goal

no_id : (s : List ℕ) (r : Result (List ℕ) FromHexError) → ((id : List ℕ) → ¬ (r ≡ Ok id)) → id_or_fault s r ≡ Err (wrong_id s)
no_id s (Ok id) none = absurd (none id refl)
no_id s (Err e) none = refl

pub returns-in-Ok : goal.returns-in-Ok
returns-in-Ok c =
    let is = c.in-Ok.ensures.ok in
    ap (id_or_fault c.args.text.now) (sized_to 12 c.args.text.now c.in-Ok.id is.0 is.1)

pub returns-in-Err : goal.returns-in-Err
returns-in-Err c =
    let none = no_id c.args.text.now _
    (λ id read. cc (c.in-Err.ensures.valid id (sized_from 12 c.args.text.now id read))) in
    (c.args.text.now, none, search rules)
