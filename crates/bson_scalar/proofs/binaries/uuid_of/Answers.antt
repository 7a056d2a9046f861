use Rattle.std.proofs.Common.{◌≡◌, List, ℕ, Option, Some, None, refl, sym, arith}
use Rattle.bson_types.specs.UuidByteOrder.{parsed_hyphenated}
use Rattle.bson_types.specs.Uuid.{hyphenated}
use Rattle.bson_types.proofs.Offered.{hyphenated_from, hyphenated_to, long_is_hyphenated}
use Rattle.bson_scalar.proofs.binaries.uuid_of.Goals as goal

none : (o : Option (List ℕ)) → ((id : List ℕ) → ¬ (o ≡ Some id)) → None ≡ o
none None h = refl
none (Some id) h = absurd (h id refl)

pub returns-in-Ok : goal.returns-in-Ok
returns-in-Ok c =
    let text = c.args.text.now in
    sym (hyphenated_to text c.in-Ok.id (long_is_hyphenated text c.in-Ok.id (omega arith) c.in-Ok.ensures.ok))

pub returns-in-Err : goal.returns-in-Err
returns-in-Err c =
    let text = c.args.text.now in
    none (parsed_hyphenated text)
    (λ id read. cc (c.in-Err.ensures.valid id (hyphenated text id (hyphenated_from text id read))))
