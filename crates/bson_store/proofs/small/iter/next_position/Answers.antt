use Rattle.std.proofs.Common.{slice_get, string_bytes, option_map, sym, ap, subst, ◌∙◌, arith}
use Rattle.bson_store.specs.Cursors.{remaining_pairs, IsCursorInBounds, IsCursorStep}
use Rattle.bson_store.specs.declared.small.iter.Cursor.{Cursor}
use Rattle.bson_store.specs.declared.small.iter.Cursor.TheVariants.{Sorted, Mapped, Above}
use Rattle.bson_store.proofs.Distinct.{drop-at}
use Rattle.bson_store.proofs.Least.{least_none}
use Rattle.bson_store.proofs.Turns.{pair_there, next_pair}
use Rattle.bson_store.proofs.Walks.{at, takes, slice_takes}
use Rattle.bson_store.proofs.small.iter.next_position.Goals as goal

pub returns-else-position-len : goal.returns-else-position-len
returns-else-position-len g c =
    let ps = c.args.pairs.now in
    let i = c.in-From.position in
    let within = subst (λ (t : Cursor). IsCursorInBounds t ps) c.in-From.is c.requires in
    let here = at ps i (omega (arith, within, c.if-position-len.false, c.len.ensures.len)) in (
      omega (arith, within, c.if-position-len.false, c.len.ensures.len),
      (
        here.0,
        ap (slice_get ps) (omega arith) ∙ here.1,
        ap (λ t. remaining_pairs t ps) c.in-From.is ∙ drop-at ps i here.0 here.1,
      ),
    )

pub returns-in-Sorted : goal.returns-in-Sorted
returns-in-Sorted g c =
    let ps = c.args.pairs.now in
    let r = c.next.result in
    let new = c.next.new.self in
    subst (λ (t : Cursor). IsCursorStep ps t c.copied.result (Sorted new)) (sym c.in-Sorted.is)
    (subst (λ x. IsCursorStep ps (Sorted c.in-Sorted.positions) x (Sorted new)) (sym c.copied.ensures)
    (takes _ _ ps r (slice_takes c.in-Sorted.positions new r c.next.ensures.steps)
    (subst (λ (t : Cursor). IsCursorInBounds t ps) c.in-Sorted.is c.requires)))

pub returns-in-Mapped : goal.returns-in-Mapped
returns-in-Mapped g c =
    let ps = c.args.pairs.now in
    let new = c.next-in-Mapped.new.self in
    subst (λ (t : Cursor). IsCursorStep ps t c.copied-in-Mapped.result (Mapped new)) (sym c.in-Mapped.is)
    (subst (λ x. IsCursorStep ps (Mapped c.in-Mapped.positions) x (Mapped new)) (sym c.copied-in-Mapped.ensures)
    (takes c.in-Mapped.positions new ps c.next-in-Mapped.result c.next-in-Mapped.ensures.steps
    (subst (λ (t : Cursor). IsCursorInBounds t ps) c.in-Mapped.is c.requires)))

pub returns-in_err-position-in-Above : goal.returns-in_err-position-in-Above
returns-in_err-position-in-Above g c =
    let ps = c.args.pairs.now in
    let previous_key = c.in-Above.previous_key in
    let none = least_none (option_map (λ s. string_bytes s.now) previous_key) ps c.in_err-position-in-Above.ensures.least in
    subst (λ (t : Cursor). IsCursorStep ps t c.from_residual.result (Above previous_key)) (sym c.in-Above.is)
    (subst (λ r. IsCursorStep ps (Above previous_key) r (Above previous_key)) (sym c.from_residual.ensures) (tt, (none, none)))

pub returns-in_ok-position-in-Above : goal.returns-in_ok-position-in-Above
returns-in_ok-position-in-Above g c =
    let ps = c.args.pairs.now in
    let i = c.in_ok-position-in-Above.position in
    let k = string_bytes c.key_at.result.now in
    let there = pair_there ps i k c.key_at.ensures in (
      tt,
      (
        (k, there.0),
        there.1,
        ap (λ t. remaining_pairs t ps) c.in-Above.is
            ∙ next_pair ps (option_map (λ s. string_bytes s.now) c.in-Above.previous_key) i (k, there.0) there.1
            c.in_ok-position-in-Above.ensures.least,
      ),
    )
