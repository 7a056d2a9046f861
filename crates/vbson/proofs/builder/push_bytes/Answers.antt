use Rattle.std.proofs.Common.{arith, ap, ◌∙◌, ◌++◌, ◌+◌, ◌-◌, length, take, refl, List, ℕ}
use Rattle.std.proofs.lemmas.Slice.{take-put_mid, drop-put_mid}
use borrow.Rule.Slice.PartMut.{same_len_mid}
use Rattle.vbson.proofs.builder.push_bytes.Goals as goal

pub returns-clause-push_bytes : goal.returns-clause-push_bytes
returns-clause-push_bytes c =
    let n = c.args.builder.now.len in
    let xs = c.args.builder.now.bytes.now in
    let ys = c.copy_from_slice.new.self in
    let k = n + length c.args.bytes.now - n in
    let long = ap length c.copy_from_slice.ensures.after in
    record {
      fits = c.requires;
      written_bytes = take-put_mid n k xs ys (n + length c.args.bytes.now) (omega (arith, long)) (omega (arith, c.requires)) ∙ ap (λ (x : List ℕ). take n xs ++ x) c.copy_from_slice.ensures.after;
      len = refl;
      rest_unchanged = drop-put_mid n k xs ys (n + length c.args.bytes.now) (omega arith) (omega (arith, c.requires)) (omega (arith, long));
      size = same_len_mid n k xs ys c.copy_from_slice.ensures.len;
    }
