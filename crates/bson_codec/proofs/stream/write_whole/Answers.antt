use Rattle.std.proofs.Common.{take, ◌++◌, sym, subst, ap, ◌∙◌, rules}
use Rattle.std.specs.Io.KnownBytes.{Appends}
use Rattle.std.proofs.KnownBytes.{Appends-trans}
use Rattle.std.proofs.lemmas.List.{take_rest, places}
use Rattle.std.proofs.Math.Seq.{take-add}
use Rattle.bson_codec.proofs.stream.write_whole.Goals as goal

pub loop-written_count-preserved : goal.loop-written_count-preserved
loop-written_count-preserved g c =
    let bytes = c.args.bytes.now in
    let written_count = c.loop-written_count.written_count in
    let n = c.in-Ok.count in (
      search (rules, places),
      subst (Appends _ _) (ap (λ l. take written_count bytes ++ take n l) (take_rest bytes written_count) ∙ sym (take-add written_count n bytes))
          (Appends-trans _ _ _ _ _ c.loop-written_count.invariant.1 c.in-Ok.ensures.bytes),
    )
