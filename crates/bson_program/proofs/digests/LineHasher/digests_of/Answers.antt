use Rattle.std.proofs.Common.{◌∙◌, ◌+◌, ap, arith, subst, sym}
use Rattle.bson_program.specs.Digests.{HasOpenLine}
use Rattle.bson_program.proofs.DigestLaws.{digest_added, digests_kept, line_ended, line_fed, line_grown, none_begun, none_ended}
use Rattle.bson_program.proofs.digests.LineHasher.digests_of.Goals as goal
use Rattle.bson_program.proofs.digests.LineHasher.digests_of.Goals.{then-byte-eq10+in_ok-push_digest, else-byte-eq10}

pub loop-offset-init : goal.loop-offset-init
loop-offset-init c = record {
  line_start = omega arith;
  line_sha256 = λ open_line holds. none_begun c.args.self.now.line_sha256 open_line c.args.bytes.now holds;
  digests = λ open_line holds. c.new-digests.ensures.items ∙ none_ended open_line;
}

pub loop-offset-preserved : goal.loop-offset-preserved
loop-offset-preserved c =
    let bytes = c.args.bytes.now in
    let offset = c.loop-offset.offset in
    let within = c.loop-offset-test.true in
    elim c.if-byte-eq10.branch [
      | then-byte-eq10+in_ok-push_digest w ↦ record {
        line_start = omega arith;
        line_sha256 = λ open_line holds. subst (λ s. HasOpenLine c.if-byte-eq10.self.line_sha256 open_line bytes s (offset + 1)) (sym w.line_start-is)
            (subst (λ h. HasOpenLine h open_line bytes (offset + 1) (offset + 1)) (sym (ap (λ s. s.line_sha256) w.self-is))
            (line_ended w.push_digest.new.line_sha256 open_line bytes offset within w.if-byte-eq10.true w.push_digest.ensures.hasher_reset));
        digests = λ open_line holds.
            let fed = line_fed c.loop-offset.self.line_sha256 w.update.new.self open_line bytes c.loop-offset.line_start offset (c.loop-offset.invariant.line_sha256 open_line holds) w.update.ensures in
            digest_added open_line bytes c.loop-offset.digests.items c.if-byte-eq10.digests.items offset within w.if-byte-eq10.true
            (c.loop-offset.invariant.digests open_line holds)
            (ap (λ v. v.items) w.digests-is ∙ w.in_ok-push_digest.ensures.digest_appended _ fed);
      }
      | else-byte-eq10 w ↦ record {
        line_start = omega arith;
        line_sha256 = λ open_line holds. subst (λ s. HasOpenLine c.if-byte-eq10.self.line_sha256 open_line bytes s (offset + 1)) (sym w.line_start-is)
            (subst (λ h. HasOpenLine h open_line bytes c.loop-offset.line_start (offset + 1)) (sym (ap (λ s. s.line_sha256) w.self-is))
            (line_grown c.loop-offset.self.line_sha256 open_line bytes c.loop-offset.line_start offset c.loop-offset.invariant.line_start within w.if-byte-eq10.false
            (c.loop-offset.invariant.line_sha256 open_line holds)));
        digests = λ open_line holds. digests_kept open_line bytes c.if-byte-eq10.digests.items offset within w.if-byte-eq10.false
            (ap (λ v. v.items) w.digests-is ∙ c.loop-offset.invariant.digests open_line holds);
      }
    ]
