use Rattle.std.proofs.Common.{◌≡◌, arith, string_bytes}
use Rattle.std.proofs.lemmas.Result.{IfOk-weaker}
use Rattle.bson_v1.specs.Text.{IsUpgradedText, IsRewritten}
use Rattle.bson_v1.proofs.Complete.{upgraded_of, never_breaks}
use Rattle.bson_v1.proofs.upgraded.upgraded_text.Goals as goal

pub returns : goal.returns
returns c = record {
  ok = IfOk-weaker c.rewrite_normalized.result _ _ (λ written is. upgraded_of c.args.text.now _ (string_bytes written) c.in_ok-normalized_input.ensures.ok (rw (← c.as_str.ensures.value) is)) c.rewrite_normalized.ensures.ok;
  broken = never_breaks c.args.text.now _ _ c.rewrite_normalized.result c.in_ok-normalized_input.ensures.ok (rw (← c.as_str.ensures.value) c.rewrite_normalized.ensures.broken);
}
