use Rattle.std.proofs.Common.{ap, sym, ◌∙◌, fold}
use Rattle.std.specs.Hash.DefaultHasher as sip
use Rattle.bson_model.proofs.Offered.{same_feeds}
use Rattle.bson_model.specs.HashInput.{sorted_hash_input}
use Rattle.bson.specs.View.{bson_view}
use Rattle.vbson.proofs.comparison.hash_of.Goals as goal

-- values that are the same feed a hasher the same words
pub returns-clause-equal_values_hash_alike : goal.returns-clause-equal_values_hash_alike
returns-clause-equal_values_hash_alike c other h =
    let words = sorted_hash_input (bson_view c.args.value.now) in
    let fed = c.hash.ensures ∙ ap (λ state. fold sip.write state words) c.new-hasher.ensures in
    ap (λ ws. sip.finish (fold sip.write sip.initial ws)) (sym (same_feeds.fed (bson_view c.args.value.now) other h))
    ∙ sym (c.finish.ensures ∙ ap sip.finish fed)
