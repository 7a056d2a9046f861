use Rattle.std.proofs.Common.{◌≡◌, ◌≢◌, suc, true, false, add-one, take, ap, subst, sym, ◌∙◌}
use Rattle.std.proofs.lemmas.Slice.Eq.{bytes_eq-Decides}
use Rattle.bson_convert.proofs.CanonicalTexts.{canonical, uncanonical, unchanged}
use Rattle.bson_convert.specs.Convert.{IsUncanonicalAt}
use Rattle.bson_convert.proofs.canonical.check_canonical_line.Goals as goal

pub returns-then-eq-clause-ok : goal.returns-then-eq-clause-ok
returns-then-eq-clause-ok c =
    let bytes = c.args.bytes.now in
    let slice = c.as_slice.result.now in
    let same : slice ≡ bytes = (bytes_eq-Decides slice bytes).0 (sym c.eq.ensures ∙ c.if-eq.true) in
    canonical c.args.options bytes c.in_ok-text.text.items c.in_ok-text.ensures.ok (sym c.as_slice.ensures.value ∙ same)

pub returns-clause-accepts : goal.returns-clause-accepts
returns-clause-accepts c = λ own.
    let bytes = c.args.bytes.now in
    let same = unchanged c.args.options bytes c.in_ok-text.text.items c.in_ok-text.ensures.ok own in
    let yes : c.eq.result ≡ true =
    c.eq.ensures ∙ (bytes_eq-Decides c.as_slice.result.now bytes).1 (c.as_slice.ensures.value ∙ same) in
    let no : c.eq.result ≡ false = c.if-eq.false in
    absurd cc

pub returns-clause-fault : goal.returns-clause-fault
returns-clause-fault c =
    let n = c.common_len.result in
    let bytes = c.args.bytes.now in
    let text = c.in_ok-text.text.items in
    let is : c.as_slice-2.result.now ≡ text = c.as_slice-2.ensures.value in
    let other : bytes ≢ c.as_slice-2.result.now = λ e.
    let yes : c.eq.result ≡ true =
    c.eq.ensures ∙ (bytes_eq-Decides c.as_slice.result.now bytes).1 (c.as_slice.ensures.value ∙ sym is ∙ sym e) in
    let no : c.eq.result ≡ false = c.if-eq.false in
    absurd cc in
    subst (λ column. IsUncanonicalAt c.args.options column bytes) (sym (add-one n))
    (uncanonical c.args.options n bytes text c.in_ok-text.ensures.ok (c.common_len.ensures.common ∙ ap (take n) is)
    (subst (λ t. take (suc n) bytes ≢ take (suc n) t) is (c.common_len.ensures.maximal other)))
