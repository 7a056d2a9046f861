-- Keys whose hashes differ.
use Rattle.std.proofs.Common.{◌≡◌, ◌≢◌, ℕ, ◌<◌, List, length, map, ap, sym, ◌∙◌, arith, get_or}
use Rattle.std.proofs.lemmas.List.{get_or-map, length-map}
use Rattle.std.specs.List.{AllPairs}
use Rattle.json.specs.Strict.{AreDistinct}
use Rattle.bson_scalar.specs.KeyHash.{key_hash}

pub distinct_from_hashes : (ks : List (List ℕ)) (hs : List ℕ) → hs ≡ map key_hash ks → AllPairs (λ x y. x ≢ y) hs
    → AreDistinct ks
distinct_from_hashes ks hs are apart i j d less within e =
    let e' = key_hash d in
    let first = get_or-map key_hash ks i d e' (omega arith) in
    let second = get_or-map key_hash ks j d e' within in
    let members_after_brace : j < length hs = omega (arith, within, length-map ks key_hash, ap length are) in
    apart i j e' less members_after_brace
    (ap (λ x. get_or x i e') are ∙ first ∙ ap key_hash e ∙ sym second ∙ sym (ap (λ x. get_or x j e') are))
