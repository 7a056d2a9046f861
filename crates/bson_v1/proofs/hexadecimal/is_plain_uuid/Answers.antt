use Rattle.std.proofs.Common.{◌≡◌, ◌&&◌, nat_eq, ap, sym, ◌∙◌, rules, tests}
use Rattle.std.specs.List.{list_all}
use Rattle.std.proofs.lemmas.Iterator.{YieldsList-from_slice}
use Rattle.std.proofs.lemmas.Iterator.Search.{all_from_yields_List}
use Rattle.bson_v1.specs.Upgraded.{is_hex_digit}
use Rattle.bson_v1.proofs.hexadecimal.is_plain_uuid.Goals as goal

pub returns-then-bytes-eq32 : goal.returns-then-bytes-eq32
returns-then-bytes-eq32 c =
    let bytes = c.args.bytes.now in
    let all : c.all.result ≡ list_all is_hex_digit bytes =
    all_from_yields_List is_hex_digit _ _ c.all.result c.all.ensures.ran (YieldsList-from_slice bytes cc) (λ x b q k. search (rules, tests)) in
    all ∙ sym (ap (λ n. nat_eq n 32 && list_all is_hex_digit bytes) c.if-bytes-eq32.true)
