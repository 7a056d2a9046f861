use Rattle.std.proofs.Common.{◌≡◌, sym, subst, string_bytes}
use Rattle.std.proofs.lemmas.Result.{IfOk-weaker}
use Rattle.bson.specs.Doubles.TheVariants.{Finite}
use Rattle.bson.specs.Form.TheVariants.{Canonical}
use Rattle.bson.specs.Texts.{IsTextInOrder}
use Rattle.bson.specs.Value.{document}
use Rattle.bson_codec.specs.ReadDocuments.{IsReadAsDocument}
use Rattle.bson_pairs.specs.RoundTrip.{round_trip_options}
use Rattle.bson.specs.KeyOrder.TheVariants.{AsGiven}
use Rattle.bson.specs.Options.{Options}
use Rattle.bson_run.specs.Encode.{Encodes}
use Rattle.bson_pairs.proofs.ComingBack.{decoded_again, text_one}
use Rattle.bson_pairs.proofs.round_trip.round_trip_text.Goals as goal

pub returns-clause-same : goal.returns-clause-same
returns-clause-same c = λ ps is back nests.
    let text = c.args.text.now in
    let read =
    decoded_again ps text is back c.in-Ok.bytes.items c.args.depth
    (subst (λ l. Encodes AsGiven round_trip_options l c.in-Ok.bytes.items) c.as_bytes.ensures.value
    (subst (λ (o : Options). Encodes o.key_order o c.as_bytes.result.now c.in-Ok.bytes.items) c.options.ensures c.in-Ok.ensures.ok))
    nests in
    IfOk-weaker c.decode_bytes.result (λ round_trip. IsTextInOrder Finite Canonical (document ps) (string_bytes round_trip))
    (λ round_trip. string_bytes round_trip ≡ text)
    (λ round_trip it. text_one Finite Canonical (document ps) (string_bytes round_trip) text it is)
    (c.decode_bytes.ensures.ok ps (subst (λ l. IsReadAsDocument c.args.depth l ps) (sym c.as_slice.ensures.value) read))
