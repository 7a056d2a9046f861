use Rattle.bson_model.specs.TextMeaning.{HasTextMeaningInKeyOrder}
use Rattle.bson_model.specs.declared.options.KeyOrder.TheVariants.{AsGiven}
use Rattle.bson_codec.proofs.Whole.{text_packed}
use Rattle.bson_codec.proofs.pack.pack_with_scratch.Goals as goal

pub returns : goal.returns
returns c =
    let (ps, means, put) = c.in_ok-written.ensures.ok in
    record {
      ok = text_packed (HasTextMeaningInKeyOrder AsGiven c.args.doubles c.args.text.now) c.in_ok-written.written.bytes.items
          c.in_ok-with_capacity.field-0.items ps (c.utf8.text, means) put c.in_ok-with_capacity.ensures.items;
    }
