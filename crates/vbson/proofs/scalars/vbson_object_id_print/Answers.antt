use Rattle.std.proofs.Common.{◌≡◌, IsUtf8, rules, subst, sym}
use Rattle.bson_types.specs.ObjectIds.{encode_lower}
use Rattle.vbson.proofs.Utf8.{digits_utf8}
use Rattle.vbson.proofs.scalars.vbson_object_id_print.Goals as goal

pub write_string-requires : goal.write_string-requires
write_string-requires c =
    let written : c.encode_to_slice.new.output ≡ encode_lower c.args.bytes.now = search rules in
    subst IsUtf8 (sym written) (digits_utf8 c.args.bytes.now)
