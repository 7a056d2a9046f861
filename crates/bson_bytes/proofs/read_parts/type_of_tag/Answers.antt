use Rattle.std.proofs.Common.{refl, arith}
use Rattle.bson_bytes.specs.TypeTags.{type_of_tag}
use Rattle.bson_bytes.proofs.Tagged.{kind_is, no_kind}
use Rattle.bson_bytes.proofs.read_parts.type_of_tag.Goals as goal

pub returns-then-tag-lt20 : goal.returns-then-tag-lt20
returns-then-tag-lt20 c = kind_is c.args.tag c.from.result c.from.ensures

pub returns-then-tag-eq127 : goal.returns-then-tag-eq127
unfolding type_of_tag
returns-then-tag-eq127 c = rw c.if-tag-eq127.true refl

pub returns-then-tag-eq255 : goal.returns-then-tag-eq255
unfolding type_of_tag
returns-then-tag-eq255 c = rw c.if-tag-eq255.true refl

pub returns-else-tag-eq255 : goal.returns-else-tag-eq255
returns-else-tag-eq255 c =
    no_kind c.args.tag (omega (arith, c.if-tag-lt20.false)) c.if-tag-eq127.false c.if-tag-eq255.false
