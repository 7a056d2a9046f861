use Rattle.std.proofs.Common.{◌≡◌, rules, true}
use Rattle.std.proofs.lemmas.Str.{is_utf8-from_IsUtf8}
use Rattle.std.specs.Str.{is_utf8}
use Rattle.bson_types.specs.Regex.{sorted_regex_options}
use Rattle.bson_types.proofs.regex.sort_characters.Goals as goal

pub returns : goal.returns
unfolding sorted_regex_options
returns c =
    let text : is_utf8 c.args.text.now ≡ true = is_utf8-from_IsUtf8 c.args.text.now c.utf8.text in
    rw text (search rules)
