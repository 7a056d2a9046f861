use Rattle.std.proofs.Common.{rules, ◌≡◌, codes, refl, string_bytes}
use Rattle.serde_json.specs.Data.{string}
use Rattle.bson_types.specs.Regex.{sorted_regex_options}
use Rattle.bson_scalar.specs.TreeParts.{two_key_object}
use Rattle.bson_scalar.proofs.Appending.{if_ok}
use Rattle.bson_scalar.proofs.regexes.write_regex.Goals as goal

pub write_two_texts_object-requires : goal.write_two_texts_object-requires
write_two_texts_object-requires g c = λ d e. refl

pub returns-clause-written : goal.returns-clause-written
returns-clause-written g c =
    let regex = c.args.regex in
    let sorted_options : string_bytes c.in_ok-sorted_options.sorted_options ≡ sorted_regex_options (string_bytes regex.options) = search rules in
    let content_tree = two_key_object (codes "options") (string (sorted_regex_options (string_bytes regex.options))) (codes "pattern")
    (string (string_bytes regex.pattern)) in
    if_ok c.end_one_key_object.result c.end_one_key_object.ensures.written
    (λ t ends. ends c.args.sink.now c.begin_object.new.sink (codes "$regularExpression") content_tree c.in_ok-key.ensures.written
    (rw sorted_options at c.in_ok-content_tree.ensures.written))
