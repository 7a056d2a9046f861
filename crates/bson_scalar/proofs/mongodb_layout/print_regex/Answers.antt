use Rattle.std.proofs.Common.{◌≡◌, [], ◌∷◌, ◌++◌, ◌∙◌, ap, codes, string_bytes, subst}
use Rattle.json.specs.Token.{begin_object, end_object, key, string}
use Rattle.bson_types.specs.Regex.{sorted_regex_options}
use Rattle.bson_scalar.proofs.InTurn.{in_turn, on_ok}
use Rattle.bson_scalar.proofs.mongodb_layout.print_regex.Goals as goal

pub returns-clause-printed : goal.returns-clause-printed
returns-clause-printed c =
    let old = c.args.writer.now.tokens in
    let pattern = string (string_bytes c.args.regex.pattern) in
    let options = string (sorted_regex_options (string_bytes c.args.regex.options)) in
    let pattern_put = subst (λ z. c.string.new.self.tokens ≡ c.key-2.new.self.tokens ++ string z ∷ []) c.as_str-2.ensures.value
    c.in_ok-string.ensures.ok in
    let sorted : c.as_str-3.result.now ≡ sorted_regex_options (string_bytes c.args.regex.options) =
    c.as_str-3.ensures.value ∙ c.in_ok-sorted_options.ensures ∙ ap sorted_regex_options c.as_str.ensures.value in
    let options_put = subst (λ z. c.string-2.new.self.tokens ≡ c.key-3.new.self.tokens ++ string z ∷ []) sorted
    c.in_ok-string-2.ensures.ok in
    let s1 = in_turn old (begin_object ∷ []) c.begin_object.new.self.tokens (key (codes "$regularExpression") ∷ []) c.key.new.self.tokens c.in_ok-begin_object.ensures.ok c.in_ok-key.ensures.ok in
    let s2 = in_turn old (begin_object ∷ key (codes "$regularExpression") ∷ []) c.key.new.self.tokens (begin_object ∷ []) c.begin_object-2.new.self.tokens s1 c.in_ok-begin_object-2.ensures.ok in
    let s3 = in_turn old (begin_object ∷ key (codes "$regularExpression") ∷ begin_object ∷ []) c.begin_object-2.new.self.tokens (key (codes "pattern") ∷ []) c.key-2.new.self.tokens s2 c.in_ok-key-2.ensures.ok in
    let s4 = in_turn old (begin_object ∷ key (codes "$regularExpression") ∷ begin_object ∷ key (codes "pattern") ∷ []) c.key-2.new.self.tokens (pattern ∷ []) c.string.new.self.tokens s3 pattern_put in
    let s5 = in_turn old (begin_object ∷ key (codes "$regularExpression") ∷ begin_object ∷ key (codes "pattern") ∷ pattern ∷ []) c.string.new.self.tokens (key (codes "options") ∷ []) c.key-3.new.self.tokens s4 c.in_ok-key-3.ensures.ok in
    let s6 = in_turn old (begin_object ∷ key (codes "$regularExpression") ∷ begin_object ∷ key (codes "pattern") ∷ pattern ∷ key (codes "options") ∷ []) c.key-3.new.self.tokens (options ∷ []) c.string-2.new.self.tokens s5 options_put in
    let s7 = in_turn old (begin_object ∷ key (codes "$regularExpression") ∷ begin_object ∷ key (codes "pattern") ∷ pattern ∷ key (codes "options") ∷ options ∷ []) c.string-2.new.self.tokens (end_object ∷ []) c.end_object.new.self.tokens s6 c.in_ok-end_object.ensures.ok in
    on_ok c.end_object-2.result
    (λ last. in_turn old (begin_object ∷ key (codes "$regularExpression") ∷ begin_object ∷ key (codes "pattern") ∷ pattern ∷ key (codes "options") ∷ options ∷ end_object ∷ []) c.end_object.new.self.tokens (end_object ∷ []) c.end_object-2.new.self.tokens s7 last) c.end_object-2.ensures.ok
