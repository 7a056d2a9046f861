use Rattle.std.proofs.Common.{◌≡◌, [], ◌∷◌, option_map, refl, sym, ap, ◌∙◌, arith}
use Rattle.std.proofs.lemmas.Result.{err_from_is_err_and}
use Rattle.json.specs.Token.{Token}
use Rattle.json.specs.Json as json
use Rattle.json.specs.Json.{value}
use Rattle.json.specs.Reads.{token_of}
use Rattle.json.proofs.Grammar.{value_is, value-begin_array, value-begin_object}
use Rattle.serde_json.specs.Data.{number}
use Rattle.serde_json.specs.Read.{of_json, converted}
use Rattle.bson_tokens.proofs.Starts.{none_begins, too_deep_array, too_deep_object}
use Rattle.bson_tokens.proofs.value_start.read_start.Goals as goal

pub returns-in-String-clause-ok : goal.returns-in-String-clause-ok
returns-in-String-clause-ok c =
    let first : c.args.reader.now ≡ token_of c.in_ok-token.token ∷ c.next.new.self = grind arith in
    let is : c.args.reader.now ≡ Token.string c.in-String.text.now ∷ c.next.new.self = grind (arith, first) in
    (json.string c.in-String.text.now, ap (value c.args.depth) is ∙ value_is c.args.depth _, refl)

pub returns-in-Some-clause-ok : goal.returns-in-Some-clause-ok
returns-in-Some-clause-ok c =
    let first : c.args.reader.now ≡ token_of c.in_ok-token.token ∷ c.next.new.self = grind arith in
    let s = c.in-Number.text.now in
    let is : c.args.reader.now ≡ Token.number s ∷ c.next.new.self = grind (arith, first) in
    (json.number s, ap (value c.args.depth) is ∙ value_is c.args.depth _, (s, refl, sym c.in-Some.ensures))

pub returns-in-Bool-clause-ok : goal.returns-in-Bool-clause-ok
returns-in-Bool-clause-ok c =
    let first : c.args.reader.now ≡ token_of c.in_ok-token.token ∷ c.next.new.self = grind arith in
    let is : c.args.reader.now ≡ Token.boolean c.in-Bool.truth_value ∷ c.next.new.self = grind (arith, first) in
    (json.boolean c.in-Bool.truth_value, ap (value c.args.depth) is ∙ value_is c.args.depth _, refl)

pub returns-in-Null-clause-ok : goal.returns-in-Null-clause-ok
returns-in-Null-clause-ok c =
    let first : c.args.reader.now ≡ token_of c.in_ok-token.token ∷ c.next.new.self = grind arith in
    let is : c.args.reader.now ≡ Token.null ∷ c.next.new.self = grind (arith, first) in
    (json.null, ap (value c.args.depth) is ∙ value_is c.args.depth _, refl)

pub returns-else-depth-eq0-clause-ok : goal.returns-else-depth-eq0-clause-ok
returns-else-depth-eq0-clause-ok c =
    let first : c.args.reader.now ≡ token_of c.in_ok-token.token ∷ c.next.new.self = grind arith in
    let is : c.args.reader.now ≡ Token.begin_array ∷ c.next.new.self =
    first ∙ ap (λ k. token_of k ∷ c.next.new.self) c.in-BeginArray.is in
    (omega arith, ap (value c.args.depth) is ∙ value-begin_array c.args.depth c.next.new.self (omega arith))

pub returns-else-depth-eq0-2-clause-ok : goal.returns-else-depth-eq0-2-clause-ok
returns-else-depth-eq0-2-clause-ok c =
    let first : c.args.reader.now ≡ token_of c.in_ok-token.token ∷ c.next.new.self = grind arith in
    let is : c.args.reader.now ≡ Token.begin_object ∷ c.next.new.self =
    first ∙ ap (λ k. token_of k ∷ c.next.new.self) c.in-BeginObject.is in
    (omega arith, ap (value c.args.depth) is ∙ value-begin_object c.args.depth c.next.new.self (omega arith))

-- ---- where no value starts

pub returns-in_err-token-clause-broken : goal.returns-in_err-token-clause-broken
returns-in_err-token-clause-broken c =
    let none : c.args.reader.now ≡ [] = grind arith in
    let p = err_from_is_err_and c.from_residual.result c.from_residual.ensures.1 in
    rw p.1 (λ broken. ap (λ ts. converted of_json (value c.args.depth ts)) none
    ∙ ap (converted of_json) (value_is c.args.depth []))

pub returns-in-None-clause-broken : goal.returns-in-None-clause-broken
returns-in-None-clause-broken c =
    let r = c.next.new.self in
    let first : c.args.reader.now ≡ token_of c.in_ok-token.token ∷ r = grind arith in
    let is : c.args.reader.now ≡ Token.number c.in-Number.text.now ∷ r = grind (arith, first) in
    λ broken. ap (converted of_json) (ap (value c.args.depth) is ∙ value_is c.args.depth _)
    ∙ ap (λ json_number. option_map (λ d. (d, r)) (option_map number json_number)) (sym c.in-None.ensures)

pub returns-in-EndObject-clause-broken : goal.returns-in-EndObject-clause-broken
returns-in-EndObject-clause-broken c =
    let first : c.args.reader.now ≡ token_of c.in_ok-token.token ∷ c.next.new.self = grind arith in
    λ broken. none_begins c.args.depth c.in_ok-token.token c.args.reader.now c.next.new.self first c.in-EndObject.is

pub returns-then-depth-eq0-clause-broken : goal.returns-then-depth-eq0-clause-broken
returns-then-depth-eq0-clause-broken c =
    let first : c.args.reader.now ≡ token_of c.in_ok-token.token ∷ c.next.new.self = grind arith in
    λ broken. too_deep_array c.args.depth c.args.reader.now c.next.new.self
    (first ∙ ap (λ k. token_of k ∷ c.next.new.self) c.in-BeginArray.is) (omega arith)

pub returns-then-depth-eq0-2-clause-broken : goal.returns-then-depth-eq0-2-clause-broken
returns-then-depth-eq0-2-clause-broken c =
    let first : c.args.reader.now ≡ token_of c.in_ok-token.token ∷ c.next.new.self = grind arith in
    λ broken. too_deep_object c.args.depth c.args.reader.now c.next.new.self
    (first ∙ ap (λ k. token_of k ∷ c.next.new.self) c.in-BeginObject.is) (omega arith)
