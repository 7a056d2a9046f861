use Rattle.std.proofs.Common.{◌≡◌, [], ◌∷◌, ◌++◌, ◌∙◌, codes, subst}
use Rattle.json.specs.Token.{begin_object, end_object, key, string}
use Rattle.bson_types.specs.DbPointer.{pointer_id, pointer_namespace}
use Rattle.bson_scalar.specs.Ids.{oid_tree}
use Rattle.bson_scalar.specs.Tokens.{tokens_of}
use Rattle.bson_scalar.proofs.InTurn.{in_turn, on_ok}
use Rattle.bson_scalar.proofs.mongodb_layout.print_pointer.Goals as goal

pub returns-clause-printed : goal.returns-clause-printed
returns-clause-printed c =
    let old = c.args.writer.now.tokens in
    let s = string (pointer_namespace c.args.pointer) in
    let id = tokens_of (oid_tree (pointer_id c.args.pointer)) in
    let s_put = subst (λ z. c.string.new.self.tokens ≡ c.key-2.new.self.tokens ++ string z ∷ [])
    (c.as_str.ensures.value ∙ c.into_parts-namespace.ensures.namespace) c.in_ok-string.ensures.ok in
    let id_put = subst (λ z. c.write_oid.new.sink.tokens ≡ c.key-3.new.self.tokens ++ tokens_of (oid_tree z))
    c.into_parts-namespace.ensures.id c.in_ok-write_oid.ensures.written in
    let name = key (codes "$dbPointer") in
    let one = begin_object ∷ [] in
    let s1 = in_turn old one c.begin_object.new.self.tokens (name ∷ []) c.key.new.self.tokens c.in_ok-begin_object.ensures.ok c.in_ok-key.ensures.ok in
    let s2 = in_turn old (begin_object ∷ name ∷ []) c.key.new.self.tokens one c.begin_object-2.new.self.tokens s1 c.in_ok-begin_object-2.ensures.ok in
    let s3 = in_turn old (begin_object ∷ name ∷ begin_object ∷ []) c.begin_object-2.new.self.tokens (key (codes "$ref") ∷ []) c.key-2.new.self.tokens s2 c.in_ok-key-2.ensures.ok in
    let s4 = in_turn old (begin_object ∷ name ∷ begin_object ∷ key (codes "$ref") ∷ []) c.key-2.new.self.tokens (s ∷ []) c.string.new.self.tokens s3 s_put in
    let front = begin_object ∷ name ∷ begin_object ∷ key (codes "$ref") ∷ s ∷ [] in
    let s5 = in_turn old front c.string.new.self.tokens (key (codes "$id") ∷ []) c.key-3.new.self.tokens s4 c.in_ok-key-3.ensures.ok in
    let s6 = in_turn old (front ++ key (codes "$id") ∷ []) c.key-3.new.self.tokens id c.write_oid.new.sink.tokens s5 id_put in
    let s7 = in_turn old (front ++ key (codes "$id") ∷ id) c.write_oid.new.sink.tokens (end_object ∷ []) c.end_object.new.self.tokens s6 c.in_ok-end_object.ensures.ok in
    on_ok c.end_object-2.result
    (λ last. in_turn old (front ++ key (codes "$id") ∷ (id ++ end_object ∷ [])) c.end_object.new.self.tokens (end_object ∷ []) c.end_object-2.new.self.tokens s7 last)
    c.end_object-2.ensures.ok
