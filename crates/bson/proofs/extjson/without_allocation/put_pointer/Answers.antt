use Rattle.std.proofs.Common.{◌≡◌, [], ◌∷◌, ◌++◌, codes, subst}
use Rattle.json.specs.Token.{begin_object, end_object, key, string}
use Rattle.bson_types.specs.DbPointer.{pointer_namespace, pointer_id}
use Rattle.bson_scalar.specs.Ids.{oid_tree}
use Rattle.bson_scalar.specs.Tokens.{tokens_of}
use Rattle.bson_scalar.proofs.Offered.{in_turn, on_ok}
use Rattle.bson.proofs.Direct.{then}
use Rattle.bson.proofs.extjson.without_allocation.put_pointer.Goals as goal

pub returns-clause-put : goal.returns-clause-put
returns-clause-put c =
    let old = c.args.writer.now.tokens in
    let name = key (codes "$dbPointer") in
    let id = tokens_of (oid_tree (pointer_id c.args.pointer.now)) in
    let s = string (pointer_namespace c.args.pointer.now) in
    let two = then old (begin_object ∷ []) c.begin_object.new.self.tokens c.key.new.self.tokens name
    c.in_ok-begin_object.ensures.ok c.in_ok-key.ensures.ok in
    let three = then old (begin_object ∷ name ∷ []) c.key.new.self.tokens c.begin_object-2.new.self.tokens begin_object
    two c.in_ok-begin_object-2.ensures.ok in
    let four = then old (begin_object ∷ name ∷ begin_object ∷ []) c.begin_object-2.new.self.tokens
    c.key-2.new.self.tokens (key (codes "$id")) three c.in_ok-key-2.ensures.ok in
    let five = in_turn old (begin_object ∷ name ∷ begin_object ∷ key (codes "$id") ∷ []) c.key-2.new.self.tokens id
    c.put_object_id.new.writer.tokens four (subst (λ i. c.put_object_id.new.writer.tokens ≡ c.key-2.new.self.tokens ++ tokens_of (oid_tree i))
    c.id.ensures c.in_ok-put_object_id.ensures.put) in
    let six = then old (begin_object ∷ name ∷ begin_object ∷ key (codes "$id") ∷ id) c.put_object_id.new.writer.tokens
    c.key-3.new.self.tokens (key (codes "$ref")) five c.in_ok-key-3.ensures.ok in
    let seven = then old (begin_object ∷ name ∷ begin_object ∷ key (codes "$id") ∷ (id ++ key (codes "$ref") ∷ []))
    c.key-3.new.self.tokens c.string.new.self.tokens s six
    (subst (λ z. c.string.new.self.tokens ≡ c.key-3.new.self.tokens ++ string z ∷ []) c.namespace.ensures
    c.in_ok-string.ensures.ok) in
    let eight = then old (begin_object ∷ name ∷ begin_object ∷ key (codes "$id") ∷ (id ++ key (codes "$ref") ∷ s ∷ []))
    c.string.new.self.tokens c.end_object.new.self.tokens end_object seven c.in_ok-end_object.ensures.ok in
    on_ok c.end_object-2.result
    (λ last. then old
    (begin_object ∷ name ∷ begin_object ∷ key (codes "$id") ∷ (id ++ key (codes "$ref") ∷ s ∷ end_object ∷ []))
    c.end_object.new.self.tokens c.end_object-2.new.self.tokens end_object eight last) c.end_object-2.ensures.ok
