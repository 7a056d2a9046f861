use Rattle.std.proofs.Common.{[], ◌∷◌, codes, decimal}
use Rattle.json.specs.Token.{begin_object, end_object, key, number}
use Rattle.bson_scalar.proofs.Offered.{on_ok}
use Rattle.bson.proofs.Direct.{then}
use Rattle.bson.proofs.extjson.without_allocation.put_timestamp.Goals as goal

pub returns-clause-put : goal.returns-clause-put
returns-clause-put c =
    let old = c.args.writer.now.tokens in
    let name = key (codes "$timestamp") in
    let i = number (decimal c.args.timestamp.increment) in
    let t = number (decimal c.args.timestamp.time) in
    let two = then old (begin_object ∷ []) c.begin_object.new.self.tokens c.key.new.self.tokens name
    c.in_ok-begin_object.ensures.ok c.in_ok-key.ensures.ok in
    let three = then old (begin_object ∷ name ∷ []) c.key.new.self.tokens c.begin_object-2.new.self.tokens begin_object
    two c.in_ok-begin_object-2.ensures.ok in
    let four = then old (begin_object ∷ name ∷ begin_object ∷ []) c.begin_object-2.new.self.tokens
    c.key-2.new.self.tokens (key (codes "i")) three c.in_ok-key-2.ensures.ok in
    let five = then old (begin_object ∷ name ∷ begin_object ∷ key (codes "i") ∷ []) c.key-2.new.self.tokens
    c.u64.new.self.tokens i four c.in_ok-u64.ensures.ok in
    let six = then old (begin_object ∷ name ∷ begin_object ∷ key (codes "i") ∷ i ∷ []) c.u64.new.self.tokens
    c.key-3.new.self.tokens (key (codes "t")) five c.in_ok-key-3.ensures.ok in
    let seven = then old (begin_object ∷ name ∷ begin_object ∷ key (codes "i") ∷ i ∷ key (codes "t") ∷ [])
    c.key-3.new.self.tokens c.u64-2.new.self.tokens t six c.in_ok-u64-2.ensures.ok in
    let eight = then old (begin_object ∷ name ∷ begin_object ∷ key (codes "i") ∷ i ∷ key (codes "t") ∷ t ∷ [])
    c.u64-2.new.self.tokens c.end_object.new.self.tokens end_object seven c.in_ok-end_object.ensures.ok in
    on_ok c.end_object-2.result
    (λ last. then old
    (begin_object ∷ name ∷ begin_object ∷ key (codes "i") ∷ i ∷ key (codes "t") ∷ t ∷ end_object ∷ [])
    c.end_object.new.self.tokens c.end_object-2.new.self.tokens end_object eight last) c.end_object-2.ensures.ok
