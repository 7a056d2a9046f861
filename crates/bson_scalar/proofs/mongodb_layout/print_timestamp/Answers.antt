use Rattle.std.proofs.Common.{◌≡◌, [], ◌∷◌, ◌++◌, arith, codes, decimal, string_bytes, subst}
use Rattle.json.specs.Token.{begin_object, end_object, key, number, string}
use Rattle.bson_scalar.proofs.InTurn.{in_turn, on_ok}
use Rattle.bson_scalar.proofs.mongodb_layout.print_timestamp.Goals as goal

pub returns-clause-printed : goal.returns-clause-printed
returns-clause-printed c =
    let old = c.args.writer.now.tokens in
    let t = number (decimal c.args.timestamp.time) in
    let i = number (decimal c.args.timestamp.increment) in
    let s1 = in_turn old (begin_object ∷ []) c.begin_object.new.self.tokens (key (codes "$timestamp") ∷ []) c.key.new.self.tokens c.in_ok-begin_object.ensures.ok c.in_ok-key.ensures.ok in
    let s2 = in_turn old (begin_object ∷ key (codes "$timestamp") ∷ []) c.key.new.self.tokens (begin_object ∷ []) c.begin_object-2.new.self.tokens s1 c.in_ok-begin_object-2.ensures.ok in
    let s3 = in_turn old (begin_object ∷ key (codes "$timestamp") ∷ begin_object ∷ []) c.begin_object-2.new.self.tokens (key (codes "t") ∷ []) c.key-2.new.self.tokens s2 c.in_ok-key-2.ensures.ok in
    let s4 = in_turn old (begin_object ∷ key (codes "$timestamp") ∷ begin_object ∷ key (codes "t") ∷ []) c.key-2.new.self.tokens (t ∷ []) c.u64.new.self.tokens s3 c.in_ok-u64.ensures.ok in
    let s5 = in_turn old (begin_object ∷ key (codes "$timestamp") ∷ begin_object ∷ key (codes "t") ∷ t ∷ []) c.u64.new.self.tokens (key (codes "i") ∷ []) c.key-3.new.self.tokens s4 c.in_ok-key-3.ensures.ok in
    let s6 = in_turn old (begin_object ∷ key (codes "$timestamp") ∷ begin_object ∷ key (codes "t") ∷ t ∷ key (codes "i") ∷ []) c.key-3.new.self.tokens (i ∷ []) c.u64-2.new.self.tokens s5 c.in_ok-u64-2.ensures.ok in
    let s7 = in_turn old (begin_object ∷ key (codes "$timestamp") ∷ begin_object ∷ key (codes "t") ∷ t ∷ key (codes "i") ∷ i ∷ []) c.u64-2.new.self.tokens (end_object ∷ []) c.end_object.new.self.tokens s6 c.in_ok-end_object.ensures.ok in
    on_ok c.end_object-2.result
    (λ last. in_turn old (begin_object ∷ key (codes "$timestamp") ∷ begin_object ∷ key (codes "t") ∷ t ∷ key (codes "i") ∷ i ∷ end_object ∷ []) c.end_object.new.self.tokens (end_object ∷ []) c.end_object-2.new.self.tokens s7 last) c.end_object-2.ensures.ok
