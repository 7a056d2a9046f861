use Rattle.std.proofs.Common.{◌↔◌, drop, map, None, option_map}
use Rattle.bson_tokens.specs.PutMembers.{KeysAscendFrom}
use Rattle.bson_text.proofs.member_spans.keys_ascend.Given as goal

-- the keys ascend from here on if and only if all of them do
abbrev pub invariant-loop-position : goal.invariant-loop-position
invariant-loop-position l =
    KeysAscendFrom (option_map (λ s. s.now) l.last_key) (map (λ k. k.now) (drop l.position l.keys))
    ↔ KeysAscendFrom None (map (λ k. k.now) l.keys)
