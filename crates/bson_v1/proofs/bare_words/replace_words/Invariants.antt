use Rattle.std.specs.Prelude.{◌≡◌, ◌≤◌, ◌-◌, [], length}
use Rattle.bson_v1.specs.BareWords.{word_state_of}
use Rattle.bson_v1.proofs.Words.{IsPart}
use Rattle.bson_v1.proofs.bare_words.replace_words.Given as goal

abbrev pub decreases-loop-offset : goal.decreases-loop-offset
decreases-loop-offset l = length l.text - l.offset

abbrev pub invariant-loop-offset : goal.invariant-loop-offset
invariant-loop-offset l = record {
  front : l.copied ≤ l.word_start;
  word : l.word_start ≤ l.offset;
  inside : l.offset ≤ length l.text;
  nothing : l.copied ≡ 0 → l.output.items ≡ [];
  part : IsPart l.word_form l.text l.output.items l.copied l.word_start l.offset (word_state_of l.word_state);
}
