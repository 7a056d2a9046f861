-- The names of outputs, and the messages of broken rules.
use Rattle.std.specs.Prelude.{ℕ, List, codes}
use Rattle.bson_convert.specs.Messages.{name_of_mode}
use Rattle.bson_run.specs.declared.task.Output.{Output}
use Rattle.bson_run.specs.declared.task.Output.TheVariants.{Text, Bytes, Nothing}
use Rattle.bson_run.specs.declared.rule.Rule.{Rule}
use Rattle.bson_run.specs.declared.rule.Rule.TheVariants as rule

abbrev pub output_name : Output → List ℕ
output_name (Text mode) = name_of_mode mode
output_name Bytes = codes "encode"
output_name (Nothing criterion) = codes "check"

abbrev pub rule_message : Rule → List ℕ
rule_message rule.Utf8 = codes "invalid UTF-8"
rule_message rule.UnexpectedEnd = codes "unexpected end of input"
rule_message rule.Quotes = codes "keys and strings must be in double quotes"
rule_message rule.ExpectedValue = codes "expected a value"
rule_message rule.Number = codes "invalid number"
rule_message rule.ControlCharacter = codes "unescaped control character in a string"
rule_message rule.Escape = codes "invalid escape sequence"
rule_message rule.Separator = codes "expected a comma or a closing bracket"
rule_message rule.ExpectedElement = codes "expected an element after the comma"
rule_message rule.ExpectedColonAndValue = codes "expected a colon and a value after the key"
rule_message rule.Depth = codes "nested more than 127 levels deep"
rule_message rule.TrailingData = codes "unexpected data after the value"
rule_message rule.OutOfRange = codes "number out of range"
rule_message rule.RewrittenDepth = codes "the rewritten input is nested more than 127 levels deep"
