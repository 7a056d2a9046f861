-- The messages about arguments that the program does not accept.
use Rattle.std.specs.Prelude.{ℕ, List, ◌++◌, codes}
use Rattle.bson_run.specs.declared.task.Criterion.TheVariants.{Canonical}
use Rattle.bson_run.specs.declared.task.Output.{Output}
use Rattle.bson_run.specs.declared.task.Output.TheVariants.{Bytes, Nothing}
use Rattle.bson_program.specs.Flags.{flag_name}
use Rattle.bson_program.specs.Messages.{escaped_name}
use Rattle.bson_program.specs.Invocation.{mode_arg}
use Rattle.bson_program.specs.declared.invocation.Command.{Command}
use Rattle.bson_program.specs.declared.invocation.Command.TheVariants as command
use Rattle.bson_program.specs.declared.invocation.Flag.{Flag}
use Rattle.bson_program.specs.declared.invocation.Flag.TheVariants as flag
use Rattle.bson_program.specs.declared.invocation.UsageError.{UsageError}
use Rattle.bson_program.specs.declared.invocation.UsageError.TheVariants as usage_error
use Rattle.bson_program.specs.declared.invocation.Purpose.{Purpose}

-- the program and command before a command's options and its help
abbrev pub command_name : Command → List ℕ
command_name command.AllCommands = codes "bson"
command_name command.Text = codes "bson"
command_name command.Lines = codes "bson lines"
command_name command.Decode = codes "bson decode"
command_name command.Encode = codes "bson encode"

-- the mode that does not have an option, and after it the option because of which it does not
abbrev pub mode_without_option : Flag → Purpose → Output → List ℕ
mode_without_option flag.Canonical purpose output = mode_arg purpose output
mode_without_option flag.KeepGoing purpose Bytes = codes "encode --array"
mode_without_option flag.Jobs purpose Bytes = codes "encode --array"
mode_without_option option purpose (Nothing Canonical) = codes "check --canonical"
mode_without_option option purpose output = mode_arg purpose output

-- a mode with its command
abbrev pub mode_with_command : Command → (mode : List ℕ) → List ℕ
mode_with_command command.Lines mode = codes "lines " ++ mode
mode_with_command command.Decode mode = codes "decode " ++ mode
mode_with_command other_command mode = mode

abbrev pub expected_arg_kind : Command → List ℕ
expected_arg_kind command.AllCommands = codes "command"
expected_arg_kind other_command = codes "mode"

abbrev pub see_help : Command → List ℕ
see_help given_command = codes " (see " ++ command_name given_command ++ codes " --help)"

-- the argument is the one that is wrong
abbrev pub usage_error_message : Command → UsageError → (arg : List ℕ) → List ℕ
usage_error_message given_command usage_error.UnknownOption arg =
    codes "bson: unknown option '" ++ escaped_name arg ++ codes "'" ++ see_help given_command
usage_error_message given_command usage_error.UnknownMode arg =
    codes "bson: unknown " ++ expected_arg_kind given_command ++ codes " '" ++ escaped_name arg ++ codes "'"
    ++ see_help given_command
usage_error_message given_command usage_error.RemovedOption arg =
    codes "bson: " ++ escaped_name arg ++ codes " is the default now" ++ see_help given_command
usage_error_message given_command (usage_error.OptionTwice flag) arg =
    codes "bson: " ++ flag_name flag ++ codes " is given twice"
usage_error_message given_command (usage_error.BadOptionValue flag.Indent) arg =
    codes "bson: --indent needs a number from 1 to 16"
usage_error_message given_command (usage_error.BadOptionValue flag.Jobs) arg =
    codes "bson: --jobs needs a number from 1 to 9999"
usage_error_message given_command (usage_error.BadOptionValue flag.Diagnostics) arg =
    codes "bson: --diagnostics needs text or json"
usage_error_message given_command (usage_error.BadOptionValue flag) arg =
    codes "bson: " ++ flag_name flag ++ codes " needs a file"
usage_error_message given_command (usage_error.UnsupportedOption flag purpose output) arg =
    codes "bson: " ++ mode_with_command given_command (mode_without_option flag purpose output)
    ++ codes " does not accept " ++ flag_name flag
usage_error_message given_command usage_error.NoMode arg =
    codes "bson: no " ++ expected_arg_kind given_command ++ codes " is given"
usage_error_message given_command usage_error.NeedsTwoFiles arg =
    codes "bson: " ++ mode_with_command given_command (codes "same") ++ codes " needs two files"
usage_error_message given_command usage_error.StandardInputTwice arg = codes "bson: standard input is given twice"
usage_error_message given_command usage_error.NotUtf8 arg = codes "bson: an argument is not UTF-8"
