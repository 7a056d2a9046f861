-- Why a line that was read is rejected.
use Rattle.std.proofs.Common.{List, ℕ, inl}
use Rattle.bson_run.specs.Lines.{IsBlank}
use Rattle.bson_run.specs.LinesSteps.{Options, IsConversionFailure, IsOutputFailure, Task}
use Rattle.bson_run.specs.LinesSteps.{Error, CannotRead, NotJson, NotExtendedJson, NoBytes, OutOfMemory}
use Rattle.bson_run.specs.LinesSteps.{CannotWrite, NotCanonical}
use Rattle.bson_run.specs.Preprocessed.{IsPreprocessedAs}

-- what is read in the place of a text that is not blank is refused
pub refused_once_taken : (o : Options) (task : Task) (fault : Error) (text taken : List ℕ)
    → IsPreprocessedAs task.preprocessing text taken → ¬ IsBlank text → IsOutputFailure o fault task.output taken
    → IsConversionFailure o task fault text
refused_once_taken o task CannotRead text taken is some h = h
refused_once_taken o task NotJson text taken is some h = ((taken, is, h), some)
refused_once_taken o task (NotExtendedJson place) text taken is some h = inl (taken, is, h)
refused_once_taken o task (NoBytes why) text taken is some h = (taken, is, h)
refused_once_taken o task (NotCanonical column) text taken is some h = (taken, is, h)
refused_once_taken o task OutOfMemory text taken is some h = tt
refused_once_taken o task CannotWrite text taken is some h = h
