use Rattle.bson_scalar.specs.declared.form.Doubles.TheVariants.{Special}
use Rattle.bson_scalar.proofs.DoubleLaws.{special_is}
use Rattle.bson_scalar.proofs.ScalarLaws.{written_from, written_to, writable_is}
use Rattle.bson_scalar.proofs.laws.writing.Goals as goal

pub returns : goal.returns
returns c = record {
  written_tree = λ f x t. (written_from Special f x t, written_to Special f x t);
  writable = writable_is Special;
  double_texts = special_is;
}
