use Rattle.bson_scalar.proofs.DoubleModes.{has_text}
use Rattle.bson_scalar.proofs.ScalarLaws.{scalar_from, scalar_to, scalar_one, scalar_form, written_from, written_to}
use Rattle.bson_scalar.proofs.ScalarLaws.{writable_is, all_writable_is, reads_back}
use Rattle.bson_scalar.proofs.laws.each_mode.Goals as goal

pub returns : goal.returns
returns c = record {
  meaning = λ d t x. (scalar_from d t x, scalar_to d t x);
  unique = scalar_one;
  normal_form = scalar_form;
  written_tree = λ d f x t. (written_from d f x t, written_to d f x t);
  writable = writable_is;
  all_writable = all_writable_is;
  double_texts = has_text;
  read_back = reads_back;
}
