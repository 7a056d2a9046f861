-- Writing and reading a value round-trip.
use Rattle.std.proofs.Common.{◌≡◌, ℕ, List, ◌++◌, ap, ◌∙◌, subst}
use Rattle.bson_scalar.specs.declared.form.Form.{Form}
use Rattle.bson_model.specs.Value.{Value}
use Rattle.bson_model.specs.Normal.{normal_form}
use Rattle.bson_model.specs.Written.{WrittenIn}
use Rattle.bson_model.specs.Laws.{IsReadFormIn}
use Rattle.bson_model.proofs.Offered.{means_one_in}
use Rattle.bson_model.specs.declared.options.Options.{Options}
use Rattle.bson_model.specs.ValueTexts.{IsTextWithDoubles}
use Rattle.bson_convert.specs.Convert.{IsWrittenIn, newline}

pub is_written : (o : Options) (f : Form) (v : Value) (text output : List ℕ) → IsReadFormIn o.doubles v
    → IsTextWithDoubles o.doubles f v text → output ≡ text ++ newline → IsWrittenIn o f v output
is_written o f v text output p i l =
    let t = i.tree in
    let has = i.reads_again p.0 in
    let a = has.means in
    record {
      tree = t;
      is_tree = i.is_tree;
      line = record { text = l ∙ ap (λ s. s ++ newline) i.compact; read_again = has.read_again };
      again = λ w m. subst (λ x. WrittenIn o.doubles f (normal_form x) t) (means_one_in o.doubles t a.0 w a.1 m) a.3;
    }
