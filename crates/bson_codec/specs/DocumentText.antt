-- The text of the document that bytes are.
use Rattle.std.specs.Prelude.{ℕ, List}
use Rattle.bson.specs.Texts.{IsTextInOrder}
use Rattle.bson_bytes.specs.ReadDocuments.{IsReadAsDocument}
use Rattle.bson_model.specs.Value.{Pairs, document}
use Rattle.bson_scalar.specs.declared.form.Doubles.TheVariants.{Finite}
use Rattle.bson_scalar.specs.declared.form.Form.{Form}

-- the bytes are a document, and the text is the compact text of its tree in the form, its keys in their own order
pub record IsDocumentTextOf (form : Form) (depth : ℕ) (bytes text : List ℕ) : Type 0 where
  pub pairs : Pairs
  pub read : IsReadAsDocument depth bytes pairs
  pub text_in_order : IsTextInOrder Finite form (document pairs) text
