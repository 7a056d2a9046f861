-- Texts of values, which are written with no tree.
use Rattle.std.specs.Prelude.{◌≡◌, ℕ, ◌++◌, List, Result, Ok, Err, String, string_bytes}
use Rattle.std.specs.declared.alloc.Global.{Global}
use Rattle.json.specs.Token.{Token}
use Rattle.serde_json.specs.Data.{Data, Members, no_members, member}
pub use Rattle.bson_scalar.specs.Tokens.{tokens_of, code_tokens}
use Rattle.bson_scalar.specs.TreeText.{text_of}
use Rattle.bson_scalar.specs.Written.{WriteFault, IsWriteFailureOf, ◌>>=◌}
use Rattle.bson_scalar.specs.declared.form.Doubles.{Doubles}
use Rattle.bson_scalar.specs.declared.form.Doubles.TheVariants.{Special, Finite}
use Rattle.bson_scalar.specs.declared.write_error.WriteError.{WriteError}
use Rattle.bson_scalar.specs.declared.write_error.WriteError.TheVariants.{FiniteDouble, OutOfMemory}
use Rattle.bson_model.specs.Value.{Value, Pairs, no_pairs, pair}
pub use Rattle.bson_model.specs.ValueTexts.{IsTextWithDoubles, IsTextIn, IsTextInOrder, IsTextInKeyOrder}

-- why a value is not written: where finite doubles are, for running out of memory alone
abbrev pub IsWriteErrorIn : Doubles → WriteError → Type 0
IsWriteErrorIn doubles OutOfMemory = Unit {0}
IsWriteErrorIn Special FiniteDouble = Unit {0}
IsWriteErrorIn Finite FiniteDouble = ⊥

-- ---- for private clauses

-- What a function returned is what writing gives, unless memory ran out: the tokens of the tree come after the old
-- ones.
module _ {X : Type 0} where
  abbrev pub AppendsPrintedTokens : (view_of : X → Data) → (write_result : Result (Unit {0}) WriteError)
      → (written : Result X WriteFault)
      → (old new : List Token) → Type 0
  AppendsPrintedTokens view_of (Ok done) written old new = (content : X) × (written ≡ Ok content)
      × (new ≡ old ++ tokens_of (view_of content))
  AppendsPrintedTokens view_of (Err write_error) written old new = IsWriteFailureOf write_error written

-- the same of a whole text
abbrev pub ReturnsWrittenText : (write_result : Result (String Global) WriteError) → (written : Result Data WriteFault)
    → Type 0
ReturnsWrittenText (Ok output) written = (json_tree : Data) × (written ≡ Ok json_tree)
    × (string_bytes output ≡ text_of json_tree)
ReturnsWrittenText (Err write_error) written = IsWriteFailureOf write_error written

-- the same of a text after other bytes, which stay alone where there is none
abbrev pub AppendsText : (write_result : Result (Unit {0}) WriteError) → (written : Result Data WriteFault)
    → (old new : List ℕ) → Type 0
AppendsText (Ok done) written old new = (json_tree : Data) × (written ≡ Ok json_tree) × (new ≡ old ++ text_of json_tree)
AppendsText (Err write_error) written old new = IsWriteFailureOf write_error written × (new ≡ old)

-- the members of pairs in their order, where each value is written by the function
abbrev pub writes_each_pair : (write_value : Value → Result Data WriteFault) → (pair_list : Pairs)
    → Result Members WriteFault
writes_each_pair write_value no_pairs = Ok no_members
writes_each_pair write_value (pair key_bytes bson_value pair_list) =
    write_value bson_value >>= λ value_tree. writes_each_pair write_value pair_list
    >>= λ member_list. Ok (member key_bytes value_tree member_list)
