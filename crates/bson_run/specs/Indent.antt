-- A JSON text over several lines: each member and each element on a line of its own, indented by some spaces for each
-- open bracket.
use Rattle.std.specs.Prelude.{◌≡◌, ◌≤◌, ◌+◌, ◌-◌, ℕ, List, [], ◌∷◌, ◌++◌, Bool, false, if◌then◌else◌, replicate, Some}
use Rattle.json.specs.Json.{Json, value as json_value}
use Rattle.json.specs.Layout.{Last, nothing, bracket, name, value, is_value, after}
use Rattle.json.specs.Lex.{tokens}
use Rattle.json.specs.Print.{token_text, separator, begins}
use Rattle.json.specs.Reads.{opens}
use Rattle.json.specs.Spaced.{print_spaced}
use Rattle.json.specs.Token.{Token}
use Rattle.serde_json.specs.Data.{Data, depth}
use Rattle.serde_json.specs.Read.{max_depth}
use Rattle.bson_scalar.specs.TreeText.{tree_text}
use Rattle.bson_model.specs.declared.options.KeyOrder.{KeyOrder}
use Rattle.bson_model.specs.declared.options.Options.{Options}
use Rattle.bson_scalar.specs.Forms.{form_in}
use Rattle.bson_scalar.specs.declared.form.Form.{Form}
use Rattle.bson_scalar.specs.declared.form.Form.TheVariants as form
use Rattle.bson_convert.specs.Convert.{newline}
use Rattle.bson_convert.specs.InOrder.{ConvertsBy}
use Rattle.bson_convert.specs.declared.mode.Mode.{Mode}
use Rattle.bson_convert.specs.declared.mode.Mode.TheVariants.{Canonical, Relaxed}
use Rattle.bson_run.specs.declared.indent.PreviousToken.{PreviousToken}
use Rattle.bson_run.specs.declared.indent.PreviousToken.TheVariants as previous_kind
use Rattle.bson_run.specs.declared.indent.Layout.{Layout}

-- ---- white space between the tokens

-- the beginning of a line
abbrev pub line : (indent : ℕ) → List ℕ
line indent = 10 ∷ replicate indent 32

-- The white space between two tokens, after a comma if there is one: by the kind of the first, and whether the second
-- closes no bracket. A space follows a key, and an empty array or object stays on its line.
abbrev pub white_space : (previous_token : Last) → Bool → (indent : ℕ) → List ℕ
white_space nothing begins indent = []
white_space bracket begins indent = if begins then line indent else []
white_space name begins indent = 32 ∷ []
white_space value begins indent = line indent

-- the indentation of a token, after tokens that leave this indentation: less for a closing bracket
abbrev pub indent_of_token : (spaces : ℕ) → Token → (indent : ℕ) → ℕ
indent_of_token spaces token indent = if begins token then indent else indent - spaces

-- the indentation after the token: more for an opening bracket
abbrev pub indent_after : (spaces : ℕ) → Token → (indent : ℕ) → ℕ
indent_after spaces token indent =
    if opens (token ∷ []) then indent_of_token spaces token indent + spaces else indent_of_token spaces token indent

-- each token with the white space before it
unfoldable pub with_white_space : (spaces : ℕ) → (previous_token : Last) → (indent : ℕ) → List Token
    → List (List ℕ × Token)
with_white_space spaces previous_token indent [] = []
with_white_space spaces previous_token indent (token ∷ more_tokens) =
    (white_space previous_token (begins token) (indent_of_token spaces token indent), token)
    ∷ with_white_space spaces (after token 0).0 (indent_after spaces token indent) more_tokens

-- the tokens over several lines, indented for each bracket
abbrev pub indented : (spaces : ℕ) → (token_list : List Token) → List ℕ
indented spaces token_list = print_spaced false (with_white_space spaces nothing 0 token_list)

-- where the text is that of a tree, however deep, its layout has the same tokens, so that it is read as the same tree
-- by whatever reads texts by their tokens
abbrev pub HasSameTokens : (text indented_text : List ℕ) → Type 0
HasSameTokens text indented_text = (depth : ℕ) (tree : Json) → json_value depth (tokens text) ≡ Some (tree, [])
    → tokens indented_text ≡ tokens text

-- ---- converting

-- the layout of the text, and a newline
pub record IsIndentedOutput (spaces : ℕ) (text output : List ℕ) : Type 0 where
  pub indented_text : List ℕ
  pub layout : indented_text ≡ indented spaces (tokens text)
  pub keeps_tokens : HasSameTokens text indented_text
  pub line : output ≡ indented_text ++ newline

abbrev pub mode_of : Form → Mode
mode_of form.Canonical = Canonical
mode_of form.Relaxed = Relaxed
mode_of form.MongoDbCanonical = Canonical
mode_of form.MongoDbRelaxed = Relaxed

-- the form that is written: the mode of a form, in the layout of the options
abbrev pub indented_form : Options → Form → Form
indented_form options form.Canonical = form_in options.layout form.Canonical
indented_form options form.Relaxed = form_in options.layout form.Relaxed
indented_form options form.MongoDbCanonical = form_in options.layout form.Canonical
indented_form options form.MongoDbRelaxed = form_in options.layout form.Relaxed

-- the bytes are converted to a text, of which this is the layout
pub record ConvertsIndented (key_order : KeyOrder) (options : Options) (output_form : Form) (spaces : ℕ)
    (bytes output : List ℕ) : Type 0 where
  pub text : List ℕ
  pub converts : ConvertsBy key_order options (mode_of output_form) bytes (text ++ newline)
  pub is_output : IsIndentedOutput spaces text output

-- the layout of a tree's text; unless the tree nests deeper than a text may, the layout is converted to itself
pub record IsFixedPointIndented (key_order : KeyOrder) (options : Options) (output_form : Form) (spaces : ℕ)
    (output : List ℕ) : Type 0 where
  pub tree : Data
  pub indented_text : IsIndentedOutput spaces
      (tree_text options.doubles (indented_form options output_form) tree) output
  pub again : depth tree ≤ max_depth → ConvertsIndented key_order options output_form spaces output output

-- ---- for private clauses

abbrev pub kind_of_previous_token : PreviousToken → Last
kind_of_previous_token previous_kind.Nothing = nothing
kind_of_previous_token previous_kind.Bracket = bracket
kind_of_previous_token previous_kind.Key = name
kind_of_previous_token previous_kind.Value = value

-- a line has this indentation, and a bracket adds the spaces
pub record HasIndent (spaces indent : ℕ) (layout : Layout) : Type 0 where
  pub bracket_indent : layout.bracket_indent.items ≡ replicate spaces 32
  pub line_start : layout.line_start.items ≡ line indent

-- the token was written after its comma and white space
pub record IsTokenWritten (spaces indent : ℕ) (old_layout new_layout : Layout) (token : Token) : Type 0 where
  pub has_indent : HasIndent spaces (indent_after spaces token indent) new_layout
  pub previous_kind : kind_of_previous_token new_layout.previous_kind ≡ (after token 0).0
  pub written_bytes : new_layout.written_bytes.items
      ≡ old_layout.written_bytes.items ++ (separator (is_value (kind_of_previous_token old_layout.previous_kind)) token
      ++ (white_space (kind_of_previous_token old_layout.previous_kind) (begins token)
      (indent_of_token spaces token indent) ++ token_text token))

-- what is written, and the layout of the tokens that are left, is the layout of all
pub record IsWholeLayout (spaces : ℕ) (all_tokens remaining_tokens : List Token) (layout : Layout) : Type 0 where
  pub indent : ℕ
  pub has_indent : HasIndent spaces indent layout
  pub whole : layout.written_bytes.items
      ++ print_spaced (is_value (kind_of_previous_token layout.previous_kind))
      (with_white_space spaces (kind_of_previous_token layout.previous_kind) indent remaining_tokens)
      ≡ indented spaces all_tokens
