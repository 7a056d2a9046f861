use Rattle.std.proofs.Common.{◌≡◌, ◌++◌, rules, subst, sym}
use Rattle.bson_convert.specs.Convert.{newline}
use Rattle.bson_convert.specs.declared.mode.Mode.{Mode}
use Rattle.vbson.proofs.Dumps.{of_line}
use Rattle.vbson.specs.Convert.{ConvertsUnder}
use Rattle.vbson.proofs.convert.vbson_convert_nonnull.Goals as goal

pub returns-clause-success : goal.returns-clause-success
returns-clause-success c = λ success.
    let line = c.in-Ok.ensures.ok in
    record {
      mode = c.in-Some.mode;
      mode_selected = search rules;
      text = line.text;
      converts = line.converts;
      utf8 = line.utf8;
      unchanged_by_conversion = line.unchanged_by_conversion;
      is_text = of_line line.text c.in-Ok.line.items c.text_of_line.result line.whole c.text_of_line.ensures;
    }

pub returns-clause-unique_text : goal.returns-clause-unique_text
returns-clause-unique_text c = λ success selected converted is_selected converts.
    let same : selected ≡ c.in-Some.mode = cc in
    let whole = c.in-Ok.ensures.unique (converted ++ newline)
    (subst (λ (m : Mode). ConvertsUnder c.args.options.now m c.args.text.now (converted ++ newline)) same converts) in
    (of_line converted c.in-Ok.line.items c.text_of_line.result (sym whole) c.text_of_line.ensures).bytes
