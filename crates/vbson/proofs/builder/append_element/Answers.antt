use Rattle.std.proofs.Common.{rules, arith, refl, subst, ◌++◌, ◌≡◌}
use Rattle.bson_bytes.specs.Grammar.{IsName}
use Rattle.bson_bytes.specs.Writing.{name_bytes}
use Rattle.vbson.specs.Builder.{IsAppended, element_value}
use Rattle.vbson.proofs.Appending.{both, too_small, free_from, zero_from}
use Rattle.vbson.proofs.builder.append_element.Goals as goal

pub returns-then-not-has_no_nul-clause-appended : goal.returns-then-not-has_no_nul-clause-appended
returns-then-not-has_no_nul-clause-appended c =
    record {
      success = λ h. absurd (omega (arith, h));
      too_small = λ h. absurd (omega (arith, h));
      nul_in_key = λ h. zero_from c.args.element.key.now (search rules);
      unchanged = λ h. record { bytes = refl; len = refl };
      needed = λ h. refl;
      memory = refl;
    }

pub returns-then-not-has_room-clause-appended : goal.returns-then-not-has_room-clause-appended
returns-then-not-has_room-clause-appended c =
    let key = c.args.element.key.now in
    let name : IsName key = record { utf8 = search rules; no_zero = free_from key (search rules) } in
    record {
      success = λ h. absurd (omega (arith, h));
      too_small = λ h. (name, too_small _ _ _ _ c.size_of.ensures (c.has_room.ensures.too_small (search rules)));
      nul_in_key = λ h. absurd (omega (arith, h));
      unchanged = λ h. c.has_room.ensures.unchanged;
      needed = λ h. absurd (h refl);
      memory = c.has_room.ensures.memory;
    }

pub returns-clause-appended : goal.returns-clause-appended
returns-clause-appended c =
    let key = c.args.element.key.now in
    let name : IsName key = record { utf8 = search rules; no_zero = free_from key (search rules) } in
    let before : c.has_room.new.builder ≡ c.args.builder.now = search rules in
    let bytes = name_bytes c.args.element.kind key in
    let push_bytes = both bytes (element_value c.args.element) c.has_room.new.builder c.push_name.new.builder c.push_value.new.builder c.push_name.ensures.push_bytes c.push_value.ensures.push_bytes in
    record {
      success = λ h. (name, subst (λ b. IsAppended (bytes ++ element_value c.args.element) b c.push_value.new.builder) before push_bytes);
      too_small = λ h. absurd (omega (arith, h));
      nul_in_key = λ h. absurd (omega (arith, h));
      unchanged = λ h. absurd (omega (arith, h));
      needed = λ h. search rules;
      memory = search rules;
    }
