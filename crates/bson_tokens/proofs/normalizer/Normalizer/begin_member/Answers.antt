use Rattle.std.proofs.Common.{◌-◌, ◌++◌, ◌∷◌, [], length, ap, ◌∙◌, append_assoc}
use Rattle.json.specs.Print.{print}
use Rattle.json.specs.Token.{key}
use Rattle.serde_json.specs.Written.{comma_if}
use Rattle.bson_tokens.proofs.Texts.{key_alone}
use Rattle.bson_tokens.proofs.normalizer.Normalizer.begin_member.Goals as goal

pub returns : goal.returns
returns c =
    let comma = c.in_ok-add_comma.ensures in
    let named = c.in_ok-push_token.ensures in
    let old = c.args.self.now in
    let k = c.args.key.now in (
      c.offset_in_object-offset_in_object.ensures ∙ ap (λ t. length t - c.args.object_start) comma.text,
      record {
        key_order = named.key_order ∙ comma.key_order;
        needs_comma = named.needs_comma;
        text = named.text ∙ ap (λ t. t ++ print (key k ∷ [])) comma.text
            ∙ append_assoc old.text.items (comma_if old.needs_comma) (print (key k ∷ []))
            ∙ ap (λ t. old.text.items ++ (comma_if old.needs_comma ++ t)) (key_alone k);
      },
    )
