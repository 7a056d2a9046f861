-- A document that a writer of the text that shows values has written in the order of its keys.
use Rattle.std.proofs.Common.{◌≡◌, Bool, true, false, List, [], ◌∷◌, ◌++◌, codes, length, take, ℕ, refl, sym, ap, ◌∙◌}
use Rattle.std.proofs.Common.{append_assoc, append-nil}
use Rattle.std.specs.List.{flat_map}
use Rattle.json.specs.Strict.{AreDistinct}
use Rattle.serde_json.specs.Written.{comma_if}
use Rattle.bson_model.specs.declared.options.KeyOrder.{KeyOrder}
use Rattle.bson_model.specs.declared.options.KeyOrder.TheVariants.{AsGiven}
use Rattle.bson_model.specs.Displayed.{display_text, displayed_entry, entry_texts}
use Rattle.bson_model.specs.Value.{Pairs, no_pairs, pair, document}
use Rattle.bson_text.specs.DisplayOutput.{display_with_comma, separator_if, closing_brace, arranged_pairs, arranged_value}
use Rattle.bson_text.specs.DisplayOutput.{HasDisplayAdded, HasBegunDisplay, HasDisplayOfKey, HasDisplayOfPairs, HasDisplayOfValue}
use Rattle.bson_text.specs.TraversalResults.{PairsWritten, keys_of, each_key_once}
use Rattle.bson_text.specs.declared.sorted_writer.ContainerStart.{ContainerStart}
use Rattle.bson_text.specs.declared.display_writer.DisplayWriter.{DisplayWriter}
use Rattle.bson_text.proofs.Once.{once_is}
use Rattle.bson_text.proofs.ShownMembers.{member_text, same_order}
use Rattle.bson_text.proofs.ShownTexts.{as_it_is}
use Rattle.bson_text.proofs.Standing.{text_before}

-- the members, each after a blank, with a comma before those after another value
abbrev members : Bool → Pairs → List ℕ
members needs_comma no_pairs = []
members needs_comma (pair k v ps) = comma_if needs_comma ++ ((codes " " ++ displayed_entry k (display_text v)) ++ members true ps)

abbrev needs_comma_after : Bool → Pairs → Bool
needs_comma_after needs_comma no_pairs = needs_comma
needs_comma_after needs_comma (pair k v ps) = true

still_behind : (ps : Pairs) → needs_comma_after true ps ≡ true
still_behind no_pairs = refl
still_behind (pair k v ps) = refl

members_after : (ps : Pairs) → members true ps ≡ flat_map (λ t. codes ", " ++ t) (entry_texts ps)
members_after no_pairs = refl
members_after (pair k v ps) = ap (λ l. codes ", " ++ (displayed_entry k (display_text v) ++ l)) (members_after ps)

document_shown : (ps : Pairs)
    → codes "{" ++ (members false ps ++ closing_brace (needs_comma_after false ps)) ≡ display_text (document ps)
document_shown no_pairs = refl
document_shown (pair k v ps) =
    ap (λ l. codes "{ " ++ ((displayed_entry k (display_text v) ++ l) ++ codes " }")) (members_after ps)

-- what was written after another state
record Behind (ps : Pairs) (old new : DisplayWriter) : Type 0 where
  pub member_starts : List ℕ
  pub outer_member_count : new.member_starts.items ≡ old.member_starts.items ++ member_starts
  pub text : new.text.items ≡ old.text.items ++ members old.needs_comma ps
  pub needs_comma : new.needs_comma ≡ needs_comma_after old.needs_comma ps

all_written : (ps : Pairs) (old new : DisplayWriter) → old.key_order ≡ AsGiven
    → PairsWritten (λ a k v b. HasDisplayOfValue a v b) HasDisplayOfKey ps old new → Behind ps old new
all_written no_pairs old new in_order is = record {
  member_starts = [];
  outer_member_count = ap (λ w. w.member_starts.items) (sym is) ∙ sym (append-nil old.member_starts.items);
  text = ap (λ w. w.text.items) (sym is) ∙ sym (append-nil old.text.items);
  needs_comma = ap (λ w. w.needs_comma) (sym is);
}
all_written (pair k v ps) old new in_order (named, mid, wrote_key, wrote_value, more) =
    let rest = all_written ps mid new (wrote_value.1 ∙ wrote_key.1 ∙ in_order) more in
    let own = codes " " ++ displayed_entry k (display_text v) in
    record {
      member_starts = length (display_with_comma old) ∷ rest.member_starts;
      outer_member_count = rest.outer_member_count ∙ ap (λ l. l ++ rest.member_starts) (wrote_value.2 ∙ wrote_key.2)
          ∙ append_assoc old.member_starts.items (length (display_with_comma old) ∷ []) rest.member_starts;
      text = rest.text ∙ ap (λ b. mid.text.items ++ members b ps) wrote_value.0
          ∙ ap (λ l. l ++ members true ps) (member_text k v old named mid wrote_key wrote_value
          ∙ ap (λ a. display_with_comma old ++ (codes " " ++ displayed_entry k (display_text (arranged_value a v)))) in_order
          ∙ ap (λ w. display_with_comma old ++ (codes " " ++ displayed_entry k (display_text w))) (as_it_is v))
          ∙ append_assoc (display_with_comma old) own (members true ps)
          ∙ append_assoc old.text.items (comma_if old.needs_comma) (own ++ members true ps);
      needs_comma = rest.needs_comma ∙ ap (λ b. needs_comma_after b ps) wrote_value.0 ∙ still_behind ps;
    }

-- the text of the document after what preceded it
whole : (before front mid now new : List ℕ) (ps : Pairs) → mid ≡ before ++ (front ++ codes "{")
    → now ≡ mid ++ members false ps → new ≡ now ++ closing_brace (needs_comma_after false ps)
    → new ≡ before ++ (front ++ display_text (document ps))
whole before front mid now new ps mark written ended =
    let brace = closing_brace (needs_comma_after false ps) in
    let end = members false ps ++ brace in
    ended ∙ ap (λ l. l ++ brace) written ∙ append_assoc mid (members false ps) brace ∙ ap (λ l. l ++ end) mark
    ∙ append_assoc before (front ++ codes "{") end
    ∙ ap (λ l. before ++ l) (append_assoc front (codes "{") end ∙ ap (λ l. front ++ l) (document_shown ps))

as_they_came : (a : KeyOrder) (ps : Pairs) → a ≡ AsGiven → AreDistinct (keys_of ps)
    → ps ≡ arranged_pairs a (each_key_once ps)
as_they_came a ps is apart = sym (ap (λ o. arranged_pairs o (each_key_once ps)) is ∙ once_is ps apart)

-- the document's members, and the brace after them
pub document_added : (start mid now kept new : DisplayWriter) (mark : ContainerStart) (ps : Pairs) → now.key_order ≡ AsGiven
    → HasBegunDisplay start mark mid → PairsWritten (λ a k v b. HasDisplayOfValue a v b) HasDisplayOfKey ps mid now
    → AreDistinct (keys_of ps) → kept.text.items ≡ now.text.items → kept.key_order ≡ now.key_order
    → kept.member_starts.items ≡ take mark.outer_member_count now.member_starts.items → HasDisplayAdded kept (closing_brace now.needs_comma) true new
    → HasDisplayOfPairs start (each_key_once ps) new
document_added start mid now kept new mark ps in_order (here, outer_member_count, (off, order, member_starts, text)) written apart same
    also cut (needs_comma, ordered, left, ended) =
    let first : mid.key_order ≡ AsGiven = sym (same_order ps mid now written) ∙ in_order in
    let all = all_written ps mid now first written in
    let brace : closing_brace now.needs_comma ≡ closing_brace (needs_comma_after false ps) =
    ap closing_brace (all.needs_comma ∙ ap (λ b. needs_comma_after b ps) off) in (
      needs_comma,
      ordered ∙ also ∙ same_order ps mid now written ∙ order,
      left ∙ cut
          ∙ text_before start.member_starts.items all.member_starts now.member_starts.items mark.outer_member_count
          (all.outer_member_count ∙ ap (λ l. l ++ all.member_starts) member_starts) outer_member_count,
      whole start.text.items (separator_if start.needs_comma) mid.text.items now.text.items new.text.items ps text
          (all.text ∙ ap (λ b. mid.text.items ++ members b ps) off)
          (ended ∙ ap (λ l. l ++ closing_brace now.needs_comma) same ∙ ap (λ l. now.text.items ++ l) brace)
          ∙ ap (λ qs. start.text.items ++ (separator_if start.needs_comma ++ display_text (document qs)))
          (as_they_came start.key_order ps (sym order ∙ first) apart),
    )
