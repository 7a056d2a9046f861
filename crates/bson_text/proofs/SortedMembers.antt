-- The members of a document that a writer of a text with ascending keys has written.
use Rattle.std.proofs.Common.{◌≡◌, ℕ, Bool, true, false, List, [], ◌∷◌, ◌++◌, map, Option, Some, None, Ok}
use Rattle.std.proofs.Common.{Bor, refl, sym, ap, ◌∙◌, arith, append_assoc}
use Rattle.std.proofs.lemmas.List.{length-append}
use Rattle.std.proofs.lemmas.List.Elements.{All-head, All-tail}
use Rattle.std.specs.List.{All}
use Rattle.json.specs.Print.{quoted}
use Rattle.serde_json.specs.Data.{Data, Members, no_members, member, object, put}
use Rattle.serde_json.specs.Written.{comma_if}
use Rattle.bson_scalar.specs.TreeText.{text_of}
use Rattle.bson_scalar.specs.declared.form.Doubles.{Doubles}
use Rattle.bson_scalar.specs.declared.form.Form.{Form}
use Rattle.bson_model.specs.Sorted.{sorted}
use Rattle.bson_model.specs.StableOrder.{pairs_of}
use Rattle.bson_model.specs.Value.{Value, Pairs, no_pairs, pair}
use Rattle.bson_model.specs.Writing.{writes_value_in, writes_pairs_in}
use Rattle.bson_text.specs.MemberSpans.{span_key, members_text, SpanKeysAscend}
use Rattle.bson_text.specs.MemberSpans.{ValuesByStart, value_of_span, IsMemberSpan, IsMemberText}
use Rattle.bson_text.specs.SortedOutput.{output_with_comma, HasBegunObject, HasSortedValue, HasKeyAdded}
use Rattle.bson_text.specs.TraversalResults.{PairsWritten, keys_of}
use Rattle.bson_text.specs.declared.member_spans.MemberSpan.{MemberSpan}
use Rattle.bson_text.specs.declared.sorted_writer.ContainerStart.{ContainerStart}
use Rattle.bson_text.specs.declared.sorted_writer.SortedWriter.{SortedWriter}
use Rattle.bson_text.proofs.PartTexts.{printed_members, no_more_members, one_more_member, object_printed}
use Rattle.bson_text.proofs.SpansInOrder.{HasMembers}
use Rattle.bson_text.proofs.Standing.{Seen, MemberAdded, MembersAdded, DocumentStands, opened_document}

abbrev pub seen : SortedWriter → Seen
seen w = record { text = w.text.items; member_starts = w.member_starts.items; needs_comma = w.needs_comma }

module _ (D : Doubles) (f : Form) where
  one_added : (k : List ℕ) (v : Value) (old named new : SortedWriter) → old.doubles ≡ D → old.form ≡ f
      → HasKeyAdded old k named → HasSortedValue named v new → MemberAdded (IsMemberText D f) k v (seen old) (seen new)
  one_added k v old named new mode form (key_mode, key_form, off, begins, key) (t, w, value) =
      let (value_mode, value_form, after, kept, text) = value in
      let own = quoted k ++ 58 ∷ [] in
      record {
        own = quoted k ++ 58 ∷ text_of t;
        is_text = (
          t,
          ap (λ E. writes_value_in E f (sorted v)) (sym (key_mode ∙ mode))
              ∙ ap (λ g. writes_value_in named.doubles g (sorted v)) (sym (key_form ∙ form)) ∙ w,
          refl,
        );
        some = omega (arith, length-append (quoted k) (58 ∷ text_of t));
        text = text ∙ ap (λ b. named.text.items ++ (comma_if b ++ text_of t)) off
            ∙ ap (λ s. s ++ text_of t) key ∙ append_assoc (output_with_comma old) own (text_of t)
            ∙ ap (λ s. output_with_comma old ++ s) (append_assoc (quoted k) (58 ∷ []) (text_of t));
        member_starts = kept ∙ begins;
        needs_comma = after;
      }

  members_added : (ps : Pairs) (old new : SortedWriter) → old.doubles ≡ D → old.form ≡ f
      → PairsWritten (λ a k v b. HasSortedValue a v b) HasKeyAdded ps old new
      → (new.doubles ≡ D) × (new.form ≡ f) × MembersAdded (IsMemberText D f) ps (seen old) (seen new)
  members_added no_pairs old new mode form is =
      (ap (λ w. w.doubles) (sym is) ∙ mode, ap (λ w. w.form) (sym is) ∙ form, ap seen is)
  members_added (pair k v ps) old new mode form (named, mid, wrote_key, wrote_value, more) =
      let value = wrote_value.2 in
      let (end_mode, end_form, rest) = members_added ps mid new (value.0 ∙ wrote_key.0 ∙ mode) (value.1 ∙ wrote_key.1 ∙ form)
      more in
      (end_mode, end_form, (seen mid, one_added k v old named mid mode form wrote_key wrote_value, rest))

-- the document that is open, in the writer's mode and form
pub document_stands : (start mid now : SortedWriter) (mark : ContainerStart) (ps : Pairs) (ks : List (Bor (List ℕ)))
    → HasBegunObject start mark mid → PairsWritten (λ a k v b. HasSortedValue a v b) HasKeyAdded ps mid now
    → keys_of ps ≡ map (λ k. k.now) ks
    → (now.doubles ≡ start.doubles) × (now.form ≡ start.form)
    × DocumentStands (IsMemberText start.doubles start.form) (output_with_comma start) start.member_starts.items (seen now) mark ks ps
document_stands start mid now mark ps ks (here, outer_member_count, (mode, form, off, kept, text)) written named =
    let (end_mode, end_form, added) = members_added start.doubles start.form ps mid now mode form written in
    let begins = text ∙ sym (append_assoc start.text.items (comma_if start.needs_comma) (123 ∷ [])) in (
      end_mode,
      end_form,
      opened_document (IsMemberText start.doubles start.form) (output_with_comma start) start.member_starts.items (seen mid) (seen now)
          mark ps ks here outer_member_count begins kept off added named,
    )

-- ---- the text of the object

module _ (D : Doubles) (f : Form) (texts : List ℕ) (values : ValuesByStart) where
  abbrev IsOne : MemberSpan → Type 0
  IsOne = IsMemberSpan (IsMemberText D f) texts values

  -- the texts of members by ascending key are the text of their trees, to which one of a lesser key comes first
  spans_written : (needs_comma : Bool) (last : Option (List ℕ)) (ps : List MemberSpan) → SpanKeysAscend last ps → All IsOne ps
      → (ms : Members) × (writes_pairs_in D f (pairs_of span_key (value_of_span values) ps) ≡ Ok ms)
      × (members_text texts needs_comma ps ≡ printed_members needs_comma ms)
      × ((k : List ℕ) (d : Data) → SpanKeysAscend (Some k) ps → put k d ms ≡ member k d ms)
  spans_written needs_comma last [] up h = (no_members, refl, sym (no_more_members needs_comma), λ k d up. refl)
  spans_written needs_comma last (p ∷ ps) up h =
      let here = All-head IsOne p ps h in
      let k = span_key p in
      let t = here.1.0 in
      let more = spans_written true (Some k) ps up.1 (All-tail IsOne p ps h) in
      let one = quoted k ++ 58 ∷ text_of t in
      let comma = comma_if needs_comma in (
        member k t more.0,
        rw (here.1.1, more.1) (ap Ok (more.3 k t up.1)),
        ap (λ l. comma ++ (l ++ members_text texts true ps)) here.1.2
            ∙ ap (λ l. comma ++ (one ++ l)) more.2
            ∙ one_more_member needs_comma k t more.0,
        λ l d up. rw up.0 refl,
      )

-- the document that was ended has the text of its tree
pub document_added : (D : Doubles) (f : Form) (start : SortedWriter) (texts new : List ℕ) (ps : Pairs)
    → HasMembers (IsMemberText D f) (output_with_comma start) texts new ps
    → (ms : Members) × (writes_pairs_in D f ps ≡ Ok ms)
    × (new ≡ start.text.items ++ (comma_if start.needs_comma ++ text_of (object ms)))
document_added D f start texts new ps h =
    let (ms, written, text, first) = spans_written D f texts h.values false None h.members h.up h.all in (
      ms,
      ap (writes_pairs_in D f) h.pairs ∙ written,
      h.text ∙ ap (λ l. output_with_comma start ++ 123 ∷ l) text ∙ ap (λ l. output_with_comma start ++ l) (object_printed ms)
          ∙ append_assoc start.text.items (comma_if start.needs_comma) (text_of (object ms)),
    )
