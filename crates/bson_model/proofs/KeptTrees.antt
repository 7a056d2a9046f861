-- What is read from a text in its order has its numbers in range and each key once.
use Rattle.std.proofs.Common.{◌≡◌, ℕ, List, Bool, true, false, cond, Some, option_map, option_and_then, refl, subst}
use Rattle.std.proofs.lemmas.Bool.{or_parts, or_from}
use Rattle.std.specs.Str.{bytes_eq}
use Rattle.json.specs.Json as json
use Rattle.json.specs.Lex.{tokens}
use Rattle.serde_json.specs.Data.{Data, null, boolean, number, string, array, object, Items, no_items, item, Members}
use Rattle.serde_json.specs.Data.{no_members, member}
use Rattle.serde_json.specs.Read.{number_of, max_depth}
use Rattle.bson_model.proofs.Offered.{number_fits}
use Rattle.bson_model.specs.OrderedTrees.{put_at_key_position, tree_of_json, items_of_json, members_of_json, read_in_order, has_key, KeysDiffer, IsTreeInOrder}
use Rattle.bson_model.specs.OrderedTrees.{ItemsAreTreesInOrder, MembersAreTreesInOrder}
use Rattle.bson_model.proofs.OptionalValues.{un_some, mapped, after, turned}

-- ---- a value that is inserted in its place leaves each key there once

absent_at : (b : Bool) (k l a : List ℕ) (d e : Data) (ms : Members) → has_key l (member a e ms) ≡ false
    → has_key l (put_at_key_position k d ms) ≡ false
    → has_key l (cond b (member a d ms) (member a e (put_at_key_position k d ms))) ≡ false
absent_at true k l a d e ms h is = h
absent_at false k l a d e ms h is =
    let p = or_parts (bytes_eq l a) (has_key l ms) h in or_from (bytes_eq l a) (has_key l (put_at_key_position k d ms)) p.0 is

absent_put : (k l : List ℕ) (d : Data) (ms : Members) → bytes_eq k l ≡ false → has_key l ms ≡ false
    → has_key l (put_at_key_position k d ms) ≡ false
absent_put k l d no_members apart h = or_from (bytes_eq l k) false (turned k l apart) refl
absent_put k l d (member a e ms) apart h =
    absent_at (bytes_eq k a) k l a d e ms h
    (absent_put k l d ms apart (or_parts (bytes_eq l a) (has_key l ms) h).1)

differ_at : (b : Bool) (k a : List ℕ) (d e : Data) (ms : Members) → bytes_eq k a ≡ b → has_key a ms ≡ false
    → KeysDiffer ms → KeysDiffer (put_at_key_position k d ms)
    → KeysDiffer (cond b (member a d ms) (member a e (put_at_key_position k d ms)))
differ_at true k a d e ms h none was is = (none, was)
differ_at false k a d e ms h none was is = (absent_put k a d ms h none, is)

differ_put : (k : List ℕ) (d : Data) (ms : Members) → KeysDiffer ms → KeysDiffer (put_at_key_position k d ms)
differ_put k d no_members h = (refl, tt)
differ_put k d (member a e ms) h = differ_at (bytes_eq k a) k a d e ms refl h.0 h.1 (differ_put k d ms h.1)

kept_at : (b : Bool) (k a : List ℕ) (d e : Data) (ms : Members) → IsTreeInOrder d → IsTreeInOrder e → MembersAreTreesInOrder ms
    → MembersAreTreesInOrder (put_at_key_position k d ms) → MembersAreTreesInOrder (cond b (member a d ms) (member a e (put_at_key_position k d ms)))
kept_at true k a d e ms new old was is = (new, was)
kept_at false k a d e ms new old was is = (old, is)

kept_put : (k : List ℕ) (d : Data) (ms : Members) → IsTreeInOrder d → MembersAreTreesInOrder ms → MembersAreTreesInOrder (put_at_key_position k d ms)
kept_put k d no_members is h = (is, tt)
kept_put k d (member a e ms) is h = kept_at (bytes_eq k a) k a d e ms is h.0 h.1 (kept_put k d ms is h.1)

-- ---- the same of the whole

mutual
  is_kept : (j : json.Json) (t : Data) → tree_of_json j ≡ Some t → IsTreeInOrder t
  is_kept json.null t h = subst IsTreeInOrder (un_some null t h) tt
  is_kept (json.boolean b) t h = subst IsTreeInOrder (un_some (boolean b) t h) tt
  is_kept (json.number s) t h =
      let m = mapped number (number_of s) t h in subst IsTreeInOrder m.2 (number_fits s m.0 m.1)
  is_kept (json.string s) t h = subst IsTreeInOrder (un_some (string s) t h) tt
  is_kept (json.array js) t h =
      let m = mapped array (items_of_json js) t h in subst IsTreeInOrder m.2 (items_are_kept js m.0 m.1)
  is_kept (json.object ms) t h =
      let m = mapped object (members_of_json ms no_members) t h in
      subst IsTreeInOrder m.2 (members_are_kept ms no_members m.0 m.1 tt tt)

  items_are_kept : (js : json.Items) (ds : Items) → items_of_json js ≡ Some ds → ItemsAreTreesInOrder ds
  items_are_kept json.no_items ds h = subst ItemsAreTreesInOrder (un_some no_items ds h) tt
  items_are_kept (json.item j js) ds h =
      let a = after (λ d. option_map (item d) (items_of_json js)) (tree_of_json j) ds h in
      let m = mapped (item a.0) (items_of_json js) ds a.2 in
      subst ItemsAreTreesInOrder m.2 (is_kept j a.0 a.1, items_are_kept js m.0 m.1)

  members_are_kept : (ms : json.Members) (found all : Members) → members_of_json ms found ≡ Some all → KeysDiffer found
      → MembersAreTreesInOrder found → KeysDiffer all × MembersAreTreesInOrder all
  members_are_kept json.no_members found all h differ are =
      subst (λ ms. KeysDiffer ms × MembersAreTreesInOrder ms) (un_some found all h) (differ, are)
  members_are_kept (json.member k j ms) found all h differ are =
      let a = after (λ d. members_of_json ms (put_at_key_position k d found)) (tree_of_json j) all h in
      members_are_kept ms (put_at_key_position k a.0 found) all a.2 (differ_put k a.0 found differ)
      (kept_put k a.0 found (is_kept j a.0 a.1) are)

pub read_is_kept : (text : List ℕ) (t : Data) → read_in_order text ≡ Some t → IsTreeInOrder t
read_is_kept text t h =
    let a = after tree_of_json (option_and_then (λ p. json.if_last p.0 p.1) (json.value max_depth (tokens text))) t h in
    is_kept a.0 t a.2
