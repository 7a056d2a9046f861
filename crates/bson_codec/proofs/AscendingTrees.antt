-- A text that is normalized by ascending keys has a tree whose keys ascend, so the value that it means is sorted.
use Rattle.std.proofs.Common.{◌≡◌, ℕ, List, Bool, true, false, Ordering, Less, Equal, Greater, Option, Some, None}
use Rattle.std.proofs.Common.{option_map, option_and_then, refl, sym, ap, ◌∙◌, subst}
use Rattle.std.proofs.lemmas.Cmp.{nat_list_cmp_total, tied_itself}
use Rattle.std.proofs.lemmas.Option.{same_Some}
use Rattle.std.proofs.lemmas.Slice.Eq.{bytes_eq-Decides}
use Rattle.std.specs.Cmp.Lexicographic.{slice_cmp}
use Rattle.std.specs.Ordering.{nat_cmp, match_ordering}
use Rattle.std.specs.Str.{bytes_eq}
use Rattle.json.specs.Json as json
use Rattle.serde_json.specs.Data.{Data, null, boolean, number, string, array, object, Items, no_items, item, Members}
use Rattle.serde_json.specs.Data.{no_members, member, put}
use Rattle.bson_scalar.specs.declared.form.Doubles.{Doubles}
use Rattle.bson_model.specs.OrderedMeans.{MeansInOrder, scalar, code_with_scope, scope_with_code, document, MeansItemsInOrder}
use Rattle.bson_model.specs.OrderedMeans.{nothing, then, MeansDocumentInOrder, empty, entry}
use Rattle.bson_model.specs.OrderedMeans as means
use Rattle.bson_model.specs.OrderedTexts.{HasMeaningInOrder}
use Rattle.bson_model.specs.OrderedTrees.{tree_of_json, items_of_json, members_of_json, read_in_order, put_at_key_position}
use Rattle.bson_model.specs.Sorted.{insert_sorted_pair, sorted, sorted_items, sorted_pairs}
use Rattle.bson_model.specs.Texts.{IsBelowMemberKeys, MemberKeysAscend, IsTree, ItemsAreTrees, MembersAreTrees}
use Rattle.bson_model.specs.Value.{Value, code_scope, Values, Pairs, pair}
use Rattle.bson_model.specs.Value as model
use Rattle.bson_model.specs.declared.options.KeyOrder.TheVariants.{Ascending}
use Rattle.bson_model.proofs.Offered.{number_fits, ascends_put, trees_put}
use Rattle.bson_tokens.specs.Normalized.{put_ascending, normalized, normalized_items, normalized_members, HasNumbersInRange}
use Rattle.bson_tokens.specs.Normalized.{ItemsHaveNumbersInRange, MembersHaveNumbersInRange, IsNormalizedText}
use Rattle.bson_text.specs.ErrorDenials.{members_as_given}

abbrev cmp : List ℕ → List ℕ → Ordering
cmp = slice_cmp nat_cmp

-- ---- members in their order

parts : (k : List ℕ) (j : json.Json) (ms : json.Members) (all : Members)
    → members_as_given (json.member k j ms) ≡ Some all → (d : Data) × (ds : Members) × (tree_of_json j ≡ Some d)
    × (members_as_given ms ≡ Some ds) × (member k d ds ≡ all)
parts k j ms all h = first (tree_of_json j) (members_as_given ms) refl refl h
  where
    first : (o : Option Data) (p : Option Members) → tree_of_json j ≡ o → members_as_given ms ≡ p
        → option_and_then (λ d. option_map (member k d) p) o ≡ Some all → (d : Data) × (ds : Members)
        × (tree_of_json j ≡ Some d) × (members_as_given ms ≡ Some ds) × (member k d ds ≡ all)
    first (Some d) (Some ds) is are h = (d, ds, is, are, same_Some _ _ h)
    first (Some d) None is are h = absurd cc
    first None p is are h = absurd cc

joined : (k : List ℕ) (j : json.Json) (d : Data) (ms : json.Members) (ds : Members) → tree_of_json j ≡ Some d
    → members_as_given ms ≡ Some ds → members_as_given (json.member k j ms) ≡ Some (member k d ds)
joined k j d ms ds is are = rw (is, are) refl

put_at : (o : Ordering) (k c : List ℕ) (j i : json.Json) (d e : Data) (ms : json.Members) (ds : Members)
    → tree_of_json j ≡ Some d → tree_of_json i ≡ Some e → members_as_given ms ≡ Some ds
    → members_as_given (put_ascending k j ms) ≡ Some (put k d ds)
    → members_as_given
    (match_ordering o (json.member k j (json.member c i ms)) (json.member c j ms) (json.member c i (put_ascending k j ms)))
    ≡ Some (match_ordering o (member k d (member c e ds)) (member c d ds) (member c e (put k d ds)))
put_at Less k c j i d e ms ds new old are is =
    joined k j d (json.member c i ms) (member c e ds) new (joined c i e ms ds old are)
put_at Equal k c j i d e ms ds new old are is = joined c j d ms ds new are
put_at Greater k c j i d e ms ds new old are is = joined c i e (put_ascending k j ms) (put k d ds) old is

-- a member is inserted where its tree is
each_put : (k : List ℕ) (j : json.Json) (d : Data) (ms : json.Members) (ds : Members) → tree_of_json j ≡ Some d
    → members_as_given ms ≡ Some ds → members_as_given (put_ascending k j ms) ≡ Some (put k d ds)
each_put k j d json.no_members ds new are =
    joined k j d json.no_members no_members new refl ∙ ap (λ l. Some (put k d l)) (same_Some no_members ds are)
each_put k j d (json.member c i ms) ds new are =
    let (e, es, old, rest, is) = parts c i ms ds are in
    put_at (cmp k c) k c j i d e ms es new old rest (each_put k j d ms es new rest) ∙ ap (λ l. Some (put k d l)) is

differ_at : (b : Bool) (k l : List ℕ) → bytes_eq l k ≡ b → cmp k l ≡ Less → b ≡ false
differ_at false k l h less = refl
differ_at true k l h less =
    let same : cmp k k ≡ Equal = tied_itself nat_list_cmp_total k in
    let below : cmp k k ≡ Less = subst (λ x. cmp k x ≡ Less) ((bytes_eq-Decides l k).0 h) less in
    absurd cc

-- a lower key stays before the others
read_behind : (k : List ℕ) (d : Data) (ms : json.Members) (ds found : Members) → members_as_given ms ≡ Some ds
    → IsBelowMemberKeys k ds → members_of_json ms (member k d found) ≡ option_map (member k d) (members_of_json ms found)
read_behind k d json.no_members ds found are below = refl
read_behind k d (json.member l j ms) ds found are below =
    let (e, es, is, rest, all) = parts l j ms ds are in
    let under = subst (IsBelowMemberKeys k) (sym all) below in
    let differ : bytes_eq l k ≡ false = differ_at (bytes_eq l k) k l refl under.0 in
    rw (is, differ) (read_behind k d ms es (put_at_key_position l e found) rest under.1)

-- members whose keys ascend are read in their order
in_order : (ms : json.Members) (ds : Members) → members_as_given ms ≡ Some ds → MemberKeysAscend ds
    → members_of_json ms no_members ≡ Some ds
in_order json.no_members ds are up = are
in_order (json.member k j ms) ds are up =
    let (d, es, is, rest, all) = parts k j ms ds are in
    let ascend = subst MemberKeysAscend (sym all) up in
    rw is (read_behind k d ms es no_members rest ascend.0 ∙ ap (option_map (member k d)) (in_order ms es rest ascend.1)
    ∙ ap Some all)

-- ---- the whole tree

mutual
  has_tree : (j : json.Json) → HasNumbersInRange j → (t : Data) × IsTree t × (tree_of_json (normalized Ascending j) ≡ Some t)
  has_tree json.null has = (null, tt, refl)
  has_tree (json.boolean b) has = (boolean b, tt, refl)
  has_tree (json.number s) has = (number has.0, number_fits s has.0 has.1, ap (option_map number) has.1)
  has_tree (json.string s) has = (string s, tt, refl)
  has_tree (json.array js) has =
      let (ds, are, read) = has_items js has in (array ds, are, ap (option_map array) read)
  has_tree (json.object ms) has =
      let (ds, up, are, read) = has_members ms json.no_members no_members has refl tt tt in (
        object ds,
        (up, are),
        ap (option_map object)
            (in_order (normalized_members Ascending ms json.no_members) ds read up),
      )

  has_items : (js : json.Items) → ItemsHaveNumbersInRange js
      → (ds : Items) × ItemsAreTrees ds × (items_of_json (normalized_items Ascending js) ≡ Some ds)
  has_items json.no_items has = (no_items, tt, refl)
  has_items (json.item j js) has =
      let (d, is, read) = has_tree j has.0 in
      let (ds, are, rest) = has_items js has.1 in
      (item d ds, (is, are), rw (read, rest) refl)

  -- after those that are there
  has_members : (ms found : json.Members) (fs : Members) → MembersHaveNumbersInRange ms
      → members_as_given found ≡ Some fs → MemberKeysAscend fs → MembersAreTrees fs
      → (ds : Members) × MemberKeysAscend ds × MembersAreTrees ds
      × (members_as_given (normalized_members Ascending ms found) ≡ Some ds)
  has_members json.no_members found fs has there up are = (fs, up, are, there)
  has_members (json.member k j ms) found fs has there up are =
      let (d, is, read) = has_tree j has.0 in
      has_members ms (put_ascending k (normalized Ascending j) found) (put k d fs) has.1
      (each_put k (normalized Ascending j) d found fs read there) (ascends_put k d fs up) (trees_put k d fs is are)

ascending_tree : (text written : List ℕ) (t : Data) → IsNormalizedText Ascending text written
    → read_in_order written ≡ Some t → IsTree t
ascending_tree text written t is read =
    let (u, ascends, found) = has_tree is.tree is.numbers in
    let again : read_in_order written ≡ Some u = ap (option_and_then tree_of_json) is.read_again ∙ found in
    subst IsTree (same_Some u t (sym again ∙ read)) ascends

-- ---- the value that it means

module _ (D : Doubles) where
  put_first : {ms : Members} {ps : Pairs} (k : List ℕ) (v : Value) → MeansDocumentInOrder D ms ps → IsBelowMemberKeys k ms
      → insert_sorted_pair k v ps ≡ pair k v ps
  put_first k v empty below = refl
  put_first k v (entry l e w ms ps m n) below = rw below.0 refl

  mutual
    is_sorted : {t : Data} {v : Value} → MeansInOrder D t v → IsTree t → sorted v ≡ v
    is_sorted (scalar d x m) is = refl
    is_sorted (code_with_scope s ms ps m) is = ap (code_scope s) (pairs_sorted m is.1.1.0.0 is.1.1.0.1)
    is_sorted (scope_with_code s ms ps m) is = ap (code_scope s) (pairs_sorted m is.1.0.0 is.1.0.1)
    is_sorted (means.array ds vs m) is = ap model.array (items_sorted m is)
    is_sorted (document ms ps none m) is = ap model.document (pairs_sorted m is.0 is.1)

    items_sorted : {ds : Items} {vs : Values} → MeansItemsInOrder D ds vs → ItemsAreTrees ds → sorted_items vs ≡ vs
    items_sorted nothing is = refl
    items_sorted (then d v ds vs m n) is = rw (is_sorted m is.0, items_sorted n is.1) refl

    pairs_sorted : {ms : Members} {ps : Pairs} → MeansDocumentInOrder D ms ps → MemberKeysAscend ms → MembersAreTrees ms
        → sorted_pairs ps ≡ ps
    pairs_sorted empty up are = refl
    pairs_sorted (entry k d v ms ps m n) up are = rw (is_sorted m are.0, pairs_sorted n up.1 are.1) (put_first k v n up.0)

  -- the value of a text that is normalized by ascending keys
  pub means_sorted : (text written : List ℕ) (v : Value) → IsNormalizedText Ascending text written
      → HasMeaningInOrder D written v → sorted v ≡ v
  means_sorted text written v is has = is_sorted has.means (ascending_tree text written has.tree is has.tree_read)
