-- An normalized tree is read as the tree itself.
use Rattle.std.proofs.Common.{◌≡◌, ◌↔◌, ℕ, List, Bool, true, false, cond, Ordering, Less, Equal, Greater, Option, Some}
use Rattle.std.proofs.Common.{option_map, option_and_then, refl, sym, ap, ◌∙◌}
use Rattle.std.proofs.lemmas.Option.{same_Some}
use Rattle.std.specs.Ordering.{match_ordering}
use Rattle.std.specs.Str.{bytes_eq}
use Rattle.json.specs.Json as json
use Rattle.serde_json.specs.Data.{Data, null, boolean, number, string, array, object, Items, no_items, item, Members}
use Rattle.serde_json.specs.Data.{no_members, member, put}
use Rattle.serde_json.specs.Read.{number_of, of_json, of_items, of_members, read}
use Rattle.bson_scalar.specs.declared.form.Doubles.{Doubles}
use Rattle.bson_model.specs.Sorted.{sorted}
use Rattle.bson_model.specs.Value.{Value}
use Rattle.bson_model.specs.OrderedTexts.{HasMeaningInOrder, MeansByDefault}
use Rattle.bson_model.specs.OrderedTrees.{put_at_key_position, tree_of_json, items_of_json, members_of_json, read_in_order, tree_sorted_by_key}
use Rattle.bson_model.proofs.OfferedInOrder.{read_forgotten}
use Rattle.bson_tokens.specs.Normalized.{put_at_first_position, put_ascending, put_member, normalized, normalized_items, normalized_members}
use Rattle.bson_tokens.specs.Normalized.{HasNumbersInRange, ItemsHaveNumbersInRange, MembersHaveNumbersInRange, IsNormalizedText}
use Rattle.bson_model.specs.declared.options.KeyOrder.{KeyOrder}
use Rattle.bson_model.specs.declared.options.KeyOrder.TheVariants.{AsGiven, Ascending}
use Rattle.bson_tokens.proofs.Normalizing.{cmp, IsBehind, AreBehind, IsNormalized, all_normalized}

-- ---- both ways to read a tree

abbrev put_data : KeyOrder → List ℕ → Data → Members → Members
put_data AsGiven = put_at_key_position
put_data Ascending = put

abbrev mutual
  tree_by : KeyOrder → json.Json → Option Data
  tree_by a json.null = Some null
  tree_by a (json.boolean b) = Some (boolean b)
  tree_by a (json.number s) = option_map number (number_of s)
  tree_by a (json.string s) = Some (string s)
  tree_by a (json.array js) = option_map array (items_by a js)
  tree_by a (json.object ms) = option_map object (members_by a ms no_members)

  items_by : KeyOrder → json.Items → Option Items
  items_by a json.no_items = Some no_items
  items_by a (json.item j js) = option_and_then (λ d. option_map (item d) (items_by a js)) (tree_by a j)

  members_by : KeyOrder → json.Members → Members → Option Members
  members_by a json.no_members found = Some found
  members_by a (json.member k j ms) found =
      option_and_then (λ d. members_by a ms (put_data a k d found)) (tree_by a j)

later : {A B : Type 0} (f g : A → Option B) (o : Option A) → ((x : A) → f x ≡ g x)
    → option_and_then f o ≡ option_and_then g o
later f g Option.None is = refl
later f g (Some x) is = is x

mutual
  by_key : (j : json.Json) → tree_by Ascending j ≡ of_json j
  by_key json.null = refl
  by_key (json.boolean b) = refl
  by_key (json.number s) = refl
  by_key (json.string s) = refl
  by_key (json.array js) = ap (option_map array) (items_by_key js)
  by_key (json.object ms) = ap (option_map object) (members_by_key ms no_members)

  items_by_key : (js : json.Items) → items_by Ascending js ≡ of_items js
  items_by_key json.no_items = refl
  items_by_key (json.item j js) = rw (by_key j, items_by_key js) refl

  members_by_key : (ms : json.Members) (found : Members) → members_by Ascending ms found ≡ of_members ms found
  members_by_key json.no_members found = refl
  members_by_key (json.member k j ms) found = rw (by_key j)
      (later _ _ (of_json j) (λ d. members_by_key ms (put k d found)))

mutual
  by_place : (j : json.Json) → tree_by AsGiven j ≡ tree_of_json j
  by_place json.null = refl
  by_place (json.boolean b) = refl
  by_place (json.number s) = refl
  by_place (json.string s) = refl
  by_place (json.array js) = ap (option_map array) (items_by_place js)
  by_place (json.object ms) = ap (option_map object) (members_by_place ms no_members)

  items_by_place : (js : json.Items) → items_by AsGiven js ≡ items_of_json js
  items_by_place json.no_items = refl
  items_by_place (json.item j js) = rw (by_place j, items_by_place js) refl

  members_by_place : (ms : json.Members) (found : Members) → members_by AsGiven ms found ≡ members_of_json ms found
  members_by_place json.no_members found = refl
  members_by_place (json.member k j ms) found = rw (by_place j)
      (later _ _ (tree_of_json j) (λ d. members_by_place ms (put_at_key_position k d found)))

-- ---- members unchanged

-- the data of each member
abbrev each_by : KeyOrder → json.Members → Option Members
each_by a json.no_members = Some no_members
each_by a (json.member k j ms) = option_and_then (λ d. option_map (member k d) (each_by a ms)) (tree_by a j)

member_by : (a : KeyOrder) (k : List ℕ) (j : json.Json) (d : Data) (ms : json.Members) (ds : Members)
    → tree_by a j ≡ Some d → each_by a ms ≡ Some ds → each_by a (json.member k j ms) ≡ Some (member k d ds)
member_by a k j d ms ds is are = rw (is, are) refl

mapped : {A B : Type 0} (f : A → B) (o : Option A) (y : B) → option_map f o ≡ Some y
    → (x : A) × (o ≡ Some x) × (f x ≡ y)
mapped f (Some x) y h = (x, refl, same_Some _ _ h)
mapped f Option.None y h = absurd cc

after : {A B : Type 0} (f : A → Option B) (o : Option A) (y : B) → option_and_then f o ≡ Some y
    → (x : A) × (o ≡ Some x) × (f x ≡ Some y)
after f (Some x) y h = (x, refl, h)
after f Option.None y h = absurd cc

put_first_at : (b : Bool) (k c : List ℕ) (j i : json.Json) (d e : Data) (ms : json.Members) (ds : Members)
    → tree_by AsGiven j ≡ Some d → tree_by AsGiven i ≡ Some e → each_by AsGiven ms ≡ Some ds
    → each_by AsGiven (put_at_first_position k j ms) ≡ Some (put_at_key_position k d ds)
    → each_by AsGiven (cond b (json.member c j ms) (json.member c i (put_at_first_position k j ms)))
    ≡ Some (cond b (member c d ds) (member c e (put_at_key_position k d ds)))
put_first_at true k c j i d e ms ds new old are is = member_by AsGiven c j d ms ds new are
put_first_at false k c j i d e ms ds new old are is =
    member_by AsGiven c i e (put_at_first_position k j ms) (put_at_key_position k d ds) old is

put_ascending_at : (o : Ordering) (k c : List ℕ) (j i : json.Json) (d e : Data) (ms : json.Members) (ds : Members)
    → tree_by Ascending j ≡ Some d → tree_by Ascending i ≡ Some e → each_by Ascending ms ≡ Some ds
    → each_by Ascending (put_ascending k j ms) ≡ Some (put k d ds)
    → each_by Ascending
    (match_ordering o (json.member k j (json.member c i ms)) (json.member c j ms)
    (json.member c i (put_ascending k j ms)))
    ≡ Some (match_ordering o (member k d (member c e ds)) (member c d ds) (member c e (put k d ds)))
put_ascending_at Less k c j i d e ms ds new old are is =
    member_by Ascending k j d (json.member c i ms) (member c e ds) new (member_by Ascending c i e ms ds old are)
put_ascending_at Equal k c j i d e ms ds new old are is = member_by Ascending c j d ms ds new are
put_ascending_at Greater k c j i d e ms ds new old are is =
    member_by Ascending c i e (put_ascending k j ms) (put k d ds) old is

-- the data of what is inserted is inserted into the data
each_put : (a : KeyOrder) (k : List ℕ) (j : json.Json) (d : Data) (ms : json.Members) (ds : Members)
    → tree_by a j ≡ Some d → each_by a ms ≡ Some ds → each_by a (put_member a k j ms) ≡ Some (put_data a k d ds)
each_put AsGiven k j d json.no_members ds new are =
    member_by AsGiven k j d json.no_members no_members new refl
    ∙ ap (λ l. Some (put_at_key_position k d l)) (same_Some no_members ds are)
each_put Ascending k j d json.no_members ds new are =
    member_by Ascending k j d json.no_members no_members new refl
    ∙ ap (λ l. Some (put k d l)) (same_Some no_members ds are)
each_put AsGiven k j d (json.member c i ms) ds new are =
    let a = after (λ e. option_map (member c e) (each_by AsGiven ms)) (tree_by AsGiven i) ds are in
    let b = mapped (member c a.0) (each_by AsGiven ms) ds a.2 in
    put_first_at (bytes_eq k c) k c j i d a.0 ms b.0 new a.1 b.1 (each_put AsGiven k j d ms b.0 new b.1)
    ∙ ap (λ l. Some (put_at_key_position k d l)) b.2
each_put Ascending k j d (json.member c i ms) ds new are =
    let a = after (λ e. option_map (member c e) (each_by Ascending ms)) (tree_by Ascending i) ds are in
    let b = mapped (member c a.0) (each_by Ascending ms) ds a.2 in
    put_ascending_at (cmp k c) k c j i d a.0 ms b.0 new a.1 b.1 (each_put Ascending k j d ms b.0 new b.1)
    ∙ ap (λ l. Some (put k d l)) b.2

-- ---- what is in its place is read unchanged

data_behind : (a : KeyOrder) (k l : List ℕ) (d e : Data) (ds : Members) → IsBehind a k l
    → put_data a l e (member k d ds) ≡ member k d (put_data a l e ds)
data_behind AsGiven k l d e ds h = rw h refl
data_behind Ascending k l d e ds h = rw h refl

map_later : {A B C : Type 0} (f : B → C) (g : A → Option B) (o : Option A)
    → option_and_then (λ x. option_map f (g x)) o ≡ option_map f (option_and_then g o)
map_later f g Option.None = refl
map_later f g (Some x) = refl

read_behind : (a : KeyOrder) (k : List ℕ) (d : Data) (ms : json.Members) (ds : Members) → AreBehind a k ms
    → members_by a ms (member k d ds) ≡ option_map (member k d) (members_by a ms ds)
read_behind a k d json.no_members ds are = refl
read_behind a k d (json.member l i ms) ds are =
    later _ _ (tree_by a i) (λ e. ap (members_by a ms) (data_behind a k l d e ds are.0)
    ∙ read_behind a k d ms (put_data a l e ds) are.1)
    ∙ map_later (member k d) (λ e. members_by a ms (put_data a l e ds)) (tree_by a i)

put_none : (a : KeyOrder) (k : List ℕ) (d : Data) → put_data a k d no_members ≡ member k d no_members
put_none AsGiven k d = refl
put_none Ascending k d = refl

as_it_stands : (a : KeyOrder) (ms : json.Members) → IsNormalized a ms → members_by a ms no_members ≡ each_by a ms
as_it_stands a json.no_members are = refl
as_it_stands a (json.member k j ms) are =
    later _ _ (tree_by a j) (λ d. ap (members_by a ms) (put_none a k d) ∙ read_behind a k d ms no_members are.0
    ∙ ap (option_map (member k d)) (as_it_stands a ms are.1))

-- ---- the whole

mutual
  has_tree : (a : KeyOrder) (j : json.Json) → HasNumbersInRange j → (d : Data) × (tree_by a j ≡ Some d)
  has_tree a json.null has = (null, refl)
  has_tree a (json.boolean b) has = (boolean b, refl)
  has_tree a (json.number s) has = (number has.0, ap (option_map number) has.1)
  has_tree a (json.string s) has = (string s, refl)
  has_tree a (json.array js) has =
      let t = has_items a js has in (array t.0, ap (option_map array) t.1)
  has_tree a (json.object ms) has =
      let t = has_members a ms no_members has in (object t.0, ap (option_map object) t.1)

  has_items : (a : KeyOrder) (js : json.Items) → ItemsHaveNumbersInRange js → (ds : Items) × (items_by a js ≡ Some ds)
  has_items a json.no_items has = (no_items, refl)
  has_items a (json.item j js) has =
      let t = has_tree a j has.0 in
      let u = has_items a js has.1 in
      (item t.0 u.0, rw (t.1, u.1) refl)

  has_members : (a : KeyOrder) (ms : json.Members) (found : Members) → MembersHaveNumbersInRange ms
      → (ds : Members) × (members_by a ms found ≡ Some ds)
  has_members a json.no_members found has = (found, refl)
  has_members a (json.member k j ms) found has =
      let t = has_tree a j has.0 in
      let u = has_members a ms (put_data a k t.0 found) has.1 in
      (u.0, ap (option_and_then (λ d. members_by a ms (put_data a k d found))) t.1 ∙ u.1)

mutual
  tree_alike : (a : KeyOrder) (j : json.Json) → HasNumbersInRange j → tree_by a (normalized a j) ≡ tree_by a j
  tree_alike a json.null has = refl
  tree_alike a (json.boolean b) has = refl
  tree_alike a (json.number s) has = refl
  tree_alike a (json.string s) has = refl
  tree_alike a (json.array js) has = ap (option_map array) (items_alike a js has)
  tree_alike a (json.object ms) has =
      ap (option_map object)
      (as_it_stands a (normalized_members a ms json.no_members) (all_normalized a ms json.no_members tt)
      ∙ members_alike a ms json.no_members no_members has refl)

  items_alike : (a : KeyOrder) (js : json.Items) → ItemsHaveNumbersInRange js
      → items_by a (normalized_items a js) ≡ items_by a js
  items_alike a json.no_items has = refl
  items_alike a (json.item j js) has = rw (tree_alike a j has.0, items_alike a js has.1) refl

  members_alike : (a : KeyOrder) (ms found : json.Members) (ds : Members) → MembersHaveNumbersInRange ms
      → each_by a found ≡ Some ds → each_by a (normalized_members a ms found) ≡ members_by a ms ds
  members_alike a json.no_members found ds has are = are
  members_alike a (json.member k j ms) found ds has are =
      let t = has_tree a j has.0 in
      members_alike a ms (put_member a k (normalized a j) found) (put_data a k t.0 ds) has.1
      (each_put a k (normalized a j) t.0 found ds (tree_alike a j has.0 ∙ t.1) are)
      ∙ sym (ap (option_and_then (λ d. members_by a ms (put_data a k d ds))) t.1)

pub read_alike : (j : json.Json) → HasNumbersInRange j → of_json (normalized Ascending j) ≡ of_json j
read_alike j has = sym (by_key (normalized Ascending j)) ∙ tree_alike Ascending j has ∙ by_key j

pub kept_alike : (j : json.Json) → HasNumbersInRange j → tree_of_json (normalized AsGiven j) ≡ tree_of_json j
kept_alike j has = sym (by_place (normalized AsGiven j)) ∙ tree_alike AsGiven j has ∙ by_place j

-- ---- texts

pub text_kept : (text written : List ℕ) → IsNormalizedText AsGiven text written → read_in_order written ≡ read_in_order text
text_kept text written is = ap (option_and_then tree_of_json) is.read_again ∙ kept_alike is.tree is.numbers
    ∙ sym (ap (option_and_then tree_of_json) is.is_tree)

pub text_read : (a : KeyOrder) (text written : List ℕ) → IsNormalizedText a text written → read written ≡ read text
text_read AsGiven text written is =
    read_forgotten written ∙ ap (option_map tree_sorted_by_key) (text_kept text written is) ∙ sym (read_forgotten text)
text_read Ascending text written is = ap (option_and_then of_json) is.read_again ∙ read_alike is.tree is.numbers
    ∙ sym (ap (option_and_then of_json) is.is_tree)

-- ---- meanings

meant_by : (D : Doubles) (v : Value) (text other : List ℕ) → read text ≡ read other → MeansByDefault D text v
    → MeansByDefault D other v
meant_by D v text other same (t, is, means) = (t, sym same ∙ is, means)

pub meant : (D : Doubles) (a : KeyOrder) (text written : List ℕ) (v : Value) → IsNormalizedText a text written
    → (MeansByDefault D written v ↔ MeansByDefault D text v)
meant D a text written v is =
    let same = text_read a text written is in
    (meant_by D v written text same, meant_by D v text written (sym same))

ordered_by : (D : Doubles) (v : Value) (text other : List ℕ) → read_in_order text ≡ read_in_order other → read text ≡ read other
    → HasMeaningInOrder D text v → HasMeaningInOrder D other v
ordered_by D v text other same by_key has = record {
  tree = has.tree;
  tree_read = sym same ∙ has.tree_read;
  means = has.means;
  one = has.one;
  read_form = has.read_form;
  within_type_range = has.within_type_range;
  distinct = has.distinct;
  by_default = meant_by D (sorted v) text other by_key has.by_default;
}

pub meant_in_order : (D : Doubles) (text written : List ℕ) (v : Value) → IsNormalizedText AsGiven text written
    → (HasMeaningInOrder D written v ↔ HasMeaningInOrder D text v)
meant_in_order D text written v is =
    let same = text_kept text written is in
    let by_key = text_read AsGiven text written is in
    (ordered_by D v written text same by_key, ordered_by D v text written (sym same) (sym by_key))
