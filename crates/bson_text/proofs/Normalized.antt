-- The text that is normalized by ascending keys has keys that ascend.
use Rattle.std.proofs.Common.{◌≡◌, ℕ, List, refl, Ordering}
use Rattle.std.proofs.lemmas.Cmp.{nat_list_cmp_total}
use Rattle.std.specs.Cmp.Lexicographic.{slice_cmp}
use Rattle.std.specs.Ordering.{nat_cmp, match_ordering}
use Rattle.std.specs.declared.cmp.Ordering.TheVariants.{Less, Equal, Greater}
use Rattle.json.specs.Json.{Json, null, boolean, number, string, array, object, Items, no_items, item, Members}
use Rattle.json.specs.Json.{no_members, member}
use Rattle.bson_model.proofs.Offered.{flipped}
use Rattle.bson_tokens.specs.Normalized.{normalized, normalized_items, normalized_members, put_ascending}
use Rattle.bson_model.specs.declared.options.KeyOrder.TheVariants.{Ascending}
use Rattle.bson_text.specs.ErrorPaths.{IsLessThanKeys, HasSortedKeys, ItemsHaveAscendingKeys, MembersHaveAscendingKeys}

abbrev cmp : List ℕ → List ℕ → Ordering
cmp = slice_cmp nat_cmp

under_at : (o : Ordering) (l k m : List ℕ) (j i : Json) (ms : Members) → cmp l k ≡ Less → IsLessThanKeys l (member m i ms)
    → IsLessThanKeys l (put_ascending k j ms)
    → IsLessThanKeys l (match_ordering o (member k j (member m i ms)) (member m j ms) (member m i (put_ascending k j ms)))
under_at Less l k m j i ms less under more = (less, under)
under_at Equal l k m j i ms less under more = under
under_at Greater l k m j i ms less under more = (under.0, more)

under_put : (l k : List ℕ) (j : Json) (ms : Members) → cmp l k ≡ Less → IsLessThanKeys l ms → IsLessThanKeys l (put_ascending k j ms)
under_put l k j no_members less under = (less, tt)
under_put l k j (member m i ms) less under =
    under_at (cmp k m) l k m j i ms less under (under_put l k j ms less under.1)

lower : (k m : List ℕ) (ms : Members) → cmp k m ≡ Less → IsLessThanKeys m ms → IsLessThanKeys k ms
lower k m no_members less under = tt
lower k m (member l i ms) less under = (nat_list_cmp_total.trans k m l less under.0, lower k m ms less under.1)

rise_at : (o : Ordering) (k m : List ℕ) (j i : Json) (ms : Members) → cmp k m ≡ o → HasSortedKeys j → MembersHaveAscendingKeys (member m i ms)
    → MembersHaveAscendingKeys (put_ascending k j ms)
    → MembersHaveAscendingKeys (match_ordering o (member k j (member m i ms)) (member m j ms) (member m i (put_ascending k j ms)))
rise_at Less k m j i ms is new rise more = ((is, lower k m ms is rise.0), new, rise)
rise_at Equal k m j i ms is new rise more = (rise.0, new, rise.2)
rise_at Greater k m j i ms is new rise more = (under_put m k j ms (flipped k m Greater is) rise.0, rise.1, more)

rise_put : (k : List ℕ) (j : Json) (ms : Members) → HasSortedKeys j → MembersHaveAscendingKeys ms → MembersHaveAscendingKeys (put_ascending k j ms)
rise_put k j no_members new rise = (tt, new, tt)
rise_put k j (member m i ms) new rise = rise_at (cmp k m) k m j i ms refl new rise (rise_put k j ms new rise.2)

mutual
  pub normalized_rises : (j : Json) → HasSortedKeys (normalized Ascending j)
  normalized_rises null = tt
  normalized_rises (boolean b) = tt
  normalized_rises (number s) = tt
  normalized_rises (string s) = tt
  normalized_rises (array js) = items_rise js
  normalized_rises (object ms) = members_rise ms no_members tt

  items_rise : (js : Items) → ItemsHaveAscendingKeys (normalized_items Ascending js)
  items_rise no_items = tt
  items_rise (item j js) = (normalized_rises j, items_rise js)

  members_rise : (ms found : Members) → MembersHaveAscendingKeys found → MembersHaveAscendingKeys (normalized_members Ascending ms found)
  members_rise no_members found rise = rise
  members_rise (member k j ms) found rise =
      members_rise ms (put_ascending k (normalized Ascending j) found) (rise_put k (normalized Ascending j) found (normalized_rises j) rise)
