-- What is read from a text is a tree whose numbers are in range and whose keys ascend.
use Rattle.std.proofs.Common.{◌≡◌, ◌<◌, ◌≤◌, ◌^◌, ◌&&◌, ◌==◌, ℕ, zero, suc, nat_lt, nat_le, List, drop, slice_index}
use Rattle.std.proofs.Common.{Bool, true, false, cond, Some, None, option_map, option_and_then, refl, subst}
use Rattle.std.proofs.Common.{arith}
use Rattle.std.proofs.lemmas.Bool.{and_parts, ltb-true, leb-true}
use Rattle.std.specs.Float.{binary64, float_is_finite}
use lib.Ieee.Bits.{is_true}
use lib.Ieee.Fits.{round-fits}
use Rattle.fast_float.specs.Text.{minus, Parts, scan, digits_of, nearest, with_sign}
use Rattle.json.specs.Json as json
use Rattle.json.specs.Lex.{tokens}
use Rattle.serde_json.specs.Data.{Num, unsigned, negative, float, Data, Items, no_items, item, Members, no_members}
use Rattle.serde_json.specs.Data.{member, put}
use Rattle.serde_json.specs.Data as tree
use Rattle.serde_json.specs.Read.{is_integer, float_of, number_from, number_of, of_json, of_items, of_members}
use Rattle.serde_json.specs.Read.{max_depth, read}
use Rattle.bson_model.specs.Texts.{NumberFits, MemberKeysAscend, IsTree, ItemsAreTrees, MembersAreTrees}
use Rattle.bson_model.proofs.TreeLaws.{ascends_put, trees_put}
use Rattle.bson_model.proofs.OptionalValues.{un_some, mapped, after}

-- ---- numbers

float_fits : (sign : Bool) (p : Parts) (n : Num) → float_of sign p ≡ Some n → NumberFits n
float_fits sign p n h = float_at (float_is_finite (nearest binary64 sign p)) refl h
  where
    float_at : (b : Bool) → float_is_finite (nearest binary64 sign p) ≡ b
        → cond b (Some (float (nearest binary64 sign p))) None ≡ Some n → NumberFits n
    float_at true finite e = subst NumberFits (un_some _ _ e) (is_true _ (round-fits binary64 _ _ _), finite)
    float_at false finite e = absurd cc

plain_at : (b : Bool) (p : Parts) (n : Num) → (b ≡ true → digits_of p < 2 ^ 64)
    → cond b (Some (unsigned (digits_of p))) (float_of false p) ≡ Some n → NumberFits n
plain_at true p n small h = subst NumberFits (un_some _ _ h) (small refl)
plain_at false p n small h = float_fits false p n h

below_zero : (d : ℕ) → 0 < d → d ≤ 2 ^ 63 → NumberFits (negative (with_sign true d))
below_zero zero some small = absurd (omega arith)
below_zero (suc d) some small = omega arith

minus_at : (b : Bool) (p : Parts) (n : Num) → (b ≡ true → (0 < digits_of p) × (digits_of p ≤ 2 ^ 63))
    → cond b (Some (negative (with_sign true (digits_of p)))) (float_of true p) ≡ Some n → NumberFits n
minus_at true p n small h = let s = small refl in subst NumberFits (un_some _ _ h) (below_zero (digits_of p) s.0 s.1)
minus_at false p n small h = float_fits true p n h

from_fits : (sign : Bool) (p : Parts) (n : Num) → number_from sign p ≡ Some n → NumberFits n
from_fits false p n h =
    plain_at (is_integer p && nat_lt (digits_of p) (2 ^ 64)) p n
    (λ e. ltb-true (digits_of p) (2 ^ 64) (and_parts (is_integer p) (nat_lt (digits_of p) (2 ^ 64)) e).1) h
from_fits true p n h =
    let d = digits_of p in
    minus_at (is_integer p && nat_lt 0 d && nat_le d (2 ^ 63)) p n
    (λ e.
    let a = and_parts (is_integer p && nat_lt 0 d) (nat_le d (2 ^ 63)) e in
    let b = and_parts (is_integer p) (nat_lt 0 d) a.0 in
    (ltb-true 0 d b.1, leb-true d (2 ^ 63) a.1)) h

signed_at : (b : Bool) (s : List ℕ) (n : Num)
    → cond b (number_from true (scan (drop 1 s))) (number_from false (scan s)) ≡ Some n → NumberFits n
signed_at true s n h = from_fits true (scan (drop 1 s)) n h
signed_at false s n h = from_fits false (scan s) n h

pub number_fits : (s : List ℕ) (n : Num) → number_of s ≡ Some n → NumberFits n
unfolding number_of
number_fits s n h = signed_at (slice_index s 0 == minus) s n h

-- ---- trees

mutual
  json_tree : (j : json.Json) (t : Data) → of_json j ≡ Some t → IsTree t
  json_tree json.null t h = subst IsTree (un_some _ _ h) tt
  json_tree (json.boolean b) t h = subst IsTree (un_some _ _ h) tt
  json_tree (json.number s) t h =
      let m = mapped tree.number (number_of s) t h in subst IsTree m.2 (number_fits s m.0 m.1)
  json_tree (json.string s) t h = subst IsTree (un_some _ _ h) tt
  json_tree (json.array js) t h =
      let m = mapped tree.array (of_items js) t h in subst IsTree m.2 (json_items js m.0 m.1)
  json_tree (json.object ms) t h =
      let m = mapped tree.object (of_members ms no_members) t h in
      subst IsTree m.2 (json_members ms no_members m.0 tt tt m.1)

  json_items : (js : json.Items) (ds : Items) → of_items js ≡ Some ds → ItemsAreTrees ds
  json_items json.no_items ds h = subst ItemsAreTrees (un_some _ _ h) tt
  json_items (json.item j js) ds h =
      let a = after (λ d. option_map (item d) (of_items js)) (of_json j) ds h in
      let m = mapped (item a.0) (of_items js) ds a.2 in
      subst ItemsAreTrees m.2 (json_tree j a.0 a.1, json_items js m.0 m.1)

  json_members : (ms : json.Members) (found out : Members) → MemberKeysAscend found → MembersAreTrees found
      → of_members ms found ≡ Some out → MemberKeysAscend out × MembersAreTrees out
  json_members json.no_members found out up are h = subst (λ m. MemberKeysAscend m × MembersAreTrees m) (un_some _ _ h) (up, are)
  json_members (json.member k j ms) found out up are h =
      let a = after (λ d. of_members ms (put k d found)) (of_json j) out h in
      json_members ms (put k a.0 found) out (ascends_put k a.0 found up)
      (trees_put k a.0 found (json_tree j a.0 a.1) are) a.2

pub read_tree : (text : List ℕ) (t : Data) → read text ≡ Some t → IsTree t
read_tree text t h =
    let a = after of_json (option_and_then (λ p. json.if_last p.0 p.1) (json.value max_depth (tokens text))) t h in
    json_tree a.0 t a.2
