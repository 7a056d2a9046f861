-- The laws that the crates above use. No other file of these proofs is cited from outside.
use Rattle.std.proofs.Common.{◌≡◌, true, false, Result, Ok, Err}
use Rattle.std.specs.Prelude.{IfOk, OnOk, is_ok}
use Rattle.serde_json.specs.Data.{Data, Members}
use Rattle.bson_scalar.specs.Faults.{IsReadResult}
use Rattle.bson_scalar.specs.Written.{IsWriteResult}
use Rattle.bson_scalar.specs.declared.error.Error.{Error}
use Rattle.bson_scalar.specs.declared.form.Doubles.TheVariants.{Special}
use Rattle.bson_scalar.specs.declared.form.Form.{Form}
use Rattle.bson_scalar.specs.declared.write_error.WriteError.{WriteError}
use Rattle.bson_scalar.specs.declared.write_error.WriteError.TheVariants.{FiniteDouble}
use Rattle.bson_model.specs.Fault.{IsFaultOf, IsDocumentFault}
use Rattle.bson_model.specs.Laws.{IsTreeOf, FormsAreIdempotent, HasMeaning, HasDocumentMeaning}
use Rattle.bson_model.specs.Means.{Means, MeansDocument}
use Rattle.bson_model.specs.Normal.{normal_form, plain, writable, NumbersInRange}
use Rattle.bson_model.specs.Reading.{reads_tree, reads_members}
use Rattle.bson_model.specs.Sorted.{KeysAscend}
use Rattle.bson_model.specs.Texts.{MemberKeysAscend, HasText, ValueRoundTrips, IsTree}
use Rattle.bson_scalar.specs.Normal.{IsNormalOrNan}
use Rattle.bson_model.specs.Value.{Value, Pairs, IfScalar}
use Rattle.bson_model.specs.Writing.{writes_value}
use Rattle.bson_model.specs.Written.{Written}
pub use Rattle.bson_model.proofs.Binds.{bind_ok, fault_bind_ok, un_ok}
pub use Rattle.bson_model.proofs.EachLaws.{as_read_each}
pub use Rattle.bson_model.proofs.OneTree.{tree_one}
pub use Rattle.bson_model.proofs.PutLaws.{put_swap}
pub use Rattle.bson_model.proofs.PutMembers.{put_members_swap}
pub use Rattle.bson_model.proofs.PutSwap.{equal_keys, flipped}
pub use Rattle.bson_model.proofs.ReadLaws.{IsRead}
pub use Rattle.bson_model.proofs.ReadTrees.{number_fits, read_tree}
pub use Rattle.bson_model.proofs.SameSorted.{at_each, from_each, option_same, same_document, same_feeds}
pub use Rattle.bson_model.proofs.TextLaws.{number_back, numbers, same_depth}
pub use Rattle.bson_model.proofs.TreeLaws.{ascends_put, trees_put}
pub use Rattle.bson_model.proofs.Stable.{sorted_by, turned, put_last, put_ascending}
use Rattle.bson_model.proofs.ValueRoundTrips as whole
use Rattle.bson_model.proofs.MeansLaws as meaning
use Rattle.bson_model.proofs.RangeLaws as range
use Rattle.bson_model.proofs.ReadBack as back
use Rattle.bson_model.proofs.ReadForm as form
use Rattle.bson_model.proofs.ReadLaws as reading
use Rattle.bson_model.proofs.WriteLaws as writing
-- in each mode of doubles
pub use Rattle.bson_model.proofs.ValueRoundTrips.{has_text as has_text_in, read_comes_back as read_comes_back_in}
pub use Rattle.bson_model.proofs.ValueRoundTrips.{read_back_ok as read_back_ok_in}
pub use Rattle.bson_model.proofs.MeansLaws.{means_from as means_from_in, means_to as means_to_in}
pub use Rattle.bson_model.proofs.MeansLaws.{means_one as means_one_in}
pub use Rattle.bson_model.proofs.Modes.{all_writable}
pub use Rattle.bson_model.proofs.NoFloats.{has_no_float}
pub use Rattle.bson_model.proofs.ReadForm.{normal_scalar_of}
pub use Rattle.bson_model.proofs.RangeLaws.{in_range as in_range_in}
pub use Rattle.bson_model.proofs.ReadBack.{forms_idempotent as forms_idempotent_in, tree_is as tree_is_in}
pub use Rattle.bson_model.proofs.ReadBack.{write_finite as write_finite_in, write_ok as write_ok_in}
pub use Rattle.bson_model.proofs.ReadBack.{writable_from as writable_from_in, write_both as write_both_in}
pub use Rattle.bson_model.proofs.ReadLaws.{value_read as value_read_in, document_read as document_read_in}
pub use Rattle.bson_model.proofs.ReadLaws.{document_read_ascends as document_read_ascends_in}
pub use Rattle.bson_model.proofs.WriteLaws.{canon_from as canon_from_in, writable_is as writable_is_in}

-- those of the mode `Special`

pub has_text : (f : Form) (v : Value) (u : Data) → writes_value f v ≡ Ok u → plain v ≡ true → NumbersInRange v → HasText f v u
has_text = whole.has_text Special

pub read_comes_back : (t : Data) (v : Value) → IsTree t → Means t v → ValueRoundTrips v
read_comes_back = whole.read_comes_back Special

pub read_back_ok : {X : Type 0} (see : X → Value) (t : Data) (r : Result X Error) → IsReadResult see r (reads_tree t)
    → IfOk r (λ v. NumbersInRange (see v)) → IfOk r (λ v. ValueRoundTrips (see v))
read_back_ok = whole.read_back_ok Special

pub means_from : (t : Data) (v : Value) → reads_tree t ≡ Ok v → Means t v
means_from = meaning.means_from Special

pub means_to : {t : Data} {v : Value} → Means t v → reads_tree t ≡ Ok v
means_to m = meaning.means_to Special m

pub means_one : (t : Data) (v w : Value) → Means t v → Means t w → v ≡ w
means_one = meaning.means_one Special

pub read_normal : (t : Data) (v : Value) → reads_tree t ≡ Ok v → IfScalar v IsNormalOrNan
read_normal t v h = form.normal_scalar_of Special (means_from t v h)

pub in_range : {t : Data} {v : Value} → Means t v → IsTree t → NumbersInRange v
in_range m is = range.in_range Special m is

pub forms_idempotent : (v : Value) → FormsAreIdempotent v
forms_idempotent = back.forms_idempotent Special

pub tree_is : (f : Form) (v : Value) (t : Data) → writes_value f v ≡ Ok t → NumbersInRange v → IsTreeOf f v t
tree_is = back.tree_is Special

pub write_finite : {X : Type 0} (f : Form) (see : X → Data) (v : Value) (r : Result X WriteError)
    → IsWriteResult see r (writes_value f v) → r ≡ Err FiniteDouble → writable v ≡ false
write_finite = back.write_finite Special

pub write_ok : {X : Type 0} (f : Form) (see : X → Data) (v : Value) (r : Result X WriteError) (P : X → Type 0)
    → IsWriteResult see r (writes_value f v) → ((x : X) → writes_value f v ≡ Ok (see x) → P x) → IfOk r P
write_ok = back.write_ok Special

pub writable_from : (f : Form) (v : Value) (t : Data) → writes_value f v ≡ Ok t → writable v ≡ true
writable_from = back.writable_from Special

pub write_both : {X : Type 0} (f : Form) (see : X → Data) (v : Value) (r : Result X WriteError) (P : X → Type 0)
    → IsWriteResult see r (writes_value f v) → OnOk r (NumbersInRange v) → ((x : X) → writes_value f v ≡ Ok (see x) → NumbersInRange v → P x) → IfOk r P
write_both = back.write_both Special

pub value_read : {X : Type 0} (see : X → Value) (t : Data) (r : Result X Error) → IsReadResult see r (reads_tree t)
    → IsRead see r (Means t) (HasMeaning t) (IsFaultOf t)
value_read = reading.value_read Special

pub document_read : {X : Type 0} (see : X → Pairs) (ms : Members) (r : Result X Error) → IsReadResult see r (reads_members ms)
    → IsRead see r (MeansDocument ms) (HasDocumentMeaning ms) (IsDocumentFault ms)
document_read = reading.document_read Special

pub document_read_ascends : {X : Type 0} (see : X → Pairs) (ms : Members) (r : Result X Error)
    → IsReadResult see r (reads_members ms) → MemberKeysAscend ms → IfOk r (λ v. KeysAscend (see v))
document_read_ascends = reading.document_read_ascends Special

pub canon_from : (f : Form) (v : Value) (t : Data) → writes_value f v ≡ Ok t → Written f (normal_form v) t
canon_from = writing.canon_from Special

pub writable_is : (f : Form) (v : Value) → is_ok (writes_value f v) ≡ writable v
writable_is = writing.writable_is Special
