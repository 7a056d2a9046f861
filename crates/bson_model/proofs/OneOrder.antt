-- On a tree whose keys ascend the meaning in order is that by default.
use Rattle.std.proofs.Common.{sym, subst}
use Rattle.serde_json.specs.Data.{Data, Items, Members}
use Rattle.bson_scalar.specs.Means.{MeansScalarIn}
use Rattle.bson_scalar.specs.declared.form.Doubles.{Doubles}
use Rattle.bson_model.specs.Means.{MeansIn, MeansItemsIn, MeansDocumentIn}
use Rattle.bson_model.specs.Means as by_default
use Rattle.bson_model.specs.Texts.{IsTree, ItemsAreTrees, MembersAreTrees}
use Rattle.bson_model.specs.Value.{Value, Values, Pairs}
use Rattle.bson_model.specs.OrderedMeans.{MeansInOrder, scalar, code_with_scope, scope_with_code, array, document}
use Rattle.bson_model.specs.OrderedMeans.{MeansItemsInOrder, nothing, then, MeansDocumentInOrder, empty, entry}
use Rattle.bson_model.proofs.Settled.{settled}

module _ (D : Doubles) where
  mutual
    pub default_means : {t : Data} {v : Value} → MeansInOrder D t v → IsTree t → MeansIn D t v
    default_means (scalar d x m) is = by_default.scalar d x (subst (λ u. MeansScalarIn D u x) (settled d is) m)
    default_means (code_with_scope s ms ps m) is = by_default.code_with_scope s ms ps (default_document m is.1.1.0.1)
    default_means (scope_with_code s ms ps m) is = absurd cc
    default_means (array ds vs m) is = by_default.array ds vs (default_items m is)
    default_means (document ms ps none m) is = by_default.document ms ps none (default_document m is.1)

    default_items : {ds : Items} {vs : Values} → MeansItemsInOrder D ds vs → ItemsAreTrees ds → MeansItemsIn D ds vs
    default_items nothing is = by_default.nothing
    default_items (then d v ds vs m n) is = by_default.then d v ds vs (default_means m is.0) (default_items n is.1)

    default_document : {ms : Members} {ps : Pairs} → MeansDocumentInOrder D ms ps → MembersAreTrees ms
        → MeansDocumentIn D ms ps
    default_document empty is = by_default.empty
    default_document (entry k d v ms ps m n) is =
        by_default.entry k d v ms ps (default_means m is.0) (default_document n is.1)

  mutual
    pub means_in_order : {t : Data} {v : Value} → MeansIn D t v → IsTree t → MeansInOrder D t v
    means_in_order (by_default.scalar d x m) is = scalar d x (subst (λ u. MeansScalarIn D u x) (sym (settled d is)) m)
    means_in_order (by_default.code_with_scope s ms ps m) is = code_with_scope s ms ps (document_in_order m is.1.1.0.1)
    means_in_order (by_default.array ds vs m) is = array ds vs (reads_items_in_order m is)
    means_in_order (by_default.document ms ps none m) is = document ms ps none (document_in_order m is.1)

    reads_items_in_order : {ds : Items} {vs : Values} → MeansItemsIn D ds vs → ItemsAreTrees ds → MeansItemsInOrder D ds vs
    reads_items_in_order by_default.nothing is = nothing
    reads_items_in_order (by_default.then d v ds vs m n) is =
        then d v ds vs (means_in_order m is.0) (reads_items_in_order n is.1)

    document_in_order : {ms : Members} {ps : Pairs} → MeansDocumentIn D ms ps → MembersAreTrees ms
        → MeansDocumentInOrder D ms ps
    document_in_order by_default.empty is = empty
    document_in_order (by_default.entry k d v ms ps m n) is =
        entry k d v ms ps (means_in_order m is.0) (document_in_order n is.1)
