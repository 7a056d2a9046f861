use Rattle.std.proofs.Common.{◌∙◌, ap, sym, subst, Ok}
use Rattle.serde_json.specs.View.{members_view}
use Rattle.bson_model.specs.Normal.{PairsInRange}
use Rattle.bson_model.specs.Reading.{reads_members_in}
use Rattle.bson_tree.specs.Place.{MemberFaultAtIn}
use Rattle.bson_tree.proofs.Offered.{in_to}
use Rattle.bson.specs.View.{document_of_pairs, pairs_view}
use Rattle.bson.proofs.Answered.{value_given, fault_given}
use Rattle.bson.proofs.Seen.{document_view-pairs}
use Rattle.bson.proofs.extjson.read.read_members.Goals as goal

pub returns-in-Ok : goal.returns-in-Ok
returns-in-Ok c =
    let ms = members_view c.args.members.entries in
    let read_result = value_given pairs_view (λ ps. PairsInRange (pairs_view ps)) (reads_members_in c.args.doubles ms)
    (λ f. MemberFaultAtIn c.args.doubles f ms) c.in_ok-pairs.field-0 c.in_ok-pairs.ensures c.in-Ok.pairs
    c.in-Ok.is in
    let seen = sym (document_view-pairs (document_of_pairs c.in-Ok.pairs)) in
    record { read_result = read_result.0 ∙ ap Ok seen; within_type_range = subst PairsInRange seen read_result.1 }

pub returns-in-Err : goal.returns-in-Err
returns-in-Err c =
    let ms = members_view c.args.members.entries in
    record {
      read_result =
          fault_given pairs_view (λ ps. PairsInRange (pairs_view ps)) (reads_members_in c.args.doubles ms)
          (λ f. MemberFaultAtIn c.args.doubles f ms) c.in_ok-pairs.field-0 c.in_ok-pairs.ensures c.in-Err.place
          c.error_of.result c.in-Err.is c.error_of.ensures (λ f path. in_to c.args.doubles);
      within_type_range = tt;
    }
