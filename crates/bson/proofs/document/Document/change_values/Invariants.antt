use Rattle.std.proofs.Common.{◌≡◌, List, ◌++◌, ℕ, take, drop, length}
use Rattle.std.specs.Fn.{always_mut}
use Rattle.bson.specs.ChangedValues.{ChangesEach}
use Rattle.bson.specs.declared.bson.Bson.{Bson}
use Rattle.bson.proofs.document.Document.change_values.Given as goal

abbrev pub invariant-loop-pair_index : goal.invariant-loop-pair_index
invariant-loop-pair_index g l =
    let old = l.fn.self.pairs in record {
      callable : always_mut g.F.FnMut l.change;
      same_length : length l.self.pairs ≡ length old;
      lookahead : drop l.pair_index l.self.pairs ≡ drop l.pair_index old;
      done : (last : g.row.F.Denot) (rest : List (List ℕ × Bson))
          → ChangesEach g.F.FnMut l.change (drop l.pair_index old) last rest
          → ChangesEach g.F.FnMut l.fn.change old last (take l.pair_index l.self.pairs ++ rest);
    }
