use Rattle.std.proofs.Common.{◌≡◌, ◌++◌, List, Bool, length}
use Rattle.cov_model.specs.Fits.{FitsModel}
use Rattle.cov_model.specs.believed.Sound.{param_at}
use Rattle.compiled_rules.specs.Codes.{PairTruths}
use Rattle.compiled_rules.proofs.compile.compile_two.Given as goal

abbrev pub invariant-loop-v : goal.invariant-loop-v
invariant-loop-v l = record {
  fits : FitsModel l.model l.room;
  count : l.count ≡ length (param_at l.model.params l.p).values;
  added : List Bool;
  table : l.table ≡ l.initial.table ++ added;
  pairs : PairTruths l.model l.term l.p l.q l.v added;
}
