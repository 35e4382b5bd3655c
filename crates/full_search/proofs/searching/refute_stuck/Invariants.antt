use Rattle.std.proofs.Common.{◌≡◌, take}
use Rattle.full_search.proofs.Values.{Tries}
use Rattle.full_search.proofs.searching.refute_stuck.Given as goal

-- the values before this one are refuted
abbrev pub invariant-loop-v : goal.invariant-loop-v
invariant-loop-v l = record {
  cells : l.cells ≡ l.fn.cells;
  tries : Tries l.tree l.fn.cells l.q (take l.v-index l.v-items) l.why;
}
