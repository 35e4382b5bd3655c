use Rattle.std.proofs.Common.{◌≡◌, ◌+◌, ◌*◌, ◌<◌, length}
use Rattle.constraint_ast.specs.believed.Grammar.{most_open}
use Rattle.constraint_ast.specs.believed.Trees.{Trees, End}
use Rattle.constraint_ast.specs.Trees.{trees_in}
use Rattle.constraint_ast.specs.Machine.{Need, Outer, Part, run}
use Rattle.constraint_ast.proofs.parser.Parser.+parse.Given as goal

abbrev pub decreases-unit : goal.decreases-unit
decreases-unit l = 4 * l.room

abbrev pub decreases-conj : goal.decreases-conj
decreases-conj l = 4 * l.room + 1

abbrev pub decreases-pred : goal.decreases-pred
decreases-pred l = 4 * l.room + 2

abbrev pub decreases-inner : goal.decreases-inner
decreases-inner l = 4 * l.room + 3

abbrev pub invariant-conj-loop-parts : goal.invariant-conj-loop-parts
invariant-conj-loop-parts l = record {
  reads : (anys : Trees) (outer : Outer) → run most_open l.self.last l.fn.tokens (Need l.fn.room (Part l.fn.room anys End outer))
      ≡ run most_open l.self.last l.more (Need l.fn.room (Part l.fn.room anys (trees_in l.parts) outer));
  some : 0 < length l.parts;
  shorter : length l.more < length l.fn.tokens;
}

abbrev pub decreases-conj-loop-parts : goal.decreases-conj-loop-parts
decreases-conj-loop-parts l = length l.more

abbrev pub invariant-pred-loop-parts : goal.invariant-pred-loop-parts
invariant-pred-loop-parts l = record {
  reads : (outer : Outer) → run most_open l.self.last l.fn.tokens (Need l.fn.room (Part l.fn.room End End outer))
      ≡ run most_open l.self.last l.more (Need l.fn.room (Part l.fn.room (trees_in l.parts) End outer));
  some : 0 < length l.parts;
  shorter : length l.more < length l.fn.tokens;
}

abbrev pub decreases-pred-loop-parts : goal.decreases-pred-loop-parts
decreases-pred-loop-parts l = length l.more
