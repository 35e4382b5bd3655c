use Rattle.std.proofs.Common.{◌≡◌, map, drop}
use Rattle.model_lex.specs.Sections.{line_seen}
use Rattle.model_parse.specs.Steps.{and_each}
use Rattle.model_parse.specs.GroupSteps.{read_group}
use Rattle.model_parse.proofs.group.add_groups.Given as goal

abbrev pub invariant-loop-line : goal.invariant-loop-line
invariant-loop-line l = and_each (read_group l.opts l.known) l.demand (map line_seen (drop l.line-index l.lines)) ≡ and_each (read_group l.opts l.known) l.initial.demand (map line_seen l.lines)
