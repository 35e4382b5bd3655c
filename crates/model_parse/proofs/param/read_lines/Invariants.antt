use Rattle.std.proofs.Common.{◌≡◌, map, drop}
use Rattle.model_lex.specs.Sections.{line_seen}
use Rattle.model_parse.specs.Steps.{and_each}
use Rattle.model_parse.specs.ParamSteps.{Counts, read_param, no_params}
use Rattle.model_parse.proofs.param.read_lines.Given as goal

abbrev pub invariant-loop-line : goal.invariant-loop-line
invariant-loop-line l =
    (and_each (read_param l.opts) l.read (map line_seen (drop l.line-index l.lines)) ≡ and_each (read_param l.opts) no_params (map line_seen l.lines))
    × Counts l.read l.line-index
