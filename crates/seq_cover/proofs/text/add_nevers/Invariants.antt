use Rattle.std.proofs.Common.{◌≡◌, ◌++◌, map, take}
use Rattle.seq_check.specs.believed.OrderReport.{never_line}
use Rattle.seq_cover.specs.believed.ReportText.{text_of_lines}
use Rattle.seq_cover.proofs.text.add_nevers.Given as goal

abbrev pub invariant-loop-never : goal.invariant-loop-never
invariant-loop-never l =
    l.text.items ≡ l.initial.text.items ++ text_of_lines (map (λ never. never_line l.events never.sequence never.cycle) (take l.never-index l.never-items))
