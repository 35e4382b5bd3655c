use Rattle.std.proofs.Common.{◌≡◌, map, take}
use Rattle.std.specs.List.{AllZip}
use Rattle.model_findings.specs.Findings.{fact_of}
use Rattle.jeldroft_lint.specs.believed.Remarks.{Explains, fact_gist, gist_of}
use Rattle.jeldroft_lint.proofs.remarks.remarks_of.Given as goal

-- the findings before this one are told
abbrev pub invariant-loop-finding : goal.invariant-loop-finding
invariant-loop-finding l =
    (map gist_of l.list.items ≡ map (fact_gist l.model) (map fact_of (take l.finding-index l.found)))
    × AllZip (Explains l.model) (map fact_of (take l.finding-index l.found)) l.list.items
