use Rattle.std.proofs.Common.{◌≡◌, All, map, take}
use Rattle.model_lint.specs.Unused.{value_of}
use Rattle.model_findings.specs.Findings.{IsExplained, fact_of}
use Rattle.model_findings.specs.believed.Findings.{ValueInNoTest}
use Rattle.model_findings.proofs.gathering.unused_findings.Given as goal

-- the values before this one are told
abbrev pub invariant-loop-one : goal.invariant-loop-one
invariant-loop-one l = All (IsExplained l.model) l.list × (map fact_of l.list ≡ map ValueInNoTest (map value_of (take l.one-index l.unused)))
