use Rattle.std.proofs.Common.{◌≡◌, ◌++◌, All, flat_map, length, map, take}
use Rattle.model_findings.specs.Findings.{IsExplained, fact_of}
use Rattle.model_findings.specs.believed.Findings.{rule_facts}
use Rattle.model_findings.proofs.rules.Rules.add_rules.Given as goal

-- what is so of the constraints before this one is told
abbrev pub invariant-loop-i : goal.invariant-loop-i
invariant-loop-i g l =
    (length l.room ≡ length l.self.model.now.params) × All (IsExplained l.self.model.now) l.list
    × (map fact_of l.list ≡ map fact_of l.initial.list ++ flat_map (rule_facts l.self.model.now l.self.all) (take l.i l.self.model.now.rules))
