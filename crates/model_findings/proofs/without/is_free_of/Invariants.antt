use Rattle.std.proofs.Common.{◌≡◌, drop, map}
use Rattle.std.specs.List.{list_any}
use Rattle.model_findings.specs.Without.{compares}
use Rattle.model_findings.proofs.without.is_free_of.Given as goal

-- a term compares exactly where one from here on does
abbrev pub invariant-loop-term : goal.invariant-loop-term
invariant-loop-term l = list_any (compares l.p) (map (λ t. t.now) l.term-items) ≡ list_any (compares l.p) (map (λ t. t.now) (drop l.term-index l.term-items))
