use Rattle.std.proofs.Common.{◌≡◌, ◌-◌, length}
use Rattle.coverage_measure.proofs.CountLemmas.{IsCountedTo}
use Rattle.coverage_measure.proofs.asking.Asking.+count_from.Given as goal

abbrev pub decreases-count_from : goal.decreases-count_from
decreases-count_from l = length l.members.now - l.place

-- the values before this one are counted
abbrev pub invariant-loop-i : goal.invariant-loop-i
invariant-loop-i l =
    (l.kept ≡ l.fn.kept) × (l.cells ≡ l.fn.cells)
    × IsCountedTo l.self.model.now l.self.prefs.now l.fn.kept.slice l.self.effort l.members l.place l.fn.cells l.tried l.each l.i l.count
