use Rattle.std.proofs.Common.{◌<◌, ◌+◌, ℕ, List, IsPermutation, get_or, length, subst}
use Rattle.ipog_grow.proofs.Fingerprints.{apart_distinct}
use Rattle.ipog_grow.proofs.fingerprint.are_apart.Goals as goal

pub returns : goal.returns
returns c apart =
    apart_distinct c.args.rows.now c.sort_unstable.new.self.items c.requires
    (subst (λ (numbers : List ℕ). IsPermutation numbers c.sort_unstable.new.self.items) c.in_ok-numbers.ensures c.sort_unstable.ensures.permutation)
    (subst (λ (numbers : List ℕ). (k : ℕ) → k + 1 < length numbers → get_or numbers k 0 < get_or numbers (k + 1) 0) c.as_slice.ensures.value
    (c.are_rising.ensures apart))
