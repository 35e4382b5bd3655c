use Rattle.std.proofs.Common.{◌≡◌, ◌<◌, ◌≤◌, ℕ, List, IsPermutation, length, get_or, Some, ◌∙◌, sym, ap, arith, inl, inr, zero-add}
use Rattle.std.specs.List.{range_with_len}
use Rattle.std.specs.Prelude.{Contains}
use Rattle.std.proofs.lemmas.Bool.{cases_lt}
use Rattle.std.proofs.lemmas.List.{get_or_default, get_or_past}
use Rattle.std.proofs.lemmas.List.FromFn.{length-range_with_len, get_or-range_with_len}
use Rattle.std.proofs.lemmas.List.Sorted.{Contains-permutation}
use Rattle.ipog_grow.proofs.Falling.{best_at, best_of_none}
use Rattle.ipog_grow.proofs.value_order.ValueOrder.best.Goals as goal

-- no score is above the greatest, also where there is none
most_of : (scores : List ℕ) (most : ℕ) → ((k : ℕ) → k < length scores → get_or scores k 0 ≤ most) → (v : ℕ) → get_or scores v 0 ≤ most
most_of scores most all v = elim (cases_lt v (length scores)) [
  | inl within ↦ all v within
  | inr past ↦ omega (arith, get_or_past scores v 0 past)
]

pub returns-then-most-eq0-clause-best : goal.returns-then-most-eq0-clause-best
returns-then-most-eq0-clause-best c =
    sym (best_of_none (λ v. get_or c.args.scores.now v 0) c.args.self.now (λ v.
    omega (arith, most_of c.args.scores.now c.greatest-most.result.score c.greatest-most.ensures.all v, c.if-most-eq0.true)))

pub returns-then-scores-v-clause-best : goal.returns-then-scores-v-clause-best
returns-then-scores-v-clause-best c =
    ap (λ values. Some (get_or values c.loop-k.k 0)) c.self.view_is
    ∙ sym (best_at (λ v. get_or c.args.scores.now v 0) c.args.self.now c.loop-k.k c.greatest-most.result.score (omega (arith, c.if-most-eq0.false))
    (most_of c.args.scores.now c.greatest-most.result.score c.greatest-most.ensures.all) (omega (arith, c.loop-k-test.true, ap length c.self.view_is))
    c.loop-k.invariant (ap (λ values. get_or c.args.scores.now (get_or values c.loop-k.k 0) 0) (sym c.self.view_is) ∙ c.if-scores-v.true))

listed : (count v : ℕ) → v < count → Contains (range_with_len 0 count) v
listed count v within = (v, omega (arith, length-range_with_len 0 count), get_or-range_with_len 0 count v v within ∙ zero-add v)

-- an order has a place for the value of each score
placed : (scores order : List ℕ) (most i : ℕ) → IsPermutation (range_with_len 0 (length scores)) order → i < length scores → get_or scores i 0 ≡ most
    → (k : ℕ) × (k < length order) × (get_or scores (get_or order k 0) 0 ≡ most)
placed scores order most i moved within is =
    let at = Contains-permutation (range_with_len 0 (length scores)) order i moved (listed (length scores) i within) in
    (at.0, at.1, ap (λ v. get_or scores v 0) (get_or_default order at.0 0 i at.1 ∙ at.2) ∙ is)

pub returns-clause-best : goal.returns-clause-best
returns-clause-best c =
    let own = c.greatest-most.ensures.own (omega (arith, c.if-most-eq0.false)) in
    let at = placed c.args.scores.now c.args.self.now c.greatest-most.result.score own.0 c.requires.order own.1 own.2 in
    absurd (c.loop-k.invariant at.0 (omega (arith, at.1, c.loop-k-test.false, ap length c.self.view_is)) at.2)
