use Rattle.std.proofs.Common.{◌≡◌, ℕ, List, suc, ◌-◌, ◌∷◌, ◌∙◌, drop, get_or, ap, sym, subst, arith, drop-cons}
use Rattle.seq_cover.specs.Sets.{AreWays}
use Rattle.seq_cover.proofs.WayLemmas.{way_more}
use Rattle.seq_cover.proofs.ways.ways_of.Goals as goal

pub loop-at-preserved : goal.loop-at-preserved
loop-at-preserved c =
    let pairs = c.args.pairs.now in
    let at = c.loop-at.at - 1 in
    let pair = get_or pairs at (0, 0) in
    let fits = c.requires at (0, 0) (omega arith) in
    let next : suc at ≡ c.loop-at.at = omega arith in
    let split : drop at pairs ≡ pair ∷ drop c.loop-at.at pairs = drop-cons pairs at (0, 0) (omega arith) ∙ ap (λ k. pair ∷ drop k pairs) next in
    let more : AreWays c.add_way.new.ways (pair ∷ drop c.loop-at.at pairs) =
    way_more c.loop-at.ways c.add_way.new.ways (drop c.loop-at.at pairs) pair.0 pair.1 c.loop-at.invariant.1 fits.0 fits.1 c.add_way.ensures in
    (omega arith, subst (λ (l : List (ℕ × ℕ)). AreWays c.add_way.new.ways l) (sym split) more)
