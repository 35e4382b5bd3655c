-- How the words on counts of faults compose over several calls.
use Rattle.std.proofs.Common.{◌≡◌, ℕ, ◌^◌, ◌<◌, inl, inr, subst, arith}
use Rattle.outside_io.specs.believed.Faults.{Rose, GoesOn}
use Rattle.outside_io.specs.believed.Puts.{CountsFaults}
use Rattle.outside_io.specs.declared.answers.WriteAnswer.{WriteAnswer}
use Rattle.outside_io.specs.declared.answers.WriteAnswer.TheVariants.{Done, Failed}

-- a count goes on over two calls
pub GoesOn-then : (a b c : ℕ) → GoesOn a b → GoesOn b c → GoesOn a c
GoesOn-then a b c first second = (omega arith, λ fits. second.1 (first.1 fits))

-- a count that stays goes on
pub GoesOn-same : (a b : ℕ) → b ≡ a → GoesOn a b
GoesOn-same a b same = (omega arith, λ fits. omega arith)

-- a count that rose and went on rose
pub Rose-then : (a b c : ℕ) → Rose a b → GoesOn b c → Rose a c
Rose-then a b c (inl less) on = inl (omega arith)
Rose-then a b c (inr last) on =
    let fits : b < 2 ^ 64 = omega arith in
    let ends : c < 2 ^ 64 = on.1 fits in
    inr (omega arith)

-- a count that stayed and then rose rose
pub Rose-after : (a b c : ℕ) → b ≡ a → Rose b c → Rose a c
Rose-after a b c same rose = subst (λ (k : ℕ). Rose k c) same rose

-- the count of a sink goes on, whatever its answer
pub CountsFaults-on : (r : WriteAnswer) (a b : ℕ) → CountsFaults r a b → GoesOn a b
CountsFaults-on Done a b counts = GoesOn-same a b counts
CountsFaults-on Failed a b counts = counts.1
