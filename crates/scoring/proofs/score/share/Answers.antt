use Rattle.std.proofs.Common.{◌≡◌, ℕ, ◌+◌, ◌-◌, ◌*◌, ◌/◌, ◌<◌, ◌≤◌, arith}
use Rattle.std.proofs.Math.Nat.{div-lt_iff_lt-mul}
use Rattle.scoring.proofs.score.share.Goals as goal

less : (count first workers : ℕ) → first < workers → count * first ≤ count * workers
less count first workers below = grind arith

share_within : (count first workers : ℕ) → first < workers → (count * first + workers - 1) / workers ≤ count
share_within count first workers below =
    let some : 0 < workers = omega (arith, below) in
    let opened : (count + 1) * workers ≡ count * workers + workers = grind arith in
    let within : (count * first + workers - 1) / workers < count + 1 =
    (div-lt_iff_lt-mul some).1 (omega (arith, less count first workers below, opened, some)) in
    omega (arith, within)

pub returns : goal.returns
returns c = share_within c.args.count c.args.first c.args.workers c.requires.first
