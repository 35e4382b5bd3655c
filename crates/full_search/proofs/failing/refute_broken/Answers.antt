use Rattle.std.proofs.Common.{ℕ, List, Option, length, sym, subst, arith}
use Rattle.full_search.specs.Reasons.{Grows}
use Rattle.full_search.proofs.BrokenPaths.{broken_reason}
use Rattle.full_search.proofs.Grown.{grows_none, grows_on}
use Rattle.full_search.proofs.failing.refute_broken.Goals as goal

pub add_members-requires-clause-grows : goal.add_members-requires-clause-grows
add_members-requires-clause-grows c =
    subst (λ (why : List (Option ℕ)). Grows c.args.cells.now 65535 why why) (sym c.clear.ensures)
    (grows_none (length c.args.why.now) c.args.cells.now 65535 c.requires.long)

pub returns : goal.returns
returns c =
    broken_reason c.args.tree.now c.args.cells.now c.add_members.new.why c.args.rule 65535
    (omega (arith, c.requires.fits.as_long, c.assert_invariant.ensures.sound.few)) c.requires.first c.requires.last c.requires.broken
    (grows_on c.args.cells.now 65535 c.clear.new.why c.add_members.new.why c.add_members.ensures.grows) c.add_members.ensures.members
