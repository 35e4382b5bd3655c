use Rattle.std.proofs.Common.{ℕ, List, [], Bor}
use Rattle.model_parse.specs.GroupSteps.{add_member}
use Rattle.model_parse.proofs.Readings.{each_next}
use Rattle.model_parse.proofs.group.add_members.Goals as goal

-- what a read past the end of a slice of texts gives
no_text : Bor (List ℕ)
no_text = record { ref_ptr = (0, 0); now = [] }

pub loop-piece-preserved : goal.loop-piece-preserved
unfolding no_text
loop-piece-preserved c =
    each_next (add_member c.args.fold c.args.known.now c.args.line)
    (λ (n : Bor (List ℕ)). n.now) c.args.pieces.now [] c.loop-piece.piece-index no_text c.loop-piece.members c.add_member.new.members
    c.loop-piece-test.true c.loop-piece.invariant c.in_ok-add_member.ensures
