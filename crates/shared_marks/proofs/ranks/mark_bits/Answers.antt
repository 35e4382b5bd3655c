use Rattle.std.proofs.Common.{subst, sym}
use Rattle.shared_marks.specs.Adding.{Marks, is_of_word}
use Rattle.shared_marks.proofs.AddingLemmas.{marks_word}
use Rattle.shared_marks.proofs.ranks.mark_bits.Goals as goal

pub returns-then-bits-ne0 : goal.returns-then-bits-ne0
returns-then-bits-ne0 c =
    subst (Marks (is_of_word c.args.word c.args.bits) c.args.seat.now) (sym c.mark_word.ensures) (marks_word c.args.word c.args.bits c.args.seat.now)
