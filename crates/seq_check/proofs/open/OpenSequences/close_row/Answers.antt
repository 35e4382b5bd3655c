use Rattle.std.proofs.Common.{◌∙◌, ◌∷◌, ◌++◌, [], ◌&&◌, not, length, ap, sym, subst, arith}
use Rattle.std.proofs.lemmas.Bool.{lt-ltb}
use Rattle.seq_check.specs.EventSets.{IsFront, is_open, rises}
use Rattle.seq_check.proofs.OpenLemmas.{second_below}
use Rattle.seq_check.proofs.open.OpenSequences.close_row.Goals as goal

pub returns-clause-closed : goal.returns-clause-closed
returns-clause-closed c = λ front last f below.
    let n = length c.args.places.now in
    let low = second_below c.args.self.now.len n front last c.assert_invariant.ensures.0 f below in
    c.loop-event.invariant.1 front last (subst (λ len. IsFront len n front) (sym c.loop-event.invariant.0) f) below
    ∙ ap (λ t. is_open c.args.self.now front last && not (t && rises c.args.places.now (front ++ last ∷ []))) (lt-ltb _ _ (omega arith))
