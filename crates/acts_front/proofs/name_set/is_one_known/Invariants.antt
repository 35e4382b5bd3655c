use Rattle.acts_front.proofs.Repeated.{NoneRepeated}
use Rattle.acts_front.proofs.name_set.is_one_known.Given as goal

abbrev pub invariant-loop-text : goal.invariant-loop-text
invariant-loop-text l = NoneRepeated (λ text. text.now) l.fold l.texts l.earlier l.text-index
