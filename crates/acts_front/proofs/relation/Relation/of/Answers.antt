use Rattle.std.proofs.Common.{ℕ, List, Bor, sym, true, false, rules}
use Rattle.acts_front.proofs.LineForms.{parts_popped}
use Rattle.acts_front.proofs.relation.Relation.of.Goals as goal

pub returns-then-not-are_parts : goal.returns-then-not-are_parts
returns-then-not-are_parts c =
    sym (parts_popped {T = Bor (List ℕ)} (λ part. part.now) c.args.parts.items c.pop.new.self.items c.in_ok-strength.strength c.in_ok-strength.ensures.items false (search rules))

pub returns : goal.returns
returns c =
    sym (parts_popped {T = Bor (List ℕ)} (λ part. part.now) c.args.parts.items c.pop.new.self.items c.in_ok-strength.strength c.in_ok-strength.ensures.items true (search rules))
