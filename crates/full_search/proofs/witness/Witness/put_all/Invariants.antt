use Rattle.std.proofs.Common.{◌≡◌, ℕ, None, true, length, get_or}
use Rattle.cov_model.specs.believed.Rows.{is_assigned}
use Rattle.definitions.specs.believed.Demand.{is_among}
use Rattle.definitions.specs.believed.Search.{constrained_params}
use Rattle.feasibility.specs.Tree.{constrained_at}
use Rattle.full_search.specs.Witnesses.{IsWitness}
use Rattle.full_search.proofs.WitnessRows.{GivesBelow}
use Rattle.full_search.proofs.witness.Witness.put_all.Given as goal

-- the row gives the constrained parameters before this place what the cells give them
abbrev pub invariant-loop-i : goal.invariant-loop-i
invariant-loop-i l = record {
  count : l.count ≡ length (constrained_params l.tree.model);
  kept : IsWitness l.tree l.self;
  same : GivesBelow (constrained_at l.tree.model) l.self.row l.cells l.i;
}

-- and all of them, and the parameters before this one
abbrev pub invariant-loop-p : goal.invariant-loop-p
invariant-loop-p l = record {
  kept : IsWitness l.tree l.self;
  named : (q : ℕ) → is_among (constrained_params l.tree.model) q ≡ true → is_assigned l.cells q ≡ true → get_or l.self.row q None ≡ get_or l.cells q None;
  same : GivesBelow (λ q. q) l.self.row l.cells l.p;
}
