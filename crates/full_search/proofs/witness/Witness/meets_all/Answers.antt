use Rattle.std.proofs.Common.{◌≡◌, ◌∙◌, sym, arith}
use Rattle.std.proofs.lemmas.Bool.{false≢true, eq-eqb, eqb-true}
use Rattle.full_search.proofs.WitnessRows.{marked_breaks, unmarked_meets}
use Rattle.full_search.proofs.witness.Witness.meets_all.Goals as goal

pub returns-clause-meets : goal.returns-clause-meets
returns-clause-meets c = λ none.
    unmarked_meets c.args.tree.now c.args.self.now c.requires (sym c.count.ensures ∙ eqb-true c.count.result 0 none)

pub returns-clause-breaks : goal.returns-clause-breaks
returns-clause-breaks c = λ some.
    let not_none : c.count.result ≡ 0 → ⊥ = λ none. false≢true (sym some ∙ eq-eqb c.count.result 0 none) in
    marked_breaks c.args.tree.now c.args.self.now c.requires (omega (arith, not_none, c.count.ensures))
