use Rattle.std.proofs.Common.{◌≡◌, ℕ, List, [], ◌∷◌, ◌++◌, ◌∙◌, ap, sym, Bor, get_or, rules}
use Rattle.seq_check.specs.believed.EventFile.{number_of}
use Rattle.seq_check.proofs.StepLemmas.{none_known, one_known}
use Rattle.seq_check.proofs.report_line.numbers_of.Goals as goal

pub returns-in-None-clause-value : goal.returns-in-None-clause-value
returns-in-None-clause-value c =
    let none : Bor (List ℕ) = record { ref_ptr = (0, 0); now = [] } in
    none_known (λ (b : Bor (List ℕ)). b.now) c.args.names.now c.args.texts.now c.loop-text.text-index none c.loop-text-test.true
    (ap (λ names. number_of names (get_or c.args.texts.now c.loop-text.text-index none).now) (sym c.as_slice.ensures) ∙ sym c.in-None.ensures)

pub loop-text-preserved : goal.loop-text-preserved
loop-text-preserved c =
    let none : Bor (List ℕ) = record { ref_ptr = (0, 0); now = [] } in
    let pushed : c.push.new.self ≡ c.loop-text.numbers ++ c.in-Some.number ∷ [] = search rules in
    rw pushed
    (one_known (λ (b : Bor (List ℕ)). b.now) c.args.names.now c.args.texts.now c.loop-text.text-index none c.loop-text.numbers c.in-Some.number c.loop-text-test.true
    c.loop-text.invariant.0 c.loop-text.invariant.1 c.loop-text.invariant.2
    (ap (λ names. number_of names (get_or c.args.texts.now c.loop-text.text-index none).now) (sym c.as_slice.ensures) ∙ sym c.in-Some.ensures))
