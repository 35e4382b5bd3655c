use Rattle.std.proofs.Common.{ℕ, ◌-◌, List, ◌∙◌, ap, sym, Bor, map, take, drop}
use Rattle.std.proofs.lemmas.List.{take-map}
use Rattle.seq_check.specs.believed.OrderReport.{numbers_of}
use Rattle.seq_check.proofs.StepLemmas.{drop_map}
use Rattle.seq_check.proofs.report_line.numbers_between.Goals as goal

pub returns-in-Some-clause-value : goal.returns-in-Some-clause-value
returns-in-Some-clause-value c =
    let now = λ (b : Bor (List ℕ)). b.now in
    let n = c.args.to - c.args.from in
    let parts = sym (take-map now n (drop c.args.from c.args.parts.now)) ∙ ap (take n) (drop_map now c.args.from c.args.parts.now) in
    sym c.in-Some.is ∙ c.in_ok-numbers.ensures.value
    ∙ ap (λ names. numbers_of names (map now (take n (drop c.args.from c.args.parts.now)))) c.names.ensures ∙ ap (numbers_of c.args.events.now.names) parts

pub returns-in-None-clause-value : goal.returns-in-None-clause-value
returns-in-None-clause-value c =
    let now = λ (b : Bor (List ℕ)). b.now in
    let n = c.args.to - c.args.from in
    let parts = sym (take-map now n (drop c.args.from c.args.parts.now)) ∙ ap (take n) (drop_map now c.args.from c.args.parts.now) in
    sym c.in-None.is ∙ c.in_ok-numbers.ensures.value
    ∙ ap (λ names. numbers_of names (map now (take n (drop c.args.from c.args.parts.now)))) c.names.ensures ∙ ap (numbers_of c.args.events.now.names) parts
