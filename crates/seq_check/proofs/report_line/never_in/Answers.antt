use Rattle.std.proofs.Common.{◌≡◌, ℕ, ◌+◌, ◌-◌, List, ◌∙◌, cond, ap, sym, Bor, map, take, drop, Some, arith}
use Rattle.std.proofs.lemmas.Bool.{and_parts}
use Rattle.seq_check.specs.believed.OrderReport.{Never, Wrong, has_marks, numbers_of}
use Rattle.seq_check.proofs.StepLemmas.{good_is, never_when, rest_of}
use Rattle.seq_check.proofs.report_line.never_in.Goals as goal

pub returns-then-not-is_good : goal.returns-then-not-is_good
returns-then-not-is_good c =
    let e = c.args.events.now in
    let now = λ (b : Bor (List ℕ)). b.now in
    let P = map now c.args.parts.now in
    let count_is : c.length-count.result ≡ e.len = c.length-count.ensures in
    let marks = ap (λ k. has_marks k P) (sym count_is) ∙ sym c.has_marks.ensures.value ∙ c.if-not-has_marks.false in
    let len_is : c.length-count.result + 1 - 1 ≡ e.len = omega arith in
    let first = sym c.in-Some.is ∙ c.in_ok-sequence.ensures.value ∙ ap (λ k. numbers_of e.names (take k (drop 1 P))) len_is in
    let second = sym c.in-Some-2.is ∙ c.in_ok-cycle.ensures.value
    ∙ ap (numbers_of e.names) (rest_of now c.args.parts.now (c.length-count.result + 2)) ∙ ap (λ k. numbers_of e.names (drop (k + 2) P)) count_is in
    let good = good_is e c.as_slice.ensures c.as_slice-2.ensures c.if-not-is_good.true c.is_good.ensures in
    never_when e P (Some c.in-Some.sequence) (Some c.in-Some-2.cycle) marks first second ∙ ap (λ t. cond t (Never c.in-Some.sequence) Wrong) good

pub returns : goal.returns
returns c =
    let e = c.args.events.now in
    let now = λ (b : Bor (List ℕ)). b.now in
    let P = map now c.args.parts.now in
    let count_is : c.length-count.result ≡ e.len = c.length-count.ensures in
    let marks = ap (λ k. has_marks k P) (sym count_is) ∙ sym c.has_marks.ensures.value ∙ c.if-not-has_marks.false in
    let len_is : c.length-count.result + 1 - 1 ≡ e.len = omega arith in
    let first = sym c.in-Some.is ∙ c.in_ok-sequence.ensures.value ∙ ap (λ k. numbers_of e.names (take k (drop 1 P))) len_is in
    let second = sym c.in-Some-2.is ∙ c.in_ok-cycle.ensures.value
    ∙ ap (numbers_of e.names) (rest_of now c.args.parts.now (c.length-count.result + 2)) ∙ ap (λ k. numbers_of e.names (drop (k + 2) P)) count_is in
    let good = good_is e c.as_slice.ensures c.as_slice-2.ensures c.if-not-is_good.false c.is_good.ensures in
    (never_when e P (Some c.in-Some.sequence) (Some c.in-Some-2.cycle) marks first second ∙ ap (λ t. cond t (Never c.in-Some.sequence) Wrong) good, (and_parts _ _ good).0)
