use Rattle.std.proofs.Common.{◌≡◌, ◌∙◌, ◌*◌, ◌-◌, ◌+◌, ℕ, Option, Some, None, refl, ap, arith, length, get_or, sym}
use Rattle.std.specs.Prelude.{option_map}
use Rattle.uncovered_table.specs.declared.block.Line.{Line}
use Rattle.uncovered_table.specs.Digits.{cell_digit, joined, own_values, with_digit}
use Rattle.uncovered_table.specs.Places.{set_at}
use Rattle.uncovered_table.proofs.LineLemmas.{LineKnown, no_line, play_known}
use Rattle.uncovered_table.proofs.PreparedLemmas.{member-known, number-few, numbering-more, numbering-none, weighing-more, weight-most}
use Rattle.uncovered_table.proofs.sets.SliceSets.member_line.Goals as goal

pub with_member-requires-clause-few : goal.with_member-requires-clause-few
with_member-requires-clause-few c =
    let v = c.args.self.now in
    let members = c.members-members.result.now in
    let known = play_known v.model v.slice c.args.column c.args.set members c.assert_invariant.ensures.kept c.assert_invariant.ensures.own c.requires.set
    (c.members-members.ensures.value ∙ ap (λ w. set_at w.model c.args.set) c.self.view_is) in
    let few = number-few v.model v.slice c.args.cells.now c.args.column members c.loop-left.left c.loop-left.weight c.loop-left.step c.loop-left.number
    c.loop-left.invariant known.own known.some known.few in
    omega (arith, few)

pub returns-in_err-number-clause-value : goal.returns-in_err-number-clause-value
returns-in_err-number-clause-value c =
    let v = c.args.self.now in
    let members = c.members-members.result.now in
    let digits = cell_digit (own_values v.model v.slice) c.args.cells.now in
    let p = get_or members (c.loop-left.left - 1) 0 in
    let own : members ≡ set_at v.model c.args.set = c.members-members.ensures.value ∙ ap (λ w. set_at w.model c.args.set) c.self.view_is in
    let none : None ≡ joined (with_digit digits c.args.column 0 p) c.loop-left.weight (Some c.loop-left.number) =
    c.in_err-number.ensures
    ∙ ap (λ (f : ℕ → Option ℕ). joined (with_digit f c.args.column 0 p) c.loop-left.weight (Some c.loop-left.number)) c.requires.digits in
    λ d.
    no_line v.model v.slice digits c.args.column c.args.set members c.assert_invariant.ensures.kept c.requires.set own
    (numbering-none v.model v.slice c.args.column members digits c.loop-left.left p c.loop-left.weight c.loop-left.step c.loop-left.number
    c.loop-left-test.true c.loop-left.invariant refl none) d
    ∙ ap (option_map (λ (line : Line). line.first + d * line.step)) (sym c.from_residual.ensures)

pub overflow_mul-weight : goal.overflow_mul-weight
overflow_mul-weight c =
    let v = c.args.self.now in
    let members = c.members-members.result.now in
    let p = get_or members (c.loop-left.left - 1) 0 in
    let known = play_known v.model v.slice c.args.column c.args.set members c.assert_invariant.ensures.kept c.assert_invariant.ensures.own c.requires.set
    (c.members-members.ensures.value ∙ ap (λ w. set_at w.model c.args.set) c.self.view_is) in
    let more = weighing-more v.model v.slice c.args.column members c.loop-left.left p c.loop-left.weight c.loop-left.step
    (c.loop-left.weight * c.value_count-count.result) c.step_at-step.result c.loop-left-test.true c.loop-left.invariant.weighing refl c.step_at-step.ensures
    (ap (λ n. c.loop-left.weight * n) (c.value_count-count.ensures ∙ ap (λ w. length (own_values w.model w.slice p)) c.self.view_is)) in
    let most = weight-most v.model v.slice c.args.column members (c.loop-left.left - 1) (c.loop-left.weight * c.value_count-count.result)
    c.step_at-step.result more known.some known.few in
    omega (arith, most)

pub loop-left-preserved : goal.loop-left-preserved
loop-left-preserved c =
    let v = c.args.self.now in
    let members = c.members-members.result.now in
    let digits = cell_digit (own_values v.model v.slice) c.args.cells.now in
    let p = get_or members (c.loop-left.left - 1) 0 in
    let made : Some c.in_ok-number.number ≡ joined (with_digit digits c.args.column 0 p) c.loop-left.weight (Some c.loop-left.number) =
    c.in_ok-number.ensures
    ∙ ap (λ (f : ℕ → Option ℕ). joined (with_digit f c.args.column 0 p) c.loop-left.weight (Some c.loop-left.number)) c.requires.digits in
    numbering-more v.model v.slice c.args.column members digits c.loop-left.left p c.loop-left.weight c.loop-left.step c.loop-left.number
    (c.loop-left.weight * c.value_count-count.result) c.step_at-step.result c.in_ok-number.number c.loop-left-test.true c.loop-left.invariant refl made
    c.step_at-step.ensures (ap (λ n. c.loop-left.weight * n) (c.value_count-count.ensures ∙ ap (λ w. length (own_values w.model w.slice p)) c.self.view_is))

-- what the number of the members makes of the line
known : (c : goal.After-struct_known-1) → LineKnown c.args.self.now.model c.args.self.now.slice
    (cell_digit (own_values c.args.self.now.model c.args.self.now.slice) c.args.cells.now) c.args.column c.args.set
    (c.block.result.first + c.loop-left.number) c.loop-left.step
known c =
    let v = c.args.self.now in
    member-known v.model v.slice c.args.cells.now c.args.column c.args.set c.members-members.result.now c.block.result.first c.loop-left.left
    c.loop-left.weight c.loop-left.step c.loop-left.number c.assert_invariant.ensures.kept c.assert_invariant.ensures.own c.requires.set
    (c.members-members.ensures.value ∙ ap (λ w. set_at w.model c.args.set) c.self.view_is) c.block.ensures.first c.loop-left-test.false c.loop-left.invariant

pub overflow_cast-result : goal.overflow_cast-result
overflow_cast-result c =
    let v = c.args.self.now in
    let line = member-known v.model v.slice c.args.cells.now c.args.column c.args.set c.members-members.result.now c.block.result.first c.loop-left.left
    c.loop-left.weight c.loop-left.step c.loop-left.number c.assert_invariant.ensures.kept c.assert_invariant.ensures.own c.requires.set
    (c.members-members.ensures.value ∙ ap (λ w. set_at w.model c.args.set) c.self.view_is) c.block.ensures.first c.loop-left-test.false c.loop-left.invariant in
    omega (arith, line.few)

pub overflow_add-result : goal.overflow_add-result
overflow_add-result c = omega (arith, (known c).few)

pub returns-clause-value : goal.returns-clause-value
returns-clause-value c = (known c).value

pub returns-clause-within : goal.returns-clause-within
returns-clause-within c = (known c).within
