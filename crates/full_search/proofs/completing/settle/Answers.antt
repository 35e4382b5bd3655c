use Rattle.std.proofs.Common.{ℕ, ◌∙◌, List, [], Option, get_or, sym, ap, subst, arith, is_some}
use Rattle.cov_model.specs.believed.Rows.{is_assigned}
use Rattle.feasibility.specs.Tree.{constrained_at}
use Rattle.feasibility.proofs.Naming.{constrained_exists}
use Rattle.full_search.specs.Searching.{HasRoom}
use Rattle.full_search.proofs.Holding.{room_less, settled_here, some_value}
use Rattle.full_search.proofs.completing.settle.Goals as goal

pub get-requires : goal.get-requires
get-requires c =
    omega (
      arith,
      constrained_exists c.args.tree.now.model c.args.i c.requires.place,
      ap (λ entry. entry.param) c.constrained_at.ensures,
      c.requires.row.at.listed.long,
      c.assert_invariant.ensures.values.as_many,
    )

pub values_of-v-items-requires : goal.values_of-v-items-requires
values_of-v-items-requires c =
    omega (arith, constrained_exists c.args.tree.now.model c.args.i c.requires.place, ap (λ entry. entry.param) c.constrained_at.ensures)

pub returns-then-holds_with-clause-settled : goal.returns-then-holds_with-clause-settled
returns-then-holds_with-clause-settled c =
    let tree = c.args.tree.now in
    let param = ap (λ entry. entry.param) c.constrained_at.ensures in
    settled_here tree c.args.i c.loop-v.v-index c.args.cells.now c.loop-v.cells c.holds_with.new.cells c.holds_with.new.witness.row c.values_of-v-items.result.now
    c.assert_invariant.ensures.values c.requires.place c.requires.row.at.listed c.requires.given
    (ap (λ (k : ℕ). is_assigned c.args.cells.now k) (sym param) ∙ ap is_some (sym c.get.ensures) ∙ sym c.is_some.ensures ∙ c.if-is_some.false)
    (c.values_of-v-items.ensures ∙ ap (λ (k : ℕ). get_or tree.values k []) param) c.loop-v-test.true c.loop-v.invariant.cells c.loop-v.invariant.none
    (c.holds_with.ensures.yes c.if-holds_with.true) c.holds_with.ensures.row.row

pub returns-then-holds_with-clause-room : goal.returns-then-holds_with-clause-room
returns-then-holds_with-clause-room c =
    let p = constrained_at c.args.tree.now.model c.args.i in
    let param = ap (λ entry. entry.param) c.constrained_at.ensures in
    subst (λ (cells : List (Option ℕ)). HasRoom cells c.holds_with.new.whys) (sym (c.holds_with.ensures.yes c.if-holds_with.true))
    (room_less c.loop-v.cells c.holds_with.new.whys p (get_or c.values_of-v-items.result.now c.loop-v.v-index 0)
    (omega (arith, constrained_exists c.args.tree.now.model c.args.i c.requires.place, c.loop-v.invariant.row.at.listed.long, c.assert_invariant.ensures.values.as_many))
    (ap (λ (cells : List (Option ℕ)). is_assigned cells p) c.loop-v.invariant.cells
    ∙ ap (λ (k : ℕ). is_assigned c.args.cells.now k) (sym param) ∙ ap is_some (sym c.get.ensures) ∙ sym c.is_some.ensures ∙ c.if-is_some.false)
    c.holds_with.ensures.room)

pub returns-clause-settled : goal.returns-clause-settled
returns-clause-settled c =
    let tree = c.args.tree.now in
    let param = ap (λ entry. entry.param) c.constrained_at.ensures in
    absurd (some_value tree c.args.cells.now c.args.witness.now.row (constrained_at tree.model c.args.i) c.loop-v.v-index c.values_of-v-items.result.now
    c.requires.row.row c.requires.row.at.part
    (omega (arith, constrained_exists tree.model c.args.i c.requires.place, c.assert_invariant.ensures.values.as_many))
    (c.values_of-v-items.ensures ∙ ap (λ (k : ℕ). get_or tree.values k []) param) (omega (arith, c.loop-v-test.false)) c.loop-v.invariant.none)
