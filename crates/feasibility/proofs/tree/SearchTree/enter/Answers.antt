use Rattle.std.proofs.Common.{◌≡◌, ℕ, ◌<◌, ◌∙◌, get_or, length, sym, ap, subst, arith}
use Rattle.cov_model.specs.Fits.{FitsModel}
use Rattle.cov_model.specs.believed.Rows.{with_value}
use Rattle.definitions.specs.believed.Search.{constrained_params}
use Rattle.feasibility.specs.Live.{AreRules, EachHasOne, LookedAt, Stops}
use Rattle.feasibility.specs.Tree.{undecided}
use Rattle.feasibility.proofs.Broken.{longer_set}
use Rattle.feasibility.proofs.Deciding.{decided_answer, decided_live, decided_why, fewer_left, free_left, value_decides}
use Rattle.feasibility.proofs.Naming.{constrained_exists, has_undecided}
use Rattle.feasibility.proofs.Nodes.{FitsModel-with_value}
use Rattle.feasibility.proofs.tree.SearchTree.enter.Goals as goal

pub list-requires : goal.list-requires
list-requires c =
    (has_undecided c.args.self.now.model (get_or (constrained_params c.args.self.now.model) c.args.i 0) c.args.v c.constrained_at-named.result.now
    c.assert_invariant.ensures.sound
    c.constrained_at-named.ensures c.requires.value).within

pub set_cell-requires : goal.set_cell-requires
set_cell-requires c =
    subst (λ (n : ℕ). c.constrained_at-named.result.now.param < n) (sym c.requires.fits.as_long)
    (subst (λ (q : ℕ). q < length c.args.self.now.model.params) (sym (ap (λ entry. entry.param) c.constrained_at-named.ensures))
    (constrained_exists c.args.self.now.model c.args.i c.requires.place))

pub look_at_each-requires-clause-fits : goal.look_at_each-requires-clause-fits
look_at_each-requires-clause-fits c =
    let m = c.args.self.now.model in
    let p = get_or (constrained_params m) c.args.i 0 in
    let row : c.set_cell.new.self ≡ with_value c.args.cells.now p c.args.v =
    c.set_cell.ensures ∙ ap (λ entry. with_value c.args.cells.now entry.param c.args.v) c.constrained_at-named.ensures in
    subst (FitsModel m) (sym row)
    (FitsModel-with_value m c.args.cells.now p c.args.v c.requires.fits (constrained_exists m c.args.i c.requires.place) c.requires.value)

pub returns-clause-cells : goal.returns-clause-cells
returns-clause-cells c =
    c.look_at_each.ensures.same ∙ c.set_cell.ensures
    ∙ ap (λ entry. with_value c.args.cells.now entry.param c.args.v) c.constrained_at-named.ensures

pub look_at_each-requires-clause-exist : goal.look_at_each-requires-clause-exist
look_at_each-requires-clause-exist c =
    let has = has_undecided c.args.self.now.model (get_or (constrained_params c.args.self.now.model) c.args.i 0) c.args.v c.constrained_at-named.result.now
    c.assert_invariant.ensures.sound
    c.constrained_at-named.ensures c.requires.value in
    subst (AreRules c.args.self.now.model) (sym c.list.ensures) has.exist

pub look_at_each-requires-clause-seen : goal.look_at_each-requires-clause-seen
look_at_each-requires-clause-seen c k some most earlier = absurd (omega (arith, earlier.below))

pub look_at_each-requires-clause-left : goal.look_at_each-requires-clause-left
look_at_each-requires-clause-left c =
    let p = get_or (constrained_params c.args.self.now.model) c.args.i 0 in
    let row : c.set_cell.new.self ≡ with_value c.args.cells.now p c.args.v =
    c.set_cell.ensures ∙ ap (λ entry. with_value c.args.cells.now entry.param c.args.v) c.constrained_at-named.ensures in
    subst (λ cells. EachHasOne c.args.self.now.model cells c.args.sets.now.live) (sym row)
    (fewer_left c.args.self.now.model c.args.cells.now (with_value c.args.cells.now p c.args.v) c.args.sets.now.live
    (longer_set c.args.cells.now p c.args.v c.requires.free)
    (free_left c.args.self.now.model c.args.self.now.values c.args.cells.now c.args.sets.now c.assert_invariant.ensures.values c.requires.node
    c.requires.live))

pub returns-clause-fails : goal.returns-clause-fails
returns-clause-fails c =
    let m = c.args.self.now.model in
    let p = get_or (constrained_params m) c.args.i 0 in
    let row : c.set_cell.new.self ≡ with_value c.args.cells.now p c.args.v =
    c.set_cell.ensures ∙ ap (λ entry. with_value c.args.cells.now entry.param c.args.v) c.constrained_at-named.ensures in
    let has = has_undecided m p c.args.v c.constrained_at-named.result.now c.assert_invariant.ensures.sound c.constrained_at-named.ensures c.requires.value in
    let list : c.list.result.now ≡ undecided m p c.args.v = c.list.ensures ∙ has.list in
    decided_answer m c.args.self.now.values (with_value c.args.cells.now p c.args.v) (undecided m p c.args.v) c.args.sets.now c.look_at_each.new.sets
    c.look_at_each.result c.assert_invariant.ensures.values
    (value_decides m c.args.self.now.values c.args.cells.now p c.args.v c.args.sets.now c.assert_invariant.ensures.sound c.requires.fits.as_long
    (constrained_exists m c.args.i c.requires.place) c.requires.free c.requires.node c.requires.live)
    (λ e. subst (λ numbers. LookedAt m numbers (with_value c.args.cells.now p c.args.v) c.args.sets.now c.look_at_each.new.sets) list
    (subst (λ cells. LookedAt m c.list.result.now cells c.args.sets.now c.look_at_each.new.sets) row (c.look_at_each.ensures.looked e)))
    (λ e. subst (λ cells. Stops m cells c.args.sets.now c.look_at_each.new.sets) row (c.look_at_each.ensures.stops e))

pub returns-clause-why : goal.returns-clause-why
returns-clause-why c e =
    let m = c.args.self.now.model in
    let p = get_or (constrained_params m) c.args.i 0 in
    let row : c.set_cell.new.self ≡ with_value c.args.cells.now p c.args.v =
    c.set_cell.ensures ∙ ap (λ entry. with_value c.args.cells.now entry.param c.args.v) c.constrained_at-named.ensures in
    decided_why m c.args.self.now.values (with_value c.args.cells.now p c.args.v) (undecided m p c.args.v) c.args.sets.now c.look_at_each.new.sets
    (value_decides m c.args.self.now.values c.args.cells.now p c.args.v c.args.sets.now c.assert_invariant.ensures.sound c.requires.fits.as_long
    (constrained_exists m c.args.i c.requires.place) c.requires.free c.requires.node c.requires.live)
    (subst (λ cells. Stops m cells c.args.sets.now c.look_at_each.new.sets) row (c.look_at_each.ensures.stops e))

pub returns-clause-live : goal.returns-clause-live
returns-clause-live c e =
    let m = c.args.self.now.model in
    let p = get_or (constrained_params m) c.args.i 0 in
    let row : c.set_cell.new.self ≡ with_value c.args.cells.now p c.args.v =
    c.set_cell.ensures ∙ ap (λ entry. with_value c.args.cells.now entry.param c.args.v) c.constrained_at-named.ensures in
    let has = has_undecided m p c.args.v c.constrained_at-named.result.now c.assert_invariant.ensures.sound c.constrained_at-named.ensures c.requires.value in
    let list : c.list.result.now ≡ undecided m p c.args.v = c.list.ensures ∙ has.list in
    decided_live m c.args.self.now.values (with_value c.args.cells.now p c.args.v) (undecided m p c.args.v) c.args.sets.now c.look_at_each.new.sets
    (value_decides m c.args.self.now.values c.args.cells.now p c.args.v c.args.sets.now c.assert_invariant.ensures.sound c.requires.fits.as_long
    (constrained_exists m c.args.i c.requires.place) c.requires.free c.requires.node c.requires.live)
    (subst (λ numbers. LookedAt m numbers (with_value c.args.cells.now p c.args.v) c.args.sets.now c.look_at_each.new.sets) list
    (subst (λ cells. LookedAt m c.list.result.now cells c.args.sets.now c.look_at_each.new.sets) row (c.look_at_each.ensures.looked e)))
