use Rattle.std.proofs.Common.{◌≡◌, ◌∙◌, ◌+◌, true, false, Some, [], refl, length, get_or, is_some, sym, ap, subst, arith}
use Rattle.std.proofs.lemmas.Bool.{not-true}
use Rattle.std.proofs.lemmas.List.{length-set}
use Rattle.cov_model.specs.Fits.{FitsModel}
use Rattle.cov_model.specs.believed.Rows.{is_assigned, with_value}
use Rattle.definitions.specs.believed.Search.{constrained_params, is_failing}
use Rattle.feasibility.specs.Descent.{ComesTo, IsFirstLive}
use Rattle.feasibility.specs.Live.{ShowsLive}
use Rattle.feasibility.specs.Tree.{constrained_from}
use Rattle.feasibility.proofs.Deciding.{dead_fails}
use Rattle.feasibility.proofs.Descending.{comes_by, comes_past}
use Rattle.feasibility.proofs.Naming.{constrained_exists}
use Rattle.feasibility.proofs.Nodes.{FitsModel-with_value, listed_at}
use Rattle.feasibility.proofs.tree.SearchTree.descend_at.Goals as goal

pub get-requires : goal.get-requires
get-requires c =
    omega (
      arith,
      constrained_exists c.args.self.now.model c.args.i c.requires.place,
      ap (λ entry. entry.param) c.constrained_at.ensures,
      c.requires.node.fits.as_long,
    )

pub first_live-requires-clause-parameter : goal.first_live-requires-clause-parameter
first_live-requires-clause-parameter c =
    omega (arith, constrained_exists c.args.self.now.model c.args.i c.requires.place, ap (λ entry. entry.param) c.constrained_at.ensures)

pub returns-then-is_some-clause-comes : goal.returns-then-is_some-clause-comes
returns-then-is_some-clause-comes c =
    comes_past c.args.self.now c.args.i c.args.cells.now c.requires.place
    (ap (λ q. is_assigned c.args.cells.now q) (sym (ap (λ entry. entry.param) c.constrained_at.ensures))
    ∙ ap is_some (sym c.get.ensures) ∙ sym c.is_some.ensures ∙ c.if-is_some.true)

pub bounds-values_of-k : goal.bounds-values_of-k
bounds-values_of-k c = omega (arith, ap length c.values_of.ensures, c.in_ok-k.ensures.within)

pub enter-requires-clause-free : goal.enter-requires-clause-free
enter-requires-clause-free c =
    ap (λ q. is_assigned c.args.cells.now q) (sym (ap (λ entry. entry.param) c.constrained_at.ensures))
    ∙ ap is_some (sym c.get.ensures) ∙ sym c.is_some.ensures ∙ c.if-is_some.false

pub enter-requires-clause-value : goal.enter-requires-clause-value
enter-requires-clause-value c =
    let p = get_or (constrained_params c.args.self.now.model) c.args.i 0 in
    let k = c.in_ok-k.k in
    let values : c.values_of.result.now ≡ get_or c.args.self.now.values p [] =
    c.values_of.ensures ∙ ap (λ q. get_or c.args.self.now.values q []) (ap (λ entry. entry.param) c.constrained_at.ensures) in
    c.assert_invariant.ensures.values.exist p (get_or c.values_of.result.now k 0)
    (listed_at c.values_of.result.now (get_or c.args.self.now.values p []) k values (omega (arith, ap length c.values_of.ensures, c.in_ok-k.ensures.within)))

pub returns-clause-long : goal.returns-clause-long
returns-clause-long c =
    ap length c.enter.ensures.cells
    ∙ length-set c.args.cells.now (get_or (constrained_params c.args.self.now.model) c.args.i 0) (Some (get_or c.values_of.result.now c.in_ok-k.k 0))

pub returns-clause-comes : goal.returns-clause-comes
returns-clause-comes c =
    let m = c.args.self.now.model in
    let lists = c.args.self.now.values in
    let p = get_or (constrained_params m) c.args.i 0 in
    let k = c.in_ok-k.k in
    let is = ap (λ entry. entry.param) c.constrained_at.ensures in
    let free : is_assigned c.args.cells.now p ≡ false =
    ap (λ q. is_assigned c.args.cells.now q) (sym is) ∙ ap is_some (sym c.get.ensures) ∙ sym c.is_some.ensures ∙ c.if-is_some.false in
    let at : IsFirstLive c.args.sets.now.live p (get_or lists p []) k =
    subst (λ q. IsFirstLive c.args.sets.now.live q (get_or lists q []) k) is c.in_ok-k.ensures in
    let v : get_or c.values_of.result.now k 0 ≡ get_or (get_or lists p []) k 0 =
    ap (λ list. get_or list k 0) c.values_of.ensures ∙ ap (λ q. get_or (get_or lists q []) k 0) is in
    let comes = comes_by c.args.self.now c.args.i k c.args.cells.now c.requires.place free c.requires.node.node at.within
    (λ j low. dead_fails m lists c.args.cells.now p (get_or (get_or lists p []) j 0) c.args.sets.now c.assert_invariant.ensures.values
    c.requires.node.live (constrained_exists m c.args.i c.requires.place) free
    (listed_at (get_or lists p []) (get_or lists p []) j refl (omega (arith, low, at.within))) (at.dead j low)) in
    subst (λ cells. ComesTo c.args.self.now (constrained_from m c.args.i) (constrained_from m (c.args.i + 1)) c.args.cells.now cells (k + 1))
    (sym (c.enter.ensures.cells ∙ ap (with_value c.args.cells.now p) v)) comes

pub returns-clause-node : goal.returns-clause-node
returns-clause-node c =
    let m = c.args.self.now.model in
    let lists = c.args.self.now.values in
    let p = get_or (constrained_params m) c.args.i 0 in
    let k = c.in_ok-k.k in
    let v = get_or c.values_of.result.now k 0 in
    let is = ap (λ entry. entry.param) c.constrained_at.ensures in
    let at : IsFirstLive c.args.sets.now.live p (get_or lists p []) k =
    subst (λ q. IsFirstLive c.args.sets.now.live q (get_or lists q []) k) is c.in_ok-k.ensures in
    let values : c.values_of.result.now ≡ get_or lists p [] = c.values_of.ensures ∙ ap (λ q. get_or lists q []) is in
    let entered : c.enter.result ≡ true = c.if-not-enter.false in
    let row = sym c.enter.ensures.cells in
    record {
      fits = subst (FitsModel m) row (FitsModel-with_value m c.args.cells.now p v c.requires.node.fits (constrained_exists m c.args.i c.requires.place)
          (c.assert_invariant.ensures.values.exist p v (listed_at c.values_of.result.now (get_or lists p []) k values
          (omega (arith, ap length values, at.within)))));
      node = ap (is_failing m lists) (sym row) ∙ not-true (is_failing m lists (with_value c.args.cells.now p v)) (sym c.enter.ensures.fails ∙ entered);
      live = subst (λ cells. ShowsLive m lists cells c.enter.new.sets) row (c.enter.ensures.live entered);
    }
