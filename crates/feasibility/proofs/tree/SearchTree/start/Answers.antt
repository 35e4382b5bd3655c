use Rattle.std.proofs.Common.{◌≡◌, ◌<◌, ◌+◌, ◌++◌, ◌∙◌, [], List, Bool, None, is_some, false, not, if◌then◌else◌, take, length, get_or, refl, sym, ap, subst, arith, append-nil}
use Rattle.std.proofs.lemmas.List.{take_all}
use Rattle.cov_model.specs.believed.Rows.{is_assigned, value_in}
use Rattle.definitions.specs.believed.Search.{constrained_params}
use Rattle.live_sets.proofs.TrailLemmas.{since_more}
use Rattle.feasibility.specs.Live.{AreRules, AreSeen, LookedAt, Stops, undecided_of}
use Rattle.feasibility.specs.Tree.{no_values, undecided}
use Rattle.feasibility.proofs.Broken.{longer_none}
use Rattle.feasibility.proofs.Deciding.{decided_free, decided_live, decided_stops, decided_why, fewer_left, free_left, values_decide}
use Rattle.feasibility.proofs.Earlier.{seen_before}
use Rattle.feasibility.proofs.Looking.{looked_append, looked_none, stops_before}
use Rattle.feasibility.proofs.Naming.{constrained_exists, undecided_of_exist, undecided_of_more, has_given}
use Rattle.feasibility.proofs.tree.SearchTree.start.Goals as goal
use Rattle.feasibility.proofs.tree.SearchTree.start.Goals.{in-Some+else-not-look_at_each, in_default}

pub loop-i-init : goal.loop-i-init
loop-i-init c = record {
  count = c.constrained_len-count.ensures;
  cells = refl;
  to = looked_none c.args.self.now.model c.args.cells.now c.args.sets.now c.requires.live.shape
      (fewer_left c.args.self.now.model (no_values c.args.self.now.model) c.args.cells.now c.args.sets.now.live
      (longer_none (length c.args.self.now.model.params) c.args.cells.now)
      (free_left c.args.self.now.model c.args.self.now.values (no_values c.args.self.now.model) c.args.sets.now c.assert_invariant.ensures.values
      c.requires.node c.requires.live));
}

pub get-requires : goal.get-requires
get-requires c =
    let within : c.loop-i.i < length (constrained_params c.args.self.now.model) = omega (arith, c.loop-i.invariant.count) in
    omega (
      arith,
      constrained_exists c.args.self.now.model c.loop-i.i within,
      ap (λ entry. entry.param) c.constrained_at-named.ensures,
      ap length
          c.loop-i.invariant.cells,
      c.requires.fits.as_long,
    )

pub list-rules-requires : goal.list-rules-requires
list-rules-requires c =
    (has_given c.args.self.now.model c.args.cells.now (get_or (constrained_params c.args.self.now.model) c.loop-i.i 0) c.in-Some.v
    c.constrained_at-named.result.now c.assert_invariant.ensures.sound c.requires.fits
    c.constrained_at-named.ensures (ap (λ cells. get_or cells c.constrained_at-named.result.now.param None) (sym c.loop-i.invariant.cells) ∙ sym c.get.ensures
    ∙ c.in-Some.is)).within

pub look_at_each-requires-clause-exist : goal.look_at_each-requires-clause-exist
look_at_each-requires-clause-exist c =
    let has = has_given c.args.self.now.model c.args.cells.now (get_or (constrained_params c.args.self.now.model) c.loop-i.i 0) c.in-Some.v
    c.constrained_at-named.result.now c.assert_invariant.ensures.sound c.requires.fits
    c.constrained_at-named.ensures (ap (λ cells. get_or cells c.constrained_at-named.result.now.param None) (sym c.loop-i.invariant.cells) ∙ sym c.get.ensures
    ∙ c.in-Some.is) in
    subst (AreRules c.args.self.now.model) (sym c.list-rules.ensures) has.exist

pub look_at_each-requires-clause-seen : goal.look_at_each-requires-clause-seen
look_at_each-requires-clause-seen c =
    let m = c.args.self.now.model in
    let within : c.loop-i.i < length (constrained_params m) = omega (arith, c.loop-i.invariant.count) in
    subst (λ p. AreSeen m p c.loop-i.cells c.loop-i.sets) (sym (ap (λ entry. entry.param) c.constrained_at-named.ensures))
    (subst (λ cells. AreSeen m (get_or (constrained_params m) c.loop-i.i 0) cells c.loop-i.sets) (sym c.loop-i.invariant.cells)
    (seen_before m c.args.cells.now c.loop-i.i c.args.sets.now c.loop-i.sets c.assert_invariant.ensures.sound c.requires.fits.as_long within
    c.loop-i.invariant.to))

pub returns-then-not-look_at_each-clause-fails : goal.returns-then-not-look_at_each-clause-fails
returns-then-not-look_at_each-clause-fails c =
    let m = c.args.self.now.model in
    sym (ap not (decided_stops m c.args.self.now.values c.args.cells.now (undecided_of m c.args.cells.now (constrained_params m)) c.args.sets.now
    c.look_at_each.new.sets c.assert_invariant.ensures.values
    (values_decide m c.args.self.now.values c.args.cells.now c.args.sets.now c.assert_invariant.ensures.sound c.requires.fits.as_long c.requires.node
    c.requires.live)
    (stops_before m (undecided_of m c.args.cells.now (take c.loop-i.i (constrained_params m))) c.args.cells.now c.args.sets.now c.loop-i.sets
    c.look_at_each.new.sets
    (undecided_of_exist m c.args.cells.now (take c.loop-i.i (constrained_params m)) c.assert_invariant.ensures.sound) c.loop-i.invariant.to
    (subst (λ cells. Stops m cells c.loop-i.sets c.look_at_each.new.sets) c.loop-i.invariant.cells
    (c.look_at_each.ensures.stops c.if-not-look_at_each.true)))))

pub returns-then-not-look_at_each-clause-why : goal.returns-then-not-look_at_each-clause-why
returns-then-not-look_at_each-clause-why c e =
    let m = c.args.self.now.model in
    decided_why m c.args.self.now.values c.args.cells.now (undecided_of m c.args.cells.now (constrained_params m)) c.args.sets.now c.look_at_each.new.sets
    (values_decide m c.args.self.now.values c.args.cells.now c.args.sets.now c.assert_invariant.ensures.sound c.requires.fits.as_long c.requires.node
    c.requires.live)
    (stops_before m (undecided_of m c.args.cells.now (take c.loop-i.i (constrained_params m))) c.args.cells.now c.args.sets.now c.loop-i.sets
    c.look_at_each.new.sets
    (undecided_of_exist m c.args.cells.now (take c.loop-i.i (constrained_params m)) c.assert_invariant.ensures.sound) c.loop-i.invariant.to
    (subst (λ cells. Stops m cells c.loop-i.sets c.look_at_each.new.sets) c.loop-i.invariant.cells
    (c.look_at_each.ensures.stops c.if-not-look_at_each.true)))

pub returns-then-not-look_at_each-clause-since : goal.returns-then-not-look_at_each-clause-since
returns-then-not-look_at_each-clause-since c = since_more c.args.sets.now c.loop-i.sets c.look_at_each.new.sets c.loop-i.invariant.to.since
    c.look_at_each.ensures.since

pub loop-i-preserved : goal.loop-i-preserved
loop-i-preserved c =
    let m = c.args.self.now.model in
    let i = c.loop-i.i in
    let p = get_or (constrained_params m) i 0 in
    let within : i < length (constrained_params m) = omega (arith, c.loop-i.invariant.count) in
    let done = undecided_of m c.args.cells.now (take i (constrained_params m)) in
    let read = ap (λ cells. get_or cells c.constrained_at-named.result.now.param None) (sym c.loop-i.invariant.cells) ∙ sym c.get.ensures in
    let more = undecided_of_more m c.args.cells.now (constrained_params m) i within in
    elim c.match-get.branch [
      | in-Some+else-not-look_at_each w ↦
          let has = has_given m c.args.cells.now p w.in-Some.v c.constrained_at-named.result.now c.assert_invariant.ensures.sound c.requires.fits
          c.constrained_at-named.ensures (read ∙ w.in-Some.is) in
          let list : w.list-rules.result.now ≡ undecided m p w.in-Some.v = w.list-rules.ensures ∙ has.list in
          record {
            count = c.loop-i.invariant.count;
            cells = w.cells-is ∙ w.look_at_each.ensures.same ∙ c.loop-i.invariant.cells;
            to = subst (λ sets. LookedAt m (undecided_of m c.args.cells.now (take (i + 1) (constrained_params m))) c.args.cells.now c.args.sets.now sets)
                (sym w.sets-is)
                (subst (λ numbers. LookedAt m numbers c.args.cells.now c.args.sets.now w.look_at_each.new.sets)
                (ap (λ numbers. done ++ numbers) list ∙ sym (more ∙ ap (λ (numbers : List _). done ++ numbers) has.given))
                (looked_append m done w.list-rules.result.now c.args.cells.now c.args.sets.now c.loop-i.sets w.look_at_each.new.sets c.loop-i.invariant.to
                (subst (λ cells. LookedAt m w.list-rules.result.now cells c.loop-i.sets w.look_at_each.new.sets) c.loop-i.invariant.cells
                (w.look_at_each.ensures.looked w.if-not-look_at_each.false))));
          }
      | in_default w ↦
          let free : is_assigned c.args.cells.now p ≡ false =
          ap (λ entry. is_assigned c.args.cells.now entry.param) (sym c.constrained_at-named.ensures) ∙ ap is_some (read ∙ w.in_default.is) in
          let same = more ∙ ap (λ (b : Bool). done ++ (if b then undecided m p (value_in c.args.cells.now p) else [])) free ∙ append-nil done in
          record {
            count = c.loop-i.invariant.count;
            cells = w.cells-is ∙ c.loop-i.invariant.cells;
            to = subst (λ sets. LookedAt m (undecided_of m c.args.cells.now (take (i + 1) (constrained_params m))) c.args.cells.now c.args.sets.now sets)
                (sym w.sets-is)
                (subst (λ numbers. LookedAt m numbers c.args.cells.now c.args.sets.now c.loop-i.sets) (sym same) c.loop-i.invariant.to);
          }
    ]

pub returns-clause-fails : goal.returns-clause-fails
returns-clause-fails c =
    let m = c.args.self.now.model in
    let all = take_all c.loop-i.i (constrained_params m) (omega (arith, c.loop-i.invariant.count)) in
    sym (ap not (decided_free m c.args.self.now.values c.args.cells.now (undecided_of m c.args.cells.now (constrained_params m)) c.args.sets.now c.loop-i.sets
    (values_decide m c.args.self.now.values c.args.cells.now c.args.sets.now c.assert_invariant.ensures.sound c.requires.fits.as_long c.requires.node
    c.requires.live)
    (subst (λ params. LookedAt m (undecided_of m c.args.cells.now params) c.args.cells.now c.args.sets.now c.loop-i.sets) all c.loop-i.invariant.to)))

pub returns-clause-live : goal.returns-clause-live
returns-clause-live c e =
    let m = c.args.self.now.model in
    let all = take_all c.loop-i.i (constrained_params m) (omega (arith, c.loop-i.invariant.count)) in
    decided_live m c.args.self.now.values c.args.cells.now (undecided_of m c.args.cells.now (constrained_params m)) c.args.sets.now c.loop-i.sets
    (values_decide m c.args.self.now.values c.args.cells.now c.args.sets.now c.assert_invariant.ensures.sound c.requires.fits.as_long c.requires.node
    c.requires.live)
    (subst (λ params. LookedAt m (undecided_of m c.args.cells.now params) c.args.cells.now c.args.sets.now c.loop-i.sets) all c.loop-i.invariant.to)
