use Rattle.std.proofs.Common.{◌≡◌, ◌<◌, ◌+◌, ◌++◌, ◌∷◌, ◌∙◌, [], false, take, length, get_or, sym, ap, subst, arith}
use Rattle.std.specs.List.{count_by}
use Rattle.std.proofs.lemmas.Grind.{common_steps}
use Rattle.std.proofs.lemmas.List.{take_more, take_all}
use Rattle.cov_model.specs.believed.Rows.{is_assigned}
use Rattle.cov_model.specs.Sound.{rule_at}
use Rattle.live_sets.proofs.TrailLemmas.{since_more}
use Rattle.feasibility.specs.Live.{Narrowed}
use Rattle.feasibility.proofs.Looking.{AheadTo, ahead_skip, ahead_more, ahead_stops, ahead_all}
use Rattle.feasibility.proofs.Naming.{member_exists}
use Rattle.feasibility.proofs.tree.SearchTree.look_ahead.Goals as goal
use Rattle.feasibility.proofs.tree.SearchTree.look_ahead.Goals.{then-is_none+else-count-eq0, else-is_none}

pub get-requires : goal.get-requires
get-requires c =
    let low = member_exists (length c.args.self.now.model.params) (rule_at c.args.self.now.model c.args.rule).body c.members_of-members.result.now
    c.loop-j.j c.members_of-members.ensures c.loop-j-test.true in
    omega (arith, low, ap length c.loop-j.invariant.cells, c.requires.fits.as_long)

pub narrow-requires-clause-parameter : goal.narrow-requires-clause-parameter
narrow-requires-clause-parameter c =
    member_exists (length c.args.self.now.model.params) (rule_at c.args.self.now.model c.args.rule).body c.members_of-members.result.now c.loop-j.j
    c.members_of-members.ensures c.loop-j-test.true

pub count-requires : goal.count-requires
count-requires c =
    let low = member_exists (length c.args.self.now.model.params) (rule_at c.args.self.now.model c.args.rule).body c.members_of-members.result.now
    c.loop-j.j c.members_of-members.ensures c.loop-j-test.true in
    omega (arith, low, c.narrow.ensures.narrowed.shape.as_many)

pub returns-then-count-eq0-clause-stops : goal.returns-then-count-eq0-clause-stops
returns-then-count-eq0-clause-stops c e =
    let q = get_or c.members_of-members.result.now c.loop-j.j 0 in
    let low : q < length c.args.self.now.model.params =
    member_exists (length c.args.self.now.model.params) (rule_at c.args.self.now.model c.args.rule).body c.members_of-members.result.now c.loop-j.j
    c.members_of-members.ensures c.loop-j-test.true in
    let unset : is_assigned c.args.cells.now q ≡ false = ap (λ cells. is_assigned cells q) (sym c.loop-j.invariant.cells) ∙ grind (arith, common_steps) in
    let narrowed = subst (λ cells. Narrowed c.args.self.now.model c.args.rule q cells c.loop-j.sets c.narrow.new.sets) c.loop-j.invariant.cells
    c.narrow.ensures.narrowed in
    ahead_stops c.args.self.now.model c.args.rule c.args.cells.now (take c.loop-j.j c.members_of-members.result.now) q c.args.sets.now c.loop-j.sets
    c.narrow.new.sets
    c.requires.first c.requires.last c.loop-j.invariant.to low unset narrowed (omega (arith, c.count.ensures))

pub returns-then-count-eq0-clause-since : goal.returns-then-count-eq0-clause-since
returns-then-count-eq0-clause-since c = since_more c.args.sets.now c.loop-j.sets c.narrow.new.sets c.loop-j.invariant.to.since c.narrow.ensures.narrowed.since

pub loop-j-preserved : goal.loop-j-preserved
loop-j-preserved c =
    let q = get_or c.members_of-members.result.now c.loop-j.j 0 in
    let low : q < length c.args.self.now.model.params =
    member_exists (length c.args.self.now.model.params) (rule_at c.args.self.now.model c.args.rule).body c.members_of-members.result.now c.loop-j.j
    c.members_of-members.ensures c.loop-j-test.true in
    let done = take c.loop-j.j c.members_of-members.result.now in
    let more : done ++ q ∷ [] ≡ take (c.loop-j.j + 1) c.members_of-members.result.now =
    sym (take_more c.members_of-members.result.now c.loop-j.j 0 c.loop-j-test.true) in
    elim c.if-is_none.branch [
      | then-is_none+else-count-eq0 w ↦
          let unset : is_assigned c.args.cells.now q ≡ false = ap (λ cells. is_assigned cells q) (sym c.loop-j.invariant.cells)
          ∙ grind (arith, common_steps, w.if-is_none.true, w.if-is_none.ensures) in
          let narrowed = subst (λ cells. Narrowed c.args.self.now.model c.args.rule q cells c.loop-j.sets w.narrow.new.sets) c.loop-j.invariant.cells
          w.narrow.ensures.narrowed in
          let some : 0 < count_by (λ mark. mark) (get_or w.narrow.new.sets.live q []) = omega (arith, w.count.ensures, w.if-count-eq0.false) in
          record {
            cells = w.cells-is ∙ w.narrow.ensures.same ∙ c.loop-j.invariant.cells;
            to = subst (λ sets. AheadTo c.args.self.now.model c.args.rule c.args.cells.now (take (c.loop-j.j + 1) c.members_of-members.result.now)
                c.args.sets.now sets) (sym w.sets-is)
                (subst (λ list. AheadTo c.args.self.now.model c.args.rule c.args.cells.now list c.args.sets.now w.narrow.new.sets) more
                (ahead_more c.args.self.now.model c.args.rule c.args.cells.now done q c.args.sets.now c.loop-j.sets w.narrow.new.sets c.loop-j.invariant.to
                low unset narrowed some));
          }
      | else-is_none w ↦
          let given = ap (λ cells. is_assigned cells q) (sym c.loop-j.invariant.cells)
          ∙ grind (arith, common_steps, w.if-is_none.false, w.if-is_none.ensures) in
          record {
            cells = w.cells-is ∙ c.loop-j.invariant.cells;
            to = subst (λ sets. AheadTo c.args.self.now.model c.args.rule c.args.cells.now (take (c.loop-j.j + 1) c.members_of-members.result.now)
                c.args.sets.now sets) (sym w.sets-is)
                (subst (λ list. AheadTo c.args.self.now.model c.args.rule c.args.cells.now list c.args.sets.now c.loop-j.sets) more
                (ahead_skip c.args.self.now.model c.args.rule c.args.cells.now done q c.args.sets.now c.loop-j.sets c.loop-j.invariant.to given));
          }
    ]

pub returns-clause-looked : goal.returns-clause-looked
returns-clause-looked c e =
    ahead_all c.args.self.now.model c.args.rule c.args.cells.now (take c.loop-j.j c.members_of-members.result.now) c.args.sets.now c.loop-j.sets
    c.requires.unbroken
    (take_all c.loop-j.j c.members_of-members.result.now c.loop-j-test.false ∙ c.members_of-members.ensures) c.loop-j.invariant.to
