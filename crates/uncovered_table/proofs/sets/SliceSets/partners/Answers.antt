use Rattle.std.proofs.Common.{◌≡◌, ◌∙◌, ◌+◌, ◌++◌, ◌∷◌, ◌<◌, [], ap, arith, get_or, length, subst, sym}
use Rattle.std.proofs.lemmas.Grind.{common_steps}
use Rattle.definitions.specs.believed.Demand.{demanded_sets}
use Rattle.tuple_index.specs.Places.{RisesFrom}
use Rattle.uncovered_table.specs.Bits.{sets_in_play}
use Rattle.uncovered_table.specs.Pairs.{IsPartner}
use Rattle.uncovered_table.specs.Places.{set_at}
use Rattle.uncovered_table.proofs.PartnerLemmas.{PartnersTo, partner-of, partners-all, partners-more}
use Rattle.uncovered_table.proofs.sets.SliceSets.partners.Goals as goal

pub members-members-requires : goal.members-members-requires
members-members-requires c =
    let play = c.in_play-in_play.ensures.each c.loop-k.k 0 (omega arith) in
    subst (λ w. get_or c.in_play-in_play.result.now c.loop-k.k 0 < length (demanded_sets w.model)) (sym c.self.view_is) play.exists

pub loop-k-preserved : goal.loop-k-preserved
loop-k-preserved c =
    let v = c.args.self.now in
    let sets = sets_in_play v.model v.slice c.args.column in
    let members = c.members-members.result.now in
    let set = get_or c.in_play-in_play.result.now c.loop-k.k 0 in
    let within : c.loop-k.k < length sets = omega (arith, c.loop-k-test.true, ap length c.in_play-in_play.ensures.value) in
    let play = c.in_play-in_play.ensures.each c.loop-k.k 0 (omega arith) in
    let own : members ≡ set_at v.model set = c.members-members.ensures.value ∙ ap (λ w. set_at w.model set) c.self.view_is in
    let rises = subst (λ w. RisesFrom 0 (length w.model.params) members) c.self.view_is c.members-members.ensures.rising in
    let partner = partner-of v.model v.slice c.args.column set c.loop-k.next c.in-Some.p members play own rises c.in-Some.ensures in
    let pushed : c.push.new.self.items ≡ c.loop-k.partners.items ++ c.in-Some.p ∷ [] = grind (arith, common_steps) in
    subst (λ n. PartnersTo v.model v.slice c.args.column (c.loop-k.k + 1) (n + 1) sets c.push.new.self.items) (sym c.from-next.ensures)
    (partners-more v.model v.slice c.args.column c.loop-k.k c.loop-k.next c.in-Some.p sets c.loop-k.partners.items c.push.new.self.items c.loop-k.invariant within
    (subst (λ list. IsPartner v.model v.slice c.args.column (get_or list c.loop-k.k 0) c.in-Some.p) c.in_play-in_play.ensures.value partner)
    c.in-Some.ensures.least pushed)

pub returns : goal.returns
returns c =
    let v = c.args.self.now in
    let sets = sets_in_play v.model v.slice c.args.column in
    partners-all v.model v.slice c.args.column c.loop-k.k c.loop-k.next sets c.loop-k.partners.items c.loop-k.invariant
    (omega (arith, c.loop-k-test.false, ap length c.in_play-in_play.ensures.value))
