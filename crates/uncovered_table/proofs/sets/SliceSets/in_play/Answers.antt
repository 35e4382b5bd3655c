use Rattle.std.proofs.Common.{◌≡◌, ◌∙◌, All, ap, arith, length, map, subst, sym}
use Rattle.cov_model.specs.believed.Valid.{param_numbers}
use Rattle.uncovered_table.specs.Bits.{InPlay, sets_in_play}
use Rattle.uncovered_table.proofs.GainLemmas.{all_in_play}
use Rattle.uncovered_table.proofs.TableLemmas.{lists_long, play_few, read_list}
use Rattle.uncovered_table.proofs.sets.SliceSets.in_play.Goals as goal

pub index-requires : goal.index-requires
index-requires c =
    let v = c.args.self.now in
    let tables = subst (λ v. map (λ list. list.items) c.self.inside.tables.plays.items ≡ map (sets_in_play v.model v.slice) (param_numbers v.model))
    c.self.view_is c.self.invariant.plays_are in
    let long = lists_long (λ list. list.items) (sets_in_play v.model v.slice) (length v.model.params) c.self.inside.tables.plays.items tables in
    omega (arith, c.requires, long)

same : (c : goal.After-as_slice) → c.as_slice.result.now ≡ sets_in_play c.args.self.now.model c.args.self.now.slice c.args.column
same c =
    let v = c.args.self.now in
    c.as_slice.ensures.value
    ∙ read_list (λ list. list.items) (sets_in_play v.model v.slice) (length v.model.params) c.args.column c.self.inside.tables.plays.items c.index.result.now
    (subst (λ v. map (λ list. list.items) c.self.inside.tables.plays.items ≡ map (sets_in_play v.model v.slice) (param_numbers v.model))
    c.self.view_is c.self.invariant.plays_are)
    c.requires c.index.ensures

pub returns-clause-value : goal.returns-clause-value
returns-clause-value c = same c

pub returns-clause-few : goal.returns-clause-few
returns-clause-few c = omega (arith, ap length (same c), play_few c.args.self.now.model c.args.self.now.slice c.args.column c.assert_invariant.ensures.kept)

pub returns-clause-each : goal.returns-clause-each
returns-clause-each c =
    let v = c.args.self.now in
    subst (All (InPlay v.model v.slice c.args.column)) (sym (same c)) (all_in_play v.model v.slice c.args.column)
