use Rattle.std.proofs.Common.{◌≡◌, ◌∙◌, arith, map, length, subst}
use Rattle.cov_model.specs.believed.Valid.{param_numbers}
use Rattle.uncovered_table.specs.Kept.{firsts_of}
use Rattle.uncovered_table.proofs.TableLemmas.{lists_long, read_list}
use Rattle.uncovered_table.proofs.sets.SliceSets.firsts.Goals as goal

pub index-requires : goal.index-requires
index-requires c =
    let v = c.args.self.now in
    let tables = subst (λ v. map (λ list. list.items) c.self.inside.tables.firsts.items ≡ map (firsts_of v.model v.slice) (param_numbers v.model))
    c.self.view_is c.self.invariant.firsts_are in
    let long = lists_long (λ list. list.items) (firsts_of v.model v.slice) (length v.model.params) c.self.inside.tables.firsts.items tables in
    omega (arith, c.requires, long)

pub returns : goal.returns
returns c =
    let v = c.args.self.now in
    c.as_slice.ensures.value
    ∙ read_list (λ list. list.items) (firsts_of v.model v.slice) (length v.model.params) c.args.column c.self.inside.tables.firsts.items c.index.result.now
    (subst (λ v. map (λ list. list.items) c.self.inside.tables.firsts.items ≡ map (firsts_of v.model v.slice) (param_numbers v.model))
    c.self.view_is c.self.invariant.firsts_are)
    c.requires c.index.ensures
