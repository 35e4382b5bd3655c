use Rattle.std.proofs.Common.{◌≡◌, ◌∙◌, arith, length, map, subst}
use Rattle.cov_model.specs.believed.Valid.{param_numbers}
use Rattle.uncovered_table.specs.Kept.{digits_of}
use Rattle.uncovered_table.proofs.TableLemmas.{lists_long, read_list}
use Rattle.uncovered_table.proofs.sets.SliceSets.digits.Goals as goal

tables : (c : goal.After-self) → map (λ list. list.items) c.self.inside.tables.digits.items ≡ map (digits_of c.args.self.now.model c.args.self.now.slice)
    (param_numbers c.args.self.now.model)
tables c =
    subst (λ v. map (λ list. list.items) c.self.inside.tables.digits.items ≡ map (digits_of v.model v.slice) (param_numbers v.model))
    c.self.view_is c.self.invariant.digits_are

pub index-requires : goal.index-requires
index-requires c =
    let v = c.args.self.now in
    let long = lists_long (λ list. list.items) (digits_of v.model v.slice) (length v.model.params) c.self.inside.tables.digits.items (tables c) in
    omega (arith, c.requires, long)

pub returns : goal.returns
returns c =
    let v = c.args.self.now in
    c.as_slice.ensures.value
    ∙ read_list (λ list. list.items) (digits_of v.model v.slice) (length v.model.params) c.args.p c.self.inside.tables.digits.items c.index.result.now
    (subst (λ v. map (λ list. list.items) c.self.inside.tables.digits.items ≡ map (digits_of v.model v.slice) (param_numbers v.model))
    c.self.view_is c.self.invariant.digits_are)
    c.requires c.index.ensures
