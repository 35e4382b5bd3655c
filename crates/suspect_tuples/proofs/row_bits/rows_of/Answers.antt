use Rattle.std.proofs.Common.{◌≡◌, [], get_or, unwrap_or, ap, sym, ◌∙◌}
use Rattle.std.specs.Option.{option_copied}
use Rattle.std.specs.Prelude.{slice_get}
use Rattle.std.proofs.lemmas.Option.{unwrap_or-slice_get}
use Rattle.suspect_tuples.proofs.row_bits.rows_of.Goals as goal

pub returns-in_default : goal.returns-in_default
returns-in_default c =
    let none : get_or c.args.giving.now c.args.pair.0 [] ≡ [] =
    sym (unwrap_or-slice_get c.args.giving.now c.args.pair.0 [])
    ∙ ap (λ sets. unwrap_or sets []) (sym c.get.ensures.value ∙ ap option_copied c.in_default.is) in
    sym (ap (λ sets. slice_get sets c.args.pair.1) none)

pub returns : goal.returns
returns c =
    let sets : get_or c.args.giving.now c.args.pair.0 [] ≡ c.in-Some.values.now =
    sym (unwrap_or-slice_get c.args.giving.now c.args.pair.0 [])
    ∙ ap (λ sets. unwrap_or sets []) (sym c.get.ensures.value ∙ ap option_copied c.in-Some.is) in
    c.get-2.ensures.value ∙ sym (ap (λ sets. slice_get sets c.args.pair.1) sets)
