use Rattle.std.proofs.Common.{◌∙◌, None, ap, arith, get_or, length, zero-add}
use Rattle.std.proofs.lemmas.List.FromFn.{get_or-map-range_with_len, length-map-range_with_len}
use Rattle.cov_model.specs.believed.Sound.{param_at}
use Rattle.uncovered_table.specs.Digits.{digit_of, own_values}
use Rattle.uncovered_table.proofs.sets.SliceSets.value_digit.Goals as goal

pub bounds-digits-v : goal.bounds-digits-v
bounds-digits-v c =
    let v = c.args.self.now in
    let long = length-map-range_with_len (digit_of (own_values v.model v.slice c.args.p)) 0 (length (param_at v.model.params c.args.p).values) in
    omega (arith, ap length c.digits.ensures, long, c.requires.value)

pub returns : goal.returns
returns c =
    let v = c.args.self.now in
    ap (λ ds. get_or ds c.args.v None) c.digits.ensures
    ∙ get_or-map-range_with_len (digit_of (own_values v.model v.slice c.args.p)) 0 (length (param_at v.model.params c.args.p).values)
    c.args.v c.args.v None c.requires.value (zero-add c.args.v)
