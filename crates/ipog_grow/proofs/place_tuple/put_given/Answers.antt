use Rattle.std.proofs.Common.{◌≡◌, ◌∙◌, ℕ, None, map, drop, length, ap, sym, arith}
use Rattle.std.specs.List.{range_with_len}
use Rattle.std.proofs.lemmas.List.FromFn.{fill_by_all}
use Rattle.tuple_index.specs.Plan.{value_given}
use Rattle.ipog_grow.specs.Growing.{given_params}
use Rattle.ipog_grow.proofs.Giving.{given_members}
use Rattle.ipog_grow.proofs.place_tuple.put_given.Goals as goal

put : (c : goal.After-loop-left) → c.loop-left.into ≡ map (value_given c.args.members.now c.args.values.now) (range_with_len 0 (length c.args.into.now))
put c =
    let whole : c.loop-left.left ≡ 0 = omega arith in
    fill_by_all (value_given c.args.members.now c.args.values.now) c.loop-left.into (length c.args.into.now) None c.loop-left.invariant.long
    (λ q below.
    c.loop-left.invariant.each q ∙ ap (λ (i : ℕ). value_given (drop i c.args.members.now) (drop i c.args.values.now) q) whole)

pub returns-clause-values : goal.returns-clause-values
returns-clause-values c = put c

pub returns-clause-given : goal.returns-clause-given
returns-clause-given c rises =
    given_members c.args.members.now c.args.values.now (length c.args.into.now) rises c.requires.long ∙ ap given_params (sym (put c))
