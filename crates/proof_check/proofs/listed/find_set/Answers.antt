use Rattle.std.proofs.Common.{Less, Greater, ◌≡◌, ◌+◌, ◌-◌, ◌/◌, [], get_or, ◌∙◌, sym, ap, arith}
use Rattle.std.proofs.lemmas.Map.Lookups.{exact_bytes}
use Rattle.definitions.proofs.SetOrder.{lex}
use Rattle.proof_check.proofs.SetLemmas.{none_above, none_below}
use Rattle.proof_check.proofs.listed.find_set.Goals as goal

pub returns-in-Equal : goal.returns-in-Equal
returns-in-Equal c = (
  omega (arith, c.loop-low.invariant.1, c.loop-low-test.true),
  sym c.members.ensures ∙ exact_bytes c.members.result.now c.args.params.now (sym c.cmp.ensures ∙ c.in-Equal.is),
)

pub loop-low-preserved-in-Less : goal.loop-low-preserved-in-Less
loop-low-preserved-in-Less c =
    let middle = c.loop-low.low + (c.loop-low.high - c.loop-low.low) / 2 in
    let less : lex (get_or c.args.plan.now.sets middle []) c.args.params.now ≡ Less =
    ap (λ set. lex set c.args.params.now) (sym c.members.ensures) ∙ sym c.cmp.ensures ∙ c.in-Less.is in (
      omega (arith, c.loop-low-test.true),
      c.loop-low.invariant.1,
      λ set below.
          none_below c.args.plan.now.sets middle c.args.params.now c.requires (omega (arith, c.loop-low.invariant.1, c.loop-low-test.true)) less set
          (omega (arith, below)),
      c.loop-low.invariant.3,
    )

pub loop-low-preserved : goal.loop-low-preserved
loop-low-preserved c =
    let middle = c.loop-low.low + (c.loop-low.high - c.loop-low.low) / 2 in
    let greater : lex (get_or c.args.plan.now.sets middle []) c.args.params.now ≡ Greater =
    ap (λ set. lex set c.args.params.now) (sym c.members.ensures) ∙ sym c.cmp.ensures ∙ c.in-Greater.is in (
      omega arith,
      omega (arith, c.loop-low.invariant.1, c.loop-low-test.true),
      c.loop-low.invariant.2,
      λ set above within.
          none_above c.args.plan.now.sets middle c.args.params.now c.requires greater set above within,
    )
