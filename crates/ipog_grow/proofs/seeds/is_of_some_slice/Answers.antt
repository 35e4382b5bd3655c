use Rattle.std.proofs.Common.{◌≡◌, ◌+◌, ◌&&◌, ℕ, Bool, cond, length, filter, ◌∙◌, sym, ap, arith}
use Rattle.std.specs.List.{range_with_len}
use Rattle.cov_model.specs.believed.Meaning.{given_value}
use Rattle.cov_model.specs.believed.Rows.{is_assigned}
use Rattle.ipog_grow.proofs.seeds.is_of_some_slice.Goals as goal
use Rattle.ipog_grow.proofs.seeds.is_of_some_slice.Goals.{then-is_negative, else-is_negative}
use Rattle.value_text.proofs.ListLemmas.{passing-count}

pub loop-p-preserved : goal.loop-p-preserved
loop-p-preserved c =
    let test : ℕ → Bool = λ p. is_assigned c.args.cells.now p && (given_value c.args.model.now c.args.cells.now p).negative in
    let more = passing-count test c.loop-p.p in
    let number : ℕ = length (filter test (range_with_len 0 c.loop-p.p)) in (
      c.loop-p.invariant.0,
      elim c.if-is_negative.branch [
        | then-is_negative w ↦ omega (arith, w.found-is, c.loop-p.invariant.1)
        | else-is_negative w ↦ omega
            (arith, w.found-is, c.loop-p.invariant.1)
      ],
      elim c.if-is_negative.branch [
        | then-is_negative w ↦ w.found-is ∙ ap (λ k. k + 1) c.loop-p.invariant.2
            ∙ sym (more ∙ ap (λ (b : Bool). number + cond b 1 0) (sym c.is_negative.ensures ∙ w.if-is_negative.true))
        | else-is_negative w ↦ w.found-is ∙ c.loop-p.invariant.2
            ∙ sym (more ∙ ap (λ (b : Bool). number + cond b 1 0) (sym c.is_negative.ensures ∙ w.if-is_negative.false) ∙ plus_none number)
      ],
    )
  where
    plus_none : (n : ℕ) → n + 0 ≡ n
    plus_none n = omega arith
