use Rattle.std.proofs.Common.{◌≡◌, ◌<◌, ◌⊎◌, ◌∙◌, ℕ, [], true, get_or, is_some, sym, ap, subst, arith, inl, inr}
use Rattle.std.specs.List.{count_by}
use Rattle.std.proofs.lemmas.Bool.{cases_eq}
use Rattle.cov_model.specs.believed.Rows.{is_assigned}
use Rattle.feasibility.proofs.Paths.{unmarked_from}
use Rattle.full_search.proofs.searching.stuck_param.Goals as goal
use Rattle.full_search.proofs.searching.stuck_param.Goals.{then-is_some, else-is_some+then-count-gt0}

pub overflow_add-q : goal.overflow_add-q
overflow_add-q c =
    omega (
      arith,
      unmarked_from c.args.tree.now.model c.args.cells.now c.args.sets.now.live c.loop-q.q c.requires.some c.loop-q.invariant,
      c.requires.some.exists,
      c.assert_invariant.ensures.sound.few,
    )

pub loop-q-preserved : goal.loop-q-preserved
loop-q-preserved c p less =
    let HasOne : ℕ → Type 0 = λ q. (is_assigned c.args.cells.now q ≡ true) ⊎ (0 < count_by (λ mark. mark) (get_or c.args.sets.now.live q [])) in
    let here : HasOne c.loop-q.q = elim c.if-is_some.branch [
      | then-is_some w ↦ inl (ap is_some (sym c.get.ensures) ∙ sym c.is_some.ensures ∙ w.if-is_some.true)
      | else-is_some+then-count-gt0 w ↦ inr (omega (arith, w.count.ensures, w.if-count-gt0.true))
    ] in
    elim (cases_eq p c.loop-q.q) [
      | inl same ↦ subst HasOne (sym same) here
      | inr differs ↦ c.loop-q.invariant p (omega (arith, less, differs))
    ]
