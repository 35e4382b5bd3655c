use Rattle.std.proofs.Common.{inl, inr, ◌≡◌, ◌∙◌, Some, None, ap, arith, get_or, length, refl, sym}
use Rattle.std.specs.Prelude.{slice_set}
use Rattle.std.proofs.lemmas.Bool.{cases_eq}
use Rattle.std.proofs.lemmas.List.{get_or-set_other}
use Rattle.uncovered_table.specs.Kept.{play_column}
use Rattle.uncovered_table.proofs.PartnerLemmas.{forget-own, play-own}
use Rattle.uncovered_table.proofs.pairs.forget_pairs.Goals as goal

pub index_mut-requires : goal.index_mut-requires
index_mut-requires c = omega (arith, c.in-Some.ensures.own, ap (λ w. length w.model.params) c.sets.view_is, c.requires.long, c.args.columns.now.ok.0)

pub returns-in-Some-clause-own : goal.returns-in-Some-clause-own
returns-in-Some-clause-own c =
    λ p play.
    let v = c.args.sets.now in
    let found : Some c.in-Some.p ≡ Some p = sym c.in-Some.is ∙ c.play_column.ensures.value
    ∙ ap (λ w. play_column w.model w.slice c.args.set) c.sets.view_is ∙ play-own v.model v.slice p c.args.set play in
    let same : c.in-Some.p ≡ p = cc in
    ap (λ n. get_or (slice_set c.args.columns.now.items c.in-Some.p None) n None) (sym same) ∙ forget-own c.args.columns.now.items c.in-Some.p

pub returns-in-Some-clause-others : goal.returns-in-Some-clause-others
returns-in-Some-clause-others c =
    λ p.
    elim (cases_eq p c.in-Some.p) [
      | inl same ↦ inl (ap (λ n. get_or (slice_set c.args.columns.now.items c.in-Some.p None) n None) same ∙ forget-own c.args.columns.now.items c.in-Some.p)
      | inr apart ↦ inr (get_or-set_other c.args.columns.now.items c.in-Some.p p None None apart)
    ]

pub returns-in-None-clause-own : goal.returns-in-None-clause-own
returns-in-None-clause-own c =
    λ p play.
    let v = c.args.sets.now in
    let found : None ≡ Some p = sym c.in-None.is ∙ c.play_column.ensures.value ∙ ap (λ w. play_column w.model w.slice c.args.set) c.sets.view_is ∙ play-own v.model v.slice p c.args.set play in
    absurd (cc)

pub returns-in-None-clause-others : goal.returns-in-None-clause-others
returns-in-None-clause-others c = λ p. inr refl
