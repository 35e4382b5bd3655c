-- Sets that show the listed values.
use Rattle.std.proofs.Common.{◌≡◌, ℕ, ◌+◌, Bool, List, [], ◌∷◌, ◌++◌, length, get_or, ◌∙◌, sym, ap, subst, arith, inl, inr, length-append}
use Rattle.std.proofs.lemmas.Bool.{cases_eq, cases_lt}
use Rattle.std.proofs.lemmas.List.{get_or_append_left, get_or_past}
use Rattle.std.proofs.Math.Seq.{get_or-append_seam}
use Rattle.cov_model.specs.declared.parameter.Param.{Param}
use Rattle.cov_model.specs.believed.Sound.{ModelView, no_param, param_at}
use Rattle.live_sets.specs.Trail.{LiveView}
use Rattle.feasibility.specs.Live.{AreMarks, ListMarks, ShowsListed}

-- the sets of one parameter more
pub marks_more : (m : ModelView) (lists : List (List ℕ)) (n : ℕ) (held after : List (List Bool)) (table : List Bool) → AreMarks m lists n held
    → after ≡ held ++ table ∷ []
    → ListMarks (get_or lists n []) (length (param_at m.params n).values) table → AreMarks m lists (n + 1) after
marks_more m lists n held after table are pushed here = record {
  as_many = ap (λ (list : List (List Bool)). length list) pushed ∙ length-append held (table ∷ []) ∙ ap (λ (k : ℕ). k + 1) are.as_many;
  each = λ q low. elim (cases_eq q n) [
    | inl same ↦
        let read : get_or after q [] ≡ table = ap (λ (list : List (List Bool)). get_or list q []) pushed
        ∙ ap (λ (k : ℕ). get_or (held ++ table ∷ []) k []) (same ∙ sym are.as_many) ∙ get_or-append_seam held table [] [] in
        subst (λ (list : List Bool). ListMarks (get_or lists q []) (length (param_at m.params q).values) list) (sym read)
        (subst (λ (k : ℕ). ListMarks (get_or lists k []) (length (param_at m.params k).values) table) (sym same) here)
    | inr differs ↦
        let read : get_or after q [] ≡ get_or held q [] = ap (λ (list : List (List Bool)). get_or list q []) pushed
        ∙ get_or_append_left held (table ∷ []) [] q (omega (arith, are.as_many, differs)) in
        subst (λ (list : List Bool). ListMarks (get_or lists q []) (length (param_at m.params q).values) list) (sym read)
        (are.each q (omega (arith, differs)))
  ];
}

-- those of all
pub marks_all : (m : ModelView) (lists : List (List ℕ)) (n : ℕ) (sets : LiveView) → n ≡ length m.params → AreMarks m lists n sets.live
    → ShowsListed m lists sets
marks_all m lists n sets whole are = record {
  shape = record {
    as_many = are.as_many ∙ whole;
    each = λ q. elim (cases_lt q n) [
      | inl low ↦ (are.each q low).long
      | inr past ↦
          ap (λ (list : List Bool). length list) (get_or_past sets.live q [] (omega (arith, are.as_many)))
          ∙ sym (ap (λ (param : Param). length param.values) (get_or_past m.params q no_param (omega arith)))
    ];
  };
  marks = λ q w low inside. (are.each q (omega arith)).are w inside;
}
