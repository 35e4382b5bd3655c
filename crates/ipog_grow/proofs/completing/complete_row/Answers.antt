use Rattle.std.proofs.Common.{ℕ, ◌∷◌, [], List, Bool, Option, ◌∙◌, sym, ap, subst, get_or}
use Rattle.std.proofs.lemmas.Result.{err_from_is_err_and}
use Rattle.ipog_grow.specs.Asking.{Grows, first_spent}
use Rattle.ipog_grow.proofs.Asking.{told-err}
use Rattle.ipog_grow.proofs.completing.complete_row.Goals as goal

pub complete-requires-clause-grows : goal.complete-requires-clause-grows
complete-requires-clause-grows c = subst (Grows c.args.asker.now.context) (sym (c.copy_from_slice.ensures ∙ c.row.ensures)) c.requires.grows

pub returns-in_err-complete-clause-asked : goal.returns-in_err-complete-clause-asked
returns-in_err-complete-clause-asked c =
    let context = c.args.asker.now.context in
    let read = c.copy_from_slice.ensures ∙ c.row.ensures in
    let p = err_from_is_err_and c.from_residual.result c.from_residual.ensures.1 in
    rw (p.1, p.2) (told-err Bool ℕ c.in_err-complete.field-0.0 c.complete.new.self.question
    (first_spent context (c.copy_from_slice.new.self ∷ [])) (first_spent context (get_or c.args.rows.now c.args.i [] ∷ []))
    (λ spent. ap (λ (row : List (Option ℕ)). first_spent context (row ∷ [])) (sym read) ∙ spent) c.in_err-complete.ensures.asked)

pub returns-then-not-branch-clause-asked : goal.returns-then-not-branch-clause-asked
returns-then-not-branch-clause-asked c =
    ap (λ (row : List (Option ℕ)). first_spent c.args.asker.now.context (row ∷ [])) (sym (c.copy_from_slice.ensures ∙ c.row.ensures))
    ∙ c.in_ok-complete.ensures.asked

pub returns-clause-asked : goal.returns-clause-asked
returns-clause-asked c =
    ap (λ (row : List (Option ℕ)). first_spent c.args.asker.now.context (row ∷ [])) (sym (c.copy_from_slice.ensures ∙ c.row.ensures))
    ∙ c.in_ok-complete.ensures.asked
