-- One more cell of the line of dashes.
use Rattle.std.proofs.Common.{◌≡◌, ◌<◌, ◌+◌, ℕ, zero, suc, List, [], ◌∷◌, ◌++◌, ◌∙◌, Bor, refl, sym, ap, append_assoc, length, drop, arith, add-one}
use Rattle.std.specs.Prelude.{flat_map}
use Rattle.row_forms.specs.believed.Forms.{dashes}
use Rattle.row_forms.specs.Seen.{names_seen}

abbrev pub dashes_of : List (Bor (List ℕ)) → List ℕ
dashes_of names = flat_map (λ name. dashes) (names_seen names)

dash-cut : (names : List (Bor (List ℕ))) (i : ℕ) → i < length names → dashes_of (drop i names) ≡ dashes ++ dashes_of (drop (suc i) names)
dash-cut [] i within = absurd (omega (arith, within))
dash-cut (name ∷ names) zero within = refl
dash-cut (name ∷ names) (suc i) within = dash-cut names i (omega (arith, within))

pub dash-step : (before after whole : List ℕ) (names : List (Bor (List ℕ))) (i : ℕ) → i < length names → after ≡ before ++ dashes
    → before ++ dashes_of (drop i names) ≡ whole → after ++ dashes_of (drop (i + 1) names) ≡ whole
dash-step before after whole names i within added all =
    rw (add-one, added) (append_assoc before dashes (dashes_of (drop (suc i) names)) ∙ ap (λ (l : List ℕ). before ++ l) (sym (dash-cut names i within)) ∙ all)
