-- The trees of omissions, one after another.
use Rattle.std.proofs.Common.{◌≡◌, ℕ, ◌+◌, List, [], ◌∷◌, ◌++◌, map, length, Option, Some, None, All, ◌∙◌, sym, ap, subst, refl, arith, length-append}
use Rattle.std.proofs.lemmas.List.{append-nil, append_assoc, length-map, map-append}
use Rattle.std.proofs.lemmas.List.Elements.{All-nil, All-cons, All-append}
use Rattle.cov_model.specs.Fits.{FitsModel}
use Rattle.cov_model.specs.believed.Sound.{ModelView}
use Rattle.definitions.specs.declared.effort.Effort.{Effort}
use Rattle.definitions.specs.believed.Covering.{IsUnserved}
use Rattle.cov_model.specs.believed.Tuples.{cells_of}
use Rattle.definitions.specs.believed.Pairs.{pairs_of}
use Rattle.definitions.specs.believed.Refutation.{Token}
use Rattle.definitions.specs.believed.SuiteProof.{AreEagerTrees, IsEagerTree}
use Rattle.definitions.specs.believed.Verdict.{as_cells}
use Rattle.feasibility.specs.Refuting.{earlier_tuples}
use Rattle.refutation.specs.Proofs.{ProofView, meant, omission_meant}
use Rattle.refutation.specs.believed.Proofs.{format_of}
use Rattle.refutation.specs.declared.omissions.Omission.{Omission}
use Rattle.refutation.specs.declared.omissions.ProofForm.{ProofForm}
use Rattle.ipog_grow.specs.Omissions.{AreOmissionsOf, IsTreeOf}
use Rattle.ipog_grow.specs.Suites.{HasNoTree, HasTrees, omitted_cells}

-- trees after trees
trees-append : (m : ModelView) (pref : List (List ℕ)) (effort : Effort) (format : ℕ) (earlier : List (List (Option ℕ))) (first second : List (List (Option ℕ) × List Token))
    → AreEagerTrees m pref effort format earlier first → AreEagerTrees m pref effort format (earlier ++ map (λ omission. omission.0) first) second
    → AreEagerTrees m pref effort format earlier (first ++ second)
trees-append m pref effort format earlier [] second one two =
    subst (λ (tuples : List (List (Option ℕ))). AreEagerTrees m pref effort format tuples second) (append-nil earlier) two
trees-append m pref effort format earlier (omission ∷ first) second one two = (
  one.0,
  trees-append m pref effort format (earlier ++ omission.0 ∷ []) first second one.1
      (subst (λ (tuples : List (List (Option ℕ))). AreEagerTrees m pref effort format tuples second)
      (sym (append_assoc earlier (omission.0 ∷ []) (map (λ omission. omission.0) first))) two),
)

-- omissions with their tuples as partial rows
abbrev with_cells : ModelView → List Omission → List (List (Option ℕ) × List Token)
with_cells m omissions = as_cells m (map omission_meant omissions)

tuples-with_cells : (m : ModelView) (omissions : List Omission) → map (λ omission. omission.0) (with_cells m omissions)
    ≡ map (omitted_cells (length m.params)) omissions
tuples-with_cells m [] = refl
tuples-with_cells m (omission ∷ omissions) = ap (λ tuples. omitted_cells (length m.params) omission ∷ tuples) (tuples-with_cells m omissions)

with_cells-append : (m : ModelView) (omissions more : List Omission) → with_cells m (omissions ++ more) ≡ with_cells m omissions ++ with_cells m more
with_cells-append m omissions more =
    ap (as_cells m) (map-append omission_meant omissions more)
    ∙ map-append (λ omission. (cells_of (length m.params) omission.tuple, omission.tree)) (map omission_meant omissions) (map omission_meant more)

-- one more omission
trees-push : (m : ModelView) (pref : List (List ℕ)) (effort : Effort) (proof : Option ProofForm) (omissions : List Omission) (omission : Omission)
    → HasTrees m pref effort proof omissions
    → IsTreeOf m pref effort proof (map (omitted_cells (length m.params)) omissions) (omitted_cells (length m.params) omission) omission.tree
    → HasTrees m pref effort proof (omissions ++ omission ∷ [])
trees-push m pref effort None omissions omission trees tree =
    All-append HasNoTree omissions (omission ∷ []) trees (All-cons HasNoTree omission [] tree (All-nil HasNoTree))
trees-push m pref effort (Some form) omissions omission trees tree =
    subst (AreEagerTrees m pref effort (format_of form) []) (sym (with_cells-append m omissions (omission ∷ [])))
    (trees-append m pref effort (format_of form) [] (with_cells m omissions) (with_cells m (omission ∷ [])) trees (
      subst (λ (earlier : List (List (Option ℕ))).
          IsEagerTree m pref effort (format_of form) earlier (omitted_cells (length m.params) omission) (map meant omission.tree)) (sym (tuples-with_cells m omissions))
          tree,
      tt,
    ))

pub omissions-push : (m : ModelView) (pref : List (List ℕ)) (effort : Effort) (proof : Option ProofForm) (omissions after : ProofView) (omission : Omission)
    → AreOmissionsOf m pref effort proof omissions → after ≡ record { form = omissions.form; omissions = omissions.omissions ++ omission ∷ [] }
    → omission.tuple ≡ pairs_of (omitted_cells (length m.params) omission)
    → FitsModel m (omitted_cells (length m.params) omission) → IsUnserved m (omitted_cells (length m.params) omission)
    → IsTreeOf m pref effort proof (earlier_tuples m omissions) (omitted_cells (length m.params) omission) omission.tree → AreOmissionsOf m pref effort proof after
omissions-push m pref effort proof omissions after omission are put pairs fits unserved tree =
    let cells : Omission → List (Option ℕ) = omitted_cells (length m.params) in
    let tuples : List (List (Option ℕ)) = map cells omissions.omissions in
    let more : map cells (omissions.omissions ++ omission ∷ []) ≡ tuples ++ cells omission ∷ [] = map-append cells omissions.omissions (omission ∷ []) in
    subst (AreOmissionsOf m pref effort proof) (sym put) (record {
      form = are.form;
      pairs =
          map-append (λ omission. omission.tuple) omissions.omissions (omission ∷ [])
          ∙ ap (λ listed. listed ++ omission.tuple ∷ []) are.pairs
          ∙ ap (λ last. map pairs_of tuples ++ last ∷ []) pairs
          ∙ sym (ap (map pairs_of) more ∙ map-append pairs_of tuples (cells omission ∷ []));
      fit = subst (All (FitsModel m)) (sym more)
          (All-append (FitsModel m) tuples (cells omission ∷ []) are.fit (All-cons (FitsModel m) (cells omission) [] fits (All-nil (FitsModel m))));
      unserved = subst (All (IsUnserved m)) (sym more)
          (All-append (IsUnserved m) tuples (cells omission ∷ []) are.unserved (All-cons (IsUnserved m) (cells omission) [] unserved (All-nil (IsUnserved m))));
      trees = trees-push m pref effort proof omissions.omissions omission are.trees tree;
    })

-- how many there are, where there are more tuples
pub omissions-count : (m : ModelView) (before after : ProofView) (tuples : List (List (Option ℕ)))
    → earlier_tuples m after ≡ earlier_tuples m before ++ tuples → length after.omissions ≡ length before.omissions + length tuples
omissions-count m before after tuples put =
    let cells : Omission → List (Option ℕ) = omitted_cells (length m.params) in
    omega (
      arith,
      length-map after.omissions cells,
      length-map before.omissions cells,
      ap length put,
      length-append (earlier_tuples m before) tuples,
    )
