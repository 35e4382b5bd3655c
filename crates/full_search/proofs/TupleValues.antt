-- The values that a path gives the parameters of a tuple, gathered pair by pair.
use Rattle.std.proofs.Common.{◌≡◌, ◌≢◌, ℕ, ◌+◌, ◌<◌, ◌≤◌, true, false, ◌==◌, List, [], ◌∷◌, length, take, Option, None, is_some, get_or, ◌⊎◌, inl, inr, ◌∙◌, sym, ap, subst, arith}
use Rattle.std.specs.List.{list_any}
use Rattle.std.proofs.lemmas.Bool.{false≢true, cases_Bool, eqb-true, or_cases}
use Rattle.std.proofs.lemmas.List.{get_or_past, take_all, take_more}
use Rattle.std.proofs.lemmas.List.Folds.{list_any-append}
use Rattle.value_text.proofs.ListLemmas.{none_of}
use Rattle.cov_model.specs.believed.Rows.{is_assigned}
use Rattle.cov_model.proofs.CellLemmas.{assigned_within}
use Rattle.cov_model.specs.believed.Tuples.{cells_of}
use Rattle.definitions.proofs.NamedPairs.{length-cells_of}
use Rattle.feasibility.proofs.Broken.{shorter_free}
use Rattle.feasibility.proofs.TuplePairs.{gives_pair, has_param}
use Rattle.full_search.specs.Reasons.{Grows}
use Rattle.full_search.proofs.Grown.{GrowsWith, grows_then}

-- what a reason has it keeps
grows_keeps : (path : List (Option ℕ)) (p : ℕ) (a b : List (Option ℕ)) (q : ℕ) → Grows path p a b → get_or a q None ≡ get_or path q None
    → get_or b q None ≡ get_or path q None
grows_keeps path p a b q grows same =
    elim (cases_Bool (is_assigned path q)) [
      | inl given ↦ grows.kept.same q (ap (λ (cell : Option ℕ). is_some cell) same ∙ given) ∙ same
      | inr free ↦ none_of (get_or b q None) (shorter_free b path q grows.part.same free) ∙ sym (none_of (get_or path q None) free)
    ]

-- one of the first pairs has the parameter
abbrev pub IsPairBefore : List (ℕ × ℕ) → ℕ → ℕ → Type 0
IsPairBefore pairs i q = has_param (take i pairs) q ≡ true

pair_more : (pairs : List (ℕ × ℕ)) (i : ℕ) (d : ℕ × ℕ) (q : ℕ) → i < length pairs → IsPairBefore pairs (i + 1) q
    → IsPairBefore pairs i q ⊎ ((get_or pairs i d).0 ≡ q)
pair_more pairs i d q within is =
    let named : ℕ × ℕ → _ = λ pair. pair.0 == q in
    elim (or_cases (list_any named (take i pairs)) (list_any named (get_or pairs i d ∷ []))
    (sym (list_any-append named (take i pairs) (get_or pairs i d ∷ []))
    ∙ ap (list_any named) (sym (take_more pairs i d within)) ∙ is)) [
      | inl before ↦ inl before
      | inr here ↦ elim (or_cases ((get_or pairs i d).0 == q) false here) [
        | inl same ↦ inr (eqb-true (get_or pairs i d).0 q same)
        | inr none ↦ absurd (false≢true none)
      ]
    ]

pub pairs_none : (pairs : List (ℕ × ℕ)) (path : List (Option ℕ)) (p : ℕ) (why : List (Option ℕ)) → Grows path p why why
    → GrowsWith (IsPairBefore pairs 0) path p why why
pairs_none pairs path p why grows = record { grows = grows; has = λ q none away. absurd (false≢true none) }

-- the next pair's parameter was added
pub pairs_more : (pairs : List (ℕ × ℕ)) (i : ℕ) (d : ℕ × ℕ) (path : List (Option ℕ)) (p : ℕ) (old now new : List (Option ℕ)) → i < length pairs
    → GrowsWith (IsPairBefore pairs i) path p old now → Grows path p now new
    → ((get_or pairs i d).0 ≢ p → get_or new (get_or pairs i d).0 None ≡ get_or path (get_or pairs i d).0 None)
    → GrowsWith (IsPairBefore pairs (i + 1)) path p old new
pairs_more pairs i d path p old now new within so_far grows value = record {
  grows = grows_then path p old now new so_far.grows grows;
  has = λ q is away. elim (pair_more pairs i d q within is) [
    | inl before ↦ grows_keeps path p now new q grows (so_far.has q before away)
    | inr here ↦
        subst (λ (k : ℕ). get_or new k None ≡ get_or path k None) here (value (λ same. away (sym here ∙ same)))
  ];
}

-- or the path has no place for it
pub pairs_past : (pairs : List (ℕ × ℕ)) (i : ℕ) (d : ℕ × ℕ) (path : List (Option ℕ)) (p : ℕ) (old now : List (Option ℕ)) → i < length pairs
    → length path ≤ (get_or pairs i d).0 → GrowsWith (IsPairBefore pairs i) path p old now → GrowsWith (IsPairBefore pairs (i + 1)) path p old now
pairs_past pairs i d path p old now within past so_far = record {
  grows = so_far.grows;
  has = λ q is away. elim (pair_more pairs i d q within is) [
    | inl before ↦ so_far.has q before away
    | inr here ↦
        get_or_past now q None (omega (arith, past, here, so_far.grows.part.long)) ∙ sym (get_or_past path q None (omega (arith, past, here)))
  ];
}

-- all were
pub pairs_all : (pairs : List (ℕ × ℕ)) (i : ℕ) (path : List (Option ℕ)) (p : ℕ) (old new : List (Option ℕ)) → length pairs ≤ i
    → GrowsWith (IsPairBefore pairs i) path p old new
    → (q : ℕ) → q ≢ p → is_assigned (cells_of (length path) pairs) q ≡ true → get_or new q None ≡ get_or path q None
pairs_all pairs i path p old new whole grown q away given =
    let within : q < length path = omega (arith, assigned_within (cells_of (length path) pairs) q given, length-cells_of (length path) pairs) in
    grown.has q (ap (λ (list : List (ℕ × ℕ)). has_param list q) (take_all i pairs whole) ∙ sym (gives_pair (length path) pairs q within) ∙ given) away
