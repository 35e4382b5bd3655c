-- Pairs as a partial row: which values it gives, and that it fits a model.
use Rattle.std.proofs.Common.{◌≡◌, ◌≢◌, ℕ, zero, suc, ◌<◌, Bool, false, ◌||◌, List, [], ◌∷◌, length, get_or, replicate}
use Rattle.std.proofs.Common.{Option, Some, None, is_some, unwrap_or, All, inl, inr, ◌∙◌, sym, ap, subst, refl, arith, eq-eqb, ne_eqb}
use Rattle.std.proofs.lemmas.Bool.{false≢true, cases_eq}
use Rattle.std.proofs.lemmas.List.{length-set, length-replicate, get_or-set_other, get_or-set_same}
use Rattle.std.proofs.lemmas.List.Elements.{All-head, All-tail}
use Rattle.cov_model.specs.Fits.{FitsModel}
use Rattle.cov_model.specs.believed.Rows.{is_assigned, with_value}
use Rattle.cov_model.specs.believed.Sound.{ModelView, param_at}
use Rattle.cov_model.specs.Tuples.{IsRising}
use Rattle.cov_model.specs.believed.Tuples.{cells_of}
use Rattle.definitions.proofs.Members.{Has}
use Rattle.refutation.specs.Checking.{AreOfModel, has_param}
use Rattle.definitions.proofs.NamedPairs.{length-cells_of, behind_first}

-- no pairs give nothing
pub none_given : (n q : ℕ) → is_assigned (replicate n None) q ≡ false
none_given zero q = refl
none_given (suc n) zero = refl
none_given (suc n) (suc q) = none_given n q

-- the first pair's value, and those of the others
given_here : (n : ℕ) (pair : ℕ × ℕ) (pairs : List (ℕ × ℕ)) → pair.0 < n → get_or (cells_of n (pair ∷ pairs)) pair.0 None ≡ Some pair.1
given_here n pair pairs within = get_or-set_same (cells_of n pairs) pair.0 (Some pair.1) None (omega (arith, length-cells_of n pairs, within))

given_other : (n q : ℕ) (pair : ℕ × ℕ) (pairs : List (ℕ × ℕ)) → q ≢ pair.0 → get_or (cells_of n (pair ∷ pairs)) q None ≡ get_or (cells_of n pairs) q None
given_other n q pair pairs apart = get_or-set_other (cells_of n pairs) pair.0 q (Some pair.1) None apart

-- all parameters are below a number
abbrev pub AreBelow : ℕ → List (ℕ × ℕ) → Type 0
AreBelow n pairs = All (λ pair. pair.0 < n) pairs

-- a parameter has a value exactly if a pair has it
pub assigned_by : (n q : ℕ) (pairs : List (ℕ × ℕ)) → AreBelow n pairs → is_assigned (cells_of n pairs) q ≡ has_param pairs q
assigned_by n q [] below = none_given n q
assigned_by n q (pair ∷ pairs) below =
    elim (cases_eq q pair.0) [
      | inl same ↦
          let here : get_or (cells_of n (pair ∷ pairs)) q None ≡ Some pair.1 =
          subst (λ (k : ℕ). get_or (cells_of n (pair ∷ pairs)) k None ≡ Some pair.1) (sym same)
          (given_here n pair pairs (All-head (λ pair. pair.0 < n) pair pairs below)) in
          ap (λ (cell : Option ℕ). is_some cell) here ∙ sym (ap (λ (b : Bool). b || has_param pairs q) (eq-eqb pair.0 q (sym same)))
      | inr apart ↦
          ap (λ (cell : Option ℕ). is_some cell) (given_other n q pair pairs apart)
          ∙ assigned_by n q pairs (All-tail (λ pair. pair.0 < n) pair pairs below)
          ∙ sym (ap (λ (b : Bool). b || has_param pairs q) (ne_eqb pair.0 q (λ e. apart (sym e))))
    ]

-- rising parameters
rises_above : (pair other : ℕ × ℕ) (pairs : List (ℕ × ℕ)) → IsRising (pair ∷ pairs) → Has pairs other → pair.0 < other.0
rises_above pair other [] rises has = absurd has
rises_above pair other (next ∷ pairs) rises (inl same) = subst (λ (p : ℕ × ℕ). pair.0 < p.0) same rises.0
rises_above pair other (next ∷ pairs) rises (inr has) = let later = rises_above next other pairs rises.1 has in omega (arith, rises.0, later)

-- each pair's value is the one that is given
pub given_by : (n : ℕ) (pair : ℕ × ℕ) (pairs : List (ℕ × ℕ)) → AreBelow n pairs → IsRising pairs → Has pairs pair
    → get_or (cells_of n pairs) pair.0 None ≡ Some pair.1
given_by n pair [] below rises has = absurd has
given_by n pair (first ∷ pairs) below rises (inl same) =
    subst (λ (p : ℕ × ℕ). get_or (cells_of n (first ∷ pairs)) p.0 None ≡ Some p.1) same
    (given_here n first pairs (All-head (λ pair. pair.0 < n) first pairs below))
given_by n pair (first ∷ pairs) below rises (inr has) =
    let above = rises_above first pair pairs rises has in
    given_other n pair.0 first pairs (λ same. omega (arith, same, above))
    ∙ given_by n pair pairs (All-tail (λ pair. pair.0 < n) first pairs below) (behind_first first pairs rises) has

-- partial rows with one more value that exists fit
pub FitsModel-with_value : (m : ModelView) (cells : List (Option ℕ)) (p v : ℕ) → FitsModel m cells → p < length m.params
    → v < length (param_at m.params p).values → FitsModel m (with_value cells p v)
FitsModel-with_value m cells p v fits within exists = record {
  as_long = length-set cells p (Some v) ∙ fits.as_long;
  exist = λ q assigned.
      elim (cases_eq q p) [
        | inl same ↦
            let here : get_or (with_value cells p v) q None ≡ Some v = ap (λ (k : ℕ). get_or (with_value cells p v) k None) same
            ∙ get_or-set_same cells p (Some v) None (omega (arith, fits.as_long)) in
            subst (λ (u : ℕ). u < length (param_at m.params q).values) (sym (ap (λ (cell : Option ℕ). unwrap_or cell 0) here))
            (subst (λ (k : ℕ). v < length (param_at m.params k).values) (sym same) exists)
        | inr differs ↦
            let there : get_or (with_value cells p v) q None ≡ get_or cells q None = get_or-set_other cells p q (Some v) None differs in
            subst (λ (u : ℕ). u < length (param_at m.params q).values) (sym (ap (λ (cell : Option ℕ). unwrap_or cell 0) there))
            (fits.exist q (sym (ap (λ (cell : Option ℕ). is_some cell) there) ∙ assigned))
      ];
}

pub FitsModel-cells_of : (m : ModelView) (pairs : List (ℕ × ℕ)) → AreOfModel m pairs → FitsModel m (cells_of (length m.params) pairs)
FitsModel-cells_of m [] are = record {
  as_long = length-replicate (length m.params) None;
  exist = λ p assigned. absurd (false≢true (sym (none_given (length m.params) p) ∙ assigned));
}
FitsModel-cells_of m (pair ∷ pairs) are =
    let here = All-head (λ pair. (pair.0 < length m.params) × (pair.1 < length (param_at m.params pair.0).values)) pair pairs are in
    FitsModel-with_value m (cells_of (length m.params) pairs) pair.0 pair.1
    (FitsModel-cells_of m pairs (All-tail (λ pair. (pair.0 < length m.params) × (pair.1 < length (param_at m.params pair.0).values)) pair pairs are)) here.0 here.1

pub below_params : (m : ModelView) (pairs : List (ℕ × ℕ)) → AreOfModel m pairs → AreBelow (length m.params) pairs
below_params m pairs are i d within = (are i d within).0
