-- Reasons that grow by values of their path.
use Rattle.std.proofs.Common.{◌≡◌, ◌≢◌, ℕ, ◌+◌, ◌<◌, ◌≤◌, true, List, length, Option, Some, None, is_some, get_or, replicate, ◌⊎◌, ◌∙◌, sym, ap, subst, arith, inl, inr}
use Rattle.std.proofs.lemmas.Bool.{cases_eq, cases_lt}
use Rattle.std.proofs.lemmas.List.{get_or-set_other, get_or-set_same, get_or_default, get_or_past, length-set}
use Rattle.value_text.proofs.ListLemmas.{none_at, none_of}
use Rattle.cov_model.specs.believed.Rows.{is_assigned, with_value}
use Rattle.cov_model.specs.believed.Sound.{ModelView}
use Rattle.cov_model.specs.Sound.{rule_at}
use Rattle.cov_model.proofs.CellLemmas.{assigned_within}
use Rattle.definitions.specs.believed.Demand.{is_among}
use Rattle.definitions.specs.believed.Search.{body_params}
use Rattle.definitions.proofs.Members.{Has, contains_member, has_filter, has_range}
use Rattle.std.specs.List.{range_with_len}
use Rattle.feasibility.specs.Tree.{members}
use Rattle.feasibility.proofs.Broken.{shorter_free}
use Rattle.full_search.specs.Reasons.{Grows, HasMembers, IsPart}
use Rattle.full_search.proofs.Parts.{part_none, part_self, part_then}

-- the reason has grown, and has what the path gives some parameters
pub record GrowsWith (done : ℕ → Type 0) (path : List (Option ℕ)) (p : ℕ) (old new : List (Option ℕ)) : Type 0 where
  pub grows : Grows path p old new
  pub has : (q : ℕ) → done q → q ≢ p → get_or new q None ≡ get_or path q None

-- one without values can grow
pub grows_none : (n : ℕ) (path : List (Option ℕ)) (p : ℕ) → n ≡ length path → Grows path p (replicate n None) (replicate n None)
grows_none n path p long = record {
  kept = part_self (replicate n None);
  part = part_none n path long;
  free = ap is_some (none_at n p);
}

-- it goes on from what it has become
pub grows_on : (path : List (Option ℕ)) (p : ℕ) (old new : List (Option ℕ)) → Grows path p old new → Grows path p new new
grows_on path p old new grows = record { kept = part_self new; part = grows.part; free = grows.free }

pub grows_then : (path : List (Option ℕ)) (p : ℕ) (a b c : List (Option ℕ)) → Grows path p a b → Grows path p b c → Grows path p a c
grows_then path p a b c first second = record { kept = part_then a b c first.kept second.kept; part = second.part; free = second.free }

-- a part with a value more of the row
given_within : (path part : List (Option ℕ)) (q w : ℕ) → get_or path q None ≡ Some w → IsPart part path → q < length part
given_within path part q w given is = omega (arith, assigned_within path q (ap is_some given), is.long)

given_stays : (path part : List (Option ℕ)) (q w r : ℕ) → get_or path q None ≡ Some w → IsPart part path → get_or part r None ≡ get_or path r None
    → get_or (with_value part q w) r None ≡ get_or path r None
given_stays path part q w r given is same =
    elim (cases_eq r q) [
      | inl here ↦
          ap (λ (k : ℕ). get_or (with_value part q w) k None) here ∙ get_or-set_same part q (Some w) None (given_within path part q w given is)
          ∙ sym (ap (λ (k : ℕ). get_or path k None) here ∙ given)
      | inr differs ↦ get_or-set_other part q r (Some w) None differs ∙ same
    ]

given_part : (path part : List (Option ℕ)) (q w : ℕ) → get_or path q None ≡ Some w → IsPart part path → IsPart (with_value part q w) path
given_part path part q w given is = record {
  long = length-set part q (Some w) ∙ is.long;
  same = λ r assigned.
      elim (cases_eq r q) [
        | inl here ↦
            ap (λ (k : ℕ). get_or path k None) here ∙ given
            ∙ sym (ap (λ (k : ℕ). get_or (with_value part q w) k None) here ∙ get_or-set_same part q (Some w) None (given_within path part q w given is))
        | inr differs ↦
            let there = get_or-set_other part q r (Some w) None differs in
            is.same r (ap is_some (sym there) ∙ assigned) ∙ sym there
      ];
}

given_kept : (path part : List (Option ℕ)) (q w : ℕ) → get_or path q None ≡ Some w → IsPart part path → IsPart part (with_value part q w)
given_kept path part q w given is = record {
  long = sym (length-set part q (Some w));
  same = λ r assigned. given_stays path part q w r given is (sym (is.same r assigned)) ∙ is.same r assigned;
}

grows_given : (path : List (Option ℕ)) (p : ℕ) (old new : List (Option ℕ)) (q w : ℕ) → get_or path q None ≡ Some w → q ≢ p → Grows path p old new
    → Grows path p old (with_value new q w)
grows_given path p old new q w given apart grows = record {
  kept = part_then old new (with_value new q w) grows.kept (given_kept path new q w given grows.part);
  part = given_part path new q w given grows.part;
  free = ap is_some (get_or-set_other new q p (Some w) None (λ same. apart (sym same))) ∙ grows.free;
}

-- one parameter more, whose value it gets, or which needs none
pub grown_set : (done more : ℕ → Type 0) (path : List (Option ℕ)) (p : ℕ) (old new : List (Option ℕ)) (q w : ℕ) → get_or path q None ≡ Some w → q ≢ p
    → ((r : ℕ) → more r → done r ⊎ (r ≡ q)) → GrowsWith done path p old new → GrowsWith more path p old (with_value new q w)
grown_set done more path p old new q w given apart split so_far = record {
  grows = grows_given path p old new q w given apart so_far.grows;
  has = λ r is away.
      elim (split r is) [
        | inl before ↦ given_stays path new q w r given so_far.grows.part (so_far.has r before away)
        | inr here ↦
            ap (λ (k : ℕ). get_or (with_value new q w) k None) here
            ∙ get_or-set_same new q (Some w) None (given_within path new q w given so_far.grows.part)
            ∙ sym (ap (λ (k : ℕ). get_or path k None) here ∙ given)
      ];
}

pub grown_same : (done more : ℕ → Type 0) (path : List (Option ℕ)) (p : ℕ) (old new : List (Option ℕ))
    → ((r : ℕ) → more r → r ≢ p → done r ⊎ (get_or path r None ≡ None)) → GrowsWith done path p old new → GrowsWith more path p old new
grown_same done more path p old new split so_far = record {
  grows = so_far.grows;
  has = λ r is away.
      elim (split r is away) [
        | inl before ↦ so_far.has r before away
        | inr unset ↦
            none_of (get_or new r None) (shorter_free new path r so_far.grows.part.same (ap is_some unset)) ∙ sym unset
      ];
}

-- ---- the parameters that a constraint names, in order

-- one of the first numbers of a list
abbrev pub IsBefore : List ℕ → ℕ → ℕ → Type 0
IsBefore items i q = (j : ℕ) × (j < i) × (q ≡ get_or items j 0)

pub before_more : (items : List ℕ) (i q : ℕ) → IsBefore items (i + 1) q → IsBefore items i q ⊎ (q ≡ get_or items i 0)
before_more items i q is =
    elim (cases_eq is.0 i) [
      | inl here ↦ inr (is.2 ∙ ap (λ (j : ℕ). get_or items j 0) here)
      | inr differs ↦ inl (is.0, omega (arith, is.1, differs), is.2)
    ]

pub members_all : (m : ModelView) (k p : ℕ) (items : List ℕ) (i : ℕ) (path old new : List (Option ℕ)) → items ≡ members (length m.params) (rule_at m k).body
    → length items ≤ i → length path ≡ length m.params → GrowsWith (IsBefore items i) path p old new → HasMembers m k p path new
members_all m k p items i path old new is whole long grown q away named =
    elim (cases_lt q (length m.params)) [
      | inl within ↦
          let at = contains_member items q (subst (λ (list : List ℕ). Has list q) (sym is)
          (has_filter (is_among (body_params (rule_at m k).body)) (range_with_len 0 (length m.params)) q
          (has_range 0 (length m.params) q (omega arith) (omega (arith, within))) named)) in
          grown.has q (at.0, omega (arith, at.1, whole), sym (get_or_default items at.0 0 q at.1 ∙ at.2)) away
      | inr past ↦
          get_or_past new q None (omega (arith, past, long, grown.grows.part.long)) ∙ sym (get_or_past path q None (omega (arith, past, long)))
    ]

-- ---- the parameters that another reason speaks of

-- a parameter before another that has a value
abbrev pub IsGivenBefore : List (Option ℕ) → ℕ → ℕ → Type 0
IsGivenBefore below i q = (q < i) × (is_assigned below q ≡ true)

pub given_more : (below : List (Option ℕ)) (i q : ℕ) → IsGivenBefore below (i + 1) q → IsGivenBefore below i q ⊎ (q ≡ i)
given_more below i q is = elim (cases_eq q i) [ inl here ↦ inr here | inr differs ↦ inl (omega (arith, is.0, differs), is.1) ]

-- what the reason of a path with a value gives another parameter is of the path
pub below_given : (path below : List (Option ℕ)) (p v q w : ℕ) → IsPart below (with_value path p v) → q ≢ p → get_or below q None ≡ Some w
    → get_or path q None ≡ Some w
below_given path below p v q w part away is =
    sym (get_or-set_other path p q (Some v) None away) ∙ part.same q (ap is_some is) ∙ is

pub reason_all : (path below : List (Option ℕ)) (p v i : ℕ) (old new : List (Option ℕ)) → p < length path → length path ≤ i
    → IsPart below (with_value path p v)
    → GrowsWith (IsGivenBefore below i) path p old new → IsPart below (with_value new p v)
reason_all path below p v i old new within whole part grown = record {
  long = part.long ∙ length-set path p (Some v) ∙ sym (length-set new p (Some v) ∙ grown.grows.part.long);
  same = λ q assigned.
      elim (cases_eq q p) [
        | inl here ↦
            ap (λ (k : ℕ). get_or (with_value new p v) k None) here ∙ get_or-set_same new p (Some v) None (omega (arith, within, grown.grows.part.long))
            ∙ sym (ap (λ (k : ℕ). get_or (with_value path p v) k None) here ∙ get_or-set_same path p (Some v) None within) ∙ part.same q assigned
        | inr differs ↦
            get_or-set_other new p q (Some v) None differs
            ∙ grown.has q (omega (arith, assigned_within below q assigned, part.long, length-set path p (Some v), whole), assigned) differs
            ∙ sym (get_or-set_other path p q (Some v) None differs) ∙ part.same q assigned
      ];
}
