-- A constraint that the witness breaks names a parameter without a value on the path.
use Rattle.std.proofs.Common.{◌≡◌, ℕ, ◌-◌, ◌<◌, ◌≤◌, Bool, true, false, not, List, length, get_or, Option, Some, None, MatchOption, is_some, ◌∙◌, sym, ap, subst, refl, arith, inl, inr}
use Rattle.std.specs.List.{list_any}
use Rattle.std.proofs.lemmas.Bool.{false≢true, cases_lt, or_parts}
use Rattle.std.proofs.lemmas.List.{get_or_default, get_or_past}
use Rattle.std.proofs.lemmas.List.Elements.{Contains-get_or}
use Rattle.cov_model.specs.declared.truth.Truth.{Truth}
use Rattle.cov_model.specs.believed.Kleene.{body_truth, known}
use Rattle.cov_model.specs.believed.Meaning.{body_holds}
use Rattle.cov_model.specs.believed.Rows.{is_assigned}
use Rattle.cov_model.specs.believed.Sound.{ModelView, IsSound}
use Rattle.cov_model.specs.Sound.{no_rule, rule_at}
use Rattle.cov_model.specs.believed.Valid.{param_numbers}
use Rattle.cov_model.proofs.KnownLemmas.{rows_are_known}
use Rattle.compiled_rules.specs.Codes.{is_yes}
use Rattle.definitions.specs.believed.Demand.{is_among}
use Rattle.definitions.specs.believed.Search.{body_params, breaks_a_rule, constrained_params, is_no, is_stuck}
use Rattle.definitions.proofs.Members.{Has, any_member, contains_member, has_contained, has_filter, of_among, of_filter}
use Rattle.definitions.proofs.SliceLemmas.{has_params, of_params}
use Rattle.live_sets.specs.Trail.{LiveView}
use Rattle.feasibility.specs.Live.{no_on}
use Rattle.feasibility.specs.Tree.{ListsValues, TreeView, is_named, members}
use Rattle.feasibility.proofs.Broken.{breaks_by}
use Rattle.feasibility.proofs.Local.{agree_each, local_body}
use Rattle.feasibility.proofs.Naming.{member_exists, member_named}
use Rattle.full_search.specs.Searching.{IsAt}
use Rattle.full_search.specs.Branching.{CanBranch, GivesNamed}
use Rattle.full_search.specs.declared.witness.Witness.{Witness}
use Rattle.full_search.proofs.GivenRows.{given_is_row}
use Rattle.full_search.proofs.WitnessRows.{named_among}

-- a parameter that a constraint names is among those that constraints name, and exists
pub named_constrained : (m : ModelView) (k q : ℕ) → 0 < k → k ≤ length m.rules → q < length m.params
    → is_among (body_params (rule_at m k).body) q ≡ true → is_among (constrained_params m) q ≡ true
named_constrained m k q some most low named =
    named_among m q low
    (any_member (λ rule. is_among (body_params rule.body) q) m.rules (rule_at m k)
    (has_contained m.rules (rule_at m k) (Contains-get_or m.rules (k - 1) no_rule (omega (arith, some, most)))) named)

pub constrained_low : (m : ModelView) (p : ℕ) → is_among (constrained_params m) p ≡ true → p < length m.params
constrained_low m p named = of_params m p (of_filter (is_named m) (param_numbers m) p (of_among (constrained_params m) p named)).0

-- the parameter at a place of those that a constraint names, where it has no value
pub member_can : (m : ModelView) (cells : List (Option ℕ)) (k i : ℕ) (list : List ℕ) → 0 < k → k ≤ length m.rules
    → list ≡ members (length m.params) (rule_at m k).body → i < length list → is_assigned cells (get_or list i 0) ≡ false → CanBranch m cells (get_or list i 0)
member_can m cells k i list some most is within free = record {
  named = named_constrained m k (get_or list i 0) some most (member_exists (length m.params) (rule_at m k).body list i is within)
      (member_named (length m.params) (rule_at m k).body list i is within);
  free = free;
}

-- where each of them has a value, each that the constraint names does
pub members_given : (m : ModelView) (cells : List (Option ℕ)) (k : ℕ) (list : List ℕ) → list ≡ members (length m.params) (rule_at m k).body
    → ((i : ℕ) → i < length list → is_assigned cells (get_or list i 0) ≡ true) → GivesNamed m k cells
members_given m cells k list is each q low named =
    let has = has_filter (is_among (body_params (rule_at m k).body)) (param_numbers m) q (has_params m q low) named in
    let at = contains_member list q (subst (λ (numbers : List ℕ). Has numbers q) (sym is) has) in
    ap (is_assigned cells) (sym (get_or_default list at.0 0 q at.1 ∙ at.2)) ∙ each at.0 at.1

-- what is known and isn't Yes is No
broken_no : (truth : Truth) (holds : Bool) → truth ≡ known holds → not (is_yes truth) ≡ true → is_no truth ≡ true
broken_no truth true is broken = absurd (false≢true (sym (ap (λ (t : Truth). not (is_yes t)) is) ∙ broken))
broken_no truth false is broken = ap is_no is

-- a constraint that the witness of a path breaks names a parameter without a value on the path
pub broken_open : (tree : TreeView) (cells : List (Option ℕ)) (sets : LiveView) (witness : Witness) (k : ℕ) → IsSound tree.model
    → ListsValues tree.model tree.values → IsAt tree cells sets witness → 0 < k → k ≤ length tree.model.rules
    → get_or witness.broken k false ≡ true → GivesNamed tree.model k cells → ⊥
broken_open tree cells sets witness k sound values at some most marked given =
    false≢true (sym unbroken ∙ breaks_by m cells k some most no_here)
  where
    m : ModelView
    m = tree.model

    row : List (Option ℕ)
    row = witness.row

    unbroken : breaks_a_rule m cells ≡ false
    unbroken = (or_parts (breaks_a_rule m cells) (list_any (is_stuck m tree.values cells) (param_numbers m)) at.node.node).0

    same : (q : ℕ) → is_among (body_params (rule_at m k).body) q ≡ true → get_or cells q None ≡ get_or row q None
    same q named =
        elim (cases_lt q (length m.params)) [
          | inl low ↦ sym (at.part.same q (given q low named))
          | inr past ↦
              get_or_past cells q None (omega (arith, past, at.node.fits.as_long))
              ∙ sym (get_or_past row q None (omega (arith, past, at.node.fits.as_long, at.part.long)))
        ]

    same_truth : body_truth m (rule_at m k).body cells ≡ body_truth m (rule_at m k).body row
    same_truth = (local_body m (rule_at m k).body cells row (agree_each (body_params (rule_at m k).body) cells row same)).0

    known_there : body_truth m (rule_at m k).body row ≡ known (body_holds m (rule_at m k).body row)
    known_there =
        rows_are_known m (rule_at m k).body row (sound.rules (k - 1) no_rule (omega (arith, some, most)))
        (given_is_row m tree.values row values at.kept.row)

    no_here : no_on m cells k ≡ true
    no_here = broken_no (body_truth m (rule_at m k).body cells) (body_holds m (rule_at m k).body row) (same_truth ∙ known_there)
        (ap (λ (t : Truth). not (is_yes t)) same_truth ∙ sym (at.kept.marks k some most) ∙ marked)

-- so such a parameter is found
pub some_unless : (P : Type 0) (Q : ℕ → Type 0) (o : Option ℕ) → MatchOption o P Q → (P → ⊥) → is_some o ≡ true
some_unless P Q None told never = absurd (never told)
some_unless P Q (Some v) told never = refl
