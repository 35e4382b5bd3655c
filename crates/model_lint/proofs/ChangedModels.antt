-- What changed models tell of the whole model.
use Rattle.std.proofs.Common.{◌≡◌, ℕ, zero, suc, ◌-◌, ◌<◌, Bool, true, false, ◌&&◌, cond, List, [], ◌∷◌, map, length, get_or, filter, Option, refl, ap, sym, subst, ◌∙◌, arith}
use Rattle.std.specs.Prelude.{nat_le}
use Rattle.std.specs.List.{list_all, list_any}
use Rattle.std.proofs.lemmas.List.{get_or-map, length-map}
use Rattle.cov_model.specs.declared.demand.Demand.{Demand}
use Rattle.cov_model.specs.declared.slice.Slice.{Slice}
use Rattle.cov_model.specs.declared.slice.Slice.TheVariants.{Positive, Negative}
use Rattle.cov_model.specs.declared.parameter.Param.{Param}
use Rattle.cov_model.specs.believed.Meaning.{body_holds}
use Rattle.cov_model.specs.believed.Rows.{contains}
use Rattle.cov_model.specs.believed.Slices.{slice_values}
use Rattle.cov_model.specs.believed.Sound.{ModelView, IsSound, IsSoundBody}
use Rattle.cov_model.specs.Sound.{no_rule}
use Rattle.cov_model.specs.believed.Valid.{is_row, is_valid, negatives}
use Rattle.cov_model.specs.believed.Views.{BodyView, Plain, IfThen, IfElse, RuleView}
use Rattle.definitions.specs.believed.Completion.{completions, is_extendable, meets_rules}
use Rattle.definitions.specs.believed.Figures.{all_rows}
use Rattle.definitions.proofs.Members.{Has, all_members, all_pass, any_member, member_of_all, of_any, of_filter, of_map, passes_all}
use Rattle.model_lint.specs.declared.change.Change.{Change}
use Rattle.model_lint.specs.declared.change.Change.TheVariants.{LeftOut, Kept, Opposite, WithPremise}
use Rattle.model_lint.specs.Changes.{IsTestOf, change_at, changed, changed_body, changed_rule, is_marked, kept_alone, least_demand}
use Rattle.model_lint.specs.believed.Tests.{has_test, part}
use Rattle.model_lint.proofs.Meanings.{body_same, other}
use Rattle.model_lint.proofs.Members.{any_agree, all_agree}

-- a row meets these constraints, and it is valid with these constraints
abbrev pub meets : ModelView → List RuleView → List (Option ℕ) → Bool
meets m rules row = list_all (λ rule. body_holds m rule.body row) rules

abbrev pub valid_with : ModelView → List RuleView → List (Option ℕ) → Bool
valid_with m rules row = is_row m row && meets m rules row && nat_le (length (negatives m row)) 1

-- some row of the slice that contains the partial row meets these constraints
abbrev pub extends_with : ModelView → List RuleView → Slice → List (Option ℕ) → Bool
extends_with m rules slice cells = list_any (meets m rules) (completions (slice_values m slice) cells)

-- the valid rows of a model with other constraints
pub valid_other : (m : ModelView) (rules : List RuleView) (demand : Demand) (row : List (Option ℕ)) → is_valid (other m rules demand) row ≡ valid_with m rules row
valid_other m rules demand row =
    ap (λ met. is_row m row && met && nat_le (length (negatives m row)) 1)
    (all_agree (λ (rule : RuleView). body_holds (other m rules demand) rule.body row) (λ (rule : RuleView). body_holds m rule.body row) rules
    (λ rule has. body_same m rules demand rule.body row))

other_values : (m : ModelView) (rules : List RuleView) (demand : Demand) (slice : Slice) → slice_values (other m rules demand) slice ≡ slice_values m slice
other_values m rules demand Positive = refl
other_values m rules demand (Negative q v) = refl

-- and where it is extendable
pub extends_other : (m : ModelView) (rules : List RuleView) (demand : Demand) (slice : Slice) (cells : List (Option ℕ))
    → is_extendable (other m rules demand) slice cells ≡ extends_with m rules slice cells
extends_other m rules demand slice cells =
    any_agree (meets_rules (other m rules demand)) (meets m rules) (completions (slice_values (other m rules demand) slice) cells)
    (λ row has. all_agree (λ (rule : RuleView). body_holds (other m rules demand) rule.body row) (λ (rule : RuleView). body_holds m rule.body row) rules
    (λ rule has. body_same m rules demand rule.body row))
    ∙ ap (λ values. list_any (meets m rules) (completions values cells)) (other_values m rules demand slice)

-- with fewer constraints more is extendable
pub extends_fewer : (m : ModelView) (more rules : List RuleView) (slice : Slice) (cells : List (Option ℕ)) → ((rule : RuleView) → Has rules rule → Has more rule)
    → extends_with m more slice cells ≡ true → extends_with m rules slice cells ≡ true
extends_fewer m more rules slice cells fewer some =
    let found = of_any (meets m more) (completions (slice_values m slice) cells) some in
    any_member (meets m rules) (completions (slice_values m slice) cells) found.0 found.1
    (all_pass (λ (rule : RuleView). body_holds m rule.body found.0) rules
    (λ rule has. passes_all (λ (rule : RuleView). body_holds m rule.body found.0) more rule found.2 (fewer rule has)))

-- the parts of a model
pub extends_part : (m : ModelView) (keeps : ℕ → Bool) (slice : Slice) (cells : List (Option ℕ))
    → is_extendable (part m keeps) slice cells ≡ extends_with m (filter (λ rule. keeps rule.number) m.rules) slice cells
extends_part m keeps slice cells = extends_other m (filter (λ rule. keeps rule.number) m.rules) m.demand slice cells

pub valid_part : (m : ModelView) (keeps : ℕ → Bool) (row : List (Option ℕ)) → is_valid (part m keeps) row ≡ valid_with m (filter (λ rule. keeps rule.number) m.rules) row
valid_part m keeps row = valid_other m (filter (λ rule. keeps rule.number) m.rules) m.demand row

pub extends_whole : (m : ModelView) (keeps : ℕ → Bool) (slice : Slice) (cells : List (Option ℕ)) → is_extendable m slice cells ≡ true
    → is_extendable (part m keeps) slice cells ≡ true
extends_whole m keeps slice cells some =
    extends_part m keeps slice cells
    ∙ extends_fewer m m.rules (filter (λ rule. keeps rule.number) m.rules) slice cells
    (λ rule has. (of_filter (λ (rule : RuleView). keeps rule.number) m.rules rule has).0) some

-- the model that keeps the marked constraints alone
change_kept : (marks : List Bool) (i : ℕ) → get_or (map kept_alone marks) i LeftOut ≡ kept_alone (get_or marks i false)
change_kept [] i = refl
change_kept (mark ∷ marks) zero = refl
change_kept (mark ∷ marks) (suc i) = change_kept marks i

kept_step : (m : ModelView) (rule : RuleView) (rest : List RuleView) (row : List (Option ℕ)) (met mark : Bool) → met ≡ meets m rest row
    → (body_holds m (changed_body (kept_alone mark) rule.body) row && met) ≡ meets m (cond mark (rule ∷ rest) rest) row
kept_step m rule rest row met true same = ap (λ b. body_holds m rule.body row && b) same
kept_step m rule rest row met false same = same

kept_meets : (m : ModelView) (marks : List Bool) (rules : List RuleView) (row : List (Option ℕ))
    → meets m (map (changed_rule (map kept_alone marks)) rules) row ≡ meets m (filter (λ rule. is_marked marks rule.number) rules) row
kept_meets m marks [] row = refl
kept_meets m marks (rule ∷ rules) row =
    ap (λ change. body_holds m (changed_body change rule.body) row && meets m (map (changed_rule (map kept_alone marks)) rules) row)
    (change_kept marks (rule.number - 1))
    ∙ kept_step m rule (filter (λ rule. is_marked marks rule.number) rules) row (meets m (map (changed_rule (map kept_alone marks)) rules) row) (is_marked marks rule.number)
    (kept_meets m marks rules row)

pub valid_kept : (m : ModelView) (marks : List Bool) (row : List (Option ℕ)) → is_valid (changed m (map kept_alone marks)) row ≡ is_valid (part m (is_marked marks)) row
valid_kept m marks row =
    valid_other m (map (changed_rule (map kept_alone marks)) m.rules) least_demand row
    ∙ ap (λ met. is_row m row && met && nat_le (length (negatives m row)) 1) (kept_meets m marks m.rules row)
    ∙ sym (valid_part m (is_marked marks) row)

pub extends_kept : (m : ModelView) (marks : List Bool) (slice : Slice) (cells : List (Option ℕ))
    → is_extendable (changed m (map kept_alone marks)) slice cells ≡ is_extendable (part m (is_marked marks)) slice cells
extends_kept m marks slice cells =
    extends_other m (map (changed_rule (map kept_alone marks)) m.rules) least_demand slice cells
    ∙ any_agree (meets m (map (changed_rule (map kept_alone marks)) m.rules)) (meets m (filter (λ rule. is_marked marks rule.number) m.rules))
    (completions (slice_values m slice) cells) (λ row has. kept_meets m marks m.rules row)
    ∙ sym (extends_part m (is_marked marks) slice cells)

pub has_test_kept : (m : ModelView) (marks : List Bool) (cells : List (Option ℕ))
    → has_test (changed m (map kept_alone marks)) cells ≡ has_test (part m (is_marked marks)) cells
has_test_kept m marks cells =
    any_agree (λ row. is_valid (changed m (map kept_alone marks)) row && contains row cells) (λ row. is_valid (part m (is_marked marks)) row && contains row cells)
    (all_rows m) (λ row has. ap (λ valid. valid && contains row cells) (valid_kept m marks row))

-- changed models are sound
body_sound : (params : List Param) (change : Change) (body : BodyView) → IsSoundBody params body → IsSoundBody params (changed_body change body)
body_sound params LeftOut body sound = tt
body_sound params Kept body sound = sound
body_sound params Opposite (Plain pred) sound = sound
body_sound params Opposite (IfThen premise pred) sound = (sound.0, (sound.1, tt))
body_sound params Opposite (IfElse premise pred else_pred) sound = sound
body_sound params WithPremise (Plain pred) sound = sound
body_sound params WithPremise (IfThen premise pred) sound = (sound.0, (sound.1, tt))
body_sound params WithPremise (IfElse premise pred else_pred) sound = (sound.0, (sound.1, tt))

pub changed_sound : (m : ModelView) (changes : List Change) → IsSound m → IsSound (changed m changes)
changed_sound m changes sound = record {
  some = sound.some;
  few = sound.few;
  params = sound.params;
  distinct = sound.distinct;
  prefix = sound.prefix;
  few_rules = omega (arith, sound.few_rules, length-map m.rules (changed_rule changes));
  numbered = λ i d within.
      let inside : i < length m.rules = omega (arith, within, length-map m.rules (changed_rule changes)) in
      ap (λ (rule : RuleView). rule.number) (get_or-map (changed_rule changes) m.rules i no_rule d inside) ∙ sound.numbered i no_rule inside;
  rules = all_members (λ (rule : RuleView). IsSoundBody m.params rule.body) (map (changed_rule changes) m.rules) (λ rule has.
      let own = of_map (changed_rule changes) m.rules rule has in
      subst (λ (rule : RuleView). IsSoundBody m.params rule.body) own.2
      (body_sound m.params (change_at changes own.0.number) own.0.body (member_of_all (λ (rule : RuleView). IsSoundBody m.params rule.body) m.rules own.0 sound.rules own.1)));
  demand = record {
    least = omega arith;
    most = omega (arith, sound.some);
    subs = λ i d within. absurd (omega (arith, within));
    relations = λ i d within. absurd (omega (arith, within));
  };
}

-- so is what has their parts
pub sound_from : (m : ModelView) (changes : List Change) (params : List Param) (rules : List RuleView) (demand : Demand) (prefix : ℕ) (fold : Bool) → IsSound m
    → params ≡ m.params → rules ≡ map (changed_rule changes) m.rules → demand ≡ least_demand → prefix ≡ m.prefix → fold ≡ m.fold
    → IsSound (record { params = params; rules = rules; demand = demand; prefix = prefix; fold = fold })
sound_from m changes params rules demand prefix fold sound is_params is_rules is_demand is_prefix is_fold =
    subst (λ x. IsSound (record { params = x; rules = rules; demand = demand; prefix = prefix; fold = fold })) (sym is_params)
    (subst (λ x. IsSound (record { params = m.params; rules = x; demand = demand; prefix = prefix; fold = fold })) (sym is_rules)
    (subst (λ x. IsSound (record { params = m.params; rules = map (changed_rule changes) m.rules; demand = x; prefix = prefix; fold = fold })) (sym is_demand)
    (subst (λ x. IsSound (record { params = m.params; rules = map (changed_rule changes) m.rules; demand = least_demand; prefix = x; fold = fold })) (sym is_prefix)
    (subst (λ x. IsSound (record { params = m.params; rules = map (changed_rule changes) m.rules; demand = least_demand; prefix = m.prefix; fold = x })) (sym is_fold)
    (changed_sound m changes sound)))))

-- what is a test of the changed model is one of the part
pub kept_test : (m : ModelView) (marks : List Bool) (slice : Slice) (cells row : List (Option ℕ)) → IsTestOf (changed m (map kept_alone marks)) slice cells row
    → IsTestOf (part m (is_marked marks)) slice cells row
kept_test m marks slice cells row test = record { own = test.own; valid = sym (valid_kept m marks row) ∙ test.valid; contained = test.contained }
