-- What a model tells one of whose constraints is changed.
use Rattle.std.proofs.Common.{◌≡◌, ℕ, ◌-◌, ◌≤◌, Bool, true, false, ◌&&◌, ◌||◌, not, cond, List, [], ◌∷◌, map, length, filter, replicate, Option, inl, inr, refl, ap, sym, subst, ◌∙◌, arith}
use Rattle.std.specs.Prelude.{◌==◌, nat_le}
use Rattle.std.specs.List.{list_all, list_any}
use Rattle.std.proofs.lemmas.Bool.{and_parts, and_from, cases_eq, eq-eqb, ne_eqb, not_from_false, false≢true}
use Rattle.std.proofs.lemmas.List.{get_or-set_same, get_or-set_other, get_or-replicate, length-replicate}
use Rattle.std.proofs.Math.Bool.{and-true}
use Rattle.cov_model.specs.believed.Meaning.{body_holds, pred_holds}
use Rattle.cov_model.specs.believed.Rows.{contains}
use Rattle.cov_model.specs.believed.Sound.{ModelView, IsSound}
use Rattle.cov_model.specs.Sound.{no_rule, rule_at}
use Rattle.cov_model.specs.believed.Valid.{is_row, is_valid, negatives}
use Rattle.cov_model.specs.believed.Views.{BodyView, Plain, IfThen, IfElse, RuleView}
use Rattle.cov_model.proofs.TupleLemmas.{contains-nothing}
use Rattle.definitions.specs.believed.Figures.{all_rows}
use Rattle.definitions.proofs.Members.{Has, all_pass, has_filter, has_map, of_filter, of_map, passes_all, same_answer}
use Rattle.model_lint.specs.declared.change.Change.{Change}
use Rattle.model_lint.specs.declared.change.Change.TheVariants.{LeftOut, Kept, Opposite, WithPremise}
use Rattle.model_lint.specs.Changes.{change_at, changed, changed_body, changed_rule, least_demand, one_changed}
use Rattle.model_lint.specs.believed.Constraints.{has_premise, never_applies, never_excludes, premise_holds}
use Rattle.model_lint.specs.believed.Tests.{has_test, no_values, part}
use Rattle.model_lint.proofs.ChangedModels.{meets, valid_other, valid_part, valid_with}
use Rattle.model_lint.proofs.Members.{any_agree}
use Rattle.model_lint.proofs.ThinMarks.{has_get_or, numbered_rule}

-- what changed constraints demand
opposite_then : (a b : Bool) → (a && (not b && true)) ≡ not (not a || b)
opposite_then true true = refl
opposite_then true false = refl
opposite_then false b = refl

opposite_else : (a b c : Bool) → ((not a || not b) && (a || not c)) ≡ not ((not a || b) && (a || c))
opposite_else true true c = refl
opposite_else true false c = refl
opposite_else false b true = refl
opposite_else false b false = refl

pub opposite_holds : (m : ModelView) (body : BodyView) (row : List (Option ℕ)) → body_holds m (changed_body Opposite body) row ≡ not (body_holds m body row)
opposite_holds m (Plain pred) row = refl
opposite_holds m (IfThen premise pred) row = opposite_then (pred_holds m premise row) (pred_holds m pred row)
opposite_holds m (IfElse premise pred else_pred) row = opposite_else (pred_holds m premise row) (pred_holds m pred row) (pred_holds m else_pred row)

premise_then : (a b : Bool) → (a && (b && true)) ≡ ((not a || b) && a)
premise_then true true = refl
premise_then true false = refl
premise_then false b = refl

premise_else : (a b c : Bool) → (a && (b && true)) ≡ (((not a || b) && (a || c)) && a)
premise_else true true c = refl
premise_else true false c = refl
premise_else false b true = refl
premise_else false b false = refl

pub premise_too : (m : ModelView) (body : BodyView) (row : List (Option ℕ)) → body_holds m (changed_body WithPremise body) row ≡ (body_holds m body row && premise_holds m body row)
premise_too m (Plain pred) row = sym (and-true (pred_holds m pred row))
premise_too m (IfThen premise pred) row = premise_then (pred_holds m premise row) (pred_holds m pred row)
premise_too m (IfElse premise pred else_pred) row = premise_else (pred_holds m premise row) (pred_holds m pred row) (pred_holds m else_pred row)

shuffled : (a b c d : Bool) → (a && (b && c) && d) ≡ ((a && b && d) && c)
shuffled false b c d = refl
shuffled true false c d = refl
shuffled true true true true = refl
shuffled true true true false = refl
shuffled true true false true = refl
shuffled true true false false = refl

-- the other constraints, and what is known of them
abbrev others : ModelView → RuleView → List RuleView
others m rule = filter (λ r. not (r.number == rule.number)) m.rules

same_rule : (m : ModelView) (rule r : RuleView) → IsSound m → Has m.rules rule → Has m.rules r → r.number ≡ rule.number → r ≡ rule
same_rule m rule r sound has_rule has same =
    sym (numbered_rule m r sound has).own ∙ ap (λ n. rule_at m n) same ∙ (numbered_rule m rule sound has_rule).own

module _ (m : ModelView) (rule : RuleView) (sound : IsSound m) (own : Has m.rules rule) (change : Change) where
  abbrev changes : List Change
  changes = one_changed (length m.rules) rule.number change

  change_own : change_at changes rule.number ≡ change
  change_own =
      let place = numbered_rule m rule sound own in
      get_or-set_same (replicate (length m.rules) Kept) (rule.number - 1) change LeftOut (omega (arith, place.least, place.most, length-replicate {A = Change} (length m.rules) Kept))

  change_other : (r : RuleView) → Has m.rules r → (r.number ≡ rule.number → ⊥) → change_at changes r.number ≡ Kept
  change_other r has apart =
      let place = numbered_rule m r sound has in
      let mine = numbered_rule m rule sound own in
      get_or-set_other (replicate (length m.rules) Kept) (rule.number - 1) (r.number - 1) change LeftOut (λ same. apart (omega (arith, same, place.least, mine.least)))
      ∙ get_or-replicate (length m.rules) (r.number - 1) Kept LeftOut (omega (arith, place.least, place.most))

  one_met : (row : List (Option ℕ)) → meets m (map (changed_rule changes) m.rules) row ≡ (meets m (others m rule) row && body_holds m (changed_body change rule.body) row)
  one_met row =
      same_answer (meets m (map (changed_rule changes) m.rules) row) (meets m (others m rule) row && body_holds m (changed_body change rule.body) row) to from
    where
      to : meets m (map (changed_rule changes) m.rules) row ≡ true → (meets m (others m rule) row && body_holds m (changed_body change rule.body) row) ≡ true
      to all =
          and_from (meets m (others m rule) row) (body_holds m (changed_body change rule.body) row)
          (all_pass (λ (r : RuleView). body_holds m r.body row) (others m rule) (λ r has.
          let kept = of_filter (λ (r : RuleView). not (r.number == rule.number)) m.rules r has in
          let apart : r.number ≡ rule.number → ⊥ = λ same. false≢true (sym (ap not (eq-eqb r.number rule.number same)) ∙ kept.1) in
          ap (λ c. body_holds m (changed_body c r.body) row) (sym (change_other r kept.0 apart))
          ∙ passes_all (λ (r : RuleView). body_holds m r.body row) (map (changed_rule changes) m.rules) (changed_rule changes r) all (has_map (changed_rule changes) m.rules r kept.0)))
          (ap (λ c. body_holds m (changed_body c rule.body) row) (sym change_own)
          ∙ passes_all (λ (r : RuleView). body_holds m r.body row) (map (changed_rule changes) m.rules) (changed_rule changes rule) all (has_map (changed_rule changes) m.rules rule own))

      from : (meets m (others m rule) row && body_holds m (changed_body change rule.body) row) ≡ true → meets m (map (changed_rule changes) m.rules) row ≡ true
      from both =
          let parts = and_parts (meets m (others m rule) row) (body_holds m (changed_body change rule.body) row) both in
          all_pass (λ (r : RuleView). body_holds m r.body row) (map (changed_rule changes) m.rules) (λ r has.
          let given = of_map (changed_rule changes) m.rules r has in
          subst (λ (r : RuleView). body_holds m r.body row ≡ true) given.2 (at given.0 given.1 parts.0 parts.1))
        where
          at : (r : RuleView) → Has m.rules r → meets m (others m rule) row ≡ true → body_holds m (changed_body change rule.body) row ≡ true
              → body_holds m (changed_body (change_at changes r.number) r.body) row ≡ true
          at r has all holds =
              elim (cases_eq r.number rule.number) [
                | inl same ↦
                    ap (λ (s : RuleView). body_holds m (changed_body (change_at changes s.number) s.body) row) (same_rule m rule r sound own has same)
                    ∙ ap (λ c. body_holds m (changed_body c rule.body) row) change_own ∙ holds
                | inr apart ↦
                    ap (λ c. body_holds m (changed_body c r.body) row) (change_other r has apart)
                    ∙ passes_all (λ (r : RuleView). body_holds m r.body row) (others m rule) r all
                    (has_filter (λ (r : RuleView). not (r.number == rule.number)) m.rules r has (not_from_false (r.number == rule.number) (ne_eqb r.number rule.number apart)))
              ]

  -- the valid rows of the changed model
  pub one_valid : (row : List (Option ℕ)) → is_valid (changed m changes) row ≡ (valid_with m (others m rule) row && body_holds m (changed_body change rule.body) row)
  one_valid row =
      valid_other m (map (changed_rule changes) m.rules) least_demand row
      ∙ ap (λ met. is_row m row && met && nat_le (length (negatives m row)) 1) (one_met row)
      ∙ shuffled (is_row m row) (meets m (others m rule) row) (body_holds m (changed_body change rule.body) row) (nat_le (length (negatives m row)) 1)

  pub one_test : has_test (changed m changes) (no_values m) ≡ list_any (λ row. valid_with m (others m rule) row && body_holds m (changed_body change rule.body) row) (all_rows m)
  one_test =
      any_agree (λ row. is_valid (changed m changes) row && contains row (no_values m)) (λ row. valid_with m (others m rule) row && body_holds m (changed_body change rule.body) row)
      (all_rows m) (λ row has. ap (λ b. is_valid (changed m changes) row && b) (contains-nothing (length m.params) row) ∙ and-true (is_valid (changed m changes) row) ∙ one_valid row)

-- so a constraint never excludes where the opposite can't be met
all_filter : (f g : List (Option ℕ) → Bool) (rows : List (List (Option ℕ))) → not (list_any (λ row. g row && not (f row)) rows) ≡ list_all f (filter g rows)
all_filter f g [] = refl
all_filter f g (row ∷ rows) = at (g row) (f row) refl (all_filter f g rows)
  where
    at : (b c : Bool) → f row ≡ c → not (list_any (λ row. g row && not (f row)) rows) ≡ list_all f (filter g rows)
        → not ((b && not c) || list_any (λ row. g row && not (f row)) rows) ≡ list_all f (cond b (row ∷ filter g rows) (filter g rows))
    at true true is rest = rest ∙ sym (ap (λ x. x && list_all f (filter g rows)) is)
    at true false is rest = sym (ap (λ x. x && list_all f (filter g rows)) is)
    at false c is rest = rest

pub idle_is : (m : ModelView) (rule : RuleView) → IsSound m → Has m.rules rule
    → not (has_test (changed m (one_changed (length m.rules) rule.number Opposite)) (no_values m)) ≡ never_excludes m rule
idle_is m rule sound own =
    ap not (one_test m rule sound own Opposite
    ∙ any_agree (λ row. valid_with m (others m rule) row && body_holds m (changed_body Opposite rule.body) row)
    (λ row. is_valid (part m (λ n. not (n == rule.number))) row && not (body_holds m rule.body row)) (all_rows m)
    (λ row has. ap (λ b. valid_with m (others m rule) row && b) (opposite_holds m rule.body row)
    ∙ ap (λ b. b && not (body_holds m rule.body row)) (sym (valid_part m (λ n. not (n == rule.number)) row))))
    ∙ all_filter (λ row. body_holds m rule.body row) (is_valid (part m (λ n. not (n == rule.number)))) (all_rows m)

-- a valid row meets the others and the constraint
whole_met : (m : ModelView) (rule : RuleView) (row : List (Option ℕ)) → IsSound m → Has m.rules rule
    → meets m m.rules row ≡ (meets m (others m rule) row && body_holds m rule.body row)
whole_met m rule row sound own =
    same_answer (meets m m.rules row) (meets m (others m rule) row && body_holds m rule.body row)
    (λ all. and_from (meets m (others m rule) row) (body_holds m rule.body row)
    (all_pass (λ (r : RuleView). body_holds m r.body row) (others m rule)
    (λ r has. passes_all (λ (r : RuleView). body_holds m r.body row) m.rules r all (of_filter (λ (r : RuleView). not (r.number == rule.number)) m.rules r has).0))
    (passes_all (λ (r : RuleView). body_holds m r.body row) m.rules rule all own))
    (λ both.
    let parts = and_parts (meets m (others m rule) row) (body_holds m rule.body row) both in
    all_pass (λ (r : RuleView). body_holds m r.body row) m.rules (λ r has.
    elim (cases_eq r.number rule.number) [
      | inl same ↦ ap (λ (s : RuleView). body_holds m s.body row) (same_rule m rule r sound own has same) ∙ parts.1
      | inr apart ↦ passes_all (λ (r : RuleView). body_holds m r.body row) (others m rule) r parts.0
          (has_filter (λ (r : RuleView). not (r.number == rule.number)) m.rules r has (not_from_false (r.number == rule.number) (ne_eqb r.number rule.number apart)))
    ]))

grouped : (a b c : Bool) → (a && (b && c)) ≡ ((a && b) && c)
grouped true b c = refl
grouped false b c = refl

-- and a condition never holds where it can't be met with them
pub unmet_is : (m : ModelView) (rule : RuleView) → IsSound m → Has m.rules rule
    → has_test (changed m (one_changed (length m.rules) rule.number WithPremise)) (no_values m) ≡ list_any (λ row. is_valid m row && premise_holds m rule.body row) (all_rows m)
unmet_is m rule sound own =
    one_test m rule sound own WithPremise
    ∙ any_agree (λ row. valid_with m (others m rule) row && body_holds m (changed_body WithPremise rule.body) row)
    (λ row. is_valid m row && premise_holds m rule.body row) (all_rows m)
    (λ row has. ap (λ b. valid_with m (others m rule) row && b) (premise_too m rule.body row)
    ∙ grouped (valid_with m (others m rule) row) (body_holds m rule.body row) (premise_holds m rule.body row)
    ∙ ap (λ b. b && premise_holds m rule.body row)
    (sym (ap (λ met. is_row m row && met && nat_le (length (negatives m row)) 1) (whole_met m rule row sound own)
    ∙ shuffled (is_row m row) (meets m (others m rule) row) (body_holds m rule.body row) (nat_le (length (negatives m row)) 1))))

-- the same of the constraint of a number
number_at : (m : ModelView) (number : ℕ) → IsSound m → 1 ≤ number → number ≤ length m.rules → (rule_at m number).number ≡ number
number_at m number sound least most = sound.numbered (number - 1) no_rule (omega (arith, least, most)) ∙ omega (arith, least)

rule_has : (m : ModelView) (number : ℕ) → 1 ≤ number → number ≤ length m.rules → Has m.rules (rule_at m number)
rule_has m number least most = has_get_or m.rules (number - 1) no_rule (omega (arith, least, most))

pub idle_at : (m : ModelView) (number : ℕ) → IsSound m → 1 ≤ number → number ≤ length m.rules
    → not (has_test (changed m (one_changed (length m.rules) number Opposite)) (no_values m)) ≡ never_excludes m (rule_at m number)
idle_at m number sound least most =
    ap (λ n. not (has_test (changed m (one_changed (length m.rules) n Opposite)) (no_values m))) (sym (number_at m number sound least most))
    ∙ idle_is m (rule_at m number) sound (rule_has m number least most)

pub unmet_at : (m : ModelView) (number : ℕ) → IsSound m → 1 ≤ number → number ≤ length m.rules → has_premise (rule_at m number).body ≡ true
    → not (has_test (changed m (one_changed (length m.rules) number WithPremise)) (no_values m)) ≡ never_applies m (rule_at m number)
unmet_at m number sound least most conditional =
    ap (λ n. not (has_test (changed m (one_changed (length m.rules) n WithPremise)) (no_values m))) (sym (number_at m number sound least most))
    ∙ ap not (unmet_is m (rule_at m number) sound (rule_has m number least most))
    ∙ sym (ap (λ b. b && not (list_any (λ row. is_valid m row && premise_holds m (rule_at m number).body row) (all_rows m))) conditional)
