-- How marked constraints become a conflict.
use Rattle.std.proofs.Common.{◌≡◌, ℕ, zero, suc, ◌+◌, ◌-◌, ◌<◌, ◌≤◌, Bool, true, false, ◌&&◌, not, List, [], ◌∷◌, map, length, get_or, set, find, filter, Option, Some, None, inl, inr, refl, ap, sym, subst, ◌∙◌, arith}
use Rattle.std.specs.Prelude.{◌==◌, nat_le, sum_by, if◌then◌else◌}
use Rattle.std.proofs.Math.Bool.{and-false, and-true}
use Rattle.std.proofs.lemmas.Bool.{and_parts, cases_eq, eq-eqb, false_from_ne_true, false≢true, leb-true, ne_eqb, not-true}
use Rattle.std.proofs.lemmas.List.{get_or_default, get_or-set_other, length-set, set-get_or, set-set}
use Rattle.std.proofs.lemmas.List.Sums.{sum_by-set}
use Rattle.cov_model.specs.declared.row_fault.RowWhy.TheVariants.{Rule, Negatives}
use Rattle.cov_model.specs.declared.slice.Slice.{Slice}
use Rattle.cov_model.specs.believed.Meaning.{body_holds}
use Rattle.cov_model.specs.believed.RowFault.{fault_of, first_two, row_fault}
use Rattle.cov_model.specs.believed.Sound.{ModelView, IsSound}
use Rattle.cov_model.specs.Sound.{no_rule, rule_at}
use Rattle.cov_model.specs.believed.Valid.{is_row, negatives}
use Rattle.cov_model.specs.believed.Views.{RuleView}
use Rattle.definitions.specs.believed.Completion.{has_slice, is_extendable}
use Rattle.definitions.specs.believed.Demand.{is_among}
use Rattle.definitions.proofs.Members.{Has, all_members, among_has, contains_member, has_filter, has_map, of_among, of_filter, of_find, of_map, passes_all, same_answer}
use Rattle.model_lint.specs.Changes.{IsTestOf, is_marked}
use Rattle.model_lint.specs.Marks.{IsFalseOn, IsThinTo}
use Rattle.model_lint.specs.believed.Tests.{IsConflict, part, rule_numbers}
use Rattle.model_lint.proofs.ChangedModels.{extends_fewer, extends_part, extends_with, meets, valid_part}
use Rattle.model_lint.proofs.Members.{filter_agree}

-- the constraint of a number, which is its place
pub record IsNumbered (m : ModelView) (rule : RuleView) : Type 0 where
  pub least : 1 ≤ rule.number
  pub most : rule.number ≤ length m.rules
  pub own : rule_at m rule.number ≡ rule

pub numbered_rule : (m : ModelView) (rule : RuleView) → IsSound m → Has m.rules rule → IsNumbered m rule
numbered_rule m rule sound has =
    let at = contains_member m.rules rule has in
    let number : rule.number ≡ at.0 + 1 = ap (λ (r : RuleView). r.number) (sym at.2) ∙ sound.numbered at.0 rule at.1 in
    let place : rule.number - 1 ≡ at.0 = omega (arith, number) in
    record {
      least = omega (arith, number);
      most = omega (arith, number, at.1);
      own = ap (λ n. get_or m.rules n no_rule) place ∙ get_or_default m.rules at.0 no_rule rule at.1 ∙ at.2;
    }

pub has_get_or : {X : Type 0} (xs : List X) (i : ℕ) (d : X) → i < length xs → Has xs (get_or xs i d)
has_get_or [] i d within = absurd (omega arith)
has_get_or (x ∷ xs) zero d within = inl refl
has_get_or (x ∷ xs) (suc i) d within = inr (has_get_or xs i d (omega arith))

-- why a row with at most one negative value isn't valid
pub fault_is_false : (m : ModelView) (row : List (Option ℕ)) (number : ℕ) → IsSound m → row_fault m row ≡ Some (Rule number) → IsFalseOn m row number
fault_is_false m row number sound fault = at (find (λ rule. not (body_holds m rule.body row)) m.rules) refl fault
  where
    no_two : (ns : List ℕ) → first_two ns ≡ Some (Rule number) → ⊥
    no_two [] is = cc
    no_two (p ∷ []) is = cc
    no_two (p ∷ q ∷ ns) is = cc

    at : (found : Option RuleView) → find (λ rule. not (body_holds m rule.body row)) m.rules ≡ found → fault_of found (negatives m row) ≡ Some (Rule number) → IsFalseOn m row number
    at None is fault = absurd (no_two (negatives m row) fault)
    at (Some rule) is fault =
        let own = of_find (λ rule. not (body_holds m rule.body row)) m.rules rule is in
        let place = numbered_rule m rule sound own.0 in
        let same : rule.number ≡ number = cc in
        record {
          least = omega (arith, place.least, same);
          most = omega (arith, place.most, same);
          fails = ap (λ (r : RuleView). body_holds m r.body row) (ap (rule_at m) (sym same) ∙ place.own) ∙ not-true (body_holds m rule.body row) own.1;
        }

pub no_two_negatives : (m : ModelView) (row : List (Option ℕ)) (p q : ℕ) → has_slice m row ≡ true → row_fault m row ≡ Some (Negatives p q) → ⊥
no_two_negatives m row p q few fault = at (find (λ rule. not (body_holds m rule.body row)) m.rules) (negatives m row) few fault
  where
    at : (found : Option RuleView) (ns : List ℕ) → nat_le (length ns) 1 ≡ true → fault_of found ns ≡ Some (Negatives p q) → ⊥
    at (Some rule) ns few fault = cc
    at None [] few fault = cc
    at None (r ∷ []) few fault = cc
    at None (r ∷ s ∷ ns) few fault = let most = leb-true (length (r ∷ s ∷ ns)) 1 few in absurd (omega (arith, most))

-- a constraint that is false on a test with the marked ones isn't marked
pub false_unmarked : (m : ModelView) (marks : List Bool) (slice : Slice) (cells row : List (Option ℕ)) (number : ℕ) → IsSound m → IsTestOf (part m (is_marked marks)) slice cells row
    → IsFalseOn m row number → get_or marks (number - 1) false ≡ false
false_unmarked m marks slice cells row number sound test fails =
    let valid = sym (valid_part m (is_marked marks) row) ∙ test.valid in
    let kept = filter (λ (rule : RuleView). is_marked marks rule.number) m.rules in
    let parts = and_parts (is_row m row && meets m kept row) (nat_le (length (negatives m row)) 1) valid in
    let met = (and_parts (is_row m row) (meets m kept row) parts.0).1 in
    let inside : number - 1 < length m.rules = omega (arith, fails.least, fails.most) in
    let has = has_get_or m.rules (number - 1) no_rule inside in
    let own : (rule_at m number).number ≡ number = sound.numbered (number - 1) no_rule inside ∙ omega (arith, fails.least) in
    false_from_ne_true (get_or marks (number - 1) false) (λ marked.
    let holds = passes_all (λ (rule : RuleView). body_holds m rule.body row) kept (rule_at m number) met
    (has_filter (λ (rule : RuleView). is_marked marks rule.number) m.rules (rule_at m number) has (ap (is_marked marks) own ∙ marked)) in
    false≢true (sym fails.fails ∙ holds))

-- so once it is marked, fewer are without a mark
abbrev pub unmarked : List Bool → ℕ
unmarked marks = sum_by (λ mark. if mark then 0 else 1) marks

pub one_fewer : (marks : List Bool) (i : ℕ) → i < length marks → get_or marks i false ≡ false → unmarked (set marks i true) < unmarked marks
one_fewer marks i within is =
    let counted = sum_by-set (λ (mark : Bool). if mark then 0 else 1) marks i true false within in
    let here = ap {B = ℕ} (λ (mark : Bool). if mark then 0 else 1) is in
    omega (arith, counted, here)

-- a mark that is taken away
cleared_here : (marks : List Bool) (i : ℕ) → get_or (set marks i false) i false ≡ false
cleared_here [] i = refl
cleared_here (mark ∷ marks) zero = refl
cleared_here (mark ∷ marks) (suc i) = cleared_here marks i

cleared_other : (marks : List Bool) (i x : ℕ) → get_or (set marks i false) x false ≡ true → (x ≡ i → ⊥) × (get_or marks x false ≡ true)
cleared_other marks i x is =
    elim (cases_eq x i) [
      | inl same ↦ absurd (false≢true (sym (ap (λ y. get_or (set marks i false) y false) same ∙ cleared_here marks i) ∙ is))
      | inr apart ↦ (apart, sym (get_or-set_other marks i x false false apart) ∙ is)
    ]

-- with fewer marks tests stay
fewer_marks : (m : ModelView) (more marks : List Bool) (slice : Slice) (cells : List (Option ℕ)) → ((n : ℕ) → is_marked marks n ≡ true → is_marked more n ≡ true)
    → is_extendable (part m (is_marked more)) slice cells ≡ true → is_extendable (part m (is_marked marks)) slice cells ≡ true
fewer_marks m more marks slice cells fewer some =
    extends_part m (is_marked marks) slice cells
    ∙ extends_fewer m (filter (λ rule. is_marked more rule.number) m.rules) (filter (λ rule. is_marked marks rule.number) m.rules) slice cells
    (λ rule has.
    let own = of_filter (λ (rule : RuleView). is_marked marks rule.number) m.rules rule has in
    has_filter (λ (rule : RuleView). is_marked more rule.number) m.rules rule own.0 (fewer rule.number own.1))
    (sym (extends_part m (is_marked more) slice cells) ∙ some)

-- the steps of thinning
pub thin_unmarked : (m : ModelView) (slice : Slice) (cells : List (Option ℕ)) (marks : List Bool) (i : ℕ) → IsThinTo m slice cells marks i → get_or marks i false ≡ false
    → IsThinTo m slice cells marks (i + 1)
thin_unmarked m slice cells marks i thin is = record {
  long = thin.long;
  enough = thin.enough;
  needed = λ j within marked.
      elim (cases_eq j i) [
        | inl same ↦ absurd (false≢true (sym (ap (λ x. get_or marks x false) same ∙ is) ∙ marked))
        | inr apart ↦ thin.needed j (omega (arith, within, apart)) marked
      ];
}

pub thin_marked : (m : ModelView) (slice : Slice) (cells : List (Option ℕ)) (marks : List Bool) (i : ℕ) (needed : Bool) → IsThinTo m slice cells marks i
    → get_or marks i false ≡ true → needed ≡ is_extendable (part m (is_marked (set marks i false))) slice cells
    → IsThinTo m slice cells (set (set marks i false) i needed) (i + 1)
thin_marked m slice cells marks i true thin is found =
    let back : set (set marks i false) i true ≡ marks = set-set marks i false true ∙ ap (λ mark. set marks i mark) (sym is) ∙ set-get_or marks i false in
    subst (λ list. IsThinTo m slice cells list (i + 1)) (sym back) (record {
      long = thin.long;
      enough = thin.enough;
      needed = λ j within marked.
          elim (cases_eq j i) [
            | inl same ↦ ap (λ x. is_extendable (part m (is_marked (set marks x false))) slice cells) same ∙ sym found
            | inr apart ↦ thin.needed j (omega (arith, within, apart)) marked
          ];
    })
thin_marked m slice cells marks i false thin is found =
    subst (λ list. IsThinTo m slice cells list (i + 1)) (sym (set-set marks i false false)) (record {
      long = length-set marks i false ∙ thin.long;
      enough = sym found;
      needed = λ j within marked.
          let own = cleared_other marks i j marked in
          fewer_marks m (set marks j false) (set (set marks i false) j false) slice cells
          (λ n is_on.
          let first = cleared_other (set marks i false) j (n - 1) is_on in
          let second = cleared_other marks i (n - 1) first.1 in
          get_or-set_other marks j (n - 1) false false first.0 ∙ second.1)
          (thin.needed j (omega (arith, within, own.0)) own.1);
    })

-- what is left is a conflict
among_marked : (m : ModelView) (marks : List Bool) (n : ℕ) → Has (rule_numbers m) n → is_among (filter (is_marked marks) (rule_numbers m)) n ≡ is_marked marks n
among_marked m marks n has =
    same_answer (is_among (filter (is_marked marks) (rule_numbers m)) n) (is_marked marks n)
    (λ among. (of_filter (is_marked marks) (rule_numbers m) n (of_among (filter (is_marked marks) (rule_numbers m)) n among)).1)
    (λ marked. among_has (filter (is_marked marks) (rule_numbers m)) n (has_filter (is_marked marks) (rule_numbers m) n has marked))

part_agree : (m : ModelView) (f g : ℕ → Bool) (slice : Slice) (cells : List (Option ℕ)) → ((rule : RuleView) → Has m.rules rule → f rule.number ≡ g rule.number)
    → is_extendable (part m f) slice cells ≡ is_extendable (part m g) slice cells
part_agree m f g slice cells same =
    extends_part m f slice cells
    ∙ ap (λ rules. extends_with m rules slice cells) (filter_agree (λ (rule : RuleView). f rule.number) (λ (rule : RuleView). g rule.number) m.rules same)
    ∙ sym (extends_part m g slice cells)

number_has : (rules : List RuleView) (rule : RuleView) → Has rules rule → Has (map (λ (r : RuleView). r.number) rules) rule.number
number_has rules rule has = has_map (λ (r : RuleView). r.number) rules rule has

-- a number of a conflict without another one
without_one : (marks : List Bool) (among : Bool) (n k : ℕ) → 1 ≤ n → 1 ≤ k → among ≡ is_marked marks n
    → (among && not (n == k)) ≡ is_marked (set marks (k - 1) false) n
without_one marks among n k some_n some_k is =
    elim (cases_eq n k) [
      | inl same ↦
          ap (λ b. among && not b) (eq-eqb n k same) ∙ and-false among
          ∙ sym (ap (λ x. get_or (set marks (k - 1) false) (x - 1) false) same ∙ cleared_here marks (k - 1))
      | inr apart ↦
          ap (λ b. among && not b) (ne_eqb n k apart) ∙ and-true among ∙ is
          ∙ sym (get_or-set_other marks (k - 1) (n - 1) false false (λ same. apart (omega (arith, same, some_n, some_k))))
    ]

pub conflict_from : (m : ModelView) (slice : Slice) (cells : List (Option ℕ)) (marks : List Bool) (n : ℕ) (numbers : List ℕ) → IsSound m → IsThinTo m slice cells marks n
    → n ≡ length marks → numbers ≡ filter (is_marked marks) (rule_numbers m) → IsConflict m slice cells numbers
conflict_from m slice cells marks n numbers sound thin all are = subst (IsConflict m slice cells) (sym are) (record {
  rising = filter_agree (is_marked marks) (is_among listed) (rule_numbers m) (λ k has. sym (among_marked m marks k has));
  enough = part_agree m (is_among listed) (is_marked marks) slice cells (λ rule has. among_marked m marks rule.number (number_has m.rules rule has)) ∙ thin.enough;
  needed = all_members (λ k. is_extendable (part m (λ n. is_among listed n && not (n == k))) slice cells ≡ true) listed (λ k has.
      let own = of_filter (is_marked marks) (rule_numbers m) k has in
      let from = of_map (λ (r : RuleView). r.number) m.rules k own.0 in
      let place = numbered_rule m from.0 sound from.1 in
      let some_k : 1 ≤ k = omega (arith, place.least, from.2) in
      part_agree m (λ n. is_among listed n && not (n == k)) (is_marked (set marks (k - 1) false)) slice cells
      (λ rule has. without_one marks (is_among listed rule.number) rule.number k (numbered_rule m rule sound has).least some_k
      (among_marked m marks rule.number (number_has m.rules rule has)))
      ∙ thin.needed (k - 1) (omega (arith, place.most, from.2, some_k, all, thin.long)) own.1);
})
  where
    listed : List ℕ
    listed = filter (is_marked marks) (rule_numbers m)
