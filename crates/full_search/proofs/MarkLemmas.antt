-- Marks that are set anew, one constraint after the other.
use Rattle.std.proofs.Common.{◌≡◌, ℕ, ◌+◌, ◌<◌, Bool, false, ◌||◌, ◌==◌, List, [], length, take, get_or, set, ◌∙◌, sym, ap, refl, arith, inl, inr, eq-eqb}
use Rattle.std.proofs.lemmas.Bool.{false≢true, cases_eq, ne_eqb, or_parts}
use Rattle.std.proofs.Math.Bool.{or-false}
use Rattle.std.proofs.lemmas.List.{get_or-set_other, get_or-set_same, length-set}
use Rattle.std.proofs.lemmas.List.Folds.{list_any_more}
use Rattle.definitions.specs.believed.Demand.{is_among}
use Rattle.full_search.specs.Witnesses.{MarksAnew}

pub marks_none : (test : ℕ → Bool) (marks : List Bool) → MarksAnew [] test marks marks
marks_none test marks = record {
  long = refl;
  those = λ k listed. absurd (false≢true listed);
  others = λ k away. refl;
}

pub marks_more : (numbers : List ℕ) (i : ℕ) (test : ℕ → Bool) (old new : List Bool) (mark : Bool) → i < length numbers
    → get_or numbers i 0 < length old → mark ≡ test (get_or numbers i 0) → MarksAnew (take i numbers) test old new
    → MarksAnew (take (i + 1) numbers) test old (set new (get_or numbers i 0) mark)
marks_more numbers i test old new mark within low is marks = record {
  long = length-set new n mark ∙ marks.long;
  those = λ k listed.
      elim (cases_eq k n) [
        | inl same ↦
            ap (λ (j : ℕ). get_or (set new n mark) j false) same ∙ get_or-set_same new n mark false (omega (arith, low, marks.long)) ∙ is ∙ ap test (sym same)
        | inr differs ↦
            get_or-set_other new n k mark false differs
            ∙ marks.those k (sym (others_only k (ne_eqb n k (λ same. differs (sym same)))) ∙ sym (more k) ∙ listed)
      ];
  others = λ k away.
      let parts = or_parts (is_among (take i numbers) k) (n == k) (sym (more k) ∙ away) in
      get_or-set_other new n k mark false (λ same. false≢true (sym parts.1 ∙ eq-eqb n k (sym same))) ∙ marks.others k parts.0;
}
  where
    n : ℕ
    n = get_or numbers i 0

    more : (k : ℕ) → is_among (take (i + 1) numbers) k ≡ (is_among (take i numbers) k || (n == k))
    more k = list_any_more (λ j. j == k) numbers i 0 within

    others_only : (k : ℕ) → (n == k) ≡ false → (is_among (take i numbers) k || (n == k)) ≡ is_among (take i numbers) k
    others_only k differs = ap (λ (b : Bool). is_among (take i numbers) k || b) differs ∙ or-false (is_among (take i numbers) k)
