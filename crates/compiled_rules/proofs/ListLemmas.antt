-- Codes of lists of predicates.
use Rattle.std.proofs.Common.{◌≡◌, ℕ, ◌+◌, ◌<◌, Bool, List, [], ◌∷◌, ◌++◌, map, take, length, Option, get_or, ap, sym, ◌∙◌, refl, arith, inl, inr, length-append, All, subst}
use Rattle.std.proofs.Math.Seq.{get_or-append_seam}
use Rattle.std.proofs.lemmas.Bool.{cases_eq}
use Rattle.std.proofs.lemmas.List.Elements.{All-nil, All-push}
use Rattle.std.proofs.lemmas.List.{get_or_append_left, append_assoc, map-append, take_more}
use Rattle.cov_model.specs.declared.truth.Truth.{Truth}
use Rattle.cov_model.specs.declared.truth.Truth.TheVariants.{Yes, No}
use Rattle.cov_model.specs.declared.constraint.Pred as preds
use Rattle.cov_model.specs.declared.constraint.Pred.{Pred}
use Rattle.cov_model.specs.believed.Views.{BodyView}
use Rattle.cov_model.specs.Views.{pred_view, preds_in}
use Rattle.compiled_rules.specs.declared.code.BodyCode.{BodyCode}
use Rattle.cov_model.specs.believed.Sound.{ModelView}
use Rattle.cov_model.specs.Sound.{rule_at}
use Rattle.cov_model.specs.believed.Kleene.{and_of, or_of, pred_truth, all_truth, any_truth, body_truth}
use Rattle.cov_model.proofs.TruthLemmas.{each_truth, either_truth}
use Rattle.compiled_rules.specs.declared.code.Code as codes
use Rattle.compiled_rules.specs.declared.code.Code.{Code}
use Rattle.compiled_rules.specs.Codes.{code_truth, all_codes, any_codes, Extends, IsCodeOf, AreCodesOf, IsBodyCodeOf, AreBodyCodes, body_code_truth}
use Rattle.compiled_rules.specs.SoundCodes.{IsSoundCode, IsSoundBodyCode}
use Rattle.compiled_rules.proofs.CodeLemmas.{code_truth-All, code_truth-Any}
use Rattle.compiled_rules.proofs.SoundLemmas.{sound_all, sound_any}

pub extends_more : (longest longer table : List Bool) → Extends longest longer → Extends longer table → Extends longest table
extends_more longest longer table last first =
    (first.0 ++ last.0, last.1 ∙ ap (λ (list : List Bool). list ++ last.0) first.1 ∙ append_assoc table first.0 last.0)

pub codes_none : (m : ModelView) (table : List Bool) → AreCodesOf m table [] []
codes_none m table = record { sound = All-nil (IsSoundCode m.params); same = λ longer cells extends fits. refl }

-- one predicate more
pub codes_more : (m : ModelView) (table longer : List Bool) (parts : List Pred) (i : ℕ) (part : Pred) (held after : List Code) (code : Code)
    → i < length parts
    → part ≡ get_or parts i part → AreCodesOf m table (take i parts) held → Extends longer table → IsCodeOf m longer (pred_view part) code
    → after ≡ held ++ code ∷ []
    → AreCodesOf m longer (take (i + 1) parts) after
codes_more m table longer parts i part held after code within is before grows here pushed = record {
  sound = subst (All (IsSoundCode m.params)) (sym pushed) (All-push (IsSoundCode m.params) held code before.sound here.sound);
  same = λ longest cells extends fits.
      ap (λ (list : List Code). map (λ code. code_truth m longest code cells) list) pushed
      ∙ map-append (λ (code : Code). code_truth m longest code cells) held (code ∷ [])
      ∙ ap (λ (list : List Truth). list ++ code_truth m longest code cells ∷ [])
      (before.same longest cells (extends_more longest longer table extends grows) fits)
      ∙ ap (λ (truth : Truth). map (λ pred. pred_truth m (pred_view pred) cells) (take i parts) ++ truth ∷ [])
      (here.same longest cells extends fits ∙ ap (λ (pred : Pred). pred_truth m (pred_view pred) cells) is)
      ∙ sym (map-append (λ (pred : Pred). pred_truth m (pred_view pred) cells) (take i parts) (get_or parts i part ∷ []))
      ∙ ap (λ (list : List Pred). map (λ pred. pred_truth m (pred_view pred) cells) list) (sym (take_more parts i part within));
}

abbrev and_all : List Truth → Truth
and_all [] = Yes
and_all (truth ∷ rest) = and_of truth (and_all rest)

abbrev or_all : List Truth → Truth
or_all [] = No
or_all (truth ∷ rest) = or_of truth (or_all rest)

all_codes_fold : (m : ModelView) (table : List Bool) (cells : List (Option ℕ)) (list : List Code)
    → all_codes m table list cells ≡ and_all (map (λ code. code_truth m table code cells) list)
all_codes_fold m table cells [] = refl
all_codes_fold m table cells (code ∷ rest) = ap (λ truth. and_of (code_truth m table code cells) truth) (all_codes_fold m table cells rest)

any_codes_fold : (m : ModelView) (table : List Bool) (cells : List (Option ℕ)) (list : List Code)
    → any_codes m table list cells ≡ or_all (map (λ code. code_truth m table code cells) list)
any_codes_fold m table cells [] = refl
any_codes_fold m table cells (code ∷ rest) = ap (λ truth. or_of (code_truth m table code cells) truth) (any_codes_fold m table cells rest)

all_truths_fold : (m : ModelView) (cells : List (Option ℕ)) (list : List Pred)
    → all_truth m (preds_in list) cells ≡ and_all (map (λ pred. pred_truth m (pred_view pred) cells) list)
all_truths_fold m cells [] = refl
all_truths_fold m cells (pred ∷ rest) = ap (λ truth. and_of (pred_truth m (pred_view pred) cells) truth) (all_truths_fold m cells rest)

any_truths_fold : (m : ModelView) (cells : List (Option ℕ)) (list : List Pred)
    → any_truth m (preds_in list) cells ≡ or_all (map (λ pred. pred_truth m (pred_view pred) cells) list)
any_truths_fold m cells [] = refl
any_truths_fold m cells (pred ∷ rest) = ap (λ truth. or_of (pred_truth m (pred_view pred) cells) truth) (any_truths_fold m cells rest)

pub all_is_code : (m : ModelView) (table : List Bool) (pred : Pred) (parts : List Pred) (list : List Code) → pred ≡ preds.All parts
    → AreCodesOf m table parts list
    → IsCodeOf m table (pred_view pred) (codes.All list)
all_is_code m table pred parts list is are = record {
  sound = sound_all m.params list are.sound;
  same = λ longer cells extends fits.
      code_truth-All m longer list cells ∙ all_codes_fold m longer cells list ∙ ap and_all (are.same longer cells extends fits)
      ∙ sym (all_truths_fold m cells parts)
      ∙ sym (each_truth m pred parts cells is);
}

pub any_is_code : (m : ModelView) (table : List Bool) (pred : Pred) (parts : List Pred) (list : List Code) → pred ≡ preds.Any parts
    → AreCodesOf m table parts list
    → IsCodeOf m table (pred_view pred) (codes.Any list)
any_is_code m table pred parts list is are = record {
  sound = sound_any m.params list are.sound;
  same = λ longer cells extends fits.
      code_truth-Any m longer list cells ∙ any_codes_fold m longer cells list ∙ ap or_all (are.same longer cells extends fits)
      ∙ sym (any_truths_fold m cells parts)
      ∙ sym (either_truth m pred parts cells is);
}

pub bodies_more : (m : ModelView) (table longer : List Bool) (n : ℕ) (body : BodyView) (held after : List BodyCode) (code : BodyCode)
    → body ≡ (rule_at m (n + 1)).body
    → AreBodyCodes m table n held → Extends longer table → IsBodyCodeOf m longer body code → after ≡ held ++ code ∷ [] → AreBodyCodes m longer (n + 1) after
bodies_more m table longer n body held after code is before grows here pushed = record {
  as_many = ap length pushed ∙ length-append held (code ∷ []) ∙ ap (λ (k : ℕ). k + 1) before.as_many;
  are = λ i d low.
      elim (cases_eq i n) [
        | inl same ↦
            let read : get_or after i d ≡ code =
            ap (λ (list : List BodyCode). get_or list i d) pushed ∙ ap (λ (k : ℕ). get_or (held ++ code ∷ []) k d) (same ∙ sym before.as_many)
            ∙ get_or-append_seam held code [] d in
            record {
              sound = subst (IsSoundBodyCode m.params) (sym read) here.sound;
              same = λ longest cells extends fits.
                  ap (λ (c : BodyCode). body_code_truth m longest c cells) read ∙ here.same longest cells extends fits
                  ∙ ap (λ (b : BodyView). body_truth m b cells) (is ∙ ap (λ (k : ℕ). (rule_at m (k + 1)).body) (sym same));
            }
        | inr differs ↦
            let low_still : i < n = omega (arith, differs) in
            let read : get_or after i d ≡ get_or held i d =
            ap (λ (list : List BodyCode). get_or list i d) pushed ∙ get_or_append_left held (code ∷ []) d i (omega (arith, before.as_many)) in
            record {
              sound = subst (IsSoundBodyCode m.params) (sym read) (before.are i d low_still).sound;
              same = λ longest cells extends fits.
                  ap (λ (c : BodyCode). body_code_truth m longest c cells) read
                  ∙ (before.are i d low_still).same longest cells (extends_more longest longer table extends grows) fits;
            }
      ];
}
