-- The first refusal among the terms of trees: constraints are those of trees whose terms aren't refused.
use Rattle.std.proofs.Common.{◌≡◌, ◌<◌, ◌+◌, ℕ, suc, Bool, List, [], ◌∷◌, ◌++◌, Option, Some, None, length, take, drop, get_or, refl, ap, sym, ◌∙◌}
use Rattle.std.proofs.Math.Seq.{drop-cons}
use Rattle.std.proofs.lemmas.List.{append_assoc, take-append-drop, take_more}
use Rattle.std.specs.Prelude.{Result, Ok, Err}
use Rattle.cov_model.specs.declared.parameter.Param.{Param}
use Rattle.cov_model.specs.declared.constraint.Pred as preds
use Rattle.cov_model.specs.declared.constraint.Pred.{Pred}
use Rattle.cov_model.specs.Views as views
use Rattle.cov_model.specs.believed.Views as believed_views
use Rattle.cov_model.specs.believed.Views.{PredView, PredViews}
use Rattle.cov_model.specs.Views.{pred_view, preds_in}
use Rattle.cov_model.specs.declared.constraint.Term as terms
use Rattle.model_lex.specs.declared.diag.Diag.{Diag}
use Rattle.model_lex.specs.declared.diag.DiagCode.{DiagCode}
use Rattle.model_lex.specs.declared.fault.ModelFault.{ModelFault}
use Rattle.model_lex.specs.declared.fault.ModelFault.TheVariants.{Bad, BadRule, Limit, NoMemory}
use Rattle.constraint_ast.specs.Reading.{IfRefused}
use Rattle.constraint_ast.specs.believed.Trees.{Tree, Trees, Each, Either}
use Rattle.constraint_ast.specs.Trees.{tree_of, trees_in}
use Rattle.constraint_ast.specs.declared.tree.RawPred.{RawPred}
use Rattle.constraint_ast.specs.declared.tree.RawTerm.{RawTerm}
use Rattle.type_check.specs.believed.Checking.{term_of, terms_of, terms_in, first_refusal, term_refusal_or}
use Rattle.type_check.specs.believed.Constraints.{pred_of, preds_of}

-- what follows of a refusal
pub refused_also : {P Q : Diag → Type 0} (fault : ModelFault) → ((diag : Diag) → P diag → Q diag) → IfRefused fault P → IfRefused fault Q
refused_also (BadRule diag) also is = also diag is
refused_also (Bad diag) also is = is
refused_also (Limit limit count) also is = is
refused_also NoMemory also is = is

pub no_diag : {A : Type 0} (diag : Diag) → Some diag ≡ None → A
no_diag diag e = absurd (differ e)
  where
    differ : Some diag ≡ None → ⊥
    differ h = cc

step_none : (line : ℕ) (read : Result terms.Term DiagCode) (front whole rest : Option Diag)
    → (front ≡ None → whole ≡ rest) → term_refusal_or line read front ≡ None → term_refusal_or line read whole ≡ rest
step_none line (Ok term) front whole rest behind none = behind none
step_none line (Err code) front whole rest behind none = no_diag (record { line = line; code = code }) none

step_some : (line : ℕ) (read : Result terms.Term DiagCode) (front whole : Option Diag) (diag : Diag)
    → (front ≡ Some diag → whole ≡ Some diag) → term_refusal_or line read front ≡ Some diag → term_refusal_or line read whole ≡ Some diag
step_some line (Ok term) front whole diag stays some = stays some
step_some line (Err code) front whole diag stays some = some

left_none : (line : ℕ) (read : Result terms.Term DiagCode) (whole front : Option Diag)
    → (whole ≡ None → front ≡ None) → term_refusal_or line read whole ≡ None → term_refusal_or line read front ≡ None
left_none line (Ok term) whole front left none = left none
left_none line (Err code) whole front left none = no_diag (record { line = line; code = code }) none

-- a list is cut at an item
pub split_at : {X : Type 0} (xs : List X) (i : ℕ) (x : X) → i < length xs → x ≡ get_or xs i x → take i xs ++ x ∷ drop (suc i) xs ≡ xs
split_at xs i x within at =
    ap (λ rest. take i xs ++ rest) (ap (λ y. y ∷ drop (suc i) xs) at ∙ sym (drop-cons xs i x within)) ∙ take-append-drop i xs

module _ (fold : Bool) (params : List Param) where
  -- behind terms that aren't refused the first refusal is that of the rest
  pub behind_none : (front rest : List (ℕ × RawTerm)) → first_refusal fold params front ≡ None → first_refusal fold params (front ++ rest) ≡ first_refusal fold params rest
  behind_none [] rest none = refl
  behind_none (raw ∷ front) rest none =
      step_none raw.0 (term_of fold params raw.1) (first_refusal fold params front) (first_refusal fold params (front ++ rest)) (first_refusal fold params rest) (behind_none front rest) none

  -- a refusal stays the first whatever follows
  pub stays : (front rest : List (ℕ × RawTerm)) (diag : Diag) → first_refusal fold params front ≡ Some diag → first_refusal fold params (front ++ rest) ≡ Some diag
  stays [] rest diag some = no_diag diag (sym some)
  stays (raw ∷ front) rest diag some =
      step_some raw.0 (term_of fold params raw.1) (first_refusal fold params front) (first_refusal fold params (front ++ rest)) diag (stays front rest diag) some

  -- terms of which the first refusal is none
  none_left : (front rest : List (ℕ × RawTerm)) → first_refusal fold params (front ++ rest) ≡ None → first_refusal fold params front ≡ None
  none_left [] rest none = refl
  none_left (raw ∷ front) rest none = left_none raw.0 (term_of fold params raw.1) (first_refusal fold params (front ++ rest)) (first_refusal fold params front) (none_left front rest) none

  pub none_parts : (front rest : List (ℕ × RawTerm)) → first_refusal fold params (front ++ rest) ≡ None
      → (first_refusal fold params front ≡ None) × (first_refusal fold params rest ≡ None)
  none_parts front rest none = let left = none_left front rest none in (left, sym (behind_none front rest left) ∙ none)

  -- the parts of a conjunction or a disjunction
  pub each_of : (trees : Trees) (parts : List Pred) → preds_in parts ≡ preds_of fold params trees → pred_view (preds.All parts) ≡ pred_of fold params (Each trees)
  each_of trees parts are = views.each_is parts ∙ ap believed_views.Each are

  pub either_of : (trees : Trees) (parts : List Pred) → preds_in parts ≡ preds_of fold params trees → pred_view (preds.Any parts) ≡ pred_of fold params (Either trees)
  either_of trees parts are = views.either_is parts ∙ ap believed_views.Either are

  -- one more predicate
  abbrev joined : PredViews → PredView → PredViews
  joined believed_views.End view = believed_views.More view believed_views.End
  joined (believed_views.More first rest) view = believed_views.More first (joined rest view)

  more_preds : (list : List Pred) (pred : Pred) → preds_in (list ++ pred ∷ []) ≡ joined (preds_in list) (pred_view pred)
  more_preds [] pred = refl
  more_preds (first ∷ list) pred = ap (λ rest. believed_views.More (pred_view first) rest) (more_preds list pred)

  more_trees : (front : List RawPred) (part : RawPred)
      → preds_of fold params (trees_in (front ++ part ∷ [])) ≡ joined (preds_of fold params (trees_in front)) (pred_of fold params (tree_of part))
  more_trees [] part = refl
  more_trees (first ∷ front) part = ap (λ rest. believed_views.More (pred_of fold params (tree_of first)) rest) (more_trees front part)

  terms_behind : (front : List RawPred) (part : RawPred) (rest : List RawPred)
      → terms_in (trees_in (front ++ part ∷ rest)) ≡ terms_in (trees_in front) ++ (terms_of (tree_of part) ++ terms_in (trees_in rest))
  terms_behind [] part rest = refl
  terms_behind (first ∷ front) part rest =
      ap (λ behind. terms_of (tree_of first) ++ behind) (terms_behind front part rest)
      ∙ sym (append_assoc (terms_of (tree_of first)) (terms_in (trees_in front)) (terms_of (tree_of part) ++ terms_in (trees_in rest)))

  -- what holds of the predicates of the first parts
  pub record PartsSoFar (parts : List RawPred) (i : ℕ) (list : List Pred) : Type 0 where
    pub are : preds_in list ≡ preds_of fold params (trees_in (take i parts))
    pub unrefused : first_refusal fold params (terms_in (trees_in (take i parts))) ≡ None

  pub next_part :
      (parts : List RawPred) (i : ℕ) (part : RawPred) (list next : List Pred) (pred : Pred) → i < length parts → part ≡ get_or parts i part
      → PartsSoFar parts i list → pred_view pred ≡ pred_of fold params (tree_of part) → first_refusal fold params (terms_of (tree_of part)) ≡ None
      → next ≡ list ++ pred ∷ [] → PartsSoFar parts (i + 1) next
  next_part parts i part list next pred within at so_far is none longer =
      let step : take (i + 1) parts ≡ take i parts ++ part ∷ [] = take_more parts i part within ∙ ap (λ x. take i parts ++ x ∷ []) (sym at) in
      record {
        are = ap preds_in longer ∙ more_preds list pred ∙ ap (λ front. joined front (pred_view pred)) so_far.are
            ∙ ap (λ view. joined (preds_of fold params (trees_in (take i parts))) view) is ∙ sym (more_trees (take i parts) part)
            ∙ ap (λ some. preds_of fold params (trees_in some)) (sym step);
        unrefused = ap (λ some. first_refusal fold params (terms_in (trees_in some))) step
            ∙ ap (λ some. first_refusal fold params some) (terms_behind (take i parts) part [])
            ∙ behind_none (terms_in (trees_in (take i parts))) (terms_of (tree_of part) ++ []) so_far.unrefused
            ∙ behind_none (terms_of (tree_of part)) [] none;
      }

  pub part_refused :
      (parts : List RawPred) (i : ℕ) (part : RawPred) (list : List Pred) (fault : ModelFault) → i < length parts → part ≡ get_or parts i part
      → PartsSoFar parts i list → IfRefused fault (λ diag. first_refusal fold params (terms_of (tree_of part)) ≡ Some diag)
      → IfRefused fault (λ diag. first_refusal fold params (terms_in (trees_in parts)) ≡ Some diag)
  part_refused parts i part list fault within at so_far =
      refused_also fault (λ diag some. ap (λ all. first_refusal fold params (terms_in (trees_in all))) (sym (split_at parts i part within at))
      ∙ ap (λ all. first_refusal fold params all) (terms_behind (take i parts) part (drop (suc i) parts))
      ∙ behind_none (terms_in (trees_in (take i parts))) (terms_of (tree_of part) ++ terms_in (trees_in (drop (suc i) parts))) so_far.unrefused
      ∙ stays (terms_of (tree_of part)) (terms_in (trees_in (drop (suc i) parts))) diag some)

  -- the first refusal in the front, and behind a predicate that isn't refused
  pub refused_front :
      (front rest : List (ℕ × RawTerm)) (fault : ModelFault) → IfRefused fault (λ diag. first_refusal fold params front ≡ Some diag)
      → IfRefused fault (λ diag. first_refusal fold params (front ++ rest) ≡ Some diag)
  refused_front front rest fault = refused_also fault (λ diag some. stays front rest diag some)

  pub refused_behind :
      (tree : Tree) (rest : List (ℕ × RawTerm)) (fault : ModelFault) → first_refusal fold params (terms_of tree) ≡ None
      → IfRefused fault (λ diag. first_refusal fold params rest ≡ Some diag)
      → IfRefused fault (λ diag. first_refusal fold params (terms_of tree ++ rest) ≡ Some diag)
  refused_behind tree rest fault none = refused_also fault (λ diag some. behind_none (terms_of tree) rest none ∙ some)
