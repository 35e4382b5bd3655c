-- How a run of questions ends, told from its parts.
use Rattle.std.proofs.Common.{◌≡◌, ℕ, ◌+◌, ◌<◌, Bool, List, [], ◌∷◌, ◌++◌, length, get_or, take, drop, find, Option, Some, None, refl, ◌∙◌, sym, ap, subst}
use Rattle.std.specs.Prelude.{option_map}
use Rattle.std.specs.Option.{option_or}
use Rattle.std.specs.List.{flat_map}
use Rattle.std.proofs.lemmas.Option.{none-some}
use Rattle.std.proofs.lemmas.Grind.{flat_map-append}
use Rattle.std.proofs.lemmas.List.{drop_more, take-append-drop, take_more}
use Rattle.std.proofs.lemmas.List.Folds.{find-append}
use Rattle.definitions.specs.believed.Pairs.{pairs_of}
use Rattle.feasibility.specs.declared.answer.SearchFault.{SearchFault}
use Rattle.feasibility.specs.declared.answer.SearchFault.TheVariants.{Spent, NoMemory}
use Rattle.feasibility.specs.Ends.{EndsBy}

-- a run whose questions stand behind others of which none costs more than it may, and before more
pub ends_whole : (test : List (Option ℕ) → Bool) (before here after : List (List (Option ℕ))) (fault : SearchFault) → find test before ≡ None
    → EndsBy (find test here) fault → EndsBy (find test (before ++ (here ++ after))) fault
ends_whole test before here after NoMemory none ends = tt
ends_whole test before here after (Spent question) none ends =
    ap (option_map pairs_of) (find-append test before (here ++ after) ∙ ap (λ found. option_or found (find test (here ++ after))) none
    ∙ find-append test here after ∙ stays (find test here) ends) ∙ ends
  where
    stays : (found : Option (List (Option ℕ))) → option_map pairs_of found ≡ Some question.cells → option_or found (find test after) ≡ found
    stays None is = absurd (none-some question.cells is)
    stays (Some cells) is = refl

-- the questions of each item in turn
pub ends_item : {X : Type 0} (test : List (Option ℕ) → Bool) (questions : X → List (List (Option ℕ))) (items : List X) (i : ℕ) (d : X) (fault : SearchFault)
    → i < length items → find test (flat_map questions (take i items)) ≡ None → EndsBy (find test (questions (get_or items i d))) fault
    → EndsBy (find test (flat_map questions items)) fault
ends_item test questions items i d fault within none ends =
    subst (λ all. EndsBy (find test all) fault) (sym parts)
    (ends_whole test (flat_map questions (take i items)) (questions (get_or items i d)) (flat_map questions (drop (i + 1) items)) fault none ends)
  where
    parts : flat_map questions items ≡ flat_map questions (take i items) ++ (questions (get_or items i d) ++ flat_map questions (drop (i + 1) items))
    parts =
        ap (flat_map questions) (sym (take-append-drop i items) ∙ ap (λ rest. take i items ++ rest) (drop_more items i d within))
        ∙ flat_map-append questions (take i items) (get_or items i d ∷ drop (i + 1) items)

-- of one more item none costs more than it may
pub none_more : {X : Type 0} (test : List (Option ℕ) → Bool) (questions : X → List (List (Option ℕ))) (items : List X) (i : ℕ) (d : X)
    → i < length items → find test (flat_map questions (take i items)) ≡ None → find test (questions (get_or items i d)) ≡ None
    → find test (flat_map questions (take (i + 1) items)) ≡ None
none_more test questions items i d within none here =
    ap (λ part. find test (flat_map questions part)) (take_more items i d within)
    ∙ ap (find test) (flat_map-append questions (take i items) (get_or items i d ∷ []))
    ∙ find-append test (flat_map questions (take i items)) (questions (get_or items i d) ++ [])
    ∙ ap (λ found. option_or found (find test (questions (get_or items i d) ++ []))) none
    ∙ find-append test (questions (get_or items i d)) [] ∙ ap (λ found. option_or found None) here
