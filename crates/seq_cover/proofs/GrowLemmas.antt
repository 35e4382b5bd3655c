-- Growth, sequence by sequence.
use Rattle.std.proofs.Common.{◌≡◌, ℕ, ◌+◌, ◌<◌, Bool, true, false, ◌&&◌, ◌||◌, not, List, [], ◌∷◌, ◌++◌}
use Rattle.std.proofs.Common.{length, eqb, refl, sym, ap, subst, ◌∙◌, add-one, take, get_or, fold}
use Rattle.std.proofs.lemmas.Grind.{flat_map-append}
use Rattle.std.proofs.lemmas.List.{append-nil, take_more}
use Rattle.std.proofs.lemmas.List.Concat.{flat_map-cons}
use Rattle.std.proofs.lemmas.List.Sums.{fold-append}
use Rattle.std.specs.List.{flat_map}
use Rattle.seq_check.specs.believed.Events.{EventsView}
use Rattle.std.proofs.lemmas.List.Elements.{All-push}
use Rattle.std.proofs.lemmas.List.Folds.{list_any-append}
use Rattle.std.proofs.lemmas.List.FromFn.{length-map-range_with_len}
use Rattle.seq_check.proofs.CheckSteps.{steps_exist}
use Rattle.seq_check.proofs.FindLemmas.{swapped}
use Rattle.seq_check.proofs.StepLemmas.{all_kept}
use Rattle.seq_check.specs.EventSets.{AreBack, AreOf, IsFront, OpenView, Tells, in_set_at, is_open, places, rises}
use Rattle.seq_check.specs.believed.Orders.{distinct_lists, has, is_arrow, is_had, lengthened, place, sequences, steps}
use Rattle.seq_check.specs.declared.event_set.EventSet.{EventSet}
use Rattle.value_text.proofs.ListLemmas.{and_not-or}

either_way : (a b : Bool) → (a || b) ≡ (b || a)
either_way true true = refl
either_way true false = refl
either_way false true = refl
either_way false false = refl

pub arrow_more : (sets new : List EventSet) (pairs : List (ℕ × ℕ)) (a b : ℕ) → AreOf sets pairs
    → ((first second : ℕ) → in_set_at new first second ≡ (in_set_at sets first second || (eqb a first && eqb b second))) → AreOf new ((a, b) ∷ pairs)
arrow_more sets new pairs a b of more = λ first second.
    more first second ∙ ap (λ t. t || (eqb a first && eqb b second)) (of first second) ∙ either_way (is_arrow pairs (first, second)) (eqb a first && eqb b second)

-- the same of arrows that are turned round
pub back_more : (sets new : List EventSet) (pairs : List (ℕ × ℕ)) (a b : ℕ) → AreBack sets pairs
    → ((first second : ℕ) → in_set_at new first second ≡ (in_set_at sets first second || (eqb b first && eqb a second))) → AreBack new ((a, b) ∷ pairs)
back_more sets new pairs a b turned more = λ first second.
    more second first ∙ ap (λ t. t || (eqb b second && eqb a first)) (turned first second) ∙ ap (λ t. is_arrow pairs (first, second) || t) (swapped (eqb b second) (eqb a first))
    ∙ either_way (is_arrow pairs (first, second)) (eqb a first && eqb b second)

-- a row closes the sequences that it has
pub row_closes : (o closed : OpenView) (n : ℕ) (rows : List (List ℕ)) (row : List ℕ) → closed.len ≡ o.len → Tells o n (λ s. not (is_had rows s))
    → ((front : List ℕ) (last : ℕ) → IsFront o.len (length (places n row)) front → last < length (places n row)
    → is_open closed front last ≡ (is_open o front last && not (rises (places n row) (front ++ last ∷ []))))
    → Tells closed n (λ s. not (is_had (rows ++ row ∷ []) s))
row_closes o closed n rows row len tells closes = λ front last f below.
    let s = front ++ last ∷ [] in
    let long : length (places n row) ≡ n = length-map-range_with_len (place row) 0 n in
    let g = subst (λ l. IsFront l n front) len f in
    closes front last (subst (λ k. IsFront o.len k front) (sym long) g) (rw long below)
    ∙ ap (λ t. t && not (rises (places n row) s)) (tells front last g below)
    ∙ ap (λ t. not (is_had rows s) && not t) (all_kept n row (steps s) (steps_exist n s (All-push (λ event. event < n) front last f.exist below)))
    ∙ and_not-or (is_had rows s) (has row s)
    ∙ ap not (sym (list_any-append (λ order. has order s) rows (row ∷ [])))

-- one list of sequences more
pub fold_lists : {X Y Z : Type 0} (f : Z → Y → Z) (z : Z) (g : X → List Y) (items : List X) (i : ℕ) (d : X) → i < length items
    → fold f z (flat_map g (take (i + 1) items)) ≡ fold f (fold f z (flat_map g (take i items))) (g (get_or items i d))
fold_lists f z g items i d within =
    ap (λ l. fold f z (flat_map g l)) (take_more items i d within)
    ∙ ap (fold f z) (flat_map-append g (take i items) (get_or items i d ∷ [])
    ∙ ap (λ l. flat_map g (take i items) ++ l) (flat_map-cons g (get_or items i d) [] ∙ append-nil (g (get_or items i d))))
    ∙ fold-append f z (flat_map g (take i items)) (g (get_or items i d))

pub sequences_by : (e : EventsView) (m : ℕ) → m + 1 ≡ e.len → sequences e ≡ flat_map (lengthened (length e.names)) (distinct_lists (length e.names) m)
sequences_by e m long = ap (distinct_lists (length e.names)) (sym long ∙ add-one m)
