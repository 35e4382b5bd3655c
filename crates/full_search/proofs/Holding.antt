-- A path that has a row, and whether it has one with a value more.
use Rattle.std.proofs.Common.{◌≡◌, ℕ, ◌+◌, ◌<◌, ◌≤◌, Bool, true, false, List, [], length, take, All, Option, Some, None, is_some, get_or, inl, inr, ◌∙◌, sym, ap, subst, refl, arith}
use Rattle.std.specs.Prelude.{nat_eq}
use Rattle.std.specs.Option.{option_eq}
use Rattle.std.proofs.lemmas.Bool.{false≢true, cases_eq, eqb-true}
use Rattle.std.proofs.Math.Seq.{take-length}
use Rattle.std.proofs.lemmas.List.{get_or_default, get_or-set_other, get_or-set_same, length-set, same_lists}
use Rattle.value_text.proofs.ListLemmas.{Some-unwrap_or}
use Rattle.cov_model.specs.believed.Rows.{contains, is_assigned, value_in, with_value}
use Rattle.cov_model.proofs.CellLemmas.{contains-from}
use Rattle.definitions.specs.believed.Demand.{is_among}
use Rattle.definitions.specs.Laws.{GivesListed}
use Rattle.definitions.specs.believed.Search.{constrained_params, is_failing}
use Rattle.definitions.proofs.Members.{Has, has_contained}
use Rattle.live_sets.specs.Trail.{LiveView, mark_at}
use Rattle.feasibility.specs.Live.{ShowsLive}
use Rattle.feasibility.specs.Tree.{TreeView, IsListed, ListsValues, constrained_at}
use Rattle.feasibility.proofs.Deciding.{dead_fails}
use Rattle.feasibility.proofs.Naming.{constrained_exists}
use Rattle.feasibility.proofs.Searching.{IsListed-with_value}
use Rattle.full_search.specs.Completing.{IsSettled, first_row}
use Rattle.full_search.specs.Reasons.{HasNoRow, IsPart, IsRowFor}
use Rattle.full_search.specs.Searching.{HasRoom}
use Rattle.full_search.proofs.Rooms.{free_less}
use Rattle.full_search.proofs.Rows.{failing_none, row_first}
use Rattle.full_search.proofs.Settling.{has_place, settled_value}

-- a part of a row that has the value has it too
pub part_given : (cells row : List (Option ℕ)) (p v : ℕ) → IsPart cells row → p < length cells → get_or row p None ≡ Some v → IsPart (with_value cells p v) row
part_given cells row p v part within is = record {
  long = length-set cells p (Some v) ∙ part.long;
  same = λ q assigned.
      elim (cases_eq q p) [
        | inl same ↦ ap (λ (k : ℕ). get_or row k None) same ∙ is
            ∙ sym (ap (λ (k : ℕ). get_or (with_value cells p v) k None) same ∙ get_or-set_same cells p (Some v) None within)
        | inr differs ↦
            let there = get_or-set_other cells p q (Some v) None differs in
            part.same q (ap is_some (sym there) ∙ assigned) ∙ sym there
      ];
}

-- a row is contained where it has the values
pub part_contained : (part row : List (Option ℕ)) → IsPart part row → contains row part ≡ true
part_contained part row is = contains-from row part is.same

-- a row is no part of another one
pub part_whole : (lists : List (List ℕ)) (a b : List (Option ℕ)) → GivesListed lists a → IsPart a b → a ≡ b
part_whole lists a b given part =
    same_lists a b part.long (λ p d within.
    get_or_default a p d None within ∙ sym (part.same p (given.assigned p (omega (arith, within, given.as_long))))
    ∙ sym (get_or_default b p d None (omega (arith, within, part.long))))

-- a path that a row is for doesn't fail
pub row_fine : (tree : TreeView) (cells row : List (Option ℕ)) → ListsValues tree.model tree.values → IsListed tree.values cells → IsRowFor tree cells row
    → is_failing tree.model tree.values cells ≡ false
row_fine tree cells row values listed is = by_case (is_failing tree.model tree.values cells) refl
  where
    by_case : (b : Bool) → is_failing tree.model tree.values cells ≡ b → b ≡ false
    by_case false h = refl
    by_case true h = absurd (false≢true (sym (failing_none tree cells values listed h row is.listed is.contained) ∙ is.meets))

-- no row has a value that isn't live
pub dead_none : (tree : TreeView) (cells : List (Option ℕ)) (sets : LiveView) (p v : ℕ) → ListsValues tree.model tree.values → IsListed tree.values cells
    → ShowsLive tree.model tree.values cells sets → p < length tree.model.params → is_assigned cells p ≡ false
    → is_among (get_or tree.values p []) v ≡ true → mark_at sets.live p v ≡ false → HasNoRow tree (with_value cells p v)
dead_none tree cells sets p v values listed shows low free among dead =
    failing_none tree (with_value cells p v) values (IsListed-with_value tree.values cells p v listed (omega (arith, low, values.as_many)) among)
    (dead_fails tree.model tree.values cells p v sets values shows low free among dead)

-- a number that an option is compared with
pub is_equal : (o : Option ℕ) (v : ℕ) → option_eq nat_eq o (Some v) ≡ true → o ≡ Some v
is_equal (Some w) v h = ap Some (eqb-true w v h)
is_equal None v h = absurd (false≢true h)

-- there is room for the reasons of a path with a value more
pub room_less : (cells : List (Option ℕ)) (whys : List (List (Option ℕ))) (p v : ℕ) → p < length cells → is_assigned cells p ≡ false → HasRoom cells whys
    → HasRoom (with_value cells p v) whys
room_less cells whys p v within free room = record {
  enough = omega (arith, free_less cells p v within free, room.enough);
  long = subst (λ (n : ℕ). All (λ why. length why ≡ n) whys) (sym (length-set cells p (Some v))) room.long;
}

-- the value is the first one that leads to a row
pub settled_here : (tree : TreeView) (i k : ℕ) (start held after row : List (Option ℕ)) (values : List ℕ) → ListsValues tree.model tree.values
    → i < length (constrained_params tree.model) → IsListed tree.values start
    → ((j : ℕ) → j < i → is_assigned start (constrained_at tree.model j) ≡ true)
    → is_assigned start (constrained_at tree.model i) ≡ false
    → values ≡ get_or tree.values (constrained_at tree.model i) [] → k < length values → held ≡ start
    → ((j : ℕ) → j < k → HasNoRow tree (with_value start (constrained_at tree.model i) (get_or (get_or tree.values (constrained_at tree.model i) []) j 0)))
    → after ≡ with_value held (constrained_at tree.model i) (get_or values k 0) → IsRowFor tree after row → IsSettled tree (i + 1) start after
settled_here tree i k start held after row values good within listed given free are place same none is found =
    let put : after ≡ with_value start (constrained_at tree.model i) (get_or (get_or tree.values (constrained_at tree.model i) []) k 0) =
    is ∙ ap (λ (cells : List (Option ℕ)). with_value cells (constrained_at tree.model i) (get_or values k 0)) same
    ∙ ap (λ (list : List ℕ). with_value start (constrained_at tree.model i) (get_or list k 0)) are in
    subst (IsSettled tree (i + 1) start) (sym put)
    (settled_value tree i k start within (constrained_exists tree.model i within) listed.long good.as_many given free
    (omega (arith, place, ap length are)) none
    (ap (λ (cells : List (Option ℕ)). is_some (first_row tree cells)) (sym put) ∙ row_first tree after row found))

-- one of the values leads to a row, since the path has one
pub some_value : (tree : TreeView) (cells row : List (Option ℕ)) (p k : ℕ) (values : List ℕ) → IsRowFor tree cells row → IsPart cells row
    → p < length tree.values → values ≡ get_or tree.values p [] → length values ≤ k
    → ((j : ℕ) → j < k → HasNoRow tree (with_value cells p (get_or (get_or tree.values p []) j 0))) → ⊥
some_value tree cells row p k values is part within are past none =
    let list : List ℕ = get_or tree.values p [] in
    let has : Has (take (length list) list) (value_in row p) =
    subst (λ (xs : List ℕ). Has xs (value_in row p)) (sym (take-length list)) (has_contained list (value_in row p) (is.listed.listed p within)) in
    let found = has_place list (length list) (value_in row p) has in
    let given : get_or row p None ≡ Some (get_or list found.place 0) =
    Some-unwrap_or (get_or row p None) 0 (is.listed.assigned p within) ∙ ap Some (sym found.is) in
    false≢true (sym (none found.place (omega (arith, found.before, past, ap length are)) row is.listed
    (part_contained (with_value cells p (get_or list found.place 0)) row
    (part_given cells row p (get_or list found.place 0) part (omega (arith, within, part.long, is.listed.as_long)) given)))
    ∙ is.meets)
