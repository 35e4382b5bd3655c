-- The marks on the demanded tuples of a set.
use Rattle.std.proofs.Common.{◌≡◌, ℕ, ◌+◌, ◌<◌, ◌≤◌, Bool, List, [], map, length, get_or, take, drop, Option, ◌∙◌, sym, ap, arith}
use Rattle.std.proofs.lemmas.List.{get_or-drop, get_or-map, get_or-take, length-drop, length-map, length-take-le, same_lists}
use Rattle.std.proofs.lemmas.Option.{get_or_from_slice_get, slice_get-get_or}
use Rattle.cov_model.specs.believed.Sound.{ModelView}
use Rattle.definitions.specs.believed.Demand.{demanded_sets, demanded_tuples, tuples_of}
use Rattle.tuple_index.specs.Plan.{plan_of, set_at}
use Rattle.shared_marks.specs.Served.{base_of}
use Rattle.shared_marks.proofs.PlaceLemmas.{place_within, set_within, tuple_there}

-- the marks of a set stand one after another from its base on
pub set_marks : (m : ModelView) (test : List (Option ℕ) → Bool) (set : ℕ) → set < length (demanded_sets m)
    → take (length (tuples_of m (set_at (plan_of m) set))) (drop (base_of m set) (map test (demanded_tuples m))) ≡ map test (tuples_of m (set_at (plan_of m) set))
set_marks m test set within =
    same_lists (take size (drop base marks)) (map test tuples) (long ∙ sym (length-map tuples test)) each
  where
    tuples : List (List (Option ℕ))
    tuples = tuples_of m (set_at (plan_of m) set)

    size : ℕ
    size = length tuples

    base : ℕ
    base = base_of m set

    marks : List Bool
    marks = map test (demanded_tuples m)

    room : base + size ≤ length marks
    room = omega (arith, length-map (demanded_tuples m) test, set_within m set within)

    long : length (take size (drop base marks)) ≡ size
    long = length-take-le size (drop base marks) (omega (arith, length-drop base marks, room))

    each : (rank : ℕ) (d : Bool) → rank < length (take size (drop base marks)) → get_or (take size (drop base marks)) rank d ≡ get_or (map test tuples) rank d
    each rank d inside =
        let least : rank < size = omega (arith, inside, long) in
        let there = place_within m set rank within least in
        get_or-take size (drop base marks) rank d least ∙ get_or-drop base marks rank d
        ∙ get_or-map test (demanded_tuples m) (base + rank) [] d there
        ∙ ap test (get_or_from_slice_get (demanded_tuples m) (base + rank) (get_or tuples rank []) [] (tuple_there m set rank within least ∙ slice_get-get_or tuples rank [] least))
        ∙ sym (get_or-map test tuples rank [] d least)
