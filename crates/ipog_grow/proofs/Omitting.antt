-- The tuples that columns omit: they grow in the slice, aren't extendable there, and were asked at no more than a question may cost.
use Rattle.std.proofs.Common.{◌≡◌, ℕ, ◌+◌, ◌≤◌, Bool, true, false, cond, List, [], ◌∷◌, ◌++◌, map, length, find, flat_map, Option, None, All, ◌∙◌, sym, ap, subst, refl, arith, length-append}
use Rattle.std.specs.Prelude.{slice_index_or}
use Rattle.std.proofs.lemmas.List.Elements.{All-nil, All-cons, All-head, All-tail, All-append}
use Rattle.cov_model.specs.declared.slice.Slice.{Slice}
use Rattle.cov_model.specs.believed.Sound.{ModelView}
use Rattle.definitions.specs.believed.Completion.{column_order, preferred_values}
use Rattle.definitions.specs.believed.Demand.{tuples_in}
use Rattle.definitions.specs.believed.Growth.{Grown, across, down, is_uncovered, join, settle, sets_in_play, tuples_in_play}
use Rattle.definitions.specs.believed.Search.{exceeds, question_cost}
use Rattle.definitions.specs.SliceRows.{IsSliceOf}
use Rattle.definitions.proofs.InPlay.{tuple_is}
use Rattle.definitions.proofs.Members.{all_members, of_flat}
use Rattle.full_search.specs.Questions.{QuestionsView}
use Rattle.ipog_grow.specs.Asking.{Grows, columns_grown, extends, first_spent}
use Rattle.ipog_grow.specs.Growing.{GrowsIn}
use Rattle.ipog_grow.specs.Omissions.{IsOmittedIn, IsOmittedTuple}
use Rattle.cov_model.specs.believed.Tuples.{cells_of}
use Rattle.definitions.specs.believed.Pairs.{pairs_of}
use Rattle.definitions.proofs.PairLists.{cells_of-pairs}
use Rattle.definitions.proofs.SliceValues.{slice_exists}
use Rattle.ipog_grow.proofs.Spending.{find-none}
use Rattle.ipog_grow.proofs.Tuples.{tuple-grows}

-- what holds of a tuple that isn't extendable, and was asked at no more than a question may cost, holds of those that vertical growth
-- omits
module _ (Q P : List (Option ℕ) → Type 0) (extends over : List (Option ℕ) → Bool)
    (holds : (tuple : List (Option ℕ)) → Q tuple → extends tuple ≡ false → find over (tuple ∷ []) ≡ None → P tuple) where
  one-omits : (taken extendable : Bool) (tuple : List (Option ℕ)) (before : List (List (Option ℕ))) (joined alone left : Grown) → Q tuple
      → extends tuple ≡ extendable → joined.omitted ≡ [] → alone.omitted ≡ [] → left.omitted ≡ tuple ∷ [] → left.asked ≡ before ++ tuple ∷ []
      → find over (cond {A = Grown} taken joined (cond {A = Grown} extendable alone left)).asked ≡ None
      → All P (cond {A = Grown} taken joined (cond {A = Grown} extendable alone left)).omitted
  one-omits true extendable tuple before joined alone left of is none also one asks unspent = subst (All P) (sym none) (All-nil P)
  one-omits false true tuple before joined alone left of is none also one asks unspent = subst (All P) (sym also) (All-nil P)
  one-omits false false tuple before joined alone left of is none also one asks unspent =
      subst (All P) (sym one)
      (All-cons P tuple [] (holds tuple of is (find-none over before (tuple ∷ []) (ap (find over) (sym asks) ∙ unspent)).1) (All-nil P))

  settle-omits : (tuple : List (Option ℕ)) (rows : List (List (Option ℕ))) → Q tuple → find over (settle extends tuple rows).asked ≡ None
      → All P (settle extends tuple rows).omitted
  settle-omits tuple rows of unspent =
      let joined = join extends tuple rows in
      one-omits joined.taken (extends tuple) tuple joined.asked (record { rows = joined.rows; omitted = []; asked = joined.asked })
      (record { rows = rows ++ tuple ∷ []; omitted = []; asked = joined.asked ++ tuple ∷ [] })
      (record { rows = rows; omitted = tuple ∷ []; asked = joined.asked ++ tuple ∷ [] }) of refl refl refl refl refl unspent

  next-omits : (b : Bool) (settled left : Grown) (later : List (List (Option ℕ)) → Grown) → (find over settled.asked ≡ None → All P settled.omitted)
      → left.omitted ≡ []
      → ((rows : List (List (Option ℕ))) → find over (later rows).asked ≡ None → All P (later rows).omitted)
      → find over ((cond {A = Grown} b settled left).asked ++ (later (cond {A = Grown} b settled left).rows).asked) ≡ None
      → All P ((cond {A = Grown} b settled left).omitted ++ (later (cond {A = Grown} b settled left).rows).omitted)
  next-omits true settled left later first none rest unspent =
      let parts = find-none over settled.asked (later settled.rows).asked unspent in
      All-append P settled.omitted (later settled.rows).omitted (first parts.0) (rest settled.rows parts.1)
  next-omits false settled left later first none rest unspent =
      let parts = find-none over left.asked (later left.rows).asked unspent in
      All-append P left.omitted (later left.rows).omitted (subst (All P) (sym none) (All-nil P)) (rest left.rows parts.1)

  down-omits : (tuples rows : List (List (Option ℕ))) → All Q tuples → find over (down extends tuples rows).asked ≡ None
      → All P (down extends tuples rows).omitted
  down-omits [] rows all unspent = All-nil P
  down-omits (tuple ∷ tuples) rows all unspent =
      next-omits (is_uncovered rows tuple) (settle extends tuple rows) (record { rows = rows; omitted = []; asked = [] }) (down extends tuples)
      (settle-omits tuple rows (All-head Q tuple tuples all)) refl (λ others. down-omits tuples others (All-tail Q tuple tuples all)) unspent

-- the tuples in play for a column grow in the slice
in_play-grow : (m : ModelView) (slice : Slice) (p : ℕ) → IsSliceOf m slice → All (GrowsIn m slice) (tuples_in_play m slice p)
in_play-grow m slice p is =
    all_members (GrowsIn m slice) (tuples_in_play m slice p)
    (λ tuple has.
    let at = of_flat (λ set. tuples_in m set slice) (sets_in_play m (column_order m slice) p) tuple has in
    tuple-grows m slice at.0 tuple is (tuple_is m at.0 slice tuple (slice_exists m slice is) at.2))

-- so what columns omit, where no question cost more than it may, is omitted in the slice
pub omitted-in : (context : QuestionsView) (params : List ℕ) (rows : List (List (Option ℕ))) → IsSliceOf context.model context.slice
    → first_spent context (columns_grown context params rows).asked ≡ None → All (IsOmittedIn context) (columns_grown context params rows).omitted
omitted-in context [] rows is unspent = All-nil (IsOmittedIn context)
omitted-in context (p ∷ params) rows is unspent =
    let over : List (Option ℕ) → Bool = λ cells. exceeds context.effort (question_cost context.model context.prefs cells) in
    let values : List ℕ = slice_index_or (preferred_values context.model context.prefs context.slice) p [] in
    let tuples : List (List (Option ℕ)) = tuples_in_play context.model context.slice p in
    let filled : Grown = across (extends context) p values tuples [] rows in
    let settled : Grown = down (extends context) tuples filled.rows in
    let later : Grown = columns_grown context params settled.rows in
    let parts = find-none over (filled.asked ++ settled.asked) later.asked unspent in
    let own = find-none over filled.asked settled.asked parts.0 in
    All-append (IsOmittedIn context) settled.omitted later.omitted
    (down-omits (Grows context) (IsOmittedIn context) (extends context) over
    (λ tuple grows fails within. record { grows = grows; fails = fails; within = within }) tuples filled.rows
    (in_play-grow context.model context.slice p is) own.1)
    (omitted-in context params settled.rows is parts.1)

-- their pairs give them again
pub omitted-again : (context : QuestionsView) (tuples : List (List (Option ℕ))) → All (IsOmittedIn context) tuples
    → map (cells_of (length context.model.params)) (map pairs_of tuples) ≡ tuples
omitted-again context [] all = refl
omitted-again context (tuple ∷ tuples) all =
    let first = All-head (IsOmittedIn context) tuple tuples all in
    ap (λ cells. cells ∷ map (cells_of (length context.model.params)) (map pairs_of tuples))
    (cells_of-pairs (length context.model.params) tuple (pairs_of tuple) first.grows.of.fits.as_long refl)
    ∙ ap (λ list. tuple ∷ list) (omitted-again context tuples (All-tail (IsOmittedIn context) tuple tuples all))

pub omitted-tuples : (context : QuestionsView) (tuples : List (List (Option ℕ))) → All (IsOmittedIn context) tuples
    → All (IsOmittedTuple context) (map pairs_of tuples)
omitted-tuples context [] all = All-nil (IsOmittedTuple context)
omitted-tuples context (tuple ∷ tuples) all =
    let first = All-head (IsOmittedIn context) tuple tuples all in
    let again = sym (cells_of-pairs (length context.model.params) tuple (pairs_of tuple) first.grows.of.fits.as_long refl) in
    All-cons (IsOmittedTuple context) (pairs_of tuple) (map pairs_of tuples)
    (record { omitted = subst (IsOmittedIn context) again first; own = ap pairs_of again })
    (omitted-tuples context tuples (All-tail (IsOmittedIn context) tuple tuples all))

-- vertical growth omits no more tuples than it meets
module _ (extends : List (Option ℕ) → Bool) where
  one-few : (taken extendable : Bool) (joined alone left : Grown) → length joined.omitted ≤ 1 → length alone.omitted ≤ 1 → length left.omitted ≤ 1
      → length (cond {A = Grown} taken joined (cond {A = Grown} extendable alone left)).omitted ≤ 1
  one-few true extendable joined alone left first second third = first
  one-few false true joined alone left first second third = second
  one-few false false joined alone left first second third = third

  settle-few : (tuple : List (Option ℕ)) (rows : List (List (Option ℕ))) → length (settle extends tuple rows).omitted ≤ 1
  settle-few tuple rows =
      let joined = join extends tuple rows in
      one-few joined.taken (extends tuple) (record { rows = joined.rows; omitted = []; asked = joined.asked })
      (record { rows = rows ++ tuple ∷ []; omitted = []; asked = joined.asked ++ tuple ∷ [] })
      (record { rows = rows; omitted = tuple ∷ []; asked = joined.asked ++ tuple ∷ [] }) (omega arith) (omega arith) (omega arith)

  next-few : (b : Bool) (settled left : Grown) (later : List (List (Option ℕ)) → Grown) (n : ℕ) → length settled.omitted ≤ 1 → left.omitted ≡ []
      → ((rows : List (List (Option ℕ))) → length (later rows).omitted ≤ n)
      → length ((cond {A = Grown} b settled left).omitted ++ (later (cond {A = Grown} b settled left).rows).omitted) ≤ n + 1
  next-few true settled left later n few none rest = omega (arith, few, rest settled.rows, length-append settled.omitted (later settled.rows).omitted)
  next-few false settled left later n few none rest =
      omega (arith, ap length none, rest left.rows, length-append left.omitted (later left.rows).omitted)

  down-few : (tuples rows : List (List (Option ℕ))) → length (down extends tuples rows).omitted ≤ length tuples
  down-few [] rows = omega arith
  down-few (tuple ∷ tuples) rows =
      let more = next-few (is_uncovered rows tuple) (settle extends tuple rows) (record { rows = rows; omitted = []; asked = [] }) (down extends tuples)
      (length tuples) (settle-few tuple rows) refl (down-few tuples) in
      omega (arith, more)

pub omitted-few : (context : QuestionsView) (params : List ℕ) (rows : List (List (Option ℕ)))
    → length (columns_grown context params rows).omitted ≤ length (flat_map (tuples_in_play context.model context.slice) params)
omitted-few context [] rows = omega arith
omitted-few context (p ∷ params) rows =
    let values : List ℕ = slice_index_or (preferred_values context.model context.prefs context.slice) p [] in
    let tuples : List (List (Option ℕ)) = tuples_in_play context.model context.slice p in
    let filled : Grown = across (extends context) p values tuples [] rows in
    let settled : Grown = down (extends context) tuples filled.rows in
    omega (
      arith,
      down-few (extends context) tuples filled.rows,
      omitted-few context params settled.rows,
      length-append settled.omitted (columns_grown context params settled.rows).omitted,
      length-append tuples (flat_map (tuples_in_play context.model context.slice) params),
    )
