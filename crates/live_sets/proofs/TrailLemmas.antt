-- Going back on a trail.
use Rattle.std.proofs.Common.{◌≡◌, ℕ, ◌+◌, ◌<◌, ◌≤◌, Bool, true, false, List, [], ◌∷◌, ◌++◌, take, drop, length, get_or, set, cond, ◌∙◌, sym, ap, refl, arith, inl, inr, length-append}
use Rattle.std.specs.List.{count_by}
use Rattle.std.proofs.lemmas.Bool.{cases_lt}
use Rattle.std.proofs.lemmas.List.{take_more, drop-append-le, take-append-le, take-append-drop, length-take, length-take-le, drop_all}
use Rattle.std.proofs.lemmas.List.{take_all, set_past, set-set, get_or-set_same, get_or_default, set-get_or}
use Rattle.std.proofs.Math.Seq.{drop-append_seam}
use Rattle.std.proofs.lemmas.List.Sums.{sum_by-set}
use Rattle.live_sets.specs.declared.sets.Taken.{Taken}
use Rattle.live_sets.specs.Trail.{LiveView, live_count, mark_at, with_mark, put_back, undone, IsSince}

pub put_back-last : (values : List Taken) (last : Taken) (live : List (List Bool))
    → put_back (values ++ last ∷ []) live ≡ put_back values (with_mark live last.param last.value true)
put_back-last [] last live = refl
put_back-last (value ∷ values) last live = ap (λ (marks : List (List Bool)). with_mark marks value.param value.value true) (put_back-last values last live)

-- one value put back
pub one_back : (room : List Taken) (mark top : ℕ) (live : List (List Bool)) (value : Taken) → mark ≤ top → top < length room → get_or room top value ≡ value
    → put_back (drop mark (take top room)) (with_mark live value.param value.value true) ≡ put_back (drop mark (take (top + 1) room)) live
one_back room mark top live value from within is =
    sym (ap (λ (values : List Taken). put_back (drop mark values) live) (take_more room top value within ∙ ap (λ (v : Taken). take top room ++ v ∷ []) is)
    ∙ ap (λ (values : List Taken). put_back values live) (drop-append-le mark (take top room) (value ∷ []) (omega (arith, length-take top room)))
    ∙ put_back-last (drop mark (take top room)) value live)

one_mark : (marks : List Bool) (w : ℕ) → count_by (λ mark. mark) (set marks w true) ≤ count_by (λ mark. mark) marks + 1
one_mark marks w = elim (cases_lt w (length marks)) [
  | inl within ↦ omega (arith, sum_by-set (λ mark. cond mark 1 0) marks w true false within)
  | inr past ↦ omega (arith, ap (count_by (λ mark. mark)) (set_past marks w true past))
]

-- at most one value more is live
pub count_back : (live : List (List Bool)) (q w : ℕ) → live_count (with_mark live q w true) ≤ live_count live + 1
count_back live q w = elim (cases_lt q (length live)) [
  | inl within ↦ omega (arith, sum_by-set (count_by (λ mark. mark)) live q (set (get_or live q []) w true) [] within, one_mark (get_or live q []) w)
  | inr past ↦ omega (arith, ap live_count (set_past live q (set (get_or live q []) w true) past))
]

put_back-append : (xs ys : List Taken) (live : List (List Bool)) → put_back (xs ++ ys) live ≡ put_back xs (put_back ys live)
put_back-append [] ys live = refl
put_back-append (value ∷ xs) ys live = ap (λ (marks : List (List Bool)). with_mark marks value.param value.value true) (put_back-append xs ys live)

-- going back in two steps is going back in one
undone_undone : (sets : LiveView) (i j : ℕ) → i ≤ j → j ≤ length sets.trail → undone (undone sets j) i ≡ undone sets i
undone_undone sets i j before within =
    let front = take j sets.trail in
    let back = drop j sets.trail in
    let whole : front ++ back ≡ sets.trail = take-append-drop j sets.trail in
    let low : i ≤ length front = omega (arith, length-take-le j sets.trail) in
    let live : put_back (drop i front) (put_back back sets.live) ≡ put_back (drop i sets.trail) sets.live =
    sym (put_back-append (drop i front) back sets.live) ∙ ap (λ (values : List Taken). put_back values sets.live)
    (sym (drop-append-le i front back low) ∙ ap (drop i) whole) in
    let trail : take i front ≡ take i sets.trail = sym (take-append-le i front back low) ∙ ap (take i) whole in
    ap (λ (marks : List (List Bool)). record { live = marks; trail = take i front }) live
    ∙ ap (λ (values : List Taken). record { live = put_back (drop i sets.trail) sets.live; trail = values }) trail

pub since_self : (sets : LiveView) → IsSince sets sets
since_self sets = record {
  longer = omega arith;
  back = ap (λ (values : List Taken). record { live = put_back values sets.live; trail = take (length sets.trail) sets.trail })
      (drop_all (length sets.trail) sets.trail (omega arith))
      ∙ ap (λ (values : List Taken). record { live = sets.live; trail = values }) (take_all (length sets.trail) sets.trail (omega arith));
}

pub since_more : (a b c : LiveView) → IsSince a b → IsSince b c → IsSince a c
since_more a b c first second = record {
  longer = omega (arith, first.longer, second.longer);
  back = sym (undone_undone c (length a.trail) (length b.trail) first.longer second.longer)
      ∙ ap (λ (sets : LiveView). undone sets (length a.trail)) second.back ∙ first.back;
}

set_here : {X : Type 0} (xs : List X) (i : ℕ) (x d : X) → get_or xs i d ≡ x → i < length xs → set xs i x ≡ xs
set_here xs i x d is within = ap (λ y. set xs i y) (sym is ∙ get_or_default xs i d x within) ∙ set-get_or xs i x

-- a live value that is taken away comes back
pub since_taken : (sets : LiveView) (q w : ℕ) → q < length sets.live → w < length (get_or sets.live q []) → mark_at sets.live q w ≡ true
    → IsSince sets (record { live = with_mark sets.live q w false; trail = sets.trail ++ record { param = q; value = w } ∷ [] })
since_taken sets q w parameter value live =
    let marks = get_or sets.live q [] in
    let back : with_mark (with_mark sets.live q w false) q w true ≡ sets.live =
    ap (λ (list : List Bool). set (with_mark sets.live q w false) q (set list w true)) (get_or-set_same sets.live q (set marks w false) [] parameter)
    ∙ ap (λ (list : List Bool). set (with_mark sets.live q w false) q list) (set-set marks w false true ∙ set_here marks w true false live value)
    ∙ set-set sets.live q (set marks w false) marks ∙ set_here sets.live q marks [] refl parameter in
    record {
      longer = omega (arith, length-append sets.trail (record { param = q; value = w } ∷ []));
      back = ap (λ (values : List Taken). record {
        live = put_back values (with_mark sets.live q w false);
        trail =
            take (length sets.trail) (sets.trail ++ record { param = q; value = w } ∷ []);
      })
          (drop-append_seam sets.trail (record { param = q; value = w } ∷ []))
          ∙ ap (λ (values : List Taken). record { live = with_mark (with_mark sets.live q w false) q w true; trail = values })
          (take-append-le (length sets.trail) sets.trail (record { param = q; value = w } ∷ []) (omega arith)
          ∙ take_all (length sets.trail) sets.trail (omega arith))
          ∙ ap (λ (marks : List (List Bool)). record { live = marks; trail = sets.trail }) back;
    }
