use Rattle.std.proofs.Common.{◌<◌, length, map, ap, ◌∙◌, sym, subst}
use Rattle.std.specs.Prelude.{All}
use Rattle.std.specs.List.{range_with_len}
use Rattle.std.proofs.lemmas.List.{length-map}
use Rattle.std.proofs.lemmas.List.Sorted.{All-permutation}
use Rattle.cov_model.specs.believed.Preference.{by_falling_weight}
use Rattle.suspect_tuples.specs.Told.{found_seen}
use Rattle.jeldroft_suspect.specs.believed.SuspectsText.{found_at}
use Rattle.jeldroft_suspect.proofs.text.falling_places.Goals as goal
use Rattle.value_text.proofs.ListLemmas.{below_all}

pub sort_by_count-requires : goal.sort_by_count-requires
sort_by_count-requires c = subst (All (λ at. at < length c.args.list.now)) (sym c.in_ok-places.ensures) (below_all (length c.args.list.now))

pub returns-clause-places : goal.returns-clause-places
returns-clause-places c =
    let list = map found_seen c.args.list.now in
    c.in_ok-sort_by_count.ensures.sorted ∙ ap (by_falling_weight (λ at. (found_at list at).1)) (c.in_ok-places.ensures ∙ ap (range_with_len 0) (sym (length-map c.args.list.now found_seen)))

pub returns-clause-exist : goal.returns-clause-exist
returns-clause-exist c =
    let list = c.args.list.now in
    All-permutation (λ at. at < length list) c.in_ok-places.places.items c.sort_by_count.new.places.items c.in_ok-sort_by_count.ensures.each
    (subst (All (λ at. at < length list)) (sym c.in_ok-places.ensures) (below_all (length list)))
