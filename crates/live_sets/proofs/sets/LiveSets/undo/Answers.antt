use Rattle.std.proofs.Common.{◌≡◌, ◌-◌, ◌+◌, ◌<◌, ◌∙◌, ℕ, ap, sym, arith, length, get_or, take, drop, rules}
use Rattle.std.proofs.lemmas.List.{get_or_read}
use Rattle.live_sets.specs.Trail.{live_count, put_back}
use Rattle.live_sets.proofs.TrailLemmas.{one_back, count_back}
use Rattle.live_sets.proofs.sets.LiveSets.undo.Goals as goal

pub loop-self-preserved : goal.loop-self-preserved
loop-self-preserved c =
    let used = c.loop-self.self-inside.used in
    let low : used - 1 < length c.self.inside.places.items = omega (arith, ap length c.loop-self.invariant.room, c.self.invariant) in
    let value : get_or c.self.inside.places.items (used - 1) c.index-taken.result.now ≡ c.index-taken.result.now =
    sym (get_or_read c.self.inside.places.items (used - 1) c.index-taken.result.now low (search rules) c.index-taken.result.now) in
    let next : used - 1 + 1 ≡ used = omega arith in
    record {
      from = omega arith;
      to = omega arith;
      room = c.loop-self.invariant.room;
      enough = omega (
        arith,
        c.loop-self.invariant.enough,
        ap live_count c.put_back.ensures,
        count_back c.loop-self.self-inside.sets.items
            c.index-taken.result.now.param c.index-taken.result.now.value,
      );
      same = ap (put_back (drop c.args.len (take (used - 1) c.self.inside.places.items))) c.put_back.ensures
          ∙ one_back c.self.inside.places.items c.args.len (used - 1) c.loop-self.self-inside.sets.items c.index-taken.result.now (omega arith) low value
          ∙ ap (λ (k : ℕ). put_back (drop c.args.len (take k c.self.inside.places.items)) c.loop-self.self-inside.sets.items) next
          ∙ c.loop-self.invariant.same;
    }
