use Rattle.std.proofs.Common.{None, max, unwrap_or, refl, ap, sym, ◌∙◌}
use Rattle.memory_io.specs.MemFolder.{room_of}
use Rattle.std.proofs.lemmas.Result.{on_ok_weaker}
use Rattle.memory_io.proofs.SlotLemmas.{slot_with, raised, fresh, found-file, not_found, absent-file, put_at, put_new}
use Rattle.memory_io.proofs.mem_folder.MemFolder.room_for.Goals as goal

pub returns-in-Some-clause-ok : goal.returns-in-Some-clause-ok
returns-in-Some-clause-ok c =
    let slots = c.args.self.now.slots in
    let name = c.args.name.now in
    let most = c.args.most in
    let at = c.in-Some.at in
    let held = c.index_mut.result.now in
    let same = ap (λ v. v.slots) c.self.view_is in
    on_ok_weaker c.raise_room.result
    (λ room. put_at slots _ c.self.inside.files.items name at held c.raise_room.new.self
    same c.in-Some.ensures c.index_mut.ensures.value refl
    (λ f. room ∙ raised slots name at held held.file most f
    ∙ ap (λ file. slot_with name file (max (unwrap_or (room_of slots name) 0) most))
    (sym (found-file slots name at held f))))
    c.raise_room.ensures.ok

pub returns-in_ok-file-in-None-clause-ok : goal.returns-in_ok-file-in-None-clause-ok
returns-in_ok-file-in-None-clause-ok c =
    let slots = c.args.self.now.slots in
    let name = c.args.name.now in
    let most = c.args.most in
    let absent = not_found slots name c.in-None.ensures in
    on_ok_weaker c.push.result
    (λ pushed. put_new slots _ c.push.new.self.slots name c.in_ok-file-in-None.file absent refl
    (c.in_ok-file-in-None.ensures ∙ fresh slots name None most absent
    ∙ ap (λ file. slot_with name file (max (unwrap_or (room_of slots name) 0) most))
    (sym (absent-file slots name absent)))
    (ap (λ v. v.slots) pushed))
    c.push.ensures.ok
