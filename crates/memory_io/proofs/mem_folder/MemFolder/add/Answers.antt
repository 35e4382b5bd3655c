use Rattle.std.proofs.Common.{Some, length, refl, ap, ◌∙◌}
use Rattle.memory_io.specs.MemFolder.{Slot}
use Rattle.std.proofs.lemmas.Result.{on_ok_weaker}
use Rattle.memory_io.proofs.SlotLemmas.{raised, fresh, not_found, put_at, put_new}
use Rattle.memory_io.proofs.mem_folder.MemFolder.add.Goals as goal

pub returns-in_ok-raise_room-in-Some-clause-ok : goal.returns-in_ok-raise_room-in-Some-clause-ok
returns-in_ok-raise_room-in-Some-clause-ok c =
    let slots = c.args.self.now.slots in
    let name = c.args.name.now in
    let bytes = c.args.bytes.now in
    let at = c.in-Some.at in
    let held = c.index_mut-file.result.now in
    let same = ap (λ v. v.slots) c.self.view_is in
    let room = c.in_ok-raise_room-in-Some.ensures.ok in
    put_at slots _ c.self.inside.files.items name at held c.fill.new.self
    same c.in-Some.ensures c.index_mut-file.ensures.value refl
    (λ f. c.fill.ensures ∙ ap (λ (s : Slot). record s { file = Some bytes }) room
    ∙ raised slots name at held (Some bytes) (length bytes) f)

pub returns-in_ok-file-in-None-clause-ok : goal.returns-in_ok-file-in-None-clause-ok
returns-in_ok-file-in-None-clause-ok c =
    let slots = c.args.self.now.slots in
    let name = c.args.name.now in
    let bytes = c.args.bytes.now in
    let absent = not_found slots name c.in-None.ensures in
    let empty = c.in_ok-file-in-None.ensures in
    on_ok_weaker c.push.result
    (λ pushed. put_new slots _ c.push.new.self.slots name c.fill-in-None.new.self absent refl
    (c.fill-in-None.ensures ∙ ap (λ (s : Slot). record s { file = Some bytes }) empty
    ∙ fresh slots name (Some bytes) (length bytes) absent)
    (ap (λ v. v.slots) pushed))
    c.push.ensures.ok
