use Rattle.std.proofs.Common.{Some, length, refl, ap, sym, ◌∙◌, arith}
use Rattle.std.proofs.lemmas.Bool.{le-leb, lt-leb}
use Rattle.memory_io.proofs.SlotLemmas.{found_at, found-fits, absent-fits, refilled, not_found, put_at}
use Rattle.memory_io.proofs.mem_folder.MemFolder.overwrite.Goals as goal

pub returns-then-bytes-room-clause-fits : goal.returns-then-bytes-room-clause-fits
returns-then-bytes-room-clause-fits c =
    let slots = c.args.self.now.slots in
    let name = c.args.name.now in
    let at = c.in-Some.at in
    let held = c.index_mut-file.result.now in
    let size = length c.args.bytes.now in
    let same = ap (λ v. v.slots) c.self.view_is in
    let f = found_at slots name _ at held same c.in-Some.ensures c.index_mut-file.ensures.value in
    sym (lt-leb size held.room (omega arith)) ∙ sym (found-fits slots name at held size f)

pub returns-else-bytes-room-clause-fits : goal.returns-else-bytes-room-clause-fits
returns-else-bytes-room-clause-fits c =
    let slots = c.args.self.now.slots in
    let name = c.args.name.now in
    let at = c.in-Some.at in
    let held = c.index_mut-file.result.now in
    let size = length c.args.bytes.now in
    let same = ap (λ v. v.slots) c.self.view_is in
    let f = found_at slots name _ at held same c.in-Some.ensures c.index_mut-file.ensures.value in
    sym (le-leb size held.room (omega arith)) ∙ sym (found-fits slots name at held size f)

pub returns-else-bytes-room-clause-done : goal.returns-else-bytes-room-clause-done
returns-else-bytes-room-clause-done c _ =
    let slots = c.args.self.now.slots in
    let name = c.args.name.now in
    let at = c.in-Some.at in
    let held = c.index_mut-file.result.now in
    let same = ap (λ v. v.slots) c.self.view_is in
    put_at slots _ c.self.inside.files.items name at held c.fill.new.self
    same c.in-Some.ensures c.index_mut-file.ensures.value refl
    (λ f. c.fill.ensures ∙ refilled slots name at held (Some c.args.bytes.now) f)

pub returns-in-None-clause-fits : goal.returns-in-None-clause-fits
returns-in-None-clause-fits c =
    let slots = c.args.self.now.slots in
    let name = c.args.name.now in
    sym (absent-fits slots name (length c.args.bytes.now) (not_found slots name c.in-None.ensures))
