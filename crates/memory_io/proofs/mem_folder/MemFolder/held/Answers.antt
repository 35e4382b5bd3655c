use Rattle.std.proofs.Common.{ap, sym, ◌∙◌}
use Rattle.memory_io.proofs.SlotLemmas.{found_at, found-file, not_found, absent-file}
use Rattle.memory_io.proofs.mem_folder.MemFolder.held.Goals as goal

pub returns-in-Some : goal.returns-in-Some
returns-in-Some c =
    let slots = c.args.self.now.slots in
    let name = c.args.name.now in
    let at = c.in-Some.at in
    let held = c.index.result.now in
    let same = ap (λ v. v.slots) c.self.view_is in
    let f = found_at slots name c.self.inside.files.items at held same c.in-Some.ensures c.index.ensures in
    c.file.ensures ∙ sym (found-file slots name at held f)

pub returns-in-None : goal.returns-in-None
returns-in-None c =
    let slots = c.args.self.now.slots in
    let name = c.args.name.now in
    sym (absent-file slots name (not_found slots name c.in-None.ensures))
