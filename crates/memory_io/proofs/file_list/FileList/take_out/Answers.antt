use Rattle.std.proofs.Common.{rules, ap, ◌∙◌}
use Rattle.std.proofs.lemmas.Fn.{filter_same}
use Rattle.memory_io.specs.FileLists.{bytes_of, without}
use Rattle.memory_io.proofs.FileListLemmas.{bytes_of-without, bytes_of-others}
use Rattle.memory_io.proofs.file_list.FileList.take_out.Goals as goal

pub returns-clause-taken_out : goal.returns-clause-taken_out
returns-clause-taken_out c =
    filter_same _ _ _ (λ x b f' k. search rules) _ _ c.retain.ensures.filtered
    ∙ ap (λ files. without files c.args.name.now) c.self.view_is

pub returns-clause-gone : goal.returns-clause-gone
returns-clause-gone c =
    ap (λ files. bytes_of files c.args.name.now) (returns-clause-taken_out c)
    ∙ bytes_of-without c.args.self.now c.args.name.now

pub returns-clause-others : goal.returns-clause-others
returns-clause-others c other apart =
    ap (λ files. bytes_of files other) (returns-clause-taken_out c)
    ∙ bytes_of-others c.args.self.now c.args.name.now other apart
