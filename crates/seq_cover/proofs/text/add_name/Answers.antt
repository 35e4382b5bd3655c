use Rattle.std.proofs.Common.{sym, ap, ◌∙◌, ◌++◌, slice_get}
use Rattle.std.proofs.lemmas.List.{append-nil}
use Rattle.seq_cover.proofs.TextLemmas.{no_name}
use Rattle.seq_cover.proofs.text.add_name.Goals as goal

pub returns-in-None : goal.returns-in-None
returns-in-None c =
    let text = c.args.text.now.items in
    sym (append-nil text) ∙ ap (λ name. text ++ name) (sym (no_name c.args.events.now.names c.args.event (c.in-None.ensures.value ∙ ap (λ names. slice_get names c.args.event) c.names.ensures)))
