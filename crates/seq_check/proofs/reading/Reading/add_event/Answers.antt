use Rattle.std.proofs.Common.{◌≡◌, [], ◌∷◌, ◌++◌, None, ◌∙◌, ap, sym, rules}
use Rattle.seq_check.specs.believed.EventFile.{number_of}
use Rattle.seq_check.specs.Reading.{Declared}
use Rattle.seq_check.proofs.NameLemmas.{known_more}
use Rattle.seq_check.proofs.reading.Reading.add_event.Goals as goal

pub invariant_of-self-2 : goal.invariant_of-self-2
invariant_of-self-2 c =
    let name = c.args.name.now in
    let pushed : c.add_text.new.into ≡ c.self.inside.names ++ name ∷ [] = search rules in
    let added : c.add.new.self ≡ c.self.inside.known ++ name ∷ [] = search rules in
    let fresh : number_of c.self.inside.names name ≡ None = ap (λ (d : Declared). number_of d.names name) c.self.view_is ∙ c.requires.fresh in (
      added ∙ ap (λ names. names ++ name ∷ []) c.self.invariant.0 ∙ sym pushed,
      rw pushed (known_more (record { names = c.self.inside.names; pairs = c.self.inside.pairs; last = c.self.inside.last }) name c.args.line c.self.invariant.1 c.requires.name fresh),
    )
