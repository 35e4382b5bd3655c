use Rattle.std.proofs.Common.{◌≡◌, ◌∙◌, Ok, true, ap, refl, sym, subst}
use Rattle.std.specs.List.{list_all}
use Rattle.acts_front.specs.believed.ActsFiles.{line_gives, section_in, text_gives}
use Rattle.acts_front.specs.believed.Lines as lines
use Rattle.acts_front.specs.believed.Lines.{is_allowed}
use Rattle.acts_front.specs.Reading.{Adds, ended}
use Rattle.acts_front.specs.declared.translator.Translator.{Translator}
use Rattle.acts_front.proofs.Adding.{adds_ended}
use Rattle.acts_front.proofs.translator.Translator.add_line.Goals as goal

pub returns : goal.returns
returns c =
    let self = c.args.self.now in
    let text = c.line_text.result.now in
    let added = c.add_text.new.self in
    let next : Translator = record { section = added.section; scope = added.scope; text = c.end_line.new.out } in
    let allowed : list_all is_allowed c.args.line.now ≡ true = sym c.are_allowed.ensures ∙ c.if-not-are_allowed.false in
    let gives : line_gives self.section self.scope c.args.line.now ≡ text_gives self.section self.scope (lines.line_text c.args.line.now) = rw allowed refl in
    subst (λ given. Adds c.args.number (section_in self.section (lines.line_text c.args.line.now)) ended given self (Ok next))
    (ap (text_gives self.section self.scope) c.line_text.ensures ∙ sym gives)
    (subst (λ behind. Adds c.args.number (section_in self.section behind) ended (text_gives self.section self.scope text) self (Ok next)) c.line_text.ensures
    (adds_ended c.args.number (section_in self.section text) (text_gives self.section self.scope text) self added next c.in_ok-add_text.ensures c.in_ok-end_line.ensures refl refl))
