use Rattle.std.proofs.Common.{arith}
use Rattle.html_page.proofs.Mapped.{attributes_put}
use Rattle.html_page.proofs.page_text.PageText.put_attributes.Goals as goal

pub returns : goal.returns
returns c =
    attributes_put c.args.self.now c.loop-attribute.self c.args.attributes.now c.loop-attribute.attribute-index c.loop-attribute.invariant (omega (arith, c.loop-attribute-test.false))
