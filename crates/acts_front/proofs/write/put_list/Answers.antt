use Rattle.std.proofs.Common.{◌≡◌, [], subst, codes}
use Rattle.std.specs.Prelude.{OnOk}
use Rattle.acts_front.proofs.Joined.{all_put}
use Rattle.acts_front.proofs.write.put_list.Goals as goal

pub returns : goal.returns
returns c =
    subst (λ items. OnOk c.put_behind_commas.result (c.put_behind_commas.new.out.items ≡ items))
    (all_put (λ text. text.now) (codes ", ") c.args.out.now.items c.args.texts.now
    (record { ref_ptr = (0, 0); now = [] }) c.extend_from_slice.new.self.items c.in-len1-up.len_at_least c.in_ok-extend_from_slice.ensures.items)
    c.put_behind_commas.ensures
