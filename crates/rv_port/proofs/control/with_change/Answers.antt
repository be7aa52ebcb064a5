use Rattle.std.proofs.Common.{◌≡◌, ◌∙◌}
use Rattle.rv_lists.specs.Kept.{with_changed}
use Rattle.rv_port.proofs.Listing.{is_kept, ok_is}
use Rattle.rv_port.proofs.control.with_change.Goals as goal

pub returns-in-Ok-change : goal.returns-in-Ok-change
returns-in-Ok-change c = λ before made kept same.
    let old : c.in-Some.lists ≡ before = kept c.in-Some.lists c.in-Some.is in
    let was : c.in-Ok.change ≡ made = ok_is c.args.change c.in-Ok.change made c.in-Ok.is same in
    is_kept c.change.new.self (with_changed before made) (c.in-Ok-change.ensures.ok ∙ (λ i. with_changed (old i) (was i)))
