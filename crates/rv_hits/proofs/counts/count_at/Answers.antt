use Rattle.std.proofs.Common.{◌≡◌, ℕ, get_or, set, sym, ap, ◌∙◌, subst}
use Rattle.rv_tallied.specs.Tallies.{one_more}
use Rattle.rv_hits.specs.Counts.{CountsAt}
use Rattle.rv_hits.specs.declared.counts.Counted.{Counted}
use Rattle.rv_hits.proofs.Places.{counted_at, same_there}
use Rattle.rv_hits.proofs.counts.count_at.Goals as goal

pub returns : goal.returns
returns c =
    let cs = c.args.counts.now in
    let i = c.args.place in
    let d : Counted = c.index-counts-place-2.result in
    let times_is : c.one_more-times.result ≡ one_more (get_or cs i d).times =
    c.one_more-times.ensures ∙ ap (λ (x : Counted). one_more x.times) (same_there cs i c.index-counts-place.result d c.requires) in
    λ list line are is.
    subst (λ (n : ℕ). CountsAt cs (set cs i (record (get_or cs i d) { times = n })) list line) (sym times_is) (counted_at cs i d list line c.requires are is)
