use Rattle.std.proofs.Common.{◌≡◌, None, false, sym, ap, ◌∙◌}
use Rattle.std.specs.Prelude.{is_some, not}
use Rattle.rv_ends.specs.Explained.{is_unasked}
use Rattle.rv_ends.specs.Following.{place_of}
use Rattle.rv_ends.proofs.Sound.{true_is_false}
use Rattle.rv_ends.proofs.Steps.{not_next, one_missed}
use Rattle.rv_ends.proofs.following.FollowingOutwardUnit.ask.Goals as goal
use Rattle.rv_ends.proofs.following.FollowingOutwardUnit.ask.Goals.{else-is_none-via-then-is_none+else-is_unasked, else-is_none-via-else-is_none}

pub returns-then-not-is_next-clause-asked : goal.returns-then-not-is_next-clause-asked
returns-then-not-is_next-clause-asked c =
    let p = place_of c.args.self.now in
    let asks : p.other ≡ None → is_unasked p.shapes p.held c.args.request ≡ false = λ none.
    elim c.else-is_none.branch [
      | else-is_none-via-then-is_none+else-is_unasked w ↦ sym w.is_unasked.ensures ∙ w.if-is_unasked.false
      | else-is_none-via-else-is_none w ↦ true_is_false (sym (c.is_none.ensures ∙ ap not w.if-is_none.false) ∙ ap is_some none)
    ] in
    one_missed p (place_of c.miss-then-not-is_next.new.self) c.args.request asks
    (not_next p c.args.request c.in-Some.first.now c.in-Some.rest.now c.in-Some.ensures.cases.0 (c.is_next.ensures.other c.if-not-is_next.true)) c.miss-then-not-is_next.ensures
