use Rattle.std.proofs.Common.{◌≡◌, sym, ◌∙◌, true, refl}
use Rattle.rv_grammar.specs.Reading.{expect, after, sees}
use Rattle.rv_grammar.proofs.Lists.{place_is}
use Rattle.rv_grammar.proofs.cursor.Cursor.expect.Goals as goal

pub returns : goal.returns
unfolding expect after
returns c =
    let seen : sees c.args.what c.args.self.now ≡ true = sym c.eat.ensures.seen ∙ c.if-not-eat.false in
    let at = place_is c.args.what c.args.self.now c.place-at.result c.place-at.ensures seen in
    rw (seen, at, c.eat.ensures.after, seen) refl
