use Rattle.std.proofs.Common.{rules, ap, ◌∙◌, ◌∷◌, [], ◌++◌}
use Rattle.rv_feed.specs.Hearing.{heard}
use Rattle.rv_feed.specs.declared.piece.Piece.{Piece}
use Rattle.rv_feed.proofs.pair.Feed.hear.Goals as goal

pub returns-in-Ok : goal.returns-in-Ok
returns-in-Ok g c = record { hears = (c.in-Ok-Bytes.bytes, c.in-Ok-Bytes.ensures.takes ∙ ap (λ (p : Piece). heard c.args.self.now ++ p ∷ []) (search rules), search rules) }
