use Rattle.std.proofs.Common.{◌≡◌, sym, ◌∙◌, map, false, arith}
use Rattle.rv_tree.specs.BodyView.{local_view}
use Rattle.rv_restrict.proofs.Viewed.{no_local_type}
use Rattle.rv_restrict.proofs.mark.declares_type.Goals as goal

pub returns-then-not-types : goal.returns-then-not-types
returns-then-not-types c =
    let none : c.args.types ≡ false = grind (arith, c.if-not-types.true) in
    sym (no_local_type c.args.at c.args.name.now (map local_view c.args.locals.now.items) (sym c.requires ∙ none))
