use Rattle.std.proofs.Common.{sym, subst, rules}
use Rattle.rv_pipes.proofs.Read.{Other, all_before}
use Rattle.rv_pipes.proofs.lines.piece_of.Goals as goal
use Rattle.std.specs.Prelude.{All}

pub returns-in_ok-add-in-Some-clause-words : goal.returns-in_ok-add-in-Some-clause-words
returns-in_ok-add-in-Some-clause-words c =
    subst (All Other) (sym c.in_ok-add-in-Some.ensures)
    (all_before c.args.line.items c.pop.new.self.items c.in-Some.byte c.in-Some.ensures.items c.requires (search rules))
