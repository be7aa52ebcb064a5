use Rattle.std.proofs.Common.{◌≡◌, ◌∙◌, length, ap, sym, arith}
use Rattle.std.proofs.lemmas.List.{length-map}
use Rattle.rv_distinct.proofs.Again.{few_are_distinct}
use Rattle.rv_distinct.proofs.region.Region.again.Goals as goal

pub returns-in-empty : goal.returns-in-empty
returns-in-empty c =
    let all : length c.args.self.now ≡ length c.self.inside.declared.items = ap length (sym c.self.view_is) ∙ length-map c.self.inside.declared.items _ in
    few_are_distinct c.args.self.now (omega (arith, all, c.as_slice.ensures.len, c.in-empty.len_below))
