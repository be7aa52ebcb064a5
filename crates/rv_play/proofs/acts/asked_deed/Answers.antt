use Rattle.std.proofs.Common.{rules, ◌≡◌, ℤ, sym, subst, arith, to_z, of_z, w64}
use Rattle.rv_step.specs.declared.step.Asked.{Asked}
use Rattle.rv_play.specs.Deeds.{Comes, just, asks, changes}
use Rattle.rv_play.proofs.acts.asked_deed.Goals as goal

pub returns-in-Change : goal.returns-in-Change
returns-in-Change g =
    let item : to_z w64 (of_z w64 g.in-Change.number) ≡ g.in-Change.number = first_of (search rules, grind arith) in
    subst (λ (a : Asked). Comes g.args.line (just (asks g.args.catalogue.now a g.args.actor)) g.change_deed.result) (sym g.in-Change.is)
    (subst (λ (n : ℤ). Comes g.args.line (just (changes g.args.actor g.in-Change.change n)) g.change_deed.result) item g.change_deed.ensures)
