use Rattle.std.proofs.Common.{◌≡◌, ◌∙◌, ℕ, List, [], ◌∷◌, ◌++◌, map, sym, ap, subst, rules, tests}
use Rattle.rv_crew.specs.Abandoning.{PartsInto}
use Rattle.rv_crew.specs.Crews.{owed}
use Rattle.rv_crew.specs.declared.running.Running.{Running}
use Rattle.rv_crew.proofs.Parted.{none, stays, goes}
use Rattle.rv_crew.proofs.abandoning.+part.Goals as goal

pub returns-then-has_ended-clause-parts : goal.returns-then-has_ended-clause-parts
returns-then-has_ended-clause-parts g t c =
    stays owed c.args.threads.items c.pop.new.self.items c.in-Some.last (map owed c.args.stay.now.items) c.args.gone.now.items c.part.new.stay.items c.push_reserved.new.self.items c.part.new.gone.items
    c.in-Some.ensures.items c.push_reserved.ensures.items c.part.ensures.parts

pub returns-else-has_ended-clause-parts : goal.returns-else-has_ended-clause-parts
returns-else-has_ended-clause-parts g t c =
    goes owed c.args.threads.items c.pop.new.self.items c.in-Some.last (map owed c.args.stay.now.items) c.args.gone.now.items (map owed c.part.new.stay.items) c.part.new.gone.items c.push_reserved-else-has_ended.new.self.items
    c.in-Some.ensures.items (c.push_reserved-else-has_ended.ensures.items ∙ ap (λ (n : ℕ). c.part.new.gone.items ++ n ∷ []) c.in-Some.last.same.0) c.part.ensures.parts

pub returns-in_default-clause-parts : goal.returns-in_default-clause-parts
returns-in_default-clause-parts g t c =
    let nil : c.args.threads.items ≡ [] = search (rules, tests) in
    subst (λ (l : List (Running g.row.D.Denot)). PartsInto (map owed l) (map owed c.args.stay.now.items) c.args.gone.now.items (map owed c.args.stay.now.items) c.args.gone.now.items) (sym nil)
    (none (map owed c.args.stay.now.items) c.args.gone.now.items)
