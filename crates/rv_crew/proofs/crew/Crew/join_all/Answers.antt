use Rattle.std.proofs.Common.{rules, ◌≡◌, ◌∙◌, ◌++◌, [], map, reverse, List, ap, sym, subst}
use Rattle.std.proofs.lemmas.List.{reverse-reverse}
use Rattle.rv_port.specs.Ports.{Porting}
use Rattle.rv_crew.specs.Crews.{Joins, owed, owed_for, with_joined}
use Rattle.rv_crew.specs.Teams.{Owed, Team}
use Rattle.rv_crew.specs.declared.running.Running.{Running}
use Rattle.rv_crew.proofs.crew.Crew.join_all.Goals as goal

pub returns-clause-ok : goal.returns-clause-ok
returns-clause-ok g c =
    let back : reverse c.turned.result.items ≡ c.self.inside.running.items = ap reverse c.turned.ensures ∙ (reverse-reverse c.replace-waiting.result.items ∙ search rules) in
    let out : map owed (reverse c.turned.result.items) ≡ map owed c.self.inside.running.items = ap (λ (l : List (Running g.row.D.Denot)). map owed l) back in
    let joins : Joins g.D.Duty.does c.self.inside.joined.items (map owed c.self.inside.running.items) c.join_each.new.joined.items =
    subst (λ (l : List (Owed g.row.D.Denot)). Joins g.D.Duty.does c.self.inside.joined.items l c.join_each.new.joined.items) out
    (subst (λ (l : List Porting). Joins g.D.Duty.does l (map owed (reverse c.turned.result.items)) c.join_each.new.joined.items) c.reserve.ensures.items c.join_each.ensures.joins) in
    let paid : map owed_for c.join_each.new.paid.items ≡ map owed_for c.self.inside.paid.items ++ map owed c.self.inside.running.items =
    c.join_each.ensures.paid ∙ ap (λ (l : List (Owed g.row.D.Denot)). map owed_for c.reserve-2.new.self.items ++ l) out ∙ search rules in
    let none : c.replace-waiting.new.dest.items ≡ [] = search rules in
    let crew : Team g.row.D.Denot = record {
      running = map owed c.self.inside.running.items;
      joined = c.self.inside.joined.items;
      paid = map owed_for c.self.inside.paid.items;
      lost = c.self.inside.lost.items;
      noted = c.self.inside.notes.items;
      refuses = c.self.inside.refuses;
      abandoned = c.self.inside.abandoned;
    } in
    let after : Team g.row.D.Denot = record {
      running = map owed c.replace-waiting.new.dest.items;
      joined = c.join_each.new.joined.items;
      paid = map owed_for c.join_each.new.paid.items;
      lost = c.self.inside.lost.items;
      noted = c.self.inside.notes.items;
      refuses = c.self.inside.refuses;
      abandoned = c.self.inside.abandoned;
    } in
    let is : after ≡ with_joined crew c.join_each.new.joined.items = λ i. record {
      running = map owed (none i);
      joined = c.join_each.new.joined.items;
      paid = paid i;
      lost = c.self.inside.lost.items;
      noted = c.self.inside.notes.items;
      refuses = c.self.inside.refuses;
      abandoned = c.self.inside.abandoned;
    } in
    subst (λ (z : Team g.row.D.Denot). Joins g.D.Duty.does z.joined z.running c.join_each.new.joined.items × (after ≡ with_joined z c.join_each.new.joined.items)) c.self.view_is (joins, is)
