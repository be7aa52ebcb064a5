use Rattle.std.proofs.Common.{rules, ap, sym, ◌≡◌, ◌∷◌, ◌++◌, [], length, ◌<◌, Some, ◌∙◌}
use Rattle.rv_turn.specs.Histories.{mine}
use Rattle.rv_turn.proofs.Acts.{starts_at}
use Rattle.rv_turn.proofs.turn.open.Goals as goal

pub new-requires : goal.new-requires
new-requires g c = let made = c.of-about.result.value in let same : made ≡ c.args.value = c.of-about.ensures in
    let count : c.count-count.result ≡ length (g.C.Counted.history made) = c.count-count.ensures ∙ ap (λ x. length (g.C.Counted.history x)) (sym same) in
    let one : c.push_reserved.new.self.items ≡ Some made ∷ [] = c.push_reserved.ensures.items ∙ (ap (λ l. l ++ Some c.args.value ∷ []) (c.reserve.ensures.items ∙ c.new-slots.ensures.items) ∙ ap (λ x. Some x ∷ []) (sym same)) in
    let small : c.count-count.result < 18446744073709551616 = search rules in
    starts_at g.C.Counted.history g.C.Counted.about g.C.Counted.actor_of made _ _ count one small (λ a some_actor. ap (λ x. mine g.C.Counted.actor_of a (g.C.Counted.history x)) same ∙ c.requires.alone a some_actor)
