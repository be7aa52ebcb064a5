use Rattle.std.proofs.Common.{rules, ◌≡◌, ◌∙◌, ◌++◌, ◌∷◌, [], ap, length}
use Rattle.rv_code.specs.BodyView.{list_at}
use Rattle.rv_code.proofs.Listed.{list_added, within_more}
use Rattle.rv_code.proofs.body.UnitBodies.add_list.Goals as goal

pub invariant_of-self-2 : goal.invariant_of-self-2
invariant_of-self-2 c =
    let longer : c.push_reserved.new.self.items ≡ c.args.self.now.lists.items ++ record { operations = c.args.operations } ∷ [] =
    c.push_reserved.ensures.items ∙ ap (λ os. os ++ record { operations = c.args.operations } ∷ []) c.in_ok-reserve.ensures.items in
    record { listed = within_more c.args.self.now.lists.items c.push_reserved.new.self.items _ c.args.self.now.objects.items longer c.args.self.now.listed }

pub returns-clause-list : goal.returns-clause-list
returns-clause-list c =
    let longer : c.push_reserved.new.self.items ≡ c.args.self.now.lists.items ++ record { operations = c.args.operations } ∷ [] =
    c.push_reserved.ensures.items ∙ ap (λ os. os ++ record { operations = c.args.operations } ∷ []) c.in_ok-reserve.ensures.items in
    let count : c.len-list.result ≡ length c.args.self.now.lists.items = search rules in
    ap (λ n. list_at c.push_reserved.new.self.items n) count
    ∙ list_added c.args.self.now.lists.items c.push_reserved.new.self.items (record { operations = c.args.operations }) longer
