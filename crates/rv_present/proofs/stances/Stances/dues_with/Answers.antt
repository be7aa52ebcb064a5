use Rattle.std.proofs.Common.{◌≡◌, ◌+◌, ◌<◌, ◌≤◌, ◌∙◌, List, ℕ, length, set, get_or, arith, ap, sym}
use Rattle.std.proofs.lemmas.List.{get_or_default}
use Rattle.rv_event.specs.declared.entry.Stance.{Stance}
use Rattle.rv_event.specs.declared.entry.Stance.TheVariants.{Free}
use Rattle.rv_present.specs.Stances.{Standing, due_at, due_by, dues_by}
use Rattle.rv_present.proofs.Owing.{due_one, due_past, due_set, few_dues, swapped}
use Rattle.rv_present.proofs.stances.Stances.dues_with.Goals as goal

within : (a n : ℕ) (ss : List Stance) → a < n → n ≤ 75 → length ss ≡ 75 → a < length ss
within a n ss less few long = omega (arith, less, few, long)

was : (a r : ℕ) (ss : List Stance) (s : Stance) → a < length ss → r ≡ due_at a s → s ≡ get_or ss a s → r ≡ due_by ss a
was a r ss s some is at = is ∙ ap (due_at a) (at ∙ get_or_default ss a s Free some)

pub returns-then-self-actor-clause-value : goal.returns-then-self-actor-clause-value
returns-then-self-actor-clause-value c =
    let i = c.self.inside in
    c.self.invariant.0 ∙ sym (due_past i.items.items i.actors c.args.actor c.args.stance c.if-self-actor.true)
    ∙ ap (λ (v : Standing). dues_by (set v.stances c.args.actor c.args.stance) v.actors) c.self.view_is

pub returns-then-self-actor-clause-within : goal.returns-then-self-actor-clause-within
returns-then-self-actor-clause-within c =
    let i = c.self.inside in
    omega (arith, c.self.invariant.0, c.self.invariant.2, few_dues i.items.items i.actors)

pub overflow_sub-result : goal.overflow_sub-result
overflow_sub-result c =
    let i = c.self.inside in
    let ss = i.items.items in
    let inside = within c.args.actor i.actors ss c.if-self-actor.false c.self.invariant.2 c.self.invariant.1 in
    let one = was c.args.actor c.due_at.result ss c.index.result.now inside c.due_at.ensures.value c.index.ensures in
    omega (arith, one, due_one ss i.actors c.args.actor c.if-self-actor.false, c.self.invariant.0)

pub overflow_add-result : goal.overflow_add-result
overflow_add-result c =
    let i = c.self.inside in
    omega (arith, few_dues i.items.items i.actors, c.self.invariant.0, c.self.invariant.2, c.due_at-2.ensures.within)

pub returns-clause-value : goal.returns-clause-value
returns-clause-value c =
    let i = c.self.inside in
    let ss = i.items.items in
    let a = c.args.actor in
    let s = c.args.stance in
    let inside = within a i.actors ss c.if-self-actor.false c.self.invariant.2 c.self.invariant.1 in
    let one = was a c.due_at.result ss c.index.result.now inside c.due_at.ensures.value c.index.ensures in
    let below : c.due_at.result ≤ i.dues = omega (arith, one, due_one ss i.actors a c.if-self-actor.false, c.self.invariant.0) in
    let change : dues_by (set ss a s) i.actors + c.due_at.result ≡ i.dues + c.due_at-2.result =
    omega (arith, one, due_set ss i.actors a s c.if-self-actor.false inside, c.self.invariant.0, c.due_at-2.ensures.value) in
    swapped i.dues c.due_at.result c.due_at-2.result (dues_by (set ss a s) i.actors) change below
    ∙ ap (λ (v : Standing). dues_by (set v.stances a s) v.actors) c.self.view_is

pub returns-clause-within : goal.returns-clause-within
returns-clause-within c =
    let i = c.self.inside in
    omega (arith, few_dues i.items.items i.actors, c.self.invariant.0, c.self.invariant.2, c.due_at-2.ensures.within)
