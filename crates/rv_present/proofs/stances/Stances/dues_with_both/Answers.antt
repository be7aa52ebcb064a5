use Rattle.std.proofs.Common.{◌≡◌, ◌+◌, ◌<◌, ◌≤◌, ◌∙◌, ℕ, length, set, arith, ap, sym}
use Rattle.std.proofs.lemmas.List.{length-set}
use Rattle.rv_event.specs.declared.entry.Stance.{Stance}
use Rattle.rv_present.specs.Stances.{Standing, due_at, due_by, dues_by}
use Rattle.rv_present.proofs.Owing.{due_one, due_past, due_set, swapped}
use Rattle.rv_present.proofs.stances.Stances.dues_with_both.Goals as goal

there : (a n b : ℕ) (v : Standing) (s : Stance) → a < n → n ≡ v.actors → n ≤ 75 → length v.stances ≡ 75 → (a < v.actors) × (a < length (set v.stances b s))
there a n b v s less is few long = (omega (arith, less, is), omega (arith, less, few, long, length-set v.stances b s))

pub returns-then-self-named : goal.returns-then-self-named
returns-then-self-named c =
    let v = c.args.self.now in
    let n : c.self.inside.actors ≡ v.actors = ap (λ (w : Standing). w.actors) c.self.view_is in
    let past : v.actors ≤ c.args.named = omega (arith, n, c.if-self-named.true) in
    c.dues_with-dues.ensures.value ∙ sym (due_past (set v.stances c.args.actor c.args.stance) v.actors c.args.named c.args.becomes past)

pub overflow_sub-result : goal.overflow_sub-result
overflow_sub-result c =
    let v = c.args.self.now in
    let ss = set v.stances c.args.actor c.args.stance in
    let n : c.self.inside.actors ≡ v.actors = ap (λ (w : Standing). w.actors) c.self.view_is in
    let less : c.args.named < v.actors = omega (arith, n, c.if-self-named.false) in
    let one : c.due_at.result ≡ due_by ss c.args.named = c.due_at.ensures.value ∙ ap (due_at c.args.named) c.of_with-was.ensures in
    omega (arith, one, due_one ss v.actors c.args.named less, c.dues_with-dues.ensures.value)

pub returns : goal.returns
returns c =
    let v = c.args.self.now in
    let ss = set v.stances c.args.actor c.args.stance in
    let n : c.self.inside.actors ≡ v.actors = ap (λ (w : Standing). w.actors) c.self.view_is in
    let long : length v.stances ≡ 75 = ap (λ (w : Standing). length w.stances) (sym c.self.view_is) ∙ c.self.invariant.1 in
    let t = there c.args.named c.self.inside.actors c.args.actor v c.args.stance c.if-self-named.false n c.self.invariant.2 long in
    let one : c.due_at.result ≡ due_by ss c.args.named = c.due_at.ensures.value ∙ ap (due_at c.args.named) c.of_with-was.ensures in
    let below : c.due_at.result ≤ c.dues_with-dues.result = omega (arith, one, due_one ss v.actors c.args.named t.0, c.dues_with-dues.ensures.value) in
    let change : dues_by (set ss c.args.named c.args.becomes) v.actors + c.due_at.result ≡ c.dues_with-dues.result + c.due_at-2.result =
    omega (arith, one, due_set ss v.actors c.args.named c.args.becomes t.0 t.1, c.dues_with-dues.ensures.value, c.due_at-2.ensures.value) in
    swapped c.dues_with-dues.result c.due_at.result c.due_at-2.result (dues_by (set ss c.args.named c.args.becomes) v.actors) change below
