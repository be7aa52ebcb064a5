use Rattle.std.proofs.Common.{rules, arith, ◌≡◌, ◌∙◌, ap, sym, ◌+◌, ◌<◌, ◌≤◌, length, drop, Bool, true, false, ◌&&◌}
use Rattle.rv_conform.specs.Conforms.{formals_conform}
use Rattle.rv_conform.proofs.Formals.{unequal, over, ended}
use Rattle.rv_conform.proofs.conforms.formals_conform.Goals as goal

pub returns-then-list-others : goal.returns-then-list-others
returns-then-list-others c = sym (unequal c.args.list.now c.args.others.now (λ e. absurd (omega (arith, c.if-list-others.true, e))))

pub returns-then-not-formal_conforms : goal.returns-then-not-formal_conforms
returns-then-not-formal_conforms c =
    let i = c.loop-index.index in
    let lt : c.loop-index.index < length c.args.list.now = omega arith in
    let left = over c.args.list.now c.args.others.now i c.index-list-index.result c.in-Some.other.now c.index-list-index.is lt
    c.in-Some.ensures.lookup.1 c.in-Some.ensures.lookup.3.0 in
    let no : c.formal_conforms.result ≡ false = search rules in
    sym (sym c.loop-index.invariant ∙ left
    ∙ ap (λ (b : Bool). b && formals_conform (drop (i + 1) c.args.list.now) (drop (i + 1) c.args.others.now)) (sym c.formal_conforms.ensures ∙ no))

pub loop-index-preserved : goal.loop-index-preserved
loop-index-preserved c =
    let i = c.loop-index.index in
    let lt : c.loop-index.index < length c.args.list.now = omega arith in
    let left = over c.args.list.now c.args.others.now i c.index-list-index.result c.in-Some.other.now c.index-list-index.is lt
    c.in-Some.ensures.lookup.1 c.in-Some.ensures.lookup.3.0 in
    let yes : c.formal_conforms.result ≡ true = search rules in
    sym (ap (λ (b : Bool). b && formals_conform (drop (i + 1) c.args.list.now) (drop (i + 1) c.args.others.now)) (sym c.formal_conforms.ensures ∙ yes))
    ∙ sym left ∙ c.loop-index.invariant

pub returns : goal.returns
returns c =
    let i = c.loop-index.index in
    let list_end : length c.args.list.now ≤ c.loop-index.index = omega arith in
    let others_end : length c.args.others.now ≤ c.loop-index.index = omega arith in
    sym (ended c.args.list.now c.args.others.now i list_end others_end) ∙ c.loop-index.invariant
