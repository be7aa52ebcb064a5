use Rattle.std.proofs.Common.{length, get_or, drop, take, ◌-◌, refl, sym, ap, ◌∙◌}
use Rattle.std.proofs.lemmas.List.{take_rest}
use Rattle.rv_grants.specs.Differences.{Deciding, are_same}
use Rattle.rv_grants.proofs.Changing.{end_here, end_later}
use Rattle.rv_grants.proofs.differing.+end_among.Goals as goal

pub returns-then-are_same : goal.returns-then-are_same
returns-then-are_same t c =
    let ticks = c.args.ticks.now in
    end_later c.args.lists.one.now c.args.lists.other.now c.args.asking.now c.args.these ticks (take (length ticks - 1) (drop 1 ticks)) (get_or ticks 0 0) c.end_among.result
    c.in-len1-up.len_at_least refl (take_rest ticks 1) (sym (ap (λ (d : Deciding). are_same c.args.these d) c.deciding.ensures) ∙ sym c.are_same.ensures ∙ c.if-are_same.true) c.end_among.ensures

pub returns : goal.returns
returns t c =
    let ticks = c.args.ticks.now in
    end_here c.args.lists.one.now c.args.lists.other.now c.args.asking.now c.args.these ticks (get_or ticks 0 0)
    c.in-len1-up.len_at_least refl (sym (ap (λ (d : Deciding). are_same c.args.these d) c.deciding.ensures) ∙ sym c.are_same.ensures ∙ c.if-are_same.false)
