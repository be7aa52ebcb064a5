use Rattle.std.proofs.Common.{◌<◌, ◌^◌, length, ap, sym, subst, rules}
use Rattle.rv_script.specs.Openings.{OpenedText, AreNumbered}
use Rattle.rv_script.proofs.Numbered.{opened_numbered}
use Rattle.rv_script.proofs.opening.open.Goals as goal

pub returns-in-None-clause-numbered : goal.returns-in-None-clause-numbered
returns-in-None-clause-numbered c =
    let script = c.args.script.now in
    let short : length script < 2 ^ 63 = search rules in
    subst AreNumbered (ap (λ (o : OpenedText). o.sections) (sym c.parted.ensures)) (opened_numbered script short)
