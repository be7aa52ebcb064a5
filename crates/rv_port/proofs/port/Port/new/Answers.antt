use Rattle.rv_port.proofs.Asked.{new_explained}
use Rattle.rv_port.proofs.Holding.{counts_new, few_new}
use Rattle.rv_port.proofs.port.Port.new.Goals as goal

pub invariant_of-result : goal.invariant_of-result
invariant_of-result c = record {
  given = c.requires.given;
  fresh = c.requires.fresh;
  limited = c.requires.limited;
  handles = c.requires.handles;
  fits = c.requires.fits;
  owns = c.requires.owns;
  counts = counts_new c.args.pass c.requires.owns c.requires.fresh c.requires.none;
  few = few_new c.args.pass.left _ c.requires.few;
}

pub invariant_of-result-2 : goal.invariant_of-result-2
invariant_of-result-2 c = λ is. new_explained c.args.pass c.requires.owns c.requires.fresh c.requires.none
