use Rattle.rv_go.proofs.Keeping.{line_number}
use Rattle.rv_go.proofs.texts.Texts.asks.Goals as goal

pub line_asks-requires : goal.line_asks-requires
line_asks-requires c = line_number c.catalogue.result.now c.args.actor c.in-Line.line c.in-Line.ensures
