use Rattle.std.proofs.Common.{List, Ok, Err, refl, subst}
use Rattle.rv_code.specs.declared.unit.Unit.{Unit as Compiled}
use Rattle.rv_fault.specs.Sections.{GivesUnit, Reads}
use Rattle.rv_script.specs.UnitTexts.{without_returns}
use Rattle.rv_shape.specs.Shape.{Shape}
use Rattle.rv_run.proofs.loads.load_section.Goals as goal

pub returns-in-Ok : goal.returns-in-Ok
returns-in-Ok g c = (
  Ok c.in-Ok.unit,
  subst (λ (shapes : List Shape). GivesUnit shapes (without_returns c.args.text.now) (Ok c.in-Ok.unit)) c.catalogue.ensures c.in-Ok.ensures,
  (c.load_or_shape.result, c.load_or_shape.ensures, c.heard.ensures),
)

pub returns-in-Err : goal.returns-in-Err
returns-in-Err g c = (
  Err c.in-Err.failure,
  subst (λ (shapes : List Shape). Reads {A = Compiled} c.args.line (GivesUnit shapes (without_returns c.args.text.now)) (Err c.in-Err.failure)) c.catalogue.ensures c.in-Err.ensures,
  (refl, refl),
)
