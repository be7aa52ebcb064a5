use Rattle.std.proofs.Common.{List, Ok, Err, refl, subst}
use Rattle.rv_settings.specs.Settings.{DeviceText}
use Rattle.rv_text.specs.Sections.{SectionText}
use Rattle.rv_run.specs.Preparing.{CarriesOutAll, LoadsDevices}
use Rattle.rv_run.proofs.opening.prepare.Goals as goal

pub returns-in-Ok : goal.returns-in-Ok
returns-in-Ok g c = (
  c.carry_out_all.new.control,
  Ok tt,
  subst (λ (sections : List SectionText). CarriesOutAll c.args.control.now c.carry_out_all.new.control sections (Ok tt)) c.of.ensures c.in-Ok.ensures,
  subst (λ (devices : List DeviceText). LoadsDevices c.carry_out_all.new.control c.load_devices.new.control c.args.line devices c.load_devices.result) c.devices.ensures c.load_devices.ensures,
)

pub returns-in-Err : goal.returns-in-Err
returns-in-Err g c = (
  c.carry_out_all.new.control,
  Err c.in-Err.failure,
  subst (λ (sections : List SectionText). CarriesOutAll c.args.control.now c.carry_out_all.new.control sections (Err c.in-Err.failure)) c.of.ensures c.in-Err.ensures,
  (refl, refl),
)
