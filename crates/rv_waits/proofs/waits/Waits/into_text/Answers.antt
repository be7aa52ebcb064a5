use Rattle.std.specs.Prelude.{string_bytes}
use Rattle.rv_waits.proofs.Looking.{all_said}
use Rattle.rv_waits.proofs.waits.Waits.into_text.Goals as goal

pub returns : goal.returns
returns c = λ filter h names follows.
    all_said filter c.args.self c.put_lasting.new.self h c.args.catalogue.now (string_bytes c.put_rows.new.self.text) names follows c.in_ok-put_lasting.ensures.text c.put_lasting.ensures.waits c.put_lasting.ensures.bodies c.put_lasting.ensures.delays c.in_ok-put_rows.ensures
