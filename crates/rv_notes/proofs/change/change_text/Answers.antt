use Rattle.std.proofs.Common.{subst}
use Rattle.std.specs.Prelude.{IfOk, string_bytes}
use Rattle.rv_notes.specs.Names.{Scene}
use Rattle.rv_notes.specs.Telling.{TellsChange}
use Rattle.rv_notes.proofs.change.change_text.Goals as goal

pub returns : goal.returns
returns c =
    subst (λ (s : Scene). IfOk c.text_over.result (λ text. TellsChange s c.args.before.now c.args.change.now (string_bytes text))) c.new-scene.ensures c.text_over.ensures
