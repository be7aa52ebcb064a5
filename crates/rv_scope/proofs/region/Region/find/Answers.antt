use Rattle.std.proofs.Common.{◌∙◌, sym}
use Rattle.rv_text.specs.Names.{is_same_name}
use Rattle.rv_scope.proofs.Regions.{value_there}
use Rattle.rv_scope.proofs.region.Region.find.Goals as goal

pub returns-in-Some : goal.returns-in-Some
returns-in-Some c =
    c.meaning_at.ensures ∙ sym (value_there (is_same_name c.args.name.now) c.args.self.now c.in-Some.index (sym c.in-Some.ensures))
