use Rattle.std.proofs.Common.{refl}
use Rattle.rv_text.specs.Sections.{SectionText}
use Rattle.rv_fault.specs.Parts.{section_of}
use Rattle.rv_check.specs.Checks.{checking}
use Rattle.rv_check.proofs.Checked.{at_first, one_said, stopped, all_said}
use Rattle.rv_check.proofs.check.check_parts.Goals as goal

pub each-preserved : goal.each-preserved
each-preserved g c =
    let section : SectionText = section_of c.in-Some.part in
    one_said checking (g.W.Write.contents c.args.writer.now) (g.W.Write.contents c.each.writer) (g.W.Write.contents c.check_part.new.writer) c.each.catalogue c.check_part.new.catalogue section c.each.parts c.next_part.new.self c.args.parts
    refl c.in-Some.ensures.first c.each.invariant c.in-Ok.ensures

pub returns-in-Err : goal.returns-in-Err
returns-in-Err g c =
    let section : SectionText = section_of c.in-Some.part in
    stopped checking (g.W.Write.contents c.args.writer.now) (g.W.Write.contents c.each.writer) (g.W.Write.contents c.check_part.new.writer) c.each.catalogue c.check_part.new.catalogue section c.each.parts c.next_part.new.self c.args.parts
    c.in-Err.failure refl c.in-Some.ensures.first c.each.invariant c.in-Err.ensures

pub returns : goal.returns
returns g c =
    all_said checking (g.W.Write.contents c.args.writer.now) (g.W.Write.contents c.each.writer) c.each.catalogue c.each.parts c.args.parts
    c.in_default.ensures.none.0 c.each.invariant

pub each-init : goal.each-init
each-init g c =
    at_first checking (g.W.Write.contents c.args.writer.now) c.new-catalogue.result c.args.parts c.new-catalogue.ensures
