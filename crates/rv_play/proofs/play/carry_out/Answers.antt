use Rattle.std.proofs.Common.{◌≡◌, Some, sym, ap, ◌∙◌}
use Rattle.rv_text.specs.Sections.{SectionText}
use Rattle.rv_script.specs.declared.opening.Opening.{Opening}
use Rattle.rv_script.specs.declared.opening.Opening.TheVariants as Openings
use Rattle.rv_script.specs.Openings.{opening_of}
use Rattle.rv_fault.specs.Parts.{section_of}
use Rattle.rv_play.proofs.Performing.{unit_performed, shape_performed, list_performed, not_opened, not_played}
use Rattle.rv_play.specs.Scripted.{playing}
use Rattle.rv_play.proofs.play.carry_out.Goals as goal

pub returns-in-UnitText : goal.returns-in-UnitText
returns-in-UnitText g c =
    let section : SectionText = section_of c.args.part.now in
    let e : opening_of section.opening ≡ Some Openings.UnitText = sym c.args.part.now.opens ∙ (c.in-Some.is ∙ ap (λ (o : Opening). Some o) c.in-UnitText.is) in
    unit_performed (g.W.Write.contents c.args.writer.now) (g.W.Write.contents c.perform.new.writer) (playing c.args.player.now) (playing c.perform.new.player) c.unit_deed-deed.result c.perform.result section
    e c.perform.ensures c.unit_deed-deed.ensures

pub returns-in-Shape : goal.returns-in-Shape
returns-in-Shape g c =
    let section : SectionText = section_of c.args.part.now in
    let e : opening_of section.opening ≡ Some Openings.Shape = sym c.args.part.now.opens ∙ (c.in-Some.is ∙ ap (λ (o : Opening). Some o) c.in-Shape.is) in
    shape_performed (g.W.Write.contents c.args.writer.now) (g.W.Write.contents c.perform-in-Shape.new.writer) (playing c.args.player.now) (playing c.perform-in-Shape.new.player) c.shape_deed-deed.result c.perform-in-Shape.result section
    e c.perform-in-Shape.ensures c.shape_deed-deed.ensures

pub returns-in-AccessList : goal.returns-in-AccessList
returns-in-AccessList g c =
    let section : SectionText = section_of c.args.part.now in
    let e : opening_of section.opening ≡ Some Openings.AccessList = sym c.args.part.now.opens ∙ (c.in-Some.is ∙ ap (λ (o : Opening). Some o) c.in-AccessList.is) in
    list_performed (g.W.Write.contents c.args.writer.now) (g.W.Write.contents c.perform-in-AccessList.new.writer) (playing c.args.player.now) (playing c.perform-in-AccessList.new.player) c.list_deed-deed.result c.perform-in-AccessList.result section
    e c.perform-in-AccessList.ensures c.list_deed-deed.ensures

pub returns-in_default : goal.returns-in_default
returns-in_default g c =
    not_opened (g.W.Write.contents c.args.writer.now) (playing c.args.player.now) (section_of c.args.part.now) c.not_taken.result (sym c.args.part.now.opens ∙ c.in_default.is) c.not_taken.ensures

pub returns-in_default-opening : goal.returns-in_default-opening
returns-in_default-opening g c =
    let other = c.in_default-opening in
    not_played (g.W.Write.contents c.args.writer.now) (playing c.args.player.now) (section_of c.args.part.now) c.in-Some.opening c.not_taken-in_default-opening.result (sym c.args.part.now.opens ∙ c.in-Some.is) other.not-UnitText other.not-Shape other.not-AccessList other.not-Steps c.not_taken-in_default-opening.ensures
