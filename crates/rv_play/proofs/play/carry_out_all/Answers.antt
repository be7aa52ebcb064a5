use Rattle.std.proofs.Common.{◌≡◌, List, [], ◌∷◌, ◌++◌, Ok, ap, sym, ◌∙◌, refl, append_assoc}
use Rattle.std.proofs.lemmas.Result.{err_from_is_err_and}
use Rattle.rv_text.specs.Sections.{SectionText}
use Rattle.rv_fault.specs.Parts.{section_of}
use Rattle.rv_play.specs.Acts.{Act, section_acts, acts_from}
use Rattle.rv_play.proofs.Carrying.{carries_nothing, carries_then, carries_fails}
use Rattle.rv_play.specs.Scripted.{playing}
use Rattle.rv_play.proofs.play.carry_out_all.Goals as goal

-- the parts that are left, with the first of them
with_first : (done : List Act) (old : List SectionText) (section : SectionText) (new : List SectionText) (whole : List Act) → old ≡ section ∷ new → done ++ acts_from old ≡ whole → done ++ (section_acts section ++ acts_from new) ≡ whole
with_first done old section new whole e same = ap (λ (ss : List SectionText). done ++ acts_from ss) (sym e) ∙ same

pub each-init : goal.each-init
each-init g c = record { done = []; all_acts = refl; carried = carries_nothing _ _ }

pub each-preserved : goal.each-preserved
each-preserved g c =
    let inv = c.each.invariant in
    let section : SectionText = section_of c.in-Some.part in
    let first = c.in-Some.ensures.first in
    let now : List Act = section_acts section in
    record {
      done = inv.done ++ now;
      all_acts =
          append_assoc inv.done now (acts_from c.next_part.new.self)
          ∙ with_first inv.done c.each.parts section c.next_part.new.self _ first inv.all_acts;
      carried = carries_then _ _ (g.W.Write.contents c.carry_out.new.writer) _ _ (playing c.carry_out.new.player) inv.done now (Ok tt) inv.carried c.in_ok-carry_out.ensures;
    }

pub returns-in_err-carry_out : goal.returns-in_err-carry_out
returns-in_err-carry_out g c =
    let p = err_from_is_err_and c.from_residual.result c.from_residual.ensures.1 in
    let inv = c.each.invariant in
    let section : SectionText = section_of c.in-Some.part in
    rw (p.1, p.2) (carries_fails _ _ _ _ _ (playing c.carry_out.new.player) inv.done (section_acts section) (acts_from c.next_part.new.self) _ _ inv.carried c.in_err-carry_out.ensures
    (with_first inv.done c.each.parts section c.next_part.new.self _ c.in-Some.ensures.first inv.all_acts))
