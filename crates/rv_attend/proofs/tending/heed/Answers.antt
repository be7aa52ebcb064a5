use Rattle.std.proofs.Common.{◌≡◌, ◌∙◌, ap, sym}
use Rattle.rv_attend.specs.declared.attention.Attention.{Attention}
use Rattle.rv_staff.specs.Staffs.{Staffed}
use Rattle.rv_attend.proofs.AskedAgain.{chores_none, crew_none, heeds_behind}
use Rattle.rv_attend.proofs.Chores.{chores_later}
use Rattle.rv_attend.proofs.Growing.{later_on}
use Rattle.rv_attend.proofs.tending.heed.Goals as goal

pub returns-in-Some-clause-plain : goal.returns-in-Some-clause-plain
returns-in-Some-clause-plain g c = λ left plain.
    let none = (c.answer_word.ensures.plain (ap (λ (a : Attention). a.console) c.note_line.ensures.asked ∙ plain)).0 in absurd (cc (none, c.in-Some.is))

pub returns-in-None-clause-plain : goal.returns-in-None-clause-plain
returns-in-None-clause-plain g c = λ left plain.
    let silent = (c.answer_word.ensures.plain (ap (λ (a : Attention). a.console) c.note_line.ensures.asked ∙ plain)).1 in
    heeds_behind _ _ c.args.session.now.staff c.answer_word.new.session.staff c.tell_before.new.session.staff c.answer_request.new.session.staff _ _ _ c.args.line.now
    c.answer_request.result (ap (λ (a : Attention). a.lasting) (c.tell_before.ensures.asked ∙ c.answer_word.ensures.asked ∙ c.note_line.ensures.asked))
    c.in-None.ensures.none silent c.tell_before.ensures.chores c.tell_before.ensures.crew c.answer_request.ensures.none c.answer_request.ensures.lasting
    c.answer_request.ensures.again c.args.input.now left

pub returns-in-None-clause-chores : goal.returns-in-None-clause-chores
returns-in-None-clause-chores g c =
    chores_none c.args.session.now.staff.control c.answer_word.new.session.staff.control c.tell_before.new.session.staff c.answer_request.new.session.staff _ c.answer_request.result
    (ap (λ (s : Staffed). s.control) (sym c.in-None.ensures.none)) c.tell_before.ensures.chores c.answer_request.ensures.none

pub returns-in-None-clause-crew : goal.returns-in-None-clause-crew
returns-in-None-clause-crew g c =
    crew_none c.args.session.now.staff c.tell_before.new.session.staff c.answer_request.new.session.staff _ c.answer_request.result
    (c.tell_before.ensures.crew ∙ ap (λ (s : Staffed). s.crew) c.in-None.ensures.none) c.answer_request.ensures.none

pub returns-in-None-clause-later : goal.returns-in-None-clause-later
returns-in-None-clause-later g c =
    later_on _ _ _ (later_on _ _ _ c.answer_word.ensures.later (chores_later _ _ c.tell_before.ensures.chores)) c.answer_request.ensures.later
