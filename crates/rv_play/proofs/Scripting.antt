-- What is told of scripts are steps of the host, which lead to legal histories.
use Rattle.std.proofs.Common.{◌≡◌, ◌≤◌, ℕ, List, [], ◌∷◌, Some, None, Option, Ok, Err, Result, true, refl, sym, ap, ◌∙◌, subst, arith}
use Rattle.std.proofs.lemmas.Bool.Decides.{nat_tests}
use Rattle.rv_event.specs.declared.entry.Answer.{Answer}
use Rattle.rv_history.specs.declared.command.Command.{Command}
use Rattle.rv_history.specs.History.{History}
use Rattle.rv_history.specs.Legal.{Legal, empty}
use Rattle.rv_history.specs.Limits.{is_queue_limit, limits_with}
use Rattle.rv_history.specs.Steps.{Steps}
use Rattle.rv_history.proofs.Stepping.{legal_after, is_due}
use Rattle.rv_text.specs.Sections.{SectionText}
use Rattle.rv_script.specs.Openings.{OpenedText, opened}
use Rattle.rv_settings.specs.Settings.{default_settings}
use Rattle.rv_fault.specs.declared.fault.ScriptFault.{ScriptFault}
use Rattle.rv_play.specs.Acts.{Act, acts_from}
use Rattle.rv_play.specs.Laws.{commands, answers, commands_onto, answers_onto}
use Rattle.rv_play.specs.declared.player.Limits.{Limits}
use Rattle.rv_play.specs.Stages.{Stage, due_answer, history_after, start}
use Rattle.rv_play.specs.Scripted.{Told, Run, tell, IsLimits, default_limits, limits_in, Plays, PlaysActs, PlaysOpened, PlaysScript}

-- Steps

one_step : (stage : Stage) (o : Option Command) (cs : List Command) (given : List Answer) (k : History) → Steps (history_after stage.history o (due_answer stage o)) cs given k
    → Steps stage.history (commands_onto o cs) (answers_onto o (due_answer stage o) given) k
one_step stage None cs given k steps = steps
one_step stage (Some c) cs given k steps = (is_due c stage.history, steps)

told_step : (stage : Stage) (t : Told) (cs : List Command) (given : List Answer) (k : History) → t ≡ tell stage t.deed → Steps t.after.history cs given k
    → Steps stage.history (commands_onto t.deed.command cs) (answers_onto t.deed.command t.answer given) k
told_step stage t cs given k e steps =
    let there = subst (λ (u : Told). Steps u.after.history cs given k) e steps in
    subst (λ (u : Told). Steps stage.history (commands_onto t.deed.command cs) (answers_onto t.deed.command u.answer given) k) (sym e)
    (one_step stage t.deed.command cs given k there)

steps_from : (stage : Stage) (acts : List Act) (told : List Told) (fault : Option ScriptFault) (last : Stage) → Plays stage acts told fault last → Steps stage.history (commands told) (answers told) last.history
steps_from stage [] [] None last plays = ap (λ (s : Stage). s.history) plays
steps_from stage [] [] (Some fault) last plays = absurd plays
steps_from stage [] (t ∷ told) fault last plays = absurd plays
steps_from stage (act ∷ acts) [] None last plays = absurd plays
steps_from stage (act ∷ acts) [] (Some fault) last plays = ap (λ (s : Stage). s.history) plays.1
steps_from stage (act ∷ acts) (t ∷ told) fault last plays = told_step stage t (commands told) (answers told) last.history plays.0.told (steps_from t.after acts told fault last plays.1)

pub plays_steps : (limits : Limits) (acts : List Act) (told : List Told) (fault : Option ScriptFault) (last : Stage) → Plays (start limits) acts told fault last → Steps (empty (limits_with limits.capacity limits.queue)) (commands told) (answers told) last.history
plays_steps limits acts told fault last plays = steps_from (start limits) acts told fault last plays

-- Legal

legal_deed : (stage : Stage) (o : Option Command) → Legal stage.history → Legal (history_after stage.history o (due_answer stage o))
legal_deed stage None legal = legal
legal_deed stage (Some c) legal = legal_after c stage.history legal

legal_told : (stage : Stage) (t : Told) → t ≡ tell stage t.deed → Legal stage.history → Legal t.after.history
legal_told stage t e legal = subst (λ (u : Told). Legal u.after.history) (sym e) (legal_deed stage t.deed.command legal)

pub legal_from : (stage : Stage) (acts : List Act) (told : List Told) (fault : Option ScriptFault) (last : Stage) → Plays stage acts told fault last → Legal stage.history → Legal last.history
legal_from stage [] [] None last plays legal = subst (λ (s : Stage). Legal s.history) (sym plays) legal
legal_from stage [] [] (Some fault) last plays legal = absurd plays
legal_from stage [] (t ∷ told) fault last plays legal = absurd plays
legal_from stage (act ∷ acts) [] None last plays legal = absurd plays
legal_from stage (act ∷ acts) [] (Some fault) last plays legal = subst (λ (s : Stage). Legal s.history) (sym plays.1) legal
legal_from stage (act ∷ acts) (t ∷ told) fault last plays legal = legal_from t.after acts told fault last plays.1 (legal_told stage t plays.0.told legal)

pub empty_legal : (limits : Limits) → is_queue_limit limits.queue ≡ true → Legal (start limits).history
empty_legal limits within = (refl, refl, within)

within_queue : (queue : ℕ) → 1 ≤ queue → queue ≤ 8 → is_queue_limit queue ≡ true
within_queue queue least most = grind (arith, nat_tests, least, most)

-- settings have queues as long as a host may have them
pub queues_fit : (settings : Option SectionText) (limits : Limits) → IsLimits settings (Ok limits) → is_queue_limit limits.queue ≡ true
queues_fit None limits is = subst (λ (l : Limits). is_queue_limit l.queue ≡ true) (sym (same limits is)) refl
  where
    same : (limits : Limits) → IsLimits None (Ok limits) → limits ≡ default_limits
    same limits is =
        let given : Ok is.0 ≡ Ok default_settings = is.1 in
        let found : is.0 ≡ default_settings = cc in
        is.2 ∙ ap limits_in found
queues_fit (Some section) limits is =
    let values = is.1.values in
    subst (λ (l : Limits). is_queue_limit l.queue ≡ true) (sym is.2) (within_queue is.0.queue_limit values.shortest values.longest)

legal_acts : (settings : Option SectionText) (limits : Result Limits ScriptFault) (acts : List Act) (run : Run) → IsLimits settings limits → PlaysActs limits acts run → Legal run.last.history
legal_acts settings (Ok limits) acts run is plays =
    legal_from (start limits) acts run.told run.fault run.last plays (empty_legal limits (queues_fit settings limits is))
legal_acts settings (Err fault) acts run is plays = subst (λ (r : Run). Legal r.last.history) (sym plays) (empty_legal default_limits refl)

legal_opened : (script : Result OpenedText ℕ) (run : Run) → PlaysOpened script run → Legal run.last.history
legal_opened (Ok script) run plays = legal_acts script.settings plays.0 (acts_from script.sections) run plays.1 plays.2
legal_opened (Err line) run plays = subst (λ (r : Run). Legal r.last.history) (sym plays) (empty_legal default_limits refl)

pub script_legal : (script : List ℕ) (run : Run) → PlaysScript script run → Legal run.last.history
script_legal script run plays = legal_opened (opened script) run plays
