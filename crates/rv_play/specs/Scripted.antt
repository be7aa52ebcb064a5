-- What a script leads to: its acts come to deeds, each is answered as is due, up to the end or to the act that a fault stands
-- against; and the text that is told of it (own).
use Rattle.std.specs.Prelude.{◌≡◌, ◌⊎◌, ℕ, Bool, true, false, if◌then◌else◌, List, [], ◌∷◌, ◌++◌, length, is_some, OnOk}
use Rattle.std.specs.Prelude.{Option, Some, None, Result, Ok, Err}
use Rattle.std.specs.List.{flat_map}
use Rattle.rv_text.specs.Sections.{SectionText}
use Rattle.rv_access.specs.Text.{list_text}
use Rattle.rv_event.specs.Recorded.{recorded}
use Rattle.rv_event.specs.Text.{entry_line, unrecorded_line}
use Rattle.rv_event.specs.declared.entry.Entry.TheVariants.{Asked, Load, ListChange}
use Rattle.rv_event.specs.declared.entry.Answer.{Answer}
use Rattle.rv_event.specs.declared.entry.Recorded.{Recorded}
use Rattle.rv_history.specs.declared.command.Command.{Command}
use Rattle.rv_history.specs.declared.command.Command.TheVariants as Commands
use Rattle.rv_history.specs.History.{History, force}
use Rattle.rv_script.specs.Openings.{OpenedText, opened}
use Rattle.rv_settings.specs.Settings.{SettingsText, default_settings}
use Rattle.rv_fault.specs.declared.failure.Failure.{Failure}
use Rattle.rv_fault.specs.declared.failure.Failure.TheVariants.{Refused, Memory, Io}
use Rattle.rv_fault.specs.declared.fault.What.TheVariants as Whats
use Rattle.rv_fault.specs.declared.fault.ScriptFault.{ScriptFault}
use Rattle.rv_fault.specs.Sections.{GivesSettings, line_of as settings_line}
use Rattle.rv_fault.specs.Written.{Known, Ended, Outcome, Puts}
use Rattle.rv_play.specs.Acts.{Act, acts_from, line_of}
use Rattle.rv_go.specs.Texts.{texts_view}
use Rattle.rv_play.specs.declared.player.Limits.{Limits}
use Rattle.rv_play.specs.declared.player.Player.{Player}
use Rattle.rv_play.specs.Stages.{DeedText, Stage, start, due_answer, after_deed}
use Rattle.rv_play.specs.Deeds.{ComesToDeed, words_of}
use Rattle.rv_history.specs.Journal.{journal_text, newest_line}

-- Acts

-- what was asked, what was answered, and the stage after it
pub record Told : Type 0 where
  pub deed : DeedText
  pub answer : Answer
  pub after : Stage

-- what is told of a deed at a stage: its due answer, and where that leads
abbrev pub tell : Stage → DeedText → Told
tell stage deed =
    let answer = due_answer stage deed.command in
    record { deed = deed; answer = answer; after = after_deed stage deed answer }

-- an act comes to a deed, and that is told
pub record Asks (stage : Stage) (act : Act) (t : Told) : Type 0 where
  pub comes : ComesToDeed stage act (Ok t.deed)
  pub told : t ≡ tell stage t.deed

-- this fault stands against an act
pub record Stands (stage : Stage) (act : Act) (fault : ScriptFault) : Type 0 where
  pub comes : ComesToDeed stage act (Err fault.what)
  pub line : fault.line ≡ line_of act

-- from a stage acts are told one after another, and lead to another stage; a fault stands against the act behind those
abbrev pub Plays : Stage → List Act → List Told → Option ScriptFault → Stage → Type 0
Plays stage [] [] None last = last ≡ stage
Plays stage [] [] (Some fault) last = ⊥
Plays stage [] (t ∷ told) fault last = ⊥
Plays stage (act ∷ acts) [] None last = ⊥
Plays stage (act ∷ acts) [] (Some fault) last = Stands stage act fault × (last ≡ stage)
Plays stage (act ∷ acts) (t ∷ told) fault last = Asks stage act t × Plays t.after acts told fault last

-- Scripts

-- what was told, the fault that stopped it, and the stage that it led to
pub record Run : Type 0 where
  pub told : List Told
  pub fault : Option ScriptFault
  pub last : Stage

-- the limits that settings set
abbrev pub limits_in : SettingsText → Limits
limits_in settings = record { capacity = settings.capacity; queue = settings.queue_limit; budget = settings.budget }

abbrev pub default_limits : Limits
default_limits = limits_in default_settings

-- the limits of a run: those of its settings, or what stands against them
abbrev pub IsLimits : Option SectionText → Result Limits ScriptFault → Type 0
IsLimits section (Ok limits) = (settings : SettingsText) × GivesSettings section (Ok settings) × (limits ≡ limits_in settings)
IsLimits section (Err fault) = GivesSettings section (Err fault.what) × (fault.line ≡ settings_line section)

-- a call gives what there is, unless memory ran out
abbrev pub ReadsLimits : Option SectionText → Result Limits Failure → Type 0
ReadsLimits settings (Ok limits) = IsLimits settings (Ok limits)
ReadsLimits settings (Err (Refused fault)) = IsLimits settings (Err fault)
ReadsLimits settings (Err Memory) = Unit {0}
ReadsLimits settings (Err (Io error)) = ⊥

-- acts are played from the beginning
abbrev pub PlaysActs : Result Limits ScriptFault → List Act → Run → Type 0
PlaysActs (Ok limits) acts run = Plays (start limits) acts run.told run.fault run.last
PlaysActs (Err fault) acts run = run ≡ record { told = []; fault = Some fault; last = start default_limits }

-- the sections of a script are played; text before the first stands against it
abbrev pub PlaysOpened : Result OpenedText ℕ → Run → Type 0
PlaysOpened (Ok script) run = (limits : Result Limits ScriptFault) × IsLimits script.settings limits × PlaysActs limits (acts_from script.sections) run
PlaysOpened (Err line) run = PlaysActs (Err (record { line = line; what = Whats.BadSection })) [] run

-- what a script leads to
abbrev pub PlaysScript : List ℕ → Run → Type 0
PlaysScript script run = PlaysOpened (opened script) run

-- its first acts, no fault standing against them
abbrev pub BeginsOpened : Result OpenedText ℕ → Run → Type 0
BeginsOpened (Ok script) run =
    (limits : Limits) × IsLimits script.settings (Ok limits)
    × (done rest : List Act) × (acts_from script.sections ≡ done ++ rest) × Plays (start limits) done run.told None run.last
BeginsOpened (Err line) run = ⊥

-- Texts

-- the line of what was answered: that of its entry, or, where all is asked for, the one that no entry has
abbrev pub told_line : Bool → Told → List ℕ
told_line all t =
    if is_some (recorded t.answer) then newest_line t.after.history
    else if all then unrecorded_line t.after.history.shapes t.deed.actor (words_of t.after.history.shapes t.deed) t.answer
    else []

-- the lines of all that was answered
abbrev pub told_text : Bool → List Told → List ℕ
told_text all told = flat_map (told_line all) told

-- the text of a run: its journal, or, where all is asked for, a line for each answer
abbrev pub text_of : Bool → Run → List ℕ
text_of false run = journal_text run.last.history
text_of true run = told_text true run.told

-- what there is to write of a script; before a failure nothing or the text of some first acts
abbrev pub outcome_of : Bool → List ℕ → Outcome
outcome_of all script = record {
  Is = λ text fault. (run : Run) × PlaysScript script run × (run.fault ≡ fault) × (text ≡ text_of all run);
  Begins = λ text. (text ≡ []) ⊎ ((run : Run) × BeginsOpened (opened script) run × (text ≡ text_of all run));
}

-- Playing

-- a player: whether all is told, and the stage
pub record Playing : Type 0 where
  pub all : Bool
  pub stage : Stage

abbrev pub playing : Player → Playing
playing player = record { all = player.all; stage = record { history = player.host; texts = texts_view player.texts } }

-- the line of the newest entry, which this command led to
abbrev pub command_line : History → Command → Recorded → List ℕ
command_line h (Commands.Ask actor request) word = entry_line h.shapes (length h.past) (Asked actor request word) [] []
command_line h (Commands.Load shape) word = entry_line h.shapes (length h.past) Load shape.name []
command_line h (Commands.Change change) word = entry_line h.shapes (length h.past) ListChange [] (list_text (force h))

-- the same of a deed
abbrev pub entry_told : History → Option Command → Recorded → List ℕ
entry_told h None word = []
entry_told h (Some command) word = command_line h command word

-- the line of a deed that was answered so and led to this history
abbrev pub by_answer : Bool → History → DeedText → Answer → Option Recorded → List ℕ
by_answer all h deed answer (Some word) = entry_told h deed.command word
by_answer all h deed answer None = if all then unrecorded_line h.shapes deed.actor (words_of h.shapes deed) answer else []

abbrev pub line_told : Bool → History → DeedText → Answer → List ℕ
line_told all h deed answer = by_answer all h deed answer (recorded answer)

-- how something ended, whatever it gave
abbrev pub ended : {A : Type 0} → Result A Failure → Ended
ended (Ok x) = Ok tt
ended (Err failure) = Err failure

-- a deed was answered as is due, and its line is written
pub record Does (old new : Known) (p q : Playing) (deed : DeedText) (result : Ended) : Type 0 where
  pub text : Puts old new (told_line p.all (tell p.stage deed)) result
  pub player : OnOk result (q ≡ record p { stage = (tell p.stage deed).after })
