-- What is told of the sections of a whole script.
use Rattle.std.proofs.Common.{◌≡◌, ◌+◌, inl, inr, ℕ, Bool, true, false, List, [], ◌∷◌, ◌++◌, Some, None, Option, Ok, Err, Result, refl, sym, ap, ◌∙◌, subst}
use Rattle.std.specs.Str.Lines.{lines}
use Rattle.rv_text.specs.Sections.{SectionText}
use Rattle.rv_shape.specs.Shape.{Shape}
use Rattle.rv_shape.specs.ShapeText.{shape_of}
use Rattle.rv_shape.specs.Fits.{fault}
use Rattle.rv_shape.specs.declared.fault.ShapeFault.{ShapeFault}
use Rattle.rv_shape.specs.declared.fault.ShapeFault.TheVariants as Shapes
use Rattle.rv_settings.specs.Settings.{DeviceText, SettingsText}
use Rattle.rv_script.specs.Openings.{OpenedText, opened}
use Rattle.rv_fault.specs.declared.failure.Failure.{Failure}
use Rattle.rv_fault.specs.declared.failure.Failure.TheVariants.{Refused, Memory, Io}
use Rattle.rv_fault.specs.declared.fault.What.{What}
use Rattle.rv_fault.specs.declared.fault.What.TheVariants as Whats
use Rattle.rv_fault.specs.declared.fault.ScriptFault.{ScriptFault}
use Rattle.rv_fault.specs.Sections.{GivesSettings, Just, Reads, if_shape, line_of}
use Rattle.rv_fault.specs.Written.{Writes}
use Rattle.rv_fault.proofs.Readings.{shape_there}
use Rattle.rv_check.specs.declared.purpose.Purpose.{Purpose}
use Rattle.rv_check.specs.Checks.{TellsAll, WritesOne, shape_line}
use Rattle.rv_check.specs.CommandLines.{CountsCommands, TakesAll, before_commands}
use Rattle.rv_check.specs.DeviceFaults.{LoadsAll, devices_fault, with_devices}
use Rattle.rv_check.specs.declared.purpose.Role.{Role}
use Rattle.rv_check.specs.Purposes.{role_in, purpose_of}
use Rattle.rv_check.specs.ScriptLines.{lines_behind}
use Rattle.rv_check.specs.Scripts.{OfRole, OfRun, OfSteps, as_given, commands_line, fitted, judged, judging, outcome_of_whole, outcome_when}
use Rattle.rv_check.specs.StepFaults.{CountsSteps}
use Rattle.rv_check.proofs.Checked.{sections_told}
use Rattle.rv_check.proofs.Checking.{unread_told}

-- what is told of a section in this role, as in that which its opening has
pub as_role : (old new : Option (List ℕ)) (role : Role) (purpose : Purpose) (shapes after : List Shape) (section : SectionText) (r : Result (Unit {0}) Failure) → role ≡ role_in purpose section → WritesOne old new (OfRole role shapes after section) r
    → WritesOne old new (OfRole (role_in purpose section) shapes after section) r
as_role old new role purpose shapes after section r e h = subst (λ (x : Role). WritesOne old new (OfRole x shapes after section) r) e h

-- what stands against steps is told
pub steps_told : (shapes : List Shape) (section : SectionText) (old : Option (List ℕ)) (e : Failure) → (let r : Result ℕ Failure = Err e in CountsSteps shapes (section.line + 1) (lines section.text) r)
    → let r : Result (Unit {0}) Failure = Err e in WritesOne old old (OfSteps shapes section) r
steps_told shapes section old (Refused told) h = ((h, refl), refl)
steps_told shapes section old Memory h = inl refl
steps_told shapes section old (Io error) h = absurd h

-- a text for an audit that is no shape
pub given_unread : (shapes after : List Shape) (text : List ℕ) (old : Option (List ℕ)) (line : ℕ) (e : Failure) → (let read : Result Shape Failure = Err e in Reads line (Just (if_shape (shape_of text))) read)
    → let r : Result (Unit {0}) Failure = Err e in WritesOne old old (as_given shapes after line (shape_of text)) r
given_unread shapes after text old line e read = unread_told (Just (if_shape (shape_of text))) (as_given shapes after line (shape_of text)) old line e (λ what given. by_shape what (shape_of text) given) read
  where
    by_shape : (what : What) (read : Option Shape) → Just (if_shape read) (Err what) → as_given shapes after line read [] (Some (record { line = line; what = what }))
    by_shape what (Some other) same = absurd cc
    by_shape what None same = let e : what ≡ Whats.Shape Shapes.BadText = cc in (refl, ap (λ (w : What). let f : ScriptFault = record { line = line; what = w } in Some f) e)

-- a shape for an audit that is said
pub given_said : (shapes after : List Shape) (text : List ℕ) (shape : Shape) (line : ℕ) → Just (if_shape (shape_of text)) (Ok shape) → after ≡ fitted (fault shapes shape) shapes shape → as_given shapes after line (shape_of text) (shape_line shape.name) None
given_said shapes after text shape line read e =
    subst (λ (o : Option Shape). as_given shapes after line o (shape_line shape.name) None) (sym (shape_there text shape read)) (refl, refl, e)

-- it stands behind the others where it fits, and is left out where it doesn't
pub fits_behind : (shapes after : List Shape) (shape : Shape) (found : Option ShapeFault) → found ≡ fault shapes shape → found ≡ None → after ≡ shapes ++ shape ∷ [] → after ≡ fitted (fault shapes shape) shapes shape
fits_behind shapes after shape found same none e = subst (λ (o : Option ShapeFault). after ≡ fitted o shapes shape) (sym none ∙ same) e

pub left_out : (shapes : List Shape) (shape : Shape) (found : Option ShapeFault) (told : ShapeFault) → found ≡ fault shapes shape → found ≡ Some told → shapes ≡ fitted (fault shapes shape) shapes shape
left_out shapes shape found told same some = subst (λ (o : Option ShapeFault). shapes ≡ fitted o shapes shape) (sym some ∙ same) refl

-- what stands against devices is told
pub devices_told : (line : ℕ) (devices : List DeviceText) (shapes after : List Shape) (section : SectionText) (others : List SectionText) (old : Option (List ℕ)) (e : Failure) → (let r : Result (Unit {0}) Failure = Err e in LoadsAll line shapes after devices r)
    → let r : Result (Unit {0}) Failure = Err e in WritesOne old old (OfRun line devices shapes section others) r
devices_told line devices shapes after section others old (Refused told) h = ((refl, inl h), refl)
devices_told line devices shapes after section others old Memory h = inl refl
devices_told line devices shapes after section others old (Io error) h = absurd h

-- commands are counted
pub commands_said : (line count : ℕ) (devices : List DeviceText) (shapes after : List Shape) (section : SectionText) (others : List SectionText) → (devices_fault shapes devices ≡ None) × (after ≡ with_devices shapes devices)
    → TakesAll (before_commands after) (lines_behind section others) count None → OfRun line devices shapes section others (commands_line count) None
commands_said line count devices shapes after section others loaded takes =
    (loaded.0, count, subst (λ (ss : List Shape). TakesAll (before_commands ss) (lines_behind section others) count None) loaded.1 takes, refl)

-- what stands against them is told
pub commands_told : (line : ℕ) (devices : List DeviceText) (shapes after : List Shape) (section : SectionText) (others : List SectionText) (old : Option (List ℕ)) (e : Failure) → (devices_fault shapes devices ≡ None) × (after ≡ with_devices shapes devices)
    → (let r : Result ℕ Failure = Err e in CountsCommands after (lines_behind section others) r) → let r : Result (Unit {0}) Failure = Err e in WritesOne old old (OfRun line devices shapes section others) r
commands_told line devices shapes after section others old (Refused told) loaded h =
    ((refl, inr (loaded.0, h.0, subst (λ (ss : List Shape). TakesAll (before_commands ss) (lines_behind section others) h.0 (Some told)) loaded.1 h.1)), refl)
commands_told line devices shapes after section others old Memory loaded h = inl refl
commands_told line devices shapes after section others old (Io error) loaded h = absurd h

-- the sections behind the settings
pub judged_told : (script : List ℕ) (old new : Option (List ℕ)) (whole : OpenedText) (settings : SettingsText) (purpose : Purpose) (line : ℕ) (devices : List DeviceText) (r : Result (Unit {0}) Failure) → opened script ≡ Ok whole → GivesSettings whole.settings (Ok settings)
    → purpose ≡ purpose_of whole.sections → line ≡ line_of whole.settings → devices ≡ settings.devices → TellsAll (judging purpose line devices) old new whole.sections r → Writes old new (outcome_of_whole script) r
judged_told script old new whole settings purpose line devices r is given p l d h =
    sections_told judged script old new whole settings r is given
    (subst (λ (x : Purpose). TellsAll (judging x (line_of whole.settings) settings.devices) old new whole.sections r) p
    (subst (λ (x : ℕ). TellsAll (judging purpose x settings.devices) old new whole.sections r) l
    (subst (λ (x : List DeviceText). TellsAll (judging purpose line x) old new whole.sections r) d h)))

-- nothing is written yet
pub nothing_begins : (is_whole : Bool) (script : List ℕ) → (outcome_when is_whole script).Begins []
nothing_begins true script = inl refl
nothing_begins false script = inl refl
