-- The files that a run writes beside its journal, by the words of `run`, and those of a journal that `audit` judges. (own)
use Rattle.std.specs.Prelude.{◌≡◌, ℕ, Bool, true, false, ◌||◌, if◌then◌else◌, List, [], codes, Option, Some, None, is_some, option_map, unwrap_or}
use Rattle.std.specs.Str.{bytes_eq}
use Rattle.clap.specs.Walk.{Row, Text, all_of, first_of}
use Rattle.clap.specs.Words.{subcommand_of}
use Rattle.rv_choice.specs.Choices.{number_of, program}
use Rattle.rv_choice.specs.declared.files.FileWords.{FileWords}

-- the most that a file of a journal may be told to have, in MiB
abbrev pub most_mebibytes : ℕ
most_mebibytes = 1048576

-- How many MiB a file of the journal has at most, where it has several; the file of the units, and that of the times.
pub record FileTexts : Type 0 where
  pub rotate : Option ℕ
  pub units : Option Text
  pub times : Option Text

-- the same, of the program's own
abbrev pub texts_of : FileWords → FileTexts
texts_of files = record {
  rotate = files.rotate;
  units = option_map (λ n. n.now) files.units;
  times = option_map (λ n. n.now) files.times;
}

-- none of that
abbrev pub no_texts : FileTexts
no_texts = record { rotate = None; units = None; times = None }

-- some of that
abbrev pub has_any : FileTexts → Bool
has_any files = is_some files.rotate || (is_some files.units || is_some files.times)

-- by what `run` is given: each goes with the file of a journal
pub record AreBeside (rows : List Row) (files : FileTexts) : Type 0 where
  pub rotate : number_of most_mebibytes (first_of (codes "rotate") rows) ≡ Some files.rotate
  pub units : files.units ≡ first_of (codes "keep-units") rows
  pub times : files.times ≡ first_of (codes "times") rows
  pub journal : has_any files ≡ true → is_some (first_of (codes "journal") rows) ≡ true

-- these are none where no `run` is given them
abbrev pub AreGivenTo : (runs : Bool) → List Row → FileTexts → Type 0
AreGivenTo true rows files = AreBeside rows files
AreGivenTo false rows files = files ≡ no_texts

abbrev pub AreGiven : Text × List Row → FileTexts → Type 0
AreGiven found files = AreGivenTo (bytes_eq found.0 (codes "run")) found.1 files

-- the files are those that the words of a command line say
abbrev pub AreFiles : List Text → FileTexts → Type 0
AreFiles words files = (found : Text × List Row) → subcommand_of program words ≡ Some found → AreGiven found files

-- the files of the journal that `audit` is given, in order
abbrev pub journals_in : List Row → List Text
journals_in rows = unwrap_or (all_of (codes "journal") rows) []

abbrev pub judged_of : Text × List Row → List Text
judged_of found = if bytes_eq found.0 (codes "audit") then journals_in found.1 else []

abbrev pub AreJournals : List Text → List Text → Type 0
AreJournals words names = (found : Text × List Row) → subcommand_of program words ≡ Some found → names ≡ judged_of found
