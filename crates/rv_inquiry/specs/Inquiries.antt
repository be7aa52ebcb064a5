-- The command line of `ravenreview` (own): each subcommand may be given `--journal FILE` and, with it, `--torn`, and `--times FILE`; `refusals`, `waits`,
-- `hits` and `whatif` also `--since WHEN`, these and `access` and `timeline` `--by CALLER` and `--of CALLED`, `who` the word CALLED,
-- `access` and `who` `--json`, `access` also `--against LIST`, and `timeline` `--from N`, `--to N` and `--text` or `--svg`. `state` and `explain` must be given a number N,
-- and `whatif` a LIST. What words come to is what `clap` says of this command.
use Rattle.std.specs.Prelude.{◌≡◌, ℕ, ℤ, Bool, true, false, ◌==◌, nat_lt, if◌then◌else◌, List, Option, Some, None, codes, option_map, length}
use Rattle.std.specs.List.{after_first, before_first, position_or_len}
use Rattle.std.specs.Borrow.{Bor}
use Rattle.std.specs.Str.{bytes_eq}
use Rattle.clap.specs.Words.{App, Row, Rule, new_app, new_rule, subcommand_of, with_rule, with_subcommand}
use Rattle.clap.specs.Simple.{on_top}
use Rattle.clap.specs.Walk.{Text, first_of, one_of}
use Rattle.clap.specs.declared.builder.action.ArgAction.TheVariants.{Set, SetTrue}
use Rattle.rv_text.specs.Numbers.{natural_of}
use Rattle.rv_times.specs.Times.{instant}
use Rattle.rv_inquiry.specs.declared.inquiry.From.{From}
use Rattle.rv_inquiry.specs.declared.inquiry.From.TheVariants as Froms
use Rattle.rv_inquiry.specs.declared.inquiry.Inquiry.{Inquiry}
use Rattle.rv_inquiry.specs.declared.inquiry.Question.{Question}
use Rattle.rv_inquiry.specs.declared.inquiry.Question.TheVariants as Questions

-- a flag
abbrev pub flag_rule : Text → Rule
flag_rule name = record (new_rule name) { long = Some name; action = Some SetTrue }

-- a flag with a value
abbrev pub value_rule : Text → Rule
value_rule name = record (new_rule name) { long = Some name; action = Some Set; value_names = 1 }

-- a word that is no flag
abbrev pub word_rule : Text → Rule
word_rule name = record (new_rule name) { action = Some Set; value_names = 1 }

-- one that must be given
abbrev pub needed_rule : Text → Rule
needed_rule name = record (word_rule name) { required = true }

-- another list, by a flag of its own
abbrev pub list_rule : Rule
list_rule = record (value_rule (codes "list")) { long = Some (codes "against") }

-- each may be given a file, that its end was cut off, and by when its entries were written
abbrev pub with_journal : App → App
with_journal app = with_rule (with_rule (with_rule app (value_rule (codes "journal"))) (flag_rule (codes "torn"))) (value_rule (codes "times"))

-- and whose calls, and calls of what, are asked for
abbrev pub with_filter : App → App
with_filter app = with_rule (with_rule app (value_rule (codes "by"))) (value_rule (codes "of"))

-- of entries also since when
abbrev pub filtered_app : Text → App
filtered_app name = with_filter (with_rule (with_journal (new_app name)) (value_rule (codes "since")))

-- the first and the last entry of what is shown
abbrev pub with_span : App → App
with_span app = with_rule (with_rule app (value_rule (codes "from"))) (value_rule (codes "to"))

-- and its form
abbrev pub with_forms : App → App
with_forms app = with_rule (with_rule app (flag_rule (codes "text"))) (flag_rule (codes "svg"))

-- that rows are JSON
abbrev pub with_json : App → App
with_json app = with_rule app (flag_rule (codes "json"))

abbrev pub access_app : App
access_app = with_json (with_rule (with_filter (with_journal (new_app (codes "access")))) list_rule)

abbrev pub who_app : App
who_app = with_json (with_rule (with_journal (new_app (codes "who"))) (word_rule (codes "of")))

-- of one entry its number
abbrev pub entry_app : Text → App
entry_app name = with_rule (with_journal (new_app name)) (needed_rule (codes "entry"))

abbrev pub what_if_app : App
what_if_app = with_rule (filtered_app (codes "whatif")) (needed_rule (codes "list"))

abbrev pub timeline_app : App
timeline_app = with_forms (with_span (with_filter (with_journal (new_app (codes "timeline")))))

abbrev pub export_app : App
export_app = with_journal (new_app (codes "export"))

-- the name by which each question is asked
abbrev pub name_of : Question → Text
name_of Questions.Refusals = codes "refusals"
name_of Questions.Waits = codes "waits"
name_of Questions.Access = codes "access"
name_of Questions.Who = codes "who"
name_of Questions.State = codes "state"
name_of Questions.Explain = codes "explain"
name_of Questions.Hits = codes "hits"
name_of Questions.WhatIf = codes "whatif"
name_of Questions.Timeline = codes "timeline"
name_of Questions.Export = codes "export"

-- the program, of which one subcommand must be named
abbrev pub versioned : App
versioned = on_top (λ s. record s { has_version = true }) (new_app (codes "ravenreview"))

abbrev pub alone : App
alone = on_top (λ s. record s { subcommand_required = true }) versioned

abbrev pub of_entries : App
of_entries = with_subcommand (with_subcommand alone (filtered_app (codes "refusals")).top) (filtered_app (codes "waits")).top

abbrev pub of_rights : App
of_rights = with_subcommand (with_subcommand of_entries access_app.top) who_app.top

abbrev pub of_lines : App
of_lines = with_subcommand (with_subcommand of_rights (filtered_app (codes "hits")).top) what_if_app.top

abbrev pub of_one : App
of_one = with_subcommand (with_subcommand (with_subcommand of_lines (entry_app (codes "state")).top) (entry_app (codes "explain")).top) timeline_app.top

abbrev pub program : App
program = with_subcommand of_one export_app.top

-- the text of a flag, as a flag; a subcommand without that flag has it not
abbrev pub IsFlag : Option Text → Bool → Type 0
IsFlag text flag =
    (text ≡ None → flag ≡ false) × (text ≡ Some (codes "true") → flag ≡ true) × (text ≡ Some (codes "false") → flag ≡ false)

-- since when, by the two parts of a word: `entry` or `tick`, and a number
abbrev pub from_parts : Text → Option ℕ → Option From
from_parts kind None = None
from_parts kind (Some number) =
    if bytes_eq kind (codes "entry") then Some (Froms.Entry number)
    else if bytes_eq kind (codes "tick") then Some (Froms.Tick number)
    else None

abbrev pub is_colon : ℕ → Bool
is_colon byte = byte == 58

-- the parts stand on both sides of the first colon
abbrev pub from_word : Text → Option From
from_word word =
    if nat_lt (position_or_len is_colon word) (length word)
    then from_parts (before_first is_colon word) (natural_of (after_first is_colon word))
    else None

-- since an instant, in nanoseconds since 1970
abbrev pub from_instant : Option ℤ → Option From
from_instant None = None
from_instant (Some at) = Some (Froms.Instant at)

-- another word is an instant, as RFC 3339 has it
abbrev pub or_instant : Option From → Text → Option From
or_instant None word = from_instant (instant word)
or_instant (Some from) word = Some from

-- since when, by the word that is given, if it is one of these
abbrev pub from_of : Option Text → Option From
from_of None = Some Froms.Start
from_of (Some word) = or_instant (from_word word) word

-- the number of an entry, by the word that is given, if it is one
abbrev pub number_of : Option Text → Option (Option ℕ)
number_of None = Some None
number_of (Some word) = option_map (λ (n : ℕ). Some n) (natural_of word)

abbrev pub text_in : Option (Bor Text) → Option Text
text_in word = option_map (λ (w : Bor Text). w.now) word

-- what a subcommand was given is asked
pub record IsGiven (rows : List Row) (asked : Inquiry) : Type 0 where
  pub journal : text_in asked.journal ≡ first_of (codes "journal") rows
  pub times : text_in asked.times ≡ first_of (codes "times") rows
  pub torn : IsFlag (one_of (codes "torn") rows) asked.takes_torn
  pub since : from_of (first_of (codes "since") rows) ≡ Some asked.since
  pub by : text_in asked.by ≡ first_of (codes "by") rows
  pub of : text_in asked.of ≡ first_of (codes "of") rows
  pub entry : number_of (first_of (codes "entry") rows) ≡ Some asked.entry
  pub list : text_in asked.list ≡ first_of (codes "list") rows
  pub first : number_of (first_of (codes "from") rows) ≡ Some asked.first
  pub last : number_of (first_of (codes "to") rows) ≡ Some asked.last
  pub svg : IsFlag (one_of (codes "svg") rows) asked.is_svg
  pub json : IsFlag (one_of (codes "json") rows) asked.is_json

-- a subcommand with what it was given is asked
abbrev pub IsInquiry : Text × List Row → Inquiry → Type 0
IsInquiry found asked = (found.0 ≡ name_of asked.question) × IsGiven found.1 asked

-- so it is of words
abbrev pub Asks : List Text → Inquiry → Type 0
Asks words asked = (found : Text × List Row) × (subcommand_of program words ≡ Some found) × IsInquiry found asked
