-- What goes through the pipes of a task: a line is read and handed to the job, and what it came to is written, before the next is read (own).
use Rattle.std.specs.Prelude.{◌≡◌, ℕ, zero, suc, List, codes, Option, Result, Ok, Err}
use Rattle.std.specs.Io.KnownBytes.{Appends}
use Rattle.std.specs.declared.io.Error.{Error}
use Rattle.rv_script.specs.Prefixes.{WritesPrefix}
use Rattle.rv_pipes.specs.Reads.{ReadsNext}
use Rattle.rv_pipes.specs.declared.carrier.CarryFault.{CarryFault}
use Rattle.rv_pipes.specs.declared.carrier.CarryFault.TheVariants as Faults
use Rattle.rv_pipes.specs.declared.carrier.Goes.{Goes}
use Rattle.rv_pipes.specs.declared.carrier.Goes.TheVariants.{On, Out}
use Rattle.rv_pipes.specs.declared.lines.Next.{Next}
use Rattle.rv_pipes.specs.declared.lines.Next.TheVariants as Nexts

-- what a writer holds, or a reader has left, where it tells
abbrev pub Known : Type 0
Known = Option (List ℕ)

-- a line is written, or a prefix of it where that fails
abbrev pub Writes : {A : Type 0} → List ℕ → Known → Known → Result A CarryFault → Type 0
Writes line old new (Ok x) = Appends old new line
Writes line old new (Err fault) = WritesPrefix old new line

-- what is told of a line that is too long, and behind the end of the job
abbrev pub too_long : List ℕ
too_long = codes "bad request: it is longer than 4096 bytes\n"

abbrev pub stopped : List ℕ
stopped = codes "stopped\n"

-- one answer of the job is written; or, behind its end, that the task has stopped
abbrev pub Answers : Known → Known → Result Goes CarryFault → Type 0
Answers old new (Ok On) = (reply : List ℕ) × Appends old new reply
Answers old new (Ok Out) = Appends old new stopped
Answers old new (Err fault) = (reply : List ℕ) × WritesPrefix old new reply

-- lines are carried on behind what was written so
abbrev pub GoesOn : {A : Type 0} → A → Result A CarryFault → Type 0
GoesOn due (Ok goes) = goes ≡ due
GoesOn due (Err fault) = Unit {0}

-- what was read is carried: a line to the job, and its answer back; one that is too long is told so; at the end, or where a read failed,
-- nothing is written
abbrev pub Carries : Result Next Error → Known → Known → Result Goes CarryFault → Type 0
Carries (Ok (Nexts.Line line)) old new result = Answers old new result
Carries (Ok Nexts.TooLong) old new result = Writes too_long old new result × GoesOn On result
Carries (Ok Nexts.Over) old new result = (new ≡ old) × (result ≡ Ok Out)
Carries (Err error) old new result = (new ≡ old) × (result ≡ Err (Faults.Read error))

-- one line is read of what is left, and carried
pub record CarriesNext (left old new : Known) (result : Result Goes CarryFault) : Type 0 where
  pub next : Result Next Error
  pub reads : ReadsNext left next
  pub carries : Carries next old new result

-- so many lines were carried, each with its answer before the next was read
abbrev pub CarriesUpTo : ℕ → Known → Known → Type 0
CarriesUpTo zero a b = b ≡ a
CarriesUpTo (suc count) a c = (b : Known) × (left : Known) × CarriesUpTo count a b × CarriesNext left b c (Ok On)

-- how lines end, by what the last came to
abbrev pub ends_by : Result (Unit {0}) CarryFault → Result Goes CarryFault
ends_by (Ok x) = Ok Out
ends_by (Err fault) = Err fault

-- lines are carried up to the end of the requests or of the job, or to the first read or write that fails
pub record CarriesAll (a c : Known) (result : Result (Unit {0}) CarryFault) : Type 0 where
  pub count : ℕ
  pub before : Known
  pub left : Known
  pub carried : CarriesUpTo count a before
  pub last : CarriesNext left before c (ends_by result)
