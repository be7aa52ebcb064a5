-- How many answers a script was given, and how many of each kind that no entry has (own).
use Rattle.std.specs.Prelude.{ℕ, ◌+◌, ◌-◌, ◌^◌, min}
use Rattle.rv_event.specs.declared.entry.Answer.{Answer}
use Rattle.rv_event.specs.declared.entry.Answer.TheVariants.{Misuse, Busy, Waiting, Full, Halted, Unattached, BadLine}
use Rattle.rv_play.specs.declared.counts.Counts.{Counts}

-- before the first answer
abbrev pub no_answers : Counts
no_answers = record {
  answers = 0;
  misuse = 0;
  busy = 0;
  waiting = 0;
  full = 0;
  halted = 0;
  unattached = 0;
  badline = 0;
}

-- how many answers no entry has, as far as a number can count them
abbrev pub unrecorded : Counts → ℕ
unrecorded counts =
    min (counts.misuse + counts.busy + counts.waiting + counts.full + counts.halted + counts.unattached + counts.badline) (2 ^ 64 - 1)

-- one more, where a number can count it
abbrev pub one_more : ℕ → ℕ
one_more count = min (count + 1) (2 ^ 64 - 1)

-- one answer more of its kind
abbrev pub of_kind : Counts → Answer → Counts
of_kind counts Misuse = record counts { misuse = one_more counts.misuse }
of_kind counts Busy = record counts { busy = one_more counts.busy }
of_kind counts Waiting = record counts { waiting = one_more counts.waiting }
of_kind counts Full = record counts { full = one_more counts.full }
of_kind counts Halted = record counts { halted = one_more counts.halted }
of_kind counts Unattached = record counts { unattached = one_more counts.unattached }
of_kind counts BadLine = record counts { badline = one_more counts.badline }
of_kind counts answer = counts

-- one answer more
abbrev pub counted : Counts → Answer → Counts
counted counts answer = of_kind (record counts { answers = one_more counts.answers }) answer
