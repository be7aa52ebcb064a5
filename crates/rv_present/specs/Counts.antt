-- What entries come to that concern no actor and no object (own).
use Rattle.std.specs.Prelude.{◌≡◌, List, length}
use Rattle.rv_event.specs.Past.{archived, clock, halted}
use Rattle.rv_event.specs.declared.entry.Entry.{Entry}
use Rattle.rv_history.specs.History.{changes}
use Rattle.rv_present.specs.declared.counts.Counts.{Counts}

-- the counts are those of these entries
pub record AreCounts (past : List Entry) (counts : Counts) : Type 0 where
  pub entries_are : counts.entries ≡ length past
  pub archived_is : counts.archived ≡ archived past
  pub version_is : counts.version ≡ changes past
  pub clock_is : counts.clock ≡ clock past
  pub halted_is : counts.is_halted ≡ halted past
