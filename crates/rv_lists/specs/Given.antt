-- All lists that were let go (own).
use Rattle.std.specs.Prelude.{List}
use Rattle.rv_access.specs.Words.{Words}
use Rattle.rv_lists.specs.Gone.{gone_lists}
use Rattle.rv_lists.specs.declared.gone.Gone.{Gone}

-- the oldest first
abbrev pub gone_of : Gone → List (List Words)
gone_of gone = gone_lists gone.series.items gone.counts.items
