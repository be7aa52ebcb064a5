use Rattle.std.proofs.Common.{◌≡◌, [], take}
use Rattle.rv_lists.specs.Kept.{after, lists_of}
use Rattle.rv_lists.proofs.series.copied.Given as goal

-- the copies so far are of the same lists
abbrev pub invariant-loop-i : goal.invariant-loop-i
invariant-loop-i l = record {
  lists : lists_of l.copies.items ≡ lists_of (take l.i l.kept);
  last : after [] l.copies.items ≡ after [] (take l.i l.kept);
}
