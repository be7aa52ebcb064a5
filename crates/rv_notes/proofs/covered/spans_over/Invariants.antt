use Rattle.std.proofs.Common.{◌≡◌, ℕ, take, false}
use Rattle.rv_access.specs.Limits.{most_tick}
use Rattle.rv_notes.specs.Covered.{is_held, is_spanned_at}
use Rattle.rv_notes.proofs.covered.spans_over.Given as goal

-- the spans are those of the lines so far, and none holds the tick behind all windows
abbrev pub invariant-loop-wide : goal.invariant-loop-wide
invariant-loop-wide l =
    ((tick : ℕ) → is_spanned_at (take l.wide-index l.lines) l.line tick ≡ is_held l.spans.items tick) × (is_held l.spans.items most_tick ≡ false)
