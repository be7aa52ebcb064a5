use Rattle.std.proofs.Common.{◌≡◌, ◌++◌, map, take}
use Rattle.rv_lists.proofs.series_reader.lines_after.Given as goal

-- the lines at the front, and those between so far
abbrev pub invariant-loop-line : goal.invariant-loop-line
invariant-loop-line l =
    map (λ x. x.now) l.lines.items ≡ map (λ x. x.now) (take l.front l.before) ++ take l.line-index l.kept.lines.items
