-- Lists that heed no tick (own).
use Rattle.std.specs.Prelude.{◌≡◌, List, None}
use Rattle.std.specs.List.{All}
use Rattle.rv_access.specs.Words.{Words}

-- no line has a window
abbrev pub IsTimeless : List Words → Type 0
IsTimeless lines = All (λ line. line.window ≡ None) lines
