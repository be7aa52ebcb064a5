-- The help of the console. (own)
use Rattle.std.specs.Prelude.{ℕ, List}
use Rattle.rv_console.specs.declared.console.TheConstants.{HELP}

abbrev pub help_text : List ℕ
help_text = HELP.now
