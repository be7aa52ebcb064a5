use Rattle.std.proofs.Common.{◌≡◌, ◌++◌, drop}
use Rattle.std.specs.Prelude.{string_bytes}
use Rattle.rv_picture.specs.Svg.{bars_text}
use Rattle.rv_picture.proofs.svg.put_bars.Given as goal

abbrev pub invariant-loop-bar : goal.invariant-loop-bar
invariant-loop-bar l =
    string_bytes l.text ++ bars_text l.catalogue l.count l.last (drop l.bar-index l.bars) ≡ string_bytes l.initial.text ++ bars_text l.catalogue l.count l.last l.bars
