-- Which parameters have a value, on the way in and on the way back (ISO/IEC 8652:2012, 6.2).
use Rattle.std.specs.Prelude.{Bool, true, false, List, map}
use Rattle.std.specs.List.{filter}
use Rattle.rv_shape.specs.Kinds.{goes_in, goes_out}
use Rattle.rv_shape.specs.declared.kind.ParameterMode.{ParameterMode}
use Rattle.rv_shape.specs.declared.kind.Parameter.{Parameter}
use Rattle.rv_shape.specs.declared.kind.Range.{Range}

-- those of this mode
abbrev pub going : Bool → ParameterMode → Bool
going false mode = goes_in mode
going true mode = goes_out mode

-- the ranges of their values
abbrev pub ranges_going : Bool → List Parameter → List Range
ranges_going outward parameters = map (λ p. p.range) (filter (λ p. going outward p.mode) parameters)
