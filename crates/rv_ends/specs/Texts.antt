-- The texts of what was loaded (own).
use Rattle.std.specs.Prelude.{◌≡◌}
use Rattle.std.specs.Option.{ForSome}
use Rattle.rv_exec.specs.Bodies.{bodies_view}
use Rattle.rv_flat.specs.FlatUnits.{flat_view}
use Rattle.rv_ends.specs.declared.texts.Texts.{Texts}

-- the table, where it is made, is of the bodies that were loaded
abbrev pub AreTabled : Texts → Type 0
AreTabled texts = ForSome texts.table (λ table. flat_view table.unit ≡ bodies_view texts.bodies)
