-- What a handle owns: nothing and a null pointer, or a box.
use Rattle.std.specs.Prelude.{◌≡◌}
use base.Fml.{Fml, ftrue, fex}
use denote.RattleType.{RattleType}
use denote.RawPtr.{Ptr, null_ptr}
use Rattle.std.specs.declared.option.Option.{Option}
use Rattle.std.specs.declared.option.Option.TheVariants.{None, Some}
use Rattle.std.specs.declared.alloc.Global.{Global}
use Rattle.std.specs.contracts.impls.GlobalAllocator.TheImpl.{ghosts}
use Rattle.std_alloc.specs.Box.Ownership.{box_owns}

abbrev pub held : (R : RattleType) → Global → Ptr → Option R.Denot → Fml
held R a p None = fex (p ≡ null_ptr) (λ _. ftrue)
held R a p (Some x) = box_owns (ghosts.dealloc_token a) R p x
