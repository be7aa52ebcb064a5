use Rattle.std.proofs.lemmas.Bool.Decides.{Decides-int_eq}
use Rattle.std.proofs.lemmas.Slice.Eq.{slice_eq-Decides}
use Rattle.rv_value.proofs.bounded.BoundedPartialEq.eq.Goals as goal

pub returns-clause-same : goal.returns-clause-same
returns-clause-same g c =
    rw (← c.as_slice.ensures.value, ← c.as_slice-2.ensures.value) (slice_eq-Decides Decides-int_eq _ _ _ c.eq.ensures)
