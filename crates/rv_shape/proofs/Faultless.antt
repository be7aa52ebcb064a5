-- A shape that nothing stands against passes each test.
use Rattle.std.proofs.Common.{◌≡◌, List, Some, None, Option, Bool, true, false, refl}
use Rattle.std.specs.Prelude.{is_some, not, if◌then◌else◌}
use Rattle.std.specs.List.{list_any}
use Rattle.rv_shape.specs.declared.fault.ShapeFault.{ShapeFault}
use Rattle.rv_shape.specs.Shape.{Shape}
use Rattle.rv_shape.specs.Forms.{ill_formed}
use Rattle.rv_shape.specs.Fits.{fault, line_taken, low_ceiling, name_taken, out_of_range, shape_fits, too_many}

pub record IsFaultless (shapes : List Shape) (shape : Shape) : Type 0 where
  pub name : name_taken shapes shape ≡ false
  pub count : too_many shapes shape ≡ false
  pub line : line_taken shapes shape ≡ false
  pub ceiling : list_any low_ceiling shape.objects ≡ false
  pub range : out_of_range shape ≡ false
  pub text : ill_formed shape ≡ false

-- a fault is none only past its test
passed : (test : Bool) (first : ShapeFault) (rest : Option ShapeFault) → (if test then Some first else rest) ≡ None → (test ≡ false) × (rest ≡ None)
passed true first rest e = absurd (cc)
passed false first rest e = (refl, e)

pub no_fault : (shapes : List Shape) (shape : Shape) → fault shapes shape ≡ None → IsFaultless shapes shape
no_fault shapes shape e =
    let name = passed _ _ _ e in
    let count = passed _ _ _ name.1 in
    let line = passed _ _ _ count.1 in
    let ceiling = passed _ _ _ line.1 in
    let range = passed _ _ _ ceiling.1 in
    let text = passed _ _ _ range.1 in
    record { name = name.0; count = count.0; line = line.0; ceiling = ceiling.0; range = range.0; text = text.0 }

-- what fits has none
fits_by : (o : Option ShapeFault) → not (is_some o) ≡ true → o ≡ None
fits_by None e = refl
fits_by (Some f) e = absurd (cc)

pub fits_faultless : (shapes : List Shape) (shape : Shape) → shape_fits shapes shape ≡ true → IsFaultless shapes shape
fits_faultless shapes shape e = no_fault shapes shape (fits_by (fault shapes shape) e)
