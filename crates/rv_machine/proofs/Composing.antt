-- Moves behind one another.
use Rattle.std.proofs.Common.{◌≡◌, ◌∙◌, refl, sym, subst, arith, List}
use Rattle.rv_exec.specs.declared.setting.Setting.{Setting}
use Rattle.rv_frames.specs.Frames.{Frame, Control}
use Rattle.rv_machine.specs.Points.{Keeps, Leads, LeadsIn, LeadsAcross}

-- the run stands where it stood
pub stays : (x : Control) (fs : List Frame) → Keeps x fs x fs
stays x fs = record { same = λ bodies s. refl; less = λ bodies s. omega arith; low = λ bodies s one. omega arith }

-- a move is no more than that
pub keeps : (x y : Control) (fs gs : List Frame) → Leads x fs y gs → Keeps x fs y gs
keeps x y fs gs one = record {
  same = one.same;
  less = λ bodies s. let a = one.less bodies s in omega (arith, a);
  low = one.low;
}

-- a move behind others
pub goes_on : (x y z : Control) (fs gs hs : List Frame) → Keeps x fs y gs → Leads y gs z hs → Keeps x fs z hs
goes_on x y z fs gs hs one other = record {
  same = λ bodies s. one.same bodies s ∙ other.same bodies s;
  less = λ bodies s. let a = one.less bodies s in let b = other.less bodies s in omega (arith, a, b);
  low = λ bodies s k. let a = one.low bodies s k in let b = other.low bodies s k in omega (arith, a, b);
}

pub comes_to : (x y z : Control) (fs gs hs : List Frame) → Keeps x fs y gs → Leads y gs z hs → Leads x fs z hs
comes_to x y z fs gs hs one other = record {
  same = λ bodies s. one.same bodies s ∙ other.same bodies s;
  less = λ bodies s. let a = one.less bodies s in let b = other.less bodies s in omega (arith, a, b);
  low = λ bodies s k. let a = one.low bodies s k in let b = other.low bodies s k in omega (arith, a, b);
}

pub comes_to_in : (s : Setting) (x y z : Control) (fs gs hs : List Frame) → Keeps x fs y gs → LeadsIn s y gs z hs → LeadsIn s x fs z hs
comes_to_in s x y z fs gs hs one other = record {
  same = λ bodies. one.same bodies s ∙ other.same bodies;
  less = λ bodies. let a = one.less bodies s in let b = other.less bodies in omega (arith, a, b);
  low = λ bodies k. let a = one.low bodies s k in let b = other.low bodies k in omega (arith, a, b);
}

-- moves that others follow, or what keeps the run
pub behind : (x y z : Control) (fs gs hs : List Frame) → Leads x fs y gs → Leads y gs z hs → Leads x fs z hs
behind x y z fs gs hs one other = comes_to x y z fs gs hs (keeps x y fs gs one) other

pub behind_kept : (x y z : Control) (fs gs hs : List Frame) → Leads x fs y gs → Keeps y gs z hs → Leads x fs z hs
behind_kept x y z fs gs hs one other = record {
  same = λ bodies s. one.same bodies s ∙ other.same bodies s;
  less = λ bodies s. let a = one.less bodies s in let b = other.less bodies s in omega (arith, a, b);
  low = λ bodies s k. let a = one.low bodies s k in let b = other.low bodies s k in omega (arith, a, b);
}

pub behind_in : (s : Setting) (x y z : Control) (fs gs hs : List Frame) → LeadsIn s x fs y gs → Leads y gs z hs → LeadsIn s x fs z hs
behind_in s x y z fs gs hs one other = record {
  same = λ bodies. one.same bodies ∙ other.same bodies s;
  less = λ bodies. let a = one.less bodies in let b = other.less bodies s in omega (arith, a, b);
  low = λ bodies k. let a = one.low bodies k in let b = other.low bodies s k in omega (arith, a, b);
}

pub behind_kept_in : (s : Setting) (x y z : Control) (fs gs hs : List Frame) → LeadsIn s x fs y gs → Keeps y gs z hs → LeadsIn s x fs z hs
behind_kept_in s x y z fs gs hs one other = record {
  same = λ bodies. one.same bodies ∙ other.same bodies s;
  less = λ bodies. let a = one.less bodies in let b = other.less bodies s in omega (arith, a, b);
  low = λ bodies k. let a = one.low bodies k in let b = other.low bodies s k in omega (arith, a, b);
}

-- a move in one setting, from that setting to itself
pub across_in : (s : Setting) (x y : Control) (fs gs : List Frame) → LeadsIn s x fs y gs → LeadsAcross s x fs s y gs
across_in s x y fs gs one = record { same = one.same; less = one.less; low = one.low }

-- frames that are known by another name
pub stays_on : (x : Control) (fs gs : List Frame) → gs ≡ fs → Keeps x fs x gs
stays_on x fs gs is = subst (λ (hs : List Frame). Keeps x fs x hs) (sym is) (stays x fs)
