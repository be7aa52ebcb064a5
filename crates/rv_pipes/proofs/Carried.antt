-- Lines that are carried one after another.
use Rattle.std.proofs.Common.{◌≡◌, ℕ, suc, List, [], Some, None, Ok, Result, sym, ◌∙◌, subst, append-nil}
use Rattle.std.specs.Io.KnownBytes.{Appends, Keeps}
use Rattle.rv_script.specs.Prefixes.{WritesPrefix}
use Rattle.rv_pipes.specs.Carrying.{CarriesAll, CarriesNext, CarriesUpTo, Known, ends_by}
use Rattle.rv_pipes.specs.declared.carrier.CarryFault.{CarryFault}
use Rattle.rv_pipes.specs.declared.carrier.Goes.{Goes}
use Rattle.rv_pipes.specs.declared.carrier.Goes.TheVariants.{On}

-- what was written stays behind a flush
pub flushed : (a b c : Known) (line : List ℕ) → Appends a b line → Keeps b c → Appends a c line
flushed None b c line e k = tt
flushed (Some xs) None c line e k = absurd e
flushed (Some xs) (Some ys) None line e k = absurd k
flushed (Some xs) (Some ys) (Some zs) line e k = k ∙ e

-- also where the flush failed
pub flushed_whole : (a b c : Known) (line : List ℕ) → Appends a b line → Keeps b c → WritesPrefix a c line
flushed_whole a b c line e k = record { prefix = line; rest = []; whole = sym (append-nil line); written = flushed a b c line e k }

-- a line more
pub one_more : (count : ℕ) (a b c left : Known) (result : Result Goes CarryFault) → result ≡ Ok On
    → CarriesUpTo count a b → CarriesNext left b c result → CarriesUpTo (suc count) a c
one_more count a b c left result on before last = (b, left, before, subst (λ (r : Result Goes CarryFault). CarriesNext left b c r) on last)

-- the last line
pub ended : (count : ℕ) (a b c left : Known) (result : Result Goes CarryFault) (end : Result (Unit {0}) CarryFault) → result ≡ ends_by end
    → CarriesUpTo count a b → CarriesNext left b c result → CarriesAll a c end
ended count a b c left result end is before last =
    record { count = count; before = b; left = left; carried = before; last = subst (λ (r : Result Goes CarryFault). CarriesNext left b c r) is last }
