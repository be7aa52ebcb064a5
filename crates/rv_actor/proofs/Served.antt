-- Lines that are served one after another.
use Rattle.std.proofs.Common.{◌≡◌, ℕ, suc, Bool, true, false, List, Ok, Err, sym, subst}
use Rattle.std.specs.Prelude.{Result, String, string_bytes}
use Rattle.std.specs.Global.{Global}
use Rattle.std.specs.declared.io.Error.{Error}
use Rattle.rv_port.specs.Ports.{Porting}
use Rattle.rv_shape.specs.Shape.{Shape}
use Rattle.rv_actor.specs.Serving.{AnswersLine, At, Known, Serves, ServesNext, ServesRead, ServesUpTo, Tells, TellsFault, TellsIf, ends_by, is_no_text}
use Rattle.rv_actor.specs.declared.outcome.Outcome.TheVariants.{NoText}
use Rattle.rv_actor.specs.declared.serving.Goes.{Goes}
use Rattle.rv_actor.specs.declared.serving.Goes.TheVariants.{On}

-- a line more
pub one_more : (shapes : List Shape) (count : ℕ) (a b c : At) (result : Result Goes Error) → result ≡ Ok On
    → ServesUpTo shapes count a b → ServesNext shapes b c result → ServesUpTo shapes (suc count) a c
one_more shapes count a b c result on before last = (b, before, subst (λ (r : Result Goes Error). ServesNext shapes b c r) on last)

-- the last line
pub ended : (shapes : List Shape) (count : ℕ) (a b c : At) (result : Result Goes Error) (end : Result (Unit {0}) Error) → result ≡ ends_by end
    → ServesUpTo shapes count a b → ServesNext shapes b c result → Serves shapes a c end
ended shapes count a b c result end is before last =
    record { count = count; before = b; served = before; last = subst (λ (r : Result Goes Error). ServesNext shapes b c r) is last }

-- of bytes that are no text that is told
pub tells_text : (error : Error) (old new : Known) (result : Result Goes Error) → is_no_text error ≡ true → Tells NoText old new result
    → TellsFault error old new result
tells_text error old new result is tells = subst (λ (b : Bool). TellsIf b error old new result) (sym is) tells

-- of a read that failed nothing is told
pub tells_nothing : (error : Error) (old new : Known) (result : Result Goes Error) → is_no_text error ≡ false → new ≡ old → result ≡ Err error
    → TellsFault error old new result
tells_nothing error old new result is silent same = subst (λ (b : Bool). TellsIf b error old new result) (sym is) (silent, same)

-- a line that was read is answered
pub line_served : (shapes : List Shape) (read : Result (String Global) Error) (line : String Global) (v : Porting) (old : Known) (w : Porting) (new : Known) (result : Result Goes Error)
    → read ≡ Ok line → AnswersLine shapes (string_bytes line) v old w new result → ServesRead shapes read v old w new result
line_served shapes read line v old w new result is answers =
    subst (λ (r : Result (String Global) Error). ServesRead shapes r v old w new result) (sym is) answers
