-- What is told of bytes that are no script, and of a reader that gave none (own).
use Rattle.rv_script.specs.declared.read.TextError.{TextError}
use Rattle.rv_script.specs.declared.read.TextError.TheVariants as Texts
use Rattle.rv_script.specs.declared.read.ReadError.{ReadError}
use Rattle.rv_script.specs.declared.read.ReadError.TheVariants as Reads
use Rattle.rv_fault.specs.declared.failure.Failure.{Failure}
use Rattle.rv_fault.specs.declared.failure.Failure.TheVariants.{Memory, Io}
use Rattle.rv_fault.specs.declared.fault.ScriptFault.{ScriptFault}
use Rattle.rv_fault.specs.declared.fault.What.{What}
use Rattle.rv_fault.specs.declared.fault.What.TheVariants.{TooLong, NotText}

abbrev pub of_bytes : TextError → What
of_bytes Texts.TooLong = TooLong
of_bytes Texts.NotText = NotText

-- at line 1
abbrev pub fault_of : TextError → ScriptFault
fault_of error = record { line = 1; what = of_bytes error }

abbrev pub of_read : ReadError → Failure
of_read Reads.Memory = Memory
of_read (Reads.Io error) = Io error
