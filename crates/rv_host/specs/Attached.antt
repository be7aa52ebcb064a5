-- Handlers of lines, as rv_irq keeps them (C.3.1).
use Rattle.rv_irq.specs.declared.Handler.{Handler}
use Rattle.rv_shape.specs.Catalogue.{OperationNumber}

-- the operation that a handler is
abbrev pub number_of : Handler → OperationNumber
number_of handler = record { object = handler.object; operation = handler.operation }
