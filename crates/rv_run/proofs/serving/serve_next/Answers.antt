use Rattle.std.proofs.Common.{inl, inr, refl, string_bytes}
use Rattle.rv_run.proofs.serving.serve_next.Goals as goal

pub returns-in-Ok-Some : goal.returns-in-Ok-Some
returns-in-Ok-Some g c = inl record {
  line = string_bytes c.in-Ok-Some.line;
  input = c.line.new.self;
  left = g.R.Read.remaining c.line.new.reader;
  comes = rw c.in-Ok-Some.field-0-is at c.in-Ok-Some.ensures.comes;
  shorter = c.in-Ok-Some.ensures.reads;
  serves = rw c.as_str.ensures.value at c.serve_line.ensures;
}

pub returns-in-Ok-None : goal.returns-in-Ok-None
returns-in-Ok-None g c = inr (inl record {
  input = c.line.new.self;
  left = g.R.Read.remaining c.line.new.reader;
  comes = rw c.in-Ok-None.field-0-is at c.in-Ok-None.ensures.comes;
  said = _;
  leaves = c.leave.ensures;
  same = refl;
})

pub returns-in-Err : goal.returns-in-Err
returns-in-Err g c = inr (inr record { input = c.line.new.self; left = g.R.Read.remaining c.line.new.reader; same = refl; fails = c.of_input.ensures })
