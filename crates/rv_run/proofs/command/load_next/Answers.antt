use Rattle.std.proofs.Common.{inl, inr, refl, string_bytes}
use Rattle.rv_run.proofs.command.load_next.Goals as goal

pub returns-in-Ok-Some-clause-loads : goal.returns-in-Ok-Some-clause-loads
returns-in-Ok-Some-clause-loads g c = inl record {
  text = string_bytes c.in-Ok-Some.text;
  comes = rw c.in-Ok-Some.field-0-is at c.in-Ok-Some.ensures.comes;
  shorter = c.in-Ok-Some.ensures.reads;
  loads = rw c.as_str.ensures.value at c.load.ensures.loads;
}

pub returns-in-Ok-None-clause-loads : goal.returns-in-Ok-None-clause-loads
returns-in-Ok-None-clause-loads g c = inr (inl record { comes = rw c.in-Ok-None.field-0-is at c.in-Ok-None.ensures.comes; nothing = record { staff = refl; written = refl }; ends = refl })

pub returns-in-Err-clause-loads : goal.returns-in-Err-clause-loads
returns-in-Err-clause-loads g c = inr (inr record { nothing = record { staff = refl; written = refl }; fails = c.of_input.ensures })
