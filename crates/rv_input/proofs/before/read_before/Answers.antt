use Rattle.std.proofs.Common.{◌≡◌, ◌++◌, rules}
use Rattle.rv_input.proofs.Told.{all_taken, is_before}
use Rattle.rv_input.proofs.before.read_before.Goals as goal

pub returns-clause-whole : goal.returns-clause-whole
returns-clause-whole g c =
    let rest : c.keep_line.new.bytes.items ≡ c.in_ok-bytes.field-0.run.items ++ c.preamble.new.self.ahead = search rules in
    all_taken _ _ c.new-input.result c.preamble.new.self c.in_ok-bytes.field-0.bytes.items _ _ c.new-input.ensures rest c.in_ok-bytes.ensures.taken

pub returns-clause-sections : goal.returns-clause-sections
returns-clause-sections g c =
    is_before _ _ c.new-input.result c.preamble.new.self c.in_ok-bytes.field-0.bytes.items c.in_ok-bytes.field-0.runs c.new-input.ensures c.in_ok-bytes.ensures.comes
