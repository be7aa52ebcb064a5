use Rattle.rv_pipes.proofs.Read.{known_next}
use Rattle.rv_pipes.proofs.lines.read_on.Goals as goal

pub returns-clause-known : goal.returns-clause-known
returns-clause-known g c =
    known_next g.I.Read.remaining c.args.reader.now c.set_limit.new.self c.read_until.new.buf.items c.new-line.result.items
    c.set_limit.ensures.limit c.set_limit.ensures.inner c.new-line.ensures.items c.in_ok-read_until.ensures.bytes
