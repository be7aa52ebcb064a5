use Rattle.std.proofs.Common.{length, drop, take, map, ◌-◌}
use Rattle.std.proofs.lemmas.List.{take_rest}
use Rattle.std.proofs.lemmas.Result.{on_ok_weaker}
use Rattle.std.specs.Prelude.{string_bytes}
use Rattle.rv_hits.proofs.Seeing.{lines_more}
use Rattle.rv_hits.proofs.lines.+put_lines.Goals as goal

pub returns : goal.returns
returns t c =
    let lines = c.args.lines.now in
    on_ok_weaker c.put_lines.result
    (λ put. lines_more lines (take (length lines - 1) (drop 1 lines)) c.line-item.result (map string_bytes c.args.seen.now.items) (map string_bytes c.put_words.new.seen.items) (map string_bytes c.put_lines.new.seen.items) (string_bytes c.in_ok-text.field-0)
    c.in-len1-up.len_at_least c.line-item.is (take_rest lines 1) c.in_ok-text.ensures c.in_ok-put_words.ensures put) c.put_lines.ensures
