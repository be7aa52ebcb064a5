use Rattle.std.proofs.Common.{◌++◌, codes}
use Rattle.std.proofs.lemmas.Result.{on_ok_weaker}
use Rattle.std.specs.Prelude.{string_bytes}
use Rattle.std.specs.Fmt.{decimal}
use Rattle.rv_export.proofs.Appending.{three_put}
use Rattle.rv_export.proofs.facts.put_distance.Goals as goal

pub returns : goal.returns
returns c =
    on_ok_weaker c.put_number.result
    (λ put. three_put (string_bytes c.args.text.now) (string_bytes c.put_count.new.text) (string_bytes c.put_count-2.new.text) (string_bytes c.put_number.new.text)
    (codes ",\"answers\":" ++ decimal c.args.number) (codes ",\"entries\":" ++ decimal c.args.entries) (codes ",\"ticks\":" ++ decimal c.args.ticks)
    c.in_ok-put_count.ensures c.in_ok-put_count-2.ensures put) c.put_number.ensures
