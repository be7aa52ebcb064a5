use Rattle.std.proofs.Common.{◌≤◌, length, sym, arith}
use Rattle.std.proofs.lemmas.List.{take_all}
use Rattle.rv_picture.proofs.letters.front.Goals as goal

pub returns-then-moments-le-COLUMNS : goal.returns-then-moments-le-COLUMNS
returns-then-moments-le-COLUMNS c =
    let few : length c.args.moments.now ≤ 60 = omega arith in
    sym (take_all 60 c.args.moments.now few)
