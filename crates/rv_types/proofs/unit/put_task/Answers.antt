use Rattle.std.proofs.Common.{ap, sym, List, Option, Some}
use Rattle.rv_code.specs.Bodies.{Body}
use Rattle.rv_code.specs.BodyView.{unit_view}
use Rattle.rv_types.proofs.Pushed.{put_task}
use Rattle.rv_types.proofs.unit.put_task.Goals as goal

pub returns-then-index-len : goal.returns-then-index-len
returns-then-index-len c =
    ap (λ (all : List (Option Body)). Some (record (unit_view c.args.compiled.now) { tasks = all }))
    (sym (put_task c.args.compiled.now.tasks.items c.args.index c.args.body))
