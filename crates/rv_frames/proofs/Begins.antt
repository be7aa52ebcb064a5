-- On an empty stack a run begins as it is.
use Rattle.std.proofs.Common.{refl, sym, ◌∙◌, ◌-◌, pos, [], replicate}
use Rattle.rv_exec.specs.Activations.{opened}
use Rattle.rv_exec.specs.Blocks.{elaborated, block, inner_at, outer_at, world}
use Rattle.rv_exec.specs.Tasks.{task_meaning, task_setting}
use Rattle.rv_frames.specs.Begins.{RunsBeginAsTheyAre}
use Rattle.rv_frames.specs.Frames.{denoted, meant}
use Rattle.rv_frames.proofs.Asking.{associative}

pub runs_begin : RunsBeginAsTheyAre
unfolding meant denoted block task_meaning
runs_begin bodies = record {
  operation = λ held object operation values components. sym (associative (inner_at bodies object (outer_at bodies (16 - held)) 65 operation values components 100000) _ _);
  task = λ body requests. sym (associative (block (world bodies task_setting) body (opened (replicate 132 (pos 0)) [] 100000 requests)) _ _ ∙ associative (elaborated (world bodies task_setting) body.declarations (opened (replicate 132 (pos 0)) [] 100000 requests)) _ _);
  task_alone = λ requests. refl;
  line = λ object operation s. refl;
}
