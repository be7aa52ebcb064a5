-- How many places there are for what is kept by the numbers of objects and of actors (own).
use Rattle.std.specs.Prelude.{ℕ, ◌+◌}
use Rattle.rv_shape.specs.Catalogue.{first_task}
use Rattle.rv_shape.specs.Limits.{most_objects, most_tasks}

-- objects count from 1
abbrev pub most_places : ℕ
most_places = most_objects + 1

-- the operator, the lines and the most tasks
abbrev pub most_actors : ℕ
most_actors = first_task + most_tasks
