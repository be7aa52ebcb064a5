-- What bounds a host (own).
use Rattle.std.specs.Prelude.{ℕ, Bool, ◌&&◌, nat_le, Option, None}
use Rattle.rv_history.specs.declared.limits.Limits.{Limits}

-- how many may wait in a queue under the profile (Max_Entry_Queue_Length, D.13)
abbrev pub queue_limit : ℕ
queue_limit = 1

-- how many may wait in one at most (own)
abbrev pub most_queued : ℕ
most_queued = 8

-- a host may have queues of so many: a limit above 1 leaves the profile
abbrev pub is_queue_limit : ℕ → Bool
is_queue_limit limit = nat_le 1 limit && nat_le limit most_queued

-- the limits of a host with room for that many entries
abbrev pub limits_of : ℕ → Limits
limits_of capacity = record { capacity = capacity; queue = queue_limit; allowance = None }

-- and with queues of that many callers
abbrev pub limits_with : ℕ → ℕ → Limits
limits_with capacity limit = record { capacity = capacity; queue = limit; allowance = None }

-- and where each unit may spend so many entries, if that is bounded
abbrev pub limits_within : ℕ → ℕ → Option ℕ → Limits
limits_within capacity limit allowance = record { capacity = capacity; queue = limit; allowance = allowance }
