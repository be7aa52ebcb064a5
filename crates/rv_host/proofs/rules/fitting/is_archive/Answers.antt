use Rattle.std.proofs.Common.{◌≡◌, ◌+◌, ◌<◌, ◌≤◌, ◌^◌, ℕ, arith, length}
use Rattle.std.specs.Prelude.{nat_le, nat_lt}
use Rattle.rv_event.specs.Past.{archived}
use Rattle.rv_history.specs.Fitting.{most_entries}
use Rattle.rv_history.specs.History.{History}
use Rattle.rv_host.specs.Seen.{history_of}
use Rattle.rv_host.proofs.Lasting.{first_fails, is_below, is_within, not_below, not_within, second_fails, third_left}
use Rattle.rv_host.proofs.rules.fitting.is_archive.Goals as goal
use Rattle.rv_host.proofs.rules.fitting.is_archive.Goals.{then-number-archived-via-then-number-archived, then-number-archived-via-else-number-archived+then-entries-number}

pub returns-then-number-archived : goal.returns-then-number-archived
returns-then-number-archived c =
    let h : History = history_of c.args.seen.now in
    let n : ℕ = c.args.number in
    let given : c.archived.result ≡ archived h.past = c.archived.ensures h c.requires.is_present in
    elim c.then-number-archived.branch [
      | then-number-archived-via-then-number-archived w ↦
          first_fails (nat_lt (archived h.past) n) (nat_le n (length h.past)) (nat_lt (h.limits.capacity + n) most_entries)
          (not_below (archived h.past) n (omega (arith, given, w.if-number-archived.true)))
      | then-number-archived-via-else-number-archived+then-entries-number w ↦
          let count : w.entries.result ≡ length h.past = w.entries.ensures h c.requires.is_present in
          second_fails (nat_lt (archived h.past) n) (nat_le n (length h.past)) (nat_lt (h.limits.capacity + n) most_entries)
          (not_within n (length h.past) (omega (arith, count, w.if-entries-number.true)))
    ]

pub overflow_add-result : goal.overflow_add-result
overflow_add-result c =
    let h : History = history_of c.args.seen.now in
    let count : c.entries.result ≡ length h.past = c.entries.ensures h c.requires.is_present in
    let few : c.args.number < 10 ^ 12 = omega (arith, count, c.if-entries-number.false, c.requires.lasting) in
    let most : c.args.seen.now.limits.capacity ≤ 2 ^ 20 = c.requires.most in
    omega (arith, few, most)

pub returns : goal.returns
returns c =
    let h : History = history_of c.args.seen.now in
    let n : ℕ = c.args.number in
    let given : c.archived.result ≡ archived h.past = c.archived.ensures h c.requires.is_present in
    let count : c.entries.result ≡ length h.past = c.entries.ensures h c.requires.is_present in
    third_left (nat_lt (archived h.past) n) (nat_le n (length h.past)) (nat_lt (h.limits.capacity + n) most_entries)
    (is_below (archived h.past) n (omega (arith, given, c.if-number-archived.false)))
    (is_within n (length h.past) (omega (arith, count, c.if-entries-number.false)))
