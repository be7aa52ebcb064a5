-- The clock is the sum of the accepted ticks, and is told as it is.
use Rattle.std.proofs.Common.{◌≡◌, ℕ, ◌+◌, ◌≤◌, List, [], ◌∷◌, ◌++◌, arith, ap, sym, ◌∙◌, refl}
use Rattle.std.specs.List.{sum_by}
use Rattle.std.proofs.lemmas.List.Sums.{sum-map, sum_by-cons}
use Rattle.std.specs.Prelude.{ℤ, map, pos, sum}
use Rattle.rv_event.specs.Past.{clock, ticks}
use Rattle.rv_event.specs.Recorded.{recorded}
use Rattle.rv_event.specs.declared.entry.Answer.TheVariants as Answers
use Rattle.rv_event.specs.declared.entry.Entry.{Entry}
use Rattle.rv_event.specs.declared.entry.Recorded.{Recorded}
use Rattle.rv_event.specs.declared.entry.Recorded.TheVariants.{Accepted}
use Rattle.rv_event.specs.declared.entry.Request.TheVariants.{Clock}
use Rattle.rv_history.specs.Due.{out}
use Rattle.rv_history.specs.History.{History}
use Rattle.rv_history.proofs.Answered.{answered, word_is}

summed : (past : List Entry) → clock past ≡ sum_by ticks past
summed [] = refl
summed (e ∷ past) = ap (λ n. ticks e + n) (summed past) ∙ sym (sum_by-cons ticks e past)

pub clock_sum : (past : List Entry) → clock past ≡ sum (map ticks past)
clock_sum past = summed past ∙ sym (sum-map ticks past)

pub clock_grows : (later past : List Entry) → clock past ≤ clock (later ++ past)
clock_grows [] past = omega arith
clock_grows (e ∷ later) past = omega (arith, clock_grows later past)

value_in : Recorded → ℤ
value_in (Accepted value) = value
value_in word = pos 0

pub clock_told : (h : History) (a : ℕ) (v : ℤ) → out h a Clock ≡ Answers.Accepted v → v ≡ pos (clock h.past)
unfolding value_in
clock_told h a v e =
    let g = answered h a Clock (Accepted v) (ap recorded e) in
    let same : pos (clock h.past) ≡ v = ap value_in (word_is (Accepted (pos (clock h.past))) (Accepted v) g.said) in
    cc
