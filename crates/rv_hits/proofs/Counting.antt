-- What an entry asks is counted.
use Rattle.std.proofs.Common.{◌≡◌, ◌≤◌, ◌<◌, ◌-◌, ℕ, zero, suc, Bool, true, false, List, [], ◌∷◌, Some, None, Option, length, sym, ap, ◌∙◌, subst, if◌then◌else◌, refl, arith}
use Rattle.std.specs.Prelude.{◌==◌, slice_get}
use Rattle.std.proofs.lemmas.Bool.Decides.{nat_tests}
use Rattle.rv_access.specs.Lines.{line_at}
use Rattle.rv_access.specs.Words.{Words}
use Rattle.rv_event.specs.declared.entry.Body.{Body}
use Rattle.rv_history.specs.History.{History, force}
use Rattle.rv_asked.specs.Asked.{decided_by, line_by, takes}
use Rattle.rv_asked.specs.Holding.{Keeps}
use Rattle.rv_asked.specs.Tabled.{IsTabled}
use Rattle.rv_tallied.specs.Tallies.{kept_for, one_more}
use Rattle.rv_hits.specs.Counts.{AreOf, CountsAt, joined}
use Rattle.rv_hits.specs.Following.{CountsCall, CountsLine, CountsTaken, counted_for, tallied, unmatched}
use Rattle.rv_hits.proofs.Places.{length_of}
use Rattle.rv_hits.specs.declared.hits.Hits.{Hits}

some_call : (old new : Hits) (h : History) (number : ℕ) (asked : Option Body) (call : Body) → asked ≡ Some call → (Keeps old.holding h.shapes h.past → AreOf old.counts.items (force h) → IsTabled old.tabled h → CountsTaken old new (force h) (takes old.filter h number call) (line_by (force h) h call)) →
    CountsCall old new h number asked
some_call old new h number asked call is counts = subst (λ (o : Option Body). CountsCall old new h number o) (sym is) counts

pub uncounted : (it : Hits) (h : History) (number : ℕ) (asked : Option Body) → asked ≡ None → CountsCall it it h number asked
uncounted it h number asked is = subst (λ (o : Option Body). CountsCall it it h number o) (sym is) refl

pub untaken : (it : Hits) (h : History) (number : ℕ) (asked : Option Body) (call : Body) (taken : Bool) → asked ≡ Some call → taken ≡ takes it.filter h number call → taken ≡ false → CountsCall it it h number asked
untaken it h number asked call taken is taken_is not_taken =
    let line : Option Words = line_by (force h) h call in
    let no : takes it.filter h number call ≡ false = sym taken_is ∙ not_taken in
    some_call it it h number asked call is (λ keeps are tabled. record {
      rest = refl;
      counts = are;
      tallies = λ words. sym (ap (λ (b : Bool). if b then tallied line words (counted_for it words) else counted_for it words) no);
      unmatched = sym (ap (λ (b : Bool). if b then unmatched line it.unmatched else it.unmatched) no);
    })

pub counted_line : (old new : Hits) (h : History) (number : ℕ) (asked : Option Body) (call : Body) (taken : Bool) (line : ℕ) → asked ≡ Some call → taken ≡ takes old.filter h number call → taken ≡ true →
    (IsTabled old.tabled h → Keeps old.holding h.shapes h.past → line ≡ decided_by (force h) h call) → ((list : List Words) → AreOf old.counts.items list → CountsLine old new list (line_at list line)) → CountsCall old new h number asked
counted_line old new h number asked call taken line is taken_is is_taken line_is counts =
    let yes : takes old.filter h number call ≡ true = sym taken_is ∙ is_taken in
    let by : Option Words = line_by (force h) h call in
    some_call old new h number asked call is (λ keeps are tabled.
    let one : CountsLine old new (force h) by = subst (λ (n : ℕ). CountsLine old new (force h) (line_at (force h) n)) (line_is tabled keeps) (counts (force h) are) in
    record {
      rest = one.rest;
      counts = one.counts;
      tallies = λ words. one.tallies words
          ∙ sym (ap (λ (b : Bool). if b then tallied by words (counted_for old words) else counted_for old words) yes);
      unmatched = one.unmatched
          ∙ sym (ap (λ (b : Bool). if b then unmatched by old.unmatched else old.unmatched) yes);
    })

-- A line of the list in force decides once more, or none does

pub none_decides : (it : Hits) (list : List Words) (line : Option Words) → line ≡ None → AreOf it.counts.items list → CountsLine it (record it { unmatched = one_more it.unmatched }) list line
none_decides it list line is are =
    subst (λ (l : Option Words). CountsLine it (record it { unmatched = one_more it.unmatched }) list l) (sym is)
    (record { rest = refl; counts = are; tallies = λ words. refl; unmatched = refl })

none_there : (list : List Words) (place : ℕ) → length list ≤ place → slice_get list place ≡ None
none_there [] place le = refl
none_there (l ∷ list) zero le = absurd (omega arith)
none_there (l ∷ list) (suc place) le = none_there list place (omega arith)

some_there : (list : List Words) (place : ℕ) → place < length list → (line : Words) × (slice_get list place ≡ Some line)
some_there [] place lt = absurd (omega arith)
some_there (l ∷ list) zero lt = (l, refl)
some_there (l ∷ list) (suc place) lt = some_there list place (omega arith)

is_first : (number : ℕ) → (number ≡ 0 → ⊥) → (number == 0) ≡ false
is_first number not = grind (arith, nat_tests)

at_place : (list : List Words) (number : ℕ) → (number ≡ 0 → ⊥) → line_at list number ≡ slice_get list (number - 1)
at_place list number not = ap (λ (b : Bool). if b then None else slice_get list (number - 1)) (is_first number not)

-- behind the last line there is none
pub none_behind : (it : Hits) (list : List Words) (number : ℕ) → AreOf it.counts.items list → length it.counts.items < number → line_at list number ≡ None
none_behind it list number are lt =
    let long : length it.counts.items ≡ length list = length_of list it.counts.items are in
    let not : (number ≡ 0 → ⊥) = λ e. omega arith in
    at_place list number not ∙ none_there list (number - 1) (omega arith)

pub line_decides : (it new : Hits) (list : List Words) (number : ℕ) → (number ≡ 0 → ⊥) → (length it.counts.items < number → ⊥) → AreOf it.counts.items list →
    ((line : Words) → AreOf it.counts.items list → slice_get list (number - 1) ≡ Some line → CountsAt it.counts.items new.counts.items list line) →
    new ≡ record it { counts = new.counts } → CountsLine it new list (line_at list number)
line_decides it new list number not few are at rest =
    let long : length it.counts.items ≡ length list = length_of list it.counts.items are in
    let found : (line : Words) × (slice_get list (number - 1) ≡ Some line) = some_there list (number - 1) (omega arith) in
    let line : Words = found.0 in
    let c : CountsAt it.counts.items new.counts.items list line = at line are found.1 in
    subst (λ (l : Option Words). CountsLine it new list l) (sym (at_place list number not ∙ found.1))
    (record {
      rest = rest ∙ ap (λ (n : ℕ). record it { counts = new.counts; unmatched = n }) (sym (ap (λ (x : Hits). x.unmatched) rest));
      counts = c.are;
      tallies = λ words. ap (λ (x : Hits). joined new.counts.items words (kept_for x.tallies words)) rest ∙ c.counted words (kept_for it.tallies words);
      unmatched = ap (λ (x : Hits). x.unmatched) rest;
    })
