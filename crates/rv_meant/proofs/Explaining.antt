-- What closes a body explains its end, where what was asked is what the history has.
use Rattle.std.proofs.Common.{◌≡◌, ◌⊎◌, inl, inr, ⊎_elim, ℕ, ℤ, List, [], ◌∷◌, ◌++◌, Bool, true, false, refl, sym, ap, ◌∙◌, subst, append_assoc, append-nil}
use Rattle.std.specs.Prelude.{if◌then◌else◌, is_some}
use Rattle.rv_shape.specs.Shape.{Shape}
use Rattle.rv_shape.specs.Catalogue.{target, shares}
use Rattle.rv_event.specs.Recorded.{recorded}
use Rattle.rv_event.specs.declared.entry.Answer.{Answer}
use Rattle.rv_event.specs.declared.entry.Answer.TheVariants as answer
use Rattle.rv_event.specs.declared.entry.Exit.{Exit}
use Rattle.rv_event.specs.declared.entry.Next.{Next}
use Rattle.rv_event.specs.declared.entry.Request.{Request}
use Rattle.rv_event.specs.declared.entry.Request.TheVariants as request
use Rattle.rv_code.specs.declared.expression.Callee.{Callee}
use Rattle.rv_code.specs.Bodies.{UnitBodies}
use Rattle.rv_fits.specs.Fits.{callee_fits}
use Rattle.rv_fits.proofs.Keeps.{callee_keeps}
use Rattle.rv_exec.specs.Asking.{Trace, Along}
use Rattle.rv_exec.specs.Stops.{is_final, stops_bodies}
use Rattle.rv_history.specs.Due.{out}
use Rattle.rv_history.specs.History.{History}
use Rattle.rv_exec.specs.Blocks.{operation_run_at}
use Rattle.rv_exec.proofs.Finals.{final_none}
use Rattle.rv_meant.specs.Asks.{held_after, held_behind, IsWhole, HoldsMore, AreRecorded, recorded_if, recorded_of, AreStoppedEnds, IsCutOff, IsCourse}
use Rattle.rv_meant.specs.Nested.{by_stopped, Strays, ClosesBody, IsLeftInside}
use Rattle.rv_meant.specs.Histories.{asks_of, without_last}
use Rattle.rv_meant.specs.Explained.{StartsBody, on_protected, Stopped, Recounts, MeantEnd}
use Rattle.rv_meant.specs.Told.{HasAsked, FitBehind, InnerEndsAreExplained, OuterEndsAreExplained, TaskEndsAreExplained}
use Rattle.rv_meant.proofs.Nesting.{Place, place_of, none_there, rest_same, held_both, recorded_both}
use Rattle.rv_meant.proofs.NestedBodies.{bodies_nest, tasks_nest}
use Rattle.rv_meant.proofs.Openings.{Called, IsOpening, opening_of, call_shares, call_protected}

-- What is recorded of asks

if_more : (k : Bool) (pair : Request × Answer) (p q : Trace) → recorded_if k pair (p ++ q) ≡ recorded_if k pair p ++ q
if_more true pair p q = refl
if_more false pair p q = refl

pub recorded_append : (p q : Trace) → recorded_of (p ++ q) ≡ recorded_of p ++ recorded_of q
recorded_append [] q = refl
recorded_append (pair ∷ p) q = ap (λ (l : Trace). recorded_if (is_some (recorded pair.1)) pair l) (recorded_append p q) ∙ if_more (is_some (recorded pair.1)) pair (recorded_of p) (recorded_of q)

pub all_recorded : (p : Trace) → AreRecorded p → recorded_of p ≡ p
all_recorded [] r = refl
all_recorded (pair ∷ p) r = ap (λ (k : Bool). recorded_if k pair (recorded_of p)) r.0 ∙ ap (λ (l : Trace). pair ∷ l) (all_recorded p r.1)

ends_recorded : (p : Trace) → AreStoppedEnds p → AreRecorded p
ends_recorded [] e = tt
ends_recorded (pair ∷ p) e = (e.1, ends_recorded p e.2)

final_unrecorded : (r : Answer) → is_final r ≡ true → is_some (recorded r) ≡ false
final_unrecorded r e = ap is_some (final_none r e)

unrecorded_held : (n : ℕ) (r : Answer) → is_some (recorded r) ≡ false → held_after n r ≡ n
unrecorded_held n (answer.Started s) e = absurd (cc e)
unrecorded_held n (answer.Woken s) e = absurd (cc e)
unrecorded_held n (answer.Done next) e = absurd (cc e)
unrecorded_held n r e = refl

-- what has no entry leaves as much held as before
recorded_held_if : (k : Bool) (n : ℕ) (pair : Request × Answer) (p : Trace) → is_some (recorded pair.1) ≡ k → held_behind n (recorded_if k pair p) ≡ held_behind (held_after n pair.1) p
recorded_held_if true n pair p e = refl
recorded_held_if false n pair p e = ap (λ (m : ℕ). held_behind m p) (sym (unrecorded_held n pair.1 e))

pub recorded_held : (n : ℕ) (p : Trace) → held_behind n (recorded_of p) ≡ held_behind n p
recorded_held n [] = refl
recorded_held n (pair ∷ p) = recorded_held_if (is_some (recorded pair.1)) n pair (recorded_of p) refl ∙ recorded_held (held_after n pair.1) p

-- an ask that was answered Halted or Full isn't one of these
cut_in_recorded : (p done : Trace) (request : Request) (answer : Answer) (rest : Trace) → AreRecorded p → p ≡ done ++ (request, answer) ∷ rest → is_final answer ≡ true → ⊥
cut_in_recorded p done request answer rest r e final = cc (cut_at done rest request answer (subst (λ (l : Trace). AreRecorded l) e r), final_unrecorded answer final)
  where
    cut_at : (done rest : Trace) (request : Request) (answer : Answer) → AreRecorded (done ++ (request, answer) ∷ rest) → is_some (recorded answer) ≡ true
    cut_at [] rest request answer r = r.0
    cut_at (pair ∷ done) rest request answer r = cut_at done rest request answer r.1

abbrev is_complete : Request → Bool
is_complete (request.Complete components exit) = true
is_complete other = false

abbrev first_ends : Trace → Bool
first_ends [] = false
first_ends (pair ∷ more) = is_complete pair.0

-- The end of a body by its start

-- What closes a body, in the words of the catalogue.
pub record Closing (bodies : UnitBodies) (loaded shapes : List Shape) (actor held : ℕ) (before : Trace) (scalars : List ℤ) (exit : Exit) : Type 0 where
  pub early : Trace
  pub opening : Trace
  pub inside : Trace
  pub before_is : before ≡ (early ++ opening) ++ inside
  pub recorded : AreRecorded (early ++ opening)
  pub object : ℕ
  pub operation : ℕ
  pub values : List ℤ
  pub components : List ℤ
  pub is_loaded : on_protected (target loaded object operation) ≡ true
  pub opens : StartsBody shapes actor opening object operation values components
  pub whole : IsWhole inside
  pub left : List ℤ
  pub along : Along (operation_run_at bodies (held_behind held (early ++ opening)) object operation values components) inside (exit, left)
  pub scalars_are : scalars ≡ (if shares (target shapes object operation) then [] else left)
  pub course : IsCourse (by_stopped exit) inside

called_opens : (shapes : List Shape) (actor object operation : ℕ) (values components : List ℤ) (opening : Trace) → Called object operation values components opening → StartsBody shapes actor opening object operation values components
called_opens shapes actor object operation values components opening (inl e) = inl e
called_opens shapes actor object operation values components opening (inr e) = inr (inl e)

pub closing_of : (bodies : UnitBodies) (loaded shapes : List Shape) (actor held : ℕ) (before : Trace) (scalars : List ℤ) (exit : Exit)
    → ((c : Callee) → callee_fits loaded c ≡ true → callee_fits shapes c ≡ true) → ClosesBody (callee_fits loaded) bodies held before scalars exit → Closing bodies loaded shapes actor held before scalars exit
closing_of bodies loaded shapes actor held before scalars exit fits c =
    let o : IsOpening c.callee c.values c.opening c.object c.operation c.is_function c.components = opening_of c.callee c.values c.opening c.object c.operation c.is_function c.components c.opens in
    record {
      early = c.early;
      opening = c.opening;
      inside = c.inside;
      before_is = c.before_is ∙ sym (append_assoc c.early c.opening c.inside);
      recorded = c.recorded;
      object = c.object;
      operation = c.operation;
      values = c.values;
      components = c.components;
      is_loaded = call_protected loaded c.callee c.object c.operation c.is_function o.call c.is_such;
      opens = called_opens shapes actor c.object c.operation c.values c.components c.opening o.called;
      whole = c.whole;
      left = c.left;
      along = c.along;
      scalars_are = c.scalars_are ∙ ap (λ (k : Bool). if k then [] else c.left) (sym (call_shares shapes c.callee c.object c.operation c.is_function o.call (fits c.callee c.is_such)));
      course = c.course;
    }

module _ (shapes : List Shape) (bodies : UnitBodies) (h : History) (actor : ℕ) (first before : Trace) (scalars : List ℤ) (exit : Exit)
    (k : HasAsked h actor first before) (c : Closing bodies shapes h.shapes actor (held_behind 0 first) before scalars exit) where
  front_is : first ++ (c.early ++ c.opening) ≡ (first ++ c.early) ++ c.opening
  front_is = sym (append_assoc first c.early c.opening)

  asked_so : (inside : Trace) → asks_of actor h ≡ first ++ ((c.early ++ c.opening) ++ inside) → asks_of actor h ≡ (first ++ c.early) ++ (c.opening ++ inside)
  asked_so inside e = e ∙ (sym (append_assoc first (c.early ++ c.opening) inside) ∙ (ap (λ (l : Trace). l ++ inside) front_is ∙ append_assoc (first ++ c.early) c.opening inside))

  recorded_is : recorded_of before ≡ (c.early ++ c.opening) ++ recorded_of c.inside
  recorded_is = ap recorded_of c.before_is ∙ (recorded_append (c.early ++ c.opening) c.inside ∙ ap (λ (l : Trace). l ++ recorded_of c.inside) (all_recorded (c.early ++ c.opening) c.recorded))

  stopped_at : IsCutOff c.inside → Stopped h actor ((first ++ c.early) ++ c.opening) (recorded_of c.inside) c.inside
  stopped_at g =
      let split : before ≡ ((c.early ++ c.opening) ++ g.before) ++ (g.request, g.answer) ∷ g.behind = c.before_is ∙ (ap (λ (l : Trace). (c.early ++ c.opening) ++ l) g.trace_is ∙ sym (append_assoc (c.early ++ c.opening) g.before ((g.request, g.answer) ∷ g.behind))) in
      let d = k.due ((c.early ++ c.opening) ++ g.before) g.request g.answer g.behind split g.final in
      let all : recorded_of ((c.early ++ c.opening) ++ g.before) ≡ (c.early ++ c.opening) ++ g.before = all_recorded ((c.early ++ c.opening) ++ g.before) (recorded_both (c.early ++ c.opening) g.before c.recorded g.recorded) in
      let asked : first ++ recorded_of ((c.early ++ c.opening) ++ g.before) ≡ (((first ++ c.early) ++ c.opening) ++ g.before) ++ []
      = ap (λ (l : Trace). first ++ l) all ∙ (sym (append_assoc first (c.early ++ c.opening) g.before) ∙ (ap (λ (l : Trace). l ++ g.before) front_is ∙ sym (append-nil (((first ++ c.early) ++ c.opening) ++ g.before)))) in
      record {
        done = g.before;
        request = g.request;
        answer = g.answer;
        ends = g.behind;
        inside_is = ap recorded_of g.trace_is ∙ (recorded_append g.before ((g.request, g.answer) ∷ g.behind)
            ∙ ((λ i. all_recorded g.before g.recorded i ++ recorded_if (final_unrecorded g.answer g.final i) (g.request, g.answer) (all_recorded g.behind (ends_recorded g.behind g.ends) i))));
        trace_is = g.trace_is;
        final = g.final;
        are_ends = g.ends;
        due = record { later = d.0; by_then = []; others = g.behind; ends_are = refl; had_asked = d.1 ∙ asked; due = d.2 };
      }

  recounts_so : (stopped : Bool) → IsCourse stopped c.inside → Recounts stopped h actor ((first ++ c.early) ++ c.opening) (recorded_of c.inside) c.inside
  recounts_so false r = sym (all_recorded c.inside r)
  recounts_so true g = stopped_at g

  pub explained : MeantEnd shapes bodies h actor scalars exit
  explained = record {
    early = first ++ c.early;
    opening = c.opening;
    inside = recorded_of c.inside;
    asked_is = asked_so (recorded_of c.inside) (k.has ∙ ap (λ (l : Trace). first ++ l) recorded_is);
    object = c.object;
    operation = c.operation;
    values = c.values;
    components = c.components;
    loaded = c.is_loaded;
    opens = c.opens;
    whole = λ n. recorded_held n c.inside ∙ c.whole n;
    trace = c.inside;
    recounts = recounts_so (by_stopped exit) c.course;
    leaves = c.left;
    along = subst (λ (n : ℕ). Along (operation_run_at bodies n c.object c.operation c.values c.components) c.inside (exit, c.left))
        (sym (held_both 0 first (c.early ++ c.opening)) ∙ ap (λ (l : Trace). held_behind 0 l) front_is) c.along;
    scalars_are = c.scalars_are;
  }

-- Ends that runs asked

fits_behind : (shapes : List Shape) (bodies : UnitBodies) (h : History) → FitBehind shapes bodies h → (c : Callee) → callee_fits shapes c ≡ true → callee_fits h.shapes c ≡ true
fits_behind shapes bodies h f c e = ap (λ (s : List Shape). callee_fits s c) f.loaded ∙ callee_keeps shapes f.more c e

inner_end : (shapes : List Shape) (bodies : UnitBodies) (h : History) (actor : ℕ) (first before : Trace) (scalars : List ℤ) (exit : Exit) → FitBehind shapes bodies h → HasAsked h actor first before
    → Strays (callee_fits shapes) before ⊎ ClosesBody (callee_fits shapes) bodies (held_behind 0 first) before scalars exit → Strays (callee_fits shapes) before ⊎ MeantEnd shapes bodies h actor scalars exit
inner_end shapes bodies h actor first before scalars exit f k (inl s) = inl s
inner_end shapes bodies h actor first before scalars exit f k (inr c) =
    inr (explained shapes bodies h actor first before scalars exit k (closing_of bodies shapes h.shapes actor (held_behind 0 first) before scalars exit (fits_behind shapes bodies h f) c))

pub inner_ends : InnerEndsAreExplained
inner_ends shapes bodies h actor first object operation values components left exit before after scalars ended next f run k =
    inner_end shapes bodies h actor first before scalars ended f k
    ((bodies_nest (callee_fits shapes) bodies (held_behind 0 first) object operation values components left (before ++ (request.Complete scalars ended, answer.Done next) ∷ after) exit f.fit run).close before after scalars ended next refl)

outer_end : (shapes : List Shape) (bodies : UnitBodies) (h : History) (actor : ℕ) (early opening : Trace) (object operation : ℕ) (values components left : List ℤ) (exit : Exit) (trace : Trace)
    → AreRecorded (early ++ opening) → on_protected (target shapes object operation) ≡ true → StartsBody h.shapes actor opening object operation values components
    → Along (operation_run_at bodies (held_behind 0 (early ++ opening)) object operation values components) trace (exit, left) → HasAsked h actor (early ++ opening) trace
    → Strays (callee_fits shapes) trace ⊎ ((IsWhole trace × IsCourse (by_stopped exit) trace) ⊎ IsLeftInside (by_stopped exit) trace) → Strays (callee_fits shapes) trace ⊎ (HoldsMore trace ⊎ MeantEnd shapes bodies h actor (if shares (target h.shapes object operation) then [] else left) exit)
outer_end shapes bodies h actor early opening object operation values components left exit trace r m o run k (inl s) = inl s
outer_end shapes bodies h actor early opening object operation values components left exit trace r m o run k (inr (inr left_inside)) = inr (inl left_inside.1)
outer_end shapes bodies h actor early opening object operation values components left exit trace r m o run k (inr (inl w)) =
    let none : asks_of actor h ≡ [] ++ recorded_of ((early ++ opening) ++ trace) = k.has ∙ sym (recorded_append (early ++ opening) trace ∙ ap (λ (l : Trace). l ++ recorded_of trace) (all_recorded (early ++ opening) r)) in
    inr (inr (explained shapes bodies h actor [] ((early ++ opening) ++ trace) (if shares (target h.shapes object operation) then [] else left) exit
    (record { has = none; due = λ done request answer behind e final. later_due done request answer behind e final })
    (record {
      early = early;
      opening = opening;
      inside = trace;
      before_is = refl;
      recorded = r;
      object = object;
      operation = operation;
      values = values;
      components = components;
      is_loaded = m;
      opens = o;
      whole = w.0;
      left = left;
      along = run;
      scalars_are = refl;
      course = w.1;
    })))
  where
    due_in : (done : Trace) (request : Request) (answer : Answer) (behind : Trace) → is_final answer ≡ true → Place (request, answer) (early ++ opening) trace done behind
        → (later : ℕ) × (asks_of actor (without_last later h) ≡ [] ++ recorded_of done) × (stops_bodies (out (without_last later h) actor request) ≡ true)
    due_in done request answer behind final (inl p) = absurd (cut_in_recorded (early ++ opening) done request answer p.0 r p.1 final)
    due_in done request answer behind final (inr p) =
        let d = k.due p.0 request answer behind p.2 final in
        (d.0, d.1 ∙ sym (ap recorded_of p.1 ∙ (recorded_append (early ++ opening) p.0 ∙ ap (λ (l : Trace). l ++ recorded_of p.0) (all_recorded (early ++ opening) r))), d.2)

    later_due : (done : Trace) (request : Request) (answer : Answer) (behind : Trace) → (early ++ opening) ++ trace ≡ done ++ (request, answer) ∷ behind → is_final answer ≡ true
        → (later : ℕ) × (asks_of actor (without_last later h) ≡ [] ++ recorded_of done) × (stops_bodies (out (without_last later h) actor request) ≡ true)
    later_due done request answer behind e final = due_in done request answer behind final (place_of (request, answer) (early ++ opening) trace done behind e)

pub outer_ends : OuterEndsAreExplained
outer_ends shapes bodies h actor early opening object operation values components left exit trace f r m o run k =
    outer_end shapes bodies h actor early opening object operation values components left exit trace r m o run k
    ((bodies_nest (callee_fits shapes) bodies (held_behind 0 (early ++ opening)) object operation values components left trace exit f.fit run).course)

no_end_in : (before after : Trace) (scalars : List ℤ) (exit : Exit) (next : Next) (quit : Trace) → (quit ≡ []) ⊎ ((r : Answer) × (quit ≡ (request.Quit, r) ∷ [])) → quit ≡ before ++ (request.Complete scalars exit, answer.Done next) ∷ after → ⊥
no_end_in before after scalars exit next quit (inl e) h = none_there (request.Complete scalars exit, answer.Done next) before after (sym e ∙ h)
no_end_in before after scalars exit next quit (inr e) h = only_quit before after scalars exit next e.0 (sym e.1 ∙ h)
  where
    only_quit : (before after : Trace) (scalars : List ℤ) (exit : Exit) (next : Next) (r : Answer) → (request.Quit, r) ∷ [] ≡ before ++ (request.Complete scalars exit, answer.Done next) ∷ after → ⊥
    only_quit [] after scalars exit next r e = cc (ap (λ (l : Trace). first_ends l) e)
    only_quit (pair ∷ before) after scalars exit next r e = none_there (request.Complete scalars exit, answer.Done next) before after (rest_same (request.Quit, r) pair [] (before ++ (request.Complete scalars exit, answer.Done next) ∷ after) e)

pub task_ends : TaskEndsAreExplained
task_ends shapes bodies h actor requests first exit before after scalars ended next f none run k =
    let t = tasks_nest (callee_fits shapes) bodies actor requests (before ++ (request.Complete scalars ended, answer.Done next) ∷ after) exit f.fit run in
    inner_end shapes bodies h actor first before scalars ended f k
    (subst (λ (n : ℕ). Strays (callee_fits shapes) before ⊎ ClosesBody (callee_fits shapes) bodies n before scalars ended) (sym none) (⊎_elim (λ p. t.nested.close before p.0 scalars ended next p.1) (λ p. absurd (no_end_in p.0 after scalars ended next t.quit t.quits p.2))
    (place_of (request.Complete scalars ended, answer.Done next) t.asked t.quit before after (sym t.trace_is))))
