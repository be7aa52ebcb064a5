-- What asks leave held, and which have entries, one after another.
use Rattle.std.proofs.Common.{◌≡◌, ◌⊎◌, inl, inr, ⊎_elim, ℕ, ◌<◌, ℤ, List, [], ◌∷◌, ◌++◌, Bool, true, false, refl, sym, ap, ◌∙◌, subst, append_assoc, append-nil, Ok, Err}
use Rattle.rv_event.specs.declared.entry.Answer.{Answer}
use Rattle.rv_event.specs.declared.entry.Answer.TheVariants as answer
use Rattle.rv_event.specs.declared.entry.Exit.{Exit}
use Rattle.rv_event.specs.declared.entry.Request.{Request}
use Rattle.rv_event.specs.declared.entry.Request.TheVariants as request
use Rattle.rv_code.specs.declared.expression.Callee.{Callee}
use Rattle.rv_code.specs.Bodies.{UnitBodies}
use Rattle.rv_exec.specs.declared.end.Cause.TheVariants as cause
use Rattle.rv_exec.specs.Asking.{Trace, Along}
use Rattle.rv_exec.specs.Blocks.{operation_run_at}
use Rattle.rv_exec.specs.Calls.{Outcome, exit_of}
use Rattle.rv_meant.specs.Asks.{held_after, held_behind, IsWhole, HoldsMore, AreRecorded, AreStoppedEnds, IsCutOff, IsCourse}
use Rattle.rv_meant.specs.Nested.{StraysWaiting, Strays, by_stopped, ClosesBody, EndsClose, IsLeftInside, IsNested}
use Rattle.rv_exec.proofs.Keeping.{How, ongoing, halted, stuck, how_result, Kept}

-- Lists

abbrev first_or : {A : Type 0} → A → List A → A
first_or x [] = x
first_or x (y ∷ ys) = y

abbrev rest_of : {A : Type 0} → List A → List A
rest_of [] = []
rest_of (y ∷ ys) = ys

pub first_same : {A : Type 0} (x y : A) (xs ys : List A) → x ∷ xs ≡ y ∷ ys → x ≡ y
first_same x y xs ys e = ap (λ l. first_or x l) e

pub rest_same : {A : Type 0} (x y : A) (xs ys : List A) → x ∷ xs ≡ y ∷ ys → xs ≡ ys
rest_same x y xs ys e = ap (λ l. rest_of l) e

-- an item of two lists, one after another, is one of the first, or one of the second
abbrev pub Place : {A : Type 0} → A → List A → List A → List A → List A → Type 0
Place {A = A} x p q before after = ((rest : List A) × (p ≡ before ++ x ∷ rest)) ⊎ ((early : List A) × (before ≡ p ++ early) × (q ≡ early ++ x ∷ after))

further : {A : Type 0} (x y z : A) (p q before after : List A) → y ≡ z → Place x p q before after → Place x (y ∷ p) q (z ∷ before) after
further x y z p q before after h (inl w) = inl (w.0, λ i. h i ∷ w.1 i)
further x y z p q before after h (inr w) = inr (w.0, (λ i. sym h i ∷ w.1 i), w.2)

pub place_of : {A : Type 0} (x : A) (p q before after : List A) → p ++ q ≡ before ++ x ∷ after → Place x p q before after
place_of x [] q before after e = inr (before, refl, e)
place_of x (y ∷ p) q [] after e = inl (p, ap (λ z. z ∷ p) (first_same y x (p ++ q) after e))
place_of x (y ∷ p) q (z ∷ before) after e =
    further x y z p q before after (first_same y z (p ++ q) (before ++ x ∷ after) e) (place_of x p q before after (rest_same y z (p ++ q) (before ++ x ∷ after) e))

pub none_there : {A : Type 0} (x : A) (before after : List A) → [] ≡ before ++ x ∷ after → ⊥
none_there x [] after e = cc e
none_there x (y ∷ before) after e = cc e

-- Strays

waits_before : (such : Callee → Bool) (first : Request × Answer) (p q : Trace) → StraysWaiting such first p → StraysWaiting such first (p ++ q)
waits_before such first [] q s = absurd s
waits_before such first (pair ∷ p) q s = s

pub strays_before : (such : Callee → Bool) (p q : Trace) → Strays such p → Strays such (p ++ q)
strays_before such [] q s = absurd s
strays_before such (pair ∷ p) q (inl s) = inl s
strays_before such (pair ∷ p) q (inr (inl s)) = inr (inl (waits_before such pair p q s))
strays_before such (pair ∷ p) q (inr (inr s)) = inr (inr (strays_before such p q s))

pub strays_behind : (such : Callee → Bool) (p q : Trace) → Strays such q → Strays such (p ++ q)
strays_behind such [] q s = s
strays_behind such (pair ∷ p) q s = inr (inr (strays_behind such p q s))

-- How much is held

pub held_both : (held : ℕ) (p q : Trace) → held_behind held (p ++ q) ≡ held_behind (held_behind held p) q
held_both held [] q = refl
held_both held (pair ∷ p) q = held_both (held_after held pair.1) p q

pub whole_both : (p q : Trace) → IsWhole p → IsWhole q → IsWhole (p ++ q)
whole_both p q f g held = held_both held p q ∙ (ap (λ n. held_behind n q) (f held) ∙ g held)

-- Entries

pub recorded_both : (p q : Trace) → AreRecorded p → AreRecorded q → AreRecorded (p ++ q)
recorded_both [] q f g = g
recorded_both (pair ∷ p) q f g = (f.0, recorded_both p q f.1 g)

pub ends_both : (p q : Trace) → AreStoppedEnds p → AreStoppedEnds q → AreStoppedEnds (p ++ q)
ends_both [] q f g = g
ends_both (pair ∷ p) q f g = (f.0, f.1, ends_both p q f.2 g)

pub course_both : (p q : Trace) (stopped : Bool) → AreRecorded p → IsCourse stopped q → IsCourse stopped (p ++ q)
course_both p q false f g = recorded_both p q f g
course_both p q true f g = record {
  before = p ++ g.before;
  request = g.request;
  answer = g.answer;
  behind = g.behind;
  trace_is = ap (λ (l : Trace). p ++ l) g.trace_is ∙ sym (append_assoc p g.before ((g.request, g.answer) ∷ g.behind));
  recorded = recorded_both p g.before f g.recorded;
  final = g.final;
  ends = g.ends;
}

-- Ends

-- what closes a body does so behind more that was asked before, by which so many were held
pub closes_later : (such : Callee → Bool) (bodies : UnitBodies) (held n : ℕ) (p before : Trace) (scalars : List ℤ) (exit : Exit) → held_behind held p ≡ n → AreRecorded p → ClosesBody such bodies n before scalars exit → ClosesBody such bodies held (p ++ before) scalars exit
closes_later such bodies held n p before scalars exit e r c =
    let h : held_behind n (c.early ++ c.opening) ≡ held_behind held ((p ++ c.early) ++ c.opening)
    = sym (ap (λ (l : Trace). held_behind held l) (append_assoc p c.early c.opening) ∙ (held_both held p (c.early ++ c.opening) ∙ ap (λ (m : ℕ). held_behind m (c.early ++ c.opening)) e)) in
    record {
      early = p ++ c.early;
      opening = c.opening;
      inside = c.inside;
      before_is = ap (λ (l : Trace). p ++ l) c.before_is ∙ sym (append_assoc p c.early (c.opening ++ c.inside));
      recorded = subst (λ (l : Trace). AreRecorded l) (sym (append_assoc p c.early c.opening)) (recorded_both p (c.early ++ c.opening) r c.recorded);
      callee = c.callee;
      is_outer = c.is_outer;
      is_such = c.is_such;
      object = c.object;
      operation = c.operation;
      is_function = c.is_function;
      values = c.values;
      components = c.components;
      opens = c.opens;
      whole = c.whole;
      left = c.left;
      along = subst (λ (m : ℕ). Along (operation_run_at bodies m c.object c.operation c.values c.components) c.inside (exit, c.left)) h c.along;
      scalars_are = c.scalars_are;
      course = c.course;
    }

pub later_end : (such : Callee → Bool) (bodies : UnitBodies) (held n : ℕ) (p before : Trace) (scalars : List ℤ) (exit : Exit) → held_behind held p ≡ n → AreRecorded p → Strays such before ⊎ ClosesBody such bodies n before scalars exit → Strays such (p ++ before) ⊎ ClosesBody such bodies held (p ++ before) scalars exit
later_end such bodies held n p before scalars exit e r (inl s) = inl (strays_behind such p before s)
later_end such bodies held n p before scalars exit e r (inr c) = inr (closes_later such bodies held n p before scalars exit e r c)

-- what is asked by a run that ends so: where each answer is one that is given, all that started has ended, and each ask has an entry,
-- or cut it off; or it is left in a body
abbrev pub Kind : (Callee → Bool) → Trace → How → Type 0
Kind such trace ongoing = Strays such trace ⊎ (IsWhole trace × AreRecorded trace)
Kind such trace halted = Strays such trace ⊎ (IsWhole trace × IsCutOff trace)
Kind such trace stuck = Strays such trace ⊎ ((IsWhole trace × IsCutOff trace) ⊎ HoldsMore trace)

pub more_behind : (p q : Trace) → IsWhole p → HoldsMore q → HoldsMore (p ++ q)
more_behind p q f g held =
    let e : held_behind held (p ++ q) ≡ held_behind held q = held_both held p q ∙ ap (λ n. held_behind n q) (f held) in
    subst (λ (n : ℕ). held < n) (sym e) (g held)

behind_whole : (such : Callee → Bool) (bodies : UnitBodies) (held : ℕ) (p before : Trace) (scalars : List ℤ) (exit : Exit) → Kind such p ongoing → Strays such before ⊎ ClosesBody such bodies held before scalars exit → Strays such (p ++ before) ⊎ ClosesBody such bodies held (p ++ before) scalars exit
behind_whole such bodies held p before scalars exit (inl s) c = inl (strays_before such p before s)
behind_whole such bodies held p before scalars exit (inr w) c = later_end such bodies held held p before scalars exit (w.0 held) w.1 c

close_both : (such : Callee → Bool) (bodies : UnitBodies) (held : ℕ) (p q : Trace) → EndsClose such bodies held p → Kind such p ongoing → EndsClose such bodies held q → EndsClose such bodies held (p ++ q)
close_both such bodies held p q f w g before after scalars exit next e =
    ⊎_elim (λ h. f before h.0 scalars exit next h.1)
    (λ h. subst (λ (l : Trace). Strays such l ⊎ ClosesBody such bodies held l scalars exit) (sym h.1) (behind_whole such bodies held p h.0 scalars exit w (g h.0 after scalars exit next h.2)))
    (place_of (request.Complete scalars exit, answer.Done next) p q before after e)

kind_both : (such : Callee → Bool) (p q : Trace) (how : How) → Kind such p ongoing → Kind such q how → Kind such (p ++ q) how
kind_both such p q ongoing (inl s) g = inl (strays_before such p q s)
kind_both such p q halted (inl s) g = inl (strays_before such p q s)
kind_both such p q stuck (inl s) g = inl (strays_before such p q s)
kind_both such p q ongoing (inr f) (inl s) = inl (strays_behind such p q s)
kind_both such p q halted (inr f) (inl s) = inl (strays_behind such p q s)
kind_both such p q stuck (inr f) (inl s) = inl (strays_behind such p q s)
kind_both such p q ongoing (inr f) (inr g) = inr (whole_both p q f.0 g.0, recorded_both p q f.1 g.1)
kind_both such p q halted (inr f) (inr g) = inr (whole_both p q f.0 g.0, course_both p q true f.1 g.1)
kind_both such p q stuck (inr f) (inr (inl g)) = inr (inl (whole_both p q f.0 g.0, course_both p q true f.1 g.1))
kind_both such p q stuck (inr f) (inr (inr g)) = inr (inr (more_behind p q f.0 g))

-- what is kept of runs
pub record NestedSo (such : Callee → Bool) (bodies : UnitBodies) (held : ℕ) (trace : Trace) (how : How) : Type 0 where
  pub close : EndsClose such bodies held trace
  pub kind : Kind such trace how

pub nested_nothing : (such : Callee → Bool) (bodies : UnitBodies) (held : ℕ) → NestedSo such bodies held [] ongoing
nested_nothing such bodies held = record {
  close = λ before after scalars exit next e. absurd (none_there (request.Complete scalars exit, answer.Done next) before after e);
  kind = inr ((λ n. refl), tt);
}

pub nested_both : (such : Callee → Bool) (bodies : UnitBodies) (held : ℕ) (p q : Trace) (how : How) → NestedSo such bodies held p ongoing → NestedSo such bodies held q how → NestedSo such bodies held (p ++ q) how
nested_both such bodies held p q how f g = record {
  close = close_both such bodies held p q f.close f.kind g.close;
  kind = kind_both such p q how f.kind g.kind;
}

-- so it is kept of whole runs
abbrev pub nesting : (Callee → Bool) → UnitBodies → ℕ → Kept
nesting such bodies held = record {
  such = such;
  holds = λ trace how. NestedSo such bodies held trace how;
  nothing = nested_nothing such bodies held;
  behind = λ k trace how. (trace ≡ []) × (how ≡ k);
  both = nested_both such bodies held;
  stays = λ k first second how e f g.
      subst (λ (x : Trace × How). NestedSo such bodies held x.0 x.1) (λ j. (sym (ap (λ (l : Trace). first ++ l) g.0 ∙ append-nil first) j, sym g.1 j)) f;
  at_once = λ k. (refl, refl);
}

-- the same by the exit
nested_at : (such : Callee → Bool) (bodies : UnitBodies) (held : ℕ) (trace : Trace) (outcome : Outcome) → Kind such trace (how_result outcome) → Strays such trace ⊎ ((IsWhole trace × IsCourse (by_stopped (exit_of outcome)) trace) ⊎ IsLeftInside (by_stopped (exit_of outcome)) trace)
nested_at such bodies held trace (Ok values) k = ⊎_elim (λ s. inl s) (λ w. inr (inl w)) k
nested_at such bodies held trace (Err (cause.Raised exception)) k = ⊎_elim (λ s. inl s) (λ w. inr (inl w)) k
nested_at such bodies held trace (Err cause.Overrun) k = ⊎_elim (λ s. inl s) (λ w. inr (inl w)) k
nested_at such bodies held trace (Err (cause.Stopped true)) k = ⊎_elim (λ s. inl s) (λ w. inr (inl w)) k
nested_at such bodies held trace (Err (cause.Stopped false)) k = ⊎_elim (λ s. inl s) (λ w. inr (⊎_elim (λ f. inl f) (λ m. inr (refl, m)) w)) k

pub nested_by : (such : Callee → Bool) (bodies : UnitBodies) (held : ℕ) (trace : Trace) (outcome : Outcome) → NestedSo such bodies held trace (how_result outcome) → IsNested such bodies held trace (by_stopped (exit_of outcome))
nested_by such bodies held trace outcome f = record { close = f.close; course = nested_at such bodies held trace outcome f.kind }
