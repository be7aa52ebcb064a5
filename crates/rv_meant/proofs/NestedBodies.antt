-- The ends of bodies inside one another close them.
use Rattle.std.proofs.Common.{◌≡◌, ◌⊎◌, inl, inr, ⊎_elim, ℕ, zero, suc, ◌+◌, ◌≤◌, ◌<◌, ℤ, pos, List, [], ◌∷◌, ◌++◌, Bool, true, false, cond, refl, sym, ap, ◌∙◌, subst, append_assoc, append-nil, arith, Option, Some, None, Ok, Err}
use Rattle.std.specs.Prelude.{◌-◌, replicate}
use Rattle.rv_event.specs.declared.entry.Answer.{Answer}
use Rattle.rv_event.specs.declared.entry.Answer.TheVariants as answer
use Rattle.rv_event.specs.declared.entry.Exception.TheVariants.{ProgramError}
use Rattle.rv_event.specs.declared.entry.Exit.{Exit}
use Rattle.rv_event.specs.declared.entry.Exit.TheVariants as exit
use Rattle.rv_event.specs.declared.entry.Next.{Next}
use Rattle.rv_event.specs.declared.entry.Request.{Request}
use Rattle.rv_event.specs.declared.entry.Request.TheVariants as request
use Rattle.rv_code.specs.declared.expression.Callee.{Callee}
use Rattle.rv_code.specs.Bodies.{Body, UnitBodies}
use Rattle.rv_fits.specs.Calls.{task_calls, such_in, every_call}
use Rattle.rv_exec.specs.declared.end.Asked.{Asked}
use Rattle.rv_exec.specs.declared.end.Asked.TheVariants as asked
use Rattle.rv_exec.specs.declared.end.Cause.TheVariants as cause
use Rattle.rv_exec.specs.Asking.{Trace, Asking, ended, asking, and_then, Along}
use Rattle.rv_exec.specs.Activations.{opened, given_back}
use Rattle.rv_exec.specs.Blocks.{block, outcome_of, inner_at, performed, outer_at, exits, operation_run_at, world}
use Rattle.rv_exec.specs.Bodies.{task_of}
use Rattle.rv_exec.specs.Calls.{Outcome, internal, is_protected, asks, reached, exit_of, seen, completed, is_stuck, end_of, completes}
use Rattle.rv_exec.specs.Stops.{is_stopped}
use Rattle.rv_exec.specs.Tasks.{task_setting, quits, over, task_meaning}
use Rattle.rv_exec.proofs.Stopping.{stopped_result}
use Rattle.rv_meant.specs.Asks.{held_after, held_behind, IsWhole, HoldsMore, AreRecorded, is_stopped_end, IsCutOff, IsCourse}
use Rattle.rv_meant.specs.Nested.{Strays, by_stopped, ClosesBody, EndsClose, IsNested, BodiesNest, TaskNests, TasksNest}
use Rattle.rv_exec.proofs.Keeping.{How, ongoing, stuck, how_result, how_got, how_run, Sound, split, ends_at_once, ends_with}
use Rattle.rv_exec.proofs.KeptValues.{SoundWorld}
use Rattle.rv_exec.proofs.KeptBodies.{block_sound, inner_sound, outcome_stops, task_found}
use Rattle.rv_meant.proofs.Nesting.{first_same, rest_same, place_of, none_there, strays_before, strays_behind, held_both, recorded_both, ends_both, course_both, later_end, Kind, NestedSo, nesting, nested_by}
use Rattle.rv_meant.proofs.Answered.{begins, NoEnds, CameTo, asks_come, asks_no_end, asks_protected}

-- Asks that end no body

not_an_end : (before after : Trace) (components : List ℤ) (x : Exit) (r : Answer) → NoEnds (before ++ (request.Complete components x, r) ∷ after) → ⊥
not_an_end [] after components x r h = cc (h.0)
not_an_end (pair ∷ before) after components x r h = not_an_end before after components x r h.1

no_ends_close : (such : Callee → Bool) (bodies : UnitBodies) (held : ℕ) (trace : Trace) → NoEnds trace → EndsClose such bodies held trace
no_ends_close such bodies held trace n before after scalars x next e =
    absurd (not_an_end before after scalars x (answer.Done next) (subst (λ (l : Trace). NoEnds l) e n))

-- The end of a body

-- what an end gives of these components
abbrev given_of : Bool → List ℤ → List ℤ
given_of is_function components = cond is_function [] components

end_is : (is_function : Bool) (outcome : Outcome) (components : List ℤ) → end_of is_function outcome components ≡ request.Complete (given_of is_function components) (exit_of outcome)
end_is true outcome components = refl
end_is false outcome components = refl

-- it is asked once; or it isn't, and the actor is left waiting, or in a body
record Ending (is_function : Bool) (outcome : Outcome) (components : List ℤ) (trace : Trace) (b : Outcome) : Type 0 where
  pub goes : is_stuck outcome ≡ false
  pub reply : Answer
  pub trace_is : trace ≡ (request.Complete (given_of is_function components) (exit_of outcome), reply) ∷ []
  pub comes_to : completed outcome reply ≡ b

ending_by : (is_left is_function : Bool) (outcome : Outcome) (components : List ℤ) (trace : Trace) (b : Outcome) → is_stuck outcome ≡ is_left
    → Along (cond is_left (ended outcome) (asking (end_of is_function outcome components) (λ r. ended (completed outcome r)))) trace b
    → Ending is_function outcome components trace b ⊎ ((is_stuck outcome ≡ true) × (trace ≡ []) × (outcome ≡ b))
ending_by true is_function outcome components trace b e h = inr (e, ends_at_once outcome trace b h, ends_with outcome trace b h)
ending_by false is_function outcome components [] b e h = absurd h
ending_by false is_function outcome components (pair ∷ []) b e h =
    let q : pair.0 ≡ request.Complete (given_of is_function components) (exit_of outcome) = sym h.0 ∙ end_is is_function outcome components in
    inl (record { goes = e; reply = pair.1; trace_is = λ i. (q i, pair.1) ∷ []; comes_to = h.1 })
ending_by false is_function outcome components (pair ∷ two ∷ more) b e h = absurd h.1

ending_is : (is_function : Bool) (outcome : Outcome) (components : List ℤ) (steps : ℕ) (trace : Trace) (b : Outcome) → Along (completes is_function (outcome, (components, steps))) trace b
    → Ending is_function outcome components trace b ⊎ ((is_stuck outcome ≡ true) × (trace ≡ []) × (outcome ≡ b))
ending_is is_function outcome components steps trace b h = ending_by (is_stuck outcome) is_function outcome components trace b refl h

exit_stops : (outcome : Outcome) → by_stopped (exit_of outcome) ≡ stopped_result outcome
exit_stops (Ok values) = refl
exit_stops (Err (cause.Raised exception)) = refl
exit_stops (Err cause.Overrun) = refl
exit_stops (Err (cause.Stopped is_idle)) = refl

stopped_end_is : (components : List ℤ) (x : Exit) → is_stopped_end (request.Complete components x) ≡ by_stopped x
stopped_end_is components (exit.Return values) = refl
stopped_end_is components (exit.Raise exception) = refl
stopped_end_is components exit.Overrun = refl
stopped_end_is components exit.Stopped = refl

-- an answer that isn't Done leaves its actor in the body, and what is held stays
record IsLeft (r : Answer) : Type 0 where
  pub sticks : (outcome : Outcome) → completed outcome r ≡ Err (cause.Stopped false)
  pub holds : (n : ℕ) → n ≤ held_after n r

done_or : (r : Answer) → IsLeft r ⊎ ((next : Next) × (r ≡ answer.Done next))
done_or (answer.Done next) = inr (next, refl)
done_or (answer.Woken None) = inl (record { sticks = λ o. refl; holds = λ n. omega arith })
done_or r = inl (record { sticks = λ o. refl; holds = λ n. omega arith })

-- how a run ends by what it comes to
stuck_is : (outcome : Outcome) → is_stuck outcome ≡ true → how_result outcome ≡ stuck
stuck_is (Ok values) e = absurd (cc e)
stuck_is (Err (cause.Raised exception)) e = absurd (cc e)
stuck_is (Err cause.Overrun) e = absurd (cc e)
stuck_is (Err (cause.Stopped true)) e = absurd (cc e)
stuck_is (Err (cause.Stopped false)) e = refl

-- one that isn't stuck
goes_so : (such : Callee → Bool) (trace : Trace) (outcome : Outcome) → is_stuck outcome ≡ false → Kind such trace (how_result outcome) → Strays such trace ⊎ (IsWhole trace × IsCourse (stopped_result outcome) trace)
goes_so such trace (Ok values) e k = k
goes_so such trace (Err (cause.Raised exception)) e k = k
goes_so such trace (Err cause.Overrun) e k = k
goes_so such trace (Err (cause.Stopped true)) e k = k
goes_so such trace (Err (cause.Stopped false)) e k = absurd (cc e)

-- and what its caller sees
seen_so : (such : Callee → Bool) (trace : Trace) (outcome : Outcome) → Strays such trace ⊎ (IsWhole trace × IsCourse (stopped_result outcome) trace) → Kind such trace (how_result (seen outcome))
seen_so such trace (Ok values) k = k
seen_so such trace (Err (cause.Raised exception)) k = k
seen_so such trace (Err cause.Overrun) k = k
seen_so such trace (Err (cause.Stopped is_idle)) k = k

along_exits : (what : Asking (Outcome × (List ℤ × ℕ))) (trace : Trace) (got : Outcome × (List ℤ × ℕ)) → Along what trace got → Along (and_then what exits) trace (exit_of got.0, got.1.0)
along_exits (ended a) [] got h = ap (λ (g : Outcome × (List ℤ × ℕ)). (exit_of g.0, g.1.0)) h
along_exits (ended a) (pair ∷ more) got h = absurd h
along_exits (asking q go) [] got h = absurd h
along_exits (asking q go) (pair ∷ more) got h = (h.0, along_exits (go pair.1) more got h.1)

left_room : (x held more : ℕ) → x ≡ suc held → held + suc more ≡ 16 → more ≡ 16 - x
left_room x held more e r = omega (arith, e, r)

one_back : (n : ℕ) → suc n - 1 ≡ n
one_back n = omega arith

only_one : {A : Type 0} (x y : A) (before after : List A) → x ∷ [] ≡ before ++ y ∷ after → (before ≡ []) × (x ≡ y)
only_one x y [] after e = (refl, first_same x y [] after e)
only_one x y (z ∷ before) after e = absurd (none_there y before after (rest_same x z [] (before ++ y ∷ after) e))

cut_end : (trace : Trace) (q : Request) (next : Next) → is_stopped_end q ≡ true → IsCutOff trace → IsCutOff (trace ++ (q, answer.Done next) ∷ [])
cut_end trace q next e g = record {
  before = g.before;
  request = g.request;
  answer = g.answer;
  behind = g.behind ++ (q, answer.Done next) ∷ [];
  trace_is = ap (λ (l : Trace). l ++ (q, answer.Done next) ∷ []) g.trace_is ∙ append_assoc g.before ((g.request, g.answer) ∷ g.behind) ((q, answer.Done next) ∷ []);
  recorded = g.recorded;
  final = g.final;
  ends = ends_both g.behind ((q, answer.Done next) ∷ []) g.ends (e, refl, tt);
}

course_end : (trace : Trace) (q : Request) (next : Next) (stopped : Bool) → is_stopped_end q ≡ stopped → IsCourse stopped trace → IsCourse stopped (trace ++ (q, answer.Done next) ∷ [])
course_end trace q next true e g = cut_end trace q next e g
course_end trace q next false e g = recorded_both trace ((q, answer.Done next) ∷ []) g (refl, tt)

abbrev pub scalars_in : Request → List ℤ
scalars_in (request.Complete scalars x) = scalars
scalars_in other = []

abbrev pub exit_in : Request → Exit
exit_in (request.Complete scalars x) = x
exit_in other = exit.Stopped

-- A call that came to a start, the body that it started, and the end of that

module _ (such : Callee → Bool) (bodies : UnitBodies) (held more : ℕ) (room : held + suc more ≡ 16) (c : Callee) (outer : internal c ≡ None) (m : such c ≡ true)
    (values : List ℤ) (object operation : ℕ) (is_function : Bool) (components : List ℤ) (opening : Trace) (opens : Along (asks c values) opening (asked.Started object operation is_function components))
    (inside : Trace) (outcome : Outcome) (left : List ℤ) (steps : ℕ) (run : Along (inner_at bodies object (outer_at bodies more) 65 operation values components 100000) inside (outcome, (left, steps)))
    (close : EndsClose such bodies (suc held) inside) (course : Strays such inside ⊎ (IsWhole inside × IsCourse (stopped_result outcome) inside)) where
  opened_by : ((n : ℕ) → held_behind n opening ≡ suc n) × AreRecorded opening
  opened_by = asks_come such c values opening (asked.Started object operation is_function components) outer m opens

  run_at : Along (operation_run_at bodies (held_behind held opening) object operation values components) inside (exit_of outcome, left)
  run_at = subst (λ (n : ℕ). Along (and_then (inner_at bodies object (outer_at bodies n) 65 operation values components 100000) exits) inside (exit_of outcome, left))
      (left_room (held_behind held opening) held more (opened_by.0 held) room)
      (along_exits (inner_at bodies object (outer_at bodies more) 65 operation values components 100000) inside (outcome, (left, steps)) run)

  closes_here : Strays such inside ⊎ (IsWhole inside × IsCourse (stopped_result outcome) inside) → Strays such (opening ++ inside) ⊎ ClosesBody such bodies held (opening ++ inside) (given_of is_function left) (exit_of outcome)
  closes_here (inl s) = inl (strays_behind such opening inside s)
  closes_here (inr w) = inr (record {
    early = [];
    opening = opening;
    inside = inside;
    before_is = refl;
    recorded = opened_by.1;
    callee = c;
    is_outer = outer;
    is_such = m;
    object = object;
    operation = operation;
    is_function = is_function;
    values = values;
    components = components;
    opens = opens;
    whole = w.0;
    left = left;
    along = run_at;
    scalars_are = refl;
    course = subst (λ (k : Bool). IsCourse k inside) (sym (exit_stops outcome)) w.1;
  })

  abbrev end_pair : Answer → Request × Answer
  end_pair r = (request.Complete (given_of is_function left) (exit_of outcome), r)

  abbrev EndsSo : Trace → List ℤ → Exit → Type 0
  EndsSo before scalars x = Strays such before ⊎ ClosesBody such bodies held before scalars x

  at_end : (r : Answer) (before after : Trace) (scalars : List ℤ) (x : Exit) (next : Next) → end_pair r ∷ [] ≡ before ++ (request.Complete scalars x, answer.Done next) ∷ after → EndsSo (opening ++ (inside ++ before)) scalars x
  at_end r before after scalars x next e =
      let o = only_one (end_pair r) (request.Complete scalars x, answer.Done next) before after e in
      let b : opening ++ inside ≡ opening ++ (inside ++ before) = ap (λ (l : Trace). opening ++ l) (sym (ap (λ (l : Trace). inside ++ l) o.0 ∙ append-nil inside)) in
      subst (λ (z : Trace × List ℤ × Exit). EndsSo z.0 z.1 z.2) (λ i. (b i, scalars_in (o.1 i).0, exit_in (o.1 i).0)) (closes_here course)

  behind_start : (r : Answer) (before after : Trace) (scalars : List ℤ) (x : Exit) (next : Next) → inside ++ end_pair r ∷ [] ≡ before ++ (request.Complete scalars x, answer.Done next) ∷ after → EndsSo (opening ++ before) scalars x
  behind_start r before after scalars x next e =
      ⊎_elim (λ h. later_end such bodies held (suc held) opening before scalars x (opened_by.0 held) opened_by.1 (close before h.0 scalars x next h.1))
      (λ h. subst (λ (l : Trace). EndsSo (opening ++ l) scalars x) (sym h.1) (at_end r h.0 after scalars x next h.2))
      (place_of (request.Complete scalars x, answer.Done next) inside (end_pair r ∷ []) before after e)

  close_started : (r : Answer) → EndsClose such bodies held (opening ++ (inside ++ end_pair r ∷ []))
  close_started r before after scalars x next e =
      ⊎_elim (λ h. no_ends_close such bodies held opening (asks_no_end c values opening (asked.Started object operation is_function components) opens) before h.0 scalars x next h.1)
      (λ h. subst (λ (l : Trace). EndsSo l scalars x) (sym h.1) (behind_start r h.0 after scalars x next h.2))
      (place_of (request.Complete scalars x, answer.Done next) opening (inside ++ end_pair r ∷ []) before after e)

  whole_started : (next : Next) → IsWhole inside → IsWhole (opening ++ (inside ++ end_pair (answer.Done next) ∷ []))
  whole_started next w n =
      held_both n opening (inside ++ end_pair (answer.Done next) ∷ [])
      ∙ (ap (λ (k : ℕ). held_behind k (inside ++ end_pair (answer.Done next) ∷ [])) (opened_by.0 n)
      ∙ (held_both (suc n) inside (end_pair (answer.Done next) ∷ [])
      ∙ (ap (λ (k : ℕ). k - 1) (w (suc n)) ∙ one_back n)))

  kind_done : (next : Next) → Strays such inside ⊎ (IsWhole inside × IsCourse (stopped_result outcome) inside)
      → Strays such (opening ++ (inside ++ end_pair (answer.Done next) ∷ [])) ⊎ (IsWhole (opening ++ (inside ++ end_pair (answer.Done next) ∷ [])) × IsCourse (stopped_result outcome) (opening ++ (inside ++ end_pair (answer.Done next) ∷ [])))
  kind_done next (inl s) = inl (strays_behind such opening (inside ++ end_pair (answer.Done next) ∷ []) (strays_before such inside (end_pair (answer.Done next) ∷ []) s))
  kind_done next (inr w) = inr (
    whole_started next w.0,
    course_both opening (inside ++ end_pair (answer.Done next) ∷ []) (stopped_result outcome) opened_by.1
        (course_end inside (request.Complete (given_of is_function left) (exit_of outcome)) next (stopped_result outcome) (stopped_end_is (given_of is_function left) (exit_of outcome) ∙ exit_stops outcome) w.1),
  )

  -- the end isn't answered Done
  more_held : (r : Answer) → ((n : ℕ) → n ≤ held_after n r) → IsWhole inside → HoldsMore (opening ++ (inside ++ end_pair r ∷ []))
  more_held r f w n =
      let e : held_behind n (opening ++ (inside ++ end_pair r ∷ [])) ≡ held_after (suc n) r =
      held_both n opening (inside ++ end_pair r ∷ [])
      ∙ (ap (λ (k : ℕ). held_behind k (inside ++ end_pair r ∷ [])) (opened_by.0 n)
      ∙ (held_both (suc n) inside (end_pair r ∷ []) ∙ ap (λ (k : ℕ). held_after k r) (w (suc n)))) in
      let few : suc n ≤ held_after (suc n) r = f (suc n) in
      omega (arith, e, few)

  kind_left : (r : Answer) → ((n : ℕ) → n ≤ held_after n r) → Kind such (opening ++ (inside ++ end_pair r ∷ [])) stuck
  kind_left r f = ⊎_elim (λ s. inl (strays_behind such opening (inside ++ end_pair r ∷ []) (strays_before such inside (end_pair r ∷ []) s))) (λ w. inr (inr (more_held r f w.0))) course

  kind_started : (r : Answer) → Kind such (opening ++ (inside ++ end_pair r ∷ [])) (how_result (completed outcome r))
  kind_started r = ⊎_elim (λ d. subst (λ (o : Outcome). Kind such (opening ++ (inside ++ end_pair r ∷ [])) (how_result o)) (sym (d.sticks outcome)) (kind_left r d.holds))
      (λ d. subst (λ (z : Answer). Kind such (opening ++ (inside ++ end_pair z ∷ [])) (how_result (completed outcome z))) (sym d.1) (seen_so such (opening ++ (inside ++ end_pair (answer.Done d.0) ∷ [])) outcome (kind_done d.0 course)))
      (done_or r)

  started_ends : (r : Answer) → NestedSo such bodies held (opening ++ (inside ++ end_pair r ∷ [])) (how_result (completed outcome r))
  started_ends r = record { close = close_started r; kind = kind_started r }

-- A call that came to a start, and the body that it started, whose actor is left waiting, or in a body

module _ (such : Callee → Bool) (bodies : UnitBodies) (held : ℕ) (c : Callee) (outer : internal c ≡ None) (m : such c ≡ true)
    (values : List ℤ) (object operation : ℕ) (is_function : Bool) (components : List ℤ) (opening : Trace) (opens : Along (asks c values) opening (asked.Started object operation is_function components))
    (inside : Trace) (nested : NestedSo such bodies (suc held) inside stuck) where
  one_more : ((n : ℕ) → held_behind n opening ≡ suc n) × AreRecorded opening
  one_more = asks_come such c values opening (asked.Started object operation is_function components) outer m opens

  close_left : EndsClose such bodies held (opening ++ inside)
  close_left before after scalars x next e =
      ⊎_elim (λ h. no_ends_close such bodies held opening (asks_no_end c values opening (asked.Started object operation is_function components) opens) before h.0 scalars x next h.1)
      (λ h. subst (λ (l : Trace). Strays such l ⊎ ClosesBody such bodies held l scalars x) (sym h.1) (later_end such bodies held (suc held) opening h.0 scalars x (one_more.0 held) one_more.1 (nested.close h.0 after scalars x next h.2)))
      (place_of (request.Complete scalars x, answer.Done next) opening inside before after e)

  held_on : (n : ℕ) → held_behind n (opening ++ inside) ≡ held_behind (suc n) inside
  held_on n = held_both n opening inside ∙ ap (λ (k : ℕ). held_behind k inside) (one_more.0 n)

  whole_more : IsWhole inside → HoldsMore (opening ++ inside)
  whole_more w n = let e : held_behind n (opening ++ inside) ≡ suc n = held_on n ∙ w (suc n) in omega (arith, e)

  more_more : HoldsMore inside → HoldsMore (opening ++ inside)
  more_more w n = let e : held_behind n (opening ++ inside) ≡ held_behind (suc n) inside = held_on n in let lt : suc n < held_behind (suc n) inside = w (suc n) in omega (arith, e, lt)

  left_nested : NestedSo such bodies held (opening ++ inside) stuck
  left_nested = record {
    close = close_left;
    kind = ⊎_elim (λ s. inl (strays_behind such opening inside s)) (λ k. inr (inr (⊎_elim (λ w. whole_more w.0) (λ w. more_more w) k))) nested.kind;
  }

started_nested : (such : Callee → Bool) (bodies : UnitBodies) (held more : ℕ) (c : Callee) (values : List ℤ) (object operation : ℕ) (is_function : Bool) (components : List ℤ) (opening second : Trace) (b : Outcome)
    → held + suc more ≡ 16 → internal c ≡ None → such c ≡ true → Along (asks c values) opening (asked.Started object operation is_function components)
    → Sound (nesting such bodies (suc held)) how_got (inner_at bodies object (outer_at bodies more) 65 operation values components 100000)
    → Along (and_then (inner_at bodies object (outer_at bodies more) 65 operation values components 100000) (completes is_function)) second b
    → NestedSo such bodies held (opening ++ second) (how_result b)
started_nested such bodies held more c values object operation is_function components opening second b room n m opens f h =
    let p = split (inner_at bodies object (outer_at bodies more) 65 operation values components 100000) (completes is_function) second b h in
    let inner : NestedSo such bodies (suc held) p.first (how_result p.middle.0) = f p.first p.middle p.along in
    ⊎_elim
    (λ e.
    let second_is : p.first ++ (request.Complete (given_of is_function p.middle.1.0) (exit_of p.middle.0), e.reply) ∷ [] ≡ second = sym (p.trace_is ∙ ap (λ (l : Trace). p.first ++ l) e.trace_is) in
    subst (λ (z : Trace × Outcome). NestedSo such bodies held (opening ++ z.0) (how_result z.1)) (λ i. (second_is i, e.comes_to i))
    (started_ends such bodies held more room c n m values object operation is_function components opening opens p.first p.middle.0 p.middle.1.0 p.middle.1.1 p.along inner.close (goes_so such p.first p.middle.0 e.goes inner.kind) e.reply))
    (λ e.
    let second_is : p.first ≡ second = sym (p.trace_is ∙ (ap (λ (l : Trace). p.first ++ l) e.1 ∙ append-nil p.first)) in
    let at : stuck ≡ how_result b = sym (stuck_is p.middle.0 e.0) ∙ ap (λ (o : Outcome). how_result o) e.2 in
    subst (λ (z : Trace × How). NestedSo such bodies held (opening ++ z.0) z.1) (λ i. (second_is i, at i))
    (left_nested such bodies held c n m values object operation is_function components opening opens p.first (subst (λ (k : How). NestedSo such bodies (suc held) p.first k) (stuck_is p.middle.0 e.0) inner)))
    (ending_is is_function p.middle.0 p.middle.1.0 p.middle.1.1 p.second b p.rest)

-- What a call comes to

came_nested : (such : Callee → Bool) (bodies : UnitBodies) (held : ℕ) (c : Callee) (values : List ℤ) (first second : Trace) (what : Asked) (o b : Outcome) → internal c ≡ None → such c ≡ true → Along (asks c values) first what
    → begins what ≡ false → (CameTo such first false (is_stopped what) → Kind such first (how_result o)) → Along (ended o) second b → NestedSo such bodies held (first ++ second) (how_result b)
came_nested such bodies held c values first second what o b n m h starts kind last =
    let t : first ≡ first ++ second = sym (ap (λ (l : Trace). first ++ l) (ends_at_once o second b last) ∙ append-nil first) in
    let k : how_result o ≡ how_result b = ap (λ (z : Outcome). how_result z) (ends_with o second b last) in
    subst (λ (z : Trace × How). NestedSo such bodies held z.0 z.1) (λ i. (t i, k i)) (record {
      close = no_ends_close such bodies held first (asks_no_end c values first what h);
      kind = kind (subst (λ (z : Bool). CameTo such first z (is_stopped what)) starts (asks_come such c values first what n m h));
    })

performed_nested : (such : Callee → Bool) (bodies : UnitBodies) (held : ℕ) (c : Callee) (values : List ℤ) (go : ℕ → ℕ → Bool → List ℤ → Asking Outcome) (first second : Trace) (what : Asked) (b : Outcome) → internal c ≡ None → such c ≡ true
    → ((object operation : ℕ) (is_function : Bool) (components : List ℤ) → Along (asks c values) first (asked.Started object operation is_function components) → Along (go object operation is_function components) second b → NestedSo such bodies held (first ++ second) (how_result b))
    → Along (asks c values) first what → Along (performed go what) second b → NestedSo such bodies held (first ++ second) (how_result b)
performed_nested such bodies held c values go first second (asked.Given given) b n m f h g =
    came_nested such bodies held c values first second (asked.Given given) (Ok given) b n m h refl (λ k. k) g
performed_nested such bodies held c values go first second (asked.Started object operation is_function components) b n m f h g = f object operation is_function components h g
performed_nested such bodies held c values go first second (asked.Abandoned (cause.Raised exception)) b n m f h g =
    came_nested such bodies held c values first second (asked.Abandoned (cause.Raised exception)) (Err (cause.Raised exception)) b n m h refl (λ k. k) g
performed_nested such bodies held c values go first second (asked.Abandoned cause.Overrun) b n m f h g =
    came_nested such bodies held c values first second (asked.Abandoned cause.Overrun) (Err cause.Overrun) b n m h refl (λ k. k) g
performed_nested such bodies held c values go first second (asked.Abandoned (cause.Stopped true)) b n m f h g =
    came_nested such bodies held c values first second (asked.Abandoned (cause.Stopped true)) (Err (cause.Stopped true)) b n m h refl (λ k. k) g
performed_nested such bodies held c values go first second (asked.Abandoned (cause.Stopped false)) b n m f h g =
    came_nested such bodies held c values first second (asked.Abandoned (cause.Stopped false)) (Err (cause.Stopped false)) b n m h refl (λ k. ⊎_elim (λ s. inl s) (λ w. inr (inl w)) k) g

abbrev past_held : Asked
past_held = asked.Abandoned (cause.Raised ProgramError)

abbrev raises_at_once : ℕ → ℕ → Bool → List ℤ → Asking Outcome
raises_at_once object operation is_function components = ended (Err (cause.Raised ProgramError))

-- an actor that may hold no more
full_nested : (such : Callee → Bool) (bodies : UnitBodies) (held : ℕ) (c : Callee) (values : List ℤ) (k : Bool) (first second : Trace) (what : Asked) (b : Outcome) → internal c ≡ None → such c ≡ true → is_protected c ≡ k
    → Along (cond k (ended past_held) (asks c values)) first what → Along (performed raises_at_once what) second b → NestedSo such bodies held (first ++ second) (how_result b)
full_nested such bodies held c values true first second what b n m e h g =
    let g2 : Along (ended (Err (cause.Raised ProgramError))) second b = subst (λ (w : Asked). Along (performed raises_at_once w) second b) (sym (ends_with past_held first what h)) g in
    let t : [] ≡ first ++ second = sym (λ i. ends_at_once past_held first what h i ++ ends_at_once (Err (cause.Raised ProgramError)) second b g2 i) in
    let s : ongoing ≡ how_result b = ap (λ (o : Outcome). how_result o) (ends_with (Err (cause.Raised ProgramError)) second b g2) in
    subst (λ (z : Trace × How). NestedSo such bodies held z.0 z.1) (λ i. (t i, s i)) ((nesting such bodies held).nothing)
full_nested such bodies held c values false first second what b n m e h g =
    performed_nested such bodies held c values raises_at_once first second what b n m
    (λ object operation is_function components o g2. absurd (cc (asks_protected c values first (asked.Started object operation is_function components) o refl, e))) h g

outer_nested : (such : Callee → Bool) (bodies : UnitBodies) (held more : ℕ) (c : Callee) (values : List ℤ) → more ≡ 16 - held → every_call such bodies ≡ true → internal c ≡ None → such c ≡ true → Sound (nesting such bodies held) how_result (outer_at bodies more c values)
unfolding outer_at reached
outer_nested such bodies held zero c values room k n m trace b h =
    let p = split (cond (is_protected c) (ended past_held) (asks c values)) (performed raises_at_once) trace b h in
    subst (λ (t : Trace). NestedSo such bodies held t (how_result b)) (sym p.trace_is)
    (full_nested such bodies held c values (is_protected c) p.first p.second p.middle b n m refl p.along p.rest)
outer_nested such bodies held (suc more) c values room k n m trace b h =
    let go : ℕ → ℕ → Bool → List ℤ → Asking Outcome = λ object operation is_function components. and_then (inner_at bodies object (outer_at bodies more) 65 operation values components 100000) (completes is_function) in
    let p = split (asks c values) (performed go) trace b h in
    let next : more ≡ 16 - suc held = omega (arith, room) in
    let all : held + suc more ≡ 16 = omega (arith, room) in
    subst (λ (t : Trace). NestedSo such bodies held t (how_result b)) (sym p.trace_is)
    (performed_nested such bodies held c values go p.first p.second p.middle b n m
    (λ object operation is_function components o g. started_nested such bodies held more c values object operation is_function components p.first p.second b all n m o
    (inner_sound (nesting such bodies (suc held)) bodies object (outer_at bodies more) k (λ d v i s. outer_nested such bodies (suc held) more d v next k i s) 65 operation values components 100000) g)
    p.along p.rest)

-- Bodies and tasks

pub bodies_nest : BodiesNest
bodies_nest such bodies held object operation values components left trace x k h =
    let p = split (inner_at bodies object (outer_at bodies (16 - held)) 65 operation values components 100000) exits trace (x, left) h in
    let at : (exit_of p.middle.0, p.middle.1.0) ≡ (x, left) = ends_with (exit_of p.middle.0, p.middle.1.0) p.second (x, left) p.rest in
    let none : p.second ≡ [] = ends_at_once (exit_of p.middle.0, p.middle.1.0) p.second (x, left) p.rest in
    let t : p.first ≡ trace = sym (p.trace_is ∙ (ap (λ (l : Trace). p.first ++ l) none ∙ append-nil p.first)) in
    subst (λ (z : Trace × Exit). IsNested such bodies held z.0 (by_stopped z.1)) (λ i. (t i, (at i).0))
    (nested_by such bodies held p.first p.middle.0 (inner_sound (nesting such bodies held) bodies object (outer_at bodies (16 - held)) k (λ d v i n. outer_nested such bodies held (16 - held) d v refl k i n) 65 operation values components 100000 p.first p.middle p.along))

-- a task's quit
record Quitting (outcome : Outcome) (quit : Trace) (x : Exit) : Type 0 where
  pub is : (quit ≡ []) ⊎ ((r : Answer) × (quit ≡ (request.Quit, r) ∷ []))
  pub exit_is : exit_of outcome ≡ x

quitting_if : (stuck : Bool) (outcome : Outcome) (quit : Trace) (x : Exit) → Along (cond stuck (ended (exit_of outcome)) (asking request.Quit (λ r. ended (exit_of outcome)))) quit x → Quitting outcome quit x
quitting_if true outcome quit x h = record { is = inl (ends_at_once (exit_of outcome) quit x h); exit_is = ends_with (exit_of outcome) quit x h }
quitting_if false outcome [] x h = absurd h
quitting_if false outcome (pair ∷ []) x h = record { is = inr (pair.1, (λ i. (sym h.0 i, pair.1) ∷ [])); exit_is = h.1 }
quitting_if false outcome (pair ∷ two ∷ more) x h = absurd h.1

quitting : (outcome : Outcome) (quit : Trace) (x : Exit) → Along (quits outcome) quit x → Quitting outcome quit x
quitting outcome quit x h = quitting_if (is_stuck outcome) outcome quit x h

task_world : (such : Callee → Bool) (bodies : UnitBodies) → every_call such bodies ≡ true → SoundWorld (nesting such bodies 0) (world bodies task_setting)
task_world such bodies k = record {
  inner = λ o v c s. inner_sound (nesting such bodies 0) bodies 0 (outer_at bodies 16) k (λ d u n m. outer_nested such bodies 0 16 d u refl k n m) 65 o v c s;
  outer = λ c v n m. outer_nested such bodies 0 16 c v refl k n m;
}

task_nested : (such : Callee → Bool) (bodies : UnitBodies) (o : Option Body) (requests : ℕ) (trace : Trace) (x : Exit) → every_call such bodies ≡ true → task_calls (such_in such 0) o ≡ true → Along (task_meaning bodies o requests) trace x → TaskNests such bodies trace x
unfolding task_meaning
task_nested such bodies None requests trace x k m h =
    let q = quitting (Ok []) trace x h in
    record { asked = []; quit = trace; trace_is = refl; nested = subst (λ (z : Exit). IsNested such bodies 0 [] (by_stopped z)) q.exit_is (nested_by such bodies 0 [] (Ok []) ((nesting such bodies 0).nothing)); quits = q.is }
task_nested such bodies (Some body) requests trace x k m h =
    let a = opened (replicate 132 (pos 0)) [] 100000 requests in
    let p = split (block (world bodies task_setting) body a) (over body) trace x h in
    let q = quitting (outcome_of body p.middle.0 p.middle.1) p.second x p.rest in
    let s : how_run p.middle ≡ how_result (outcome_of body p.middle.0 p.middle.1) = sym (outcome_stops body.is_function p.middle.0 (given_back body.parameters 0 p.middle.1.slots [])) in
    record {
      asked = p.first;
      quit = p.second;
      trace_is = p.trace_is;
      nested = subst (λ (z : Exit). IsNested such bodies 0 p.first (by_stopped z)) q.exit_is
          (nested_by such bodies 0 p.first (outcome_of body p.middle.0 p.middle.1) (subst (λ (z : How). NestedSo such bodies 0 p.first z) s (block_sound (nesting such bodies 0) (world bodies task_setting) (task_world such bodies k) body a m p.first p.middle p.along)));
      quits = q.is;
    }

pub tasks_nest : TasksNest
tasks_nest such bodies actor requests trace x k h = task_nested such bodies (task_of bodies actor) requests trace x k (task_found such bodies actor k) h
