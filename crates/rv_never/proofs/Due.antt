-- What is due, call by call, and of all units.
use Rattle.std.proofs.Common.{◌≡◌, ℕ, ◌<◌, ◌≤◌, ◌⊎◌, inl, inr, List, [], ◌∷◌, ◌++◌, Bool, true, false, refl, ap, sym, ◌∙◌, subst, arith}
use Rattle.std.specs.Prelude.{◌==◌, ◌&&◌, ◌||◌, Result, Ok, Err, OnOk}
use Rattle.std.specs.List.{list_any}
use Rattle.std.proofs.lemmas.Bool.{and_from, and_parts, or_cases}
use Rattle.std.proofs.lemmas.Bool.Decides.{nat_tests}
use Rattle.rv_access.specs.Words.{Words}
use Rattle.rv_shape.specs.Shape.{Shape}
use Rattle.rv_shape.specs.Catalogue.{place}
use Rattle.rv_shape.specs.Limits.{last_line}
use Rattle.rv_shape.specs.Readers.{actor_task}
use Rattle.rv_never.specs.Denied.{DeniesUnit}
use Rattle.rv_never.specs.Nevers.{Adds, AreAll, DueBelow, DueBy, IsDenial, IsDenialOf, IsLineDenial, IsLineTooHigh, IsTooHigh, IsTooHighOf, OfTask, OfTasks, OfUnit, calls_of, is_above, names_object, task_calls, unit_calls}
use Rattle.rv_never.specs.Written.{AreSame, is_among, is_same}
use Rattle.rv_never.specs.declared.calls.Called.{Called}
use Rattle.rv_never.specs.declared.calls.TaskCalls.{TaskCalls}
use Rattle.rv_never.specs.declared.calls.UnitCalls.{UnitCalls}
use Rattle.rv_never.specs.declared.note.Never.{Never}
use Rattle.rv_never.specs.declared.note.Never.TheVariants.{Denied, Above, LineDenied, LineAbove}
use Rattle.rv_never.proofs.Adding.{alike, both, finished}
use Rattle.rv_never.proofs.Same.{equal}

equal_to : (a b : ℕ) → a ≡ b → (a == b) ≡ true
equal_to a b e = grind (arith, nat_tests)

or_left : (b c : Bool) → b ≡ true → (b || c) ≡ true
or_left true c e = refl
or_left false c e = absurd (cc)

or_right : (b c : Bool) → c ≡ true → (b || c) ≡ true
or_right true c e = refl
or_right false c e = e

either : {A B C : Type 0} → (A → C) → (B → C) → A ⊎ B → C
either f g (inl a) = f a
either f g (inr b) = g b

-- Denials

-- the note is on a call that is among these, and is denied
record OnCall (shapes : List Shape) (list : List Words) (clock unit : ℕ) (calls : List Called) (note : Never) : Type 0 where
  pub object : ℕ
  pub operation : ℕ
  pub is : note ≡ Denied unit object operation
  pub among : is_among calls (record { object = object; operation = operation }) ≡ true
  pub denies : DeniesUnit shapes list clock unit object operation

on_call : (shapes : List Shape) (list : List Words) (clock unit : ℕ) (calls : List Called) (note : Never) → DueBy (IsDenialOf shapes list clock unit) calls note → OnCall shapes list clock unit calls note
on_call shapes list clock unit [] note d = absurd d
on_call shapes list clock unit (called ∷ calls) note (inl d) = record {
  object = called.object;
  operation = called.operation;
  is = d.0;
  among =
      or_left (is_same called called) (is_among calls called)
      (and_from (called.object == called.object) (called.operation == called.operation) (equal_to called.object called.object refl) (equal_to called.operation called.operation refl));
  denies = d.1;
}
on_call shapes list clock unit (called ∷ calls) note (inr d) =
    let found = on_call shapes list clock unit calls note d in
    record {
      object = found.object;
      operation = found.operation;
      is = found.is;
      among = or_right (is_same (record { object = found.object; operation = found.operation }) called) (is_among calls (record { object = found.object; operation = found.operation })) found.among;
      denies = found.denies;
    }

by_call : (shapes : List Shape) (list : List Words) (clock unit object operation : ℕ) (calls : List Called) → is_among calls (record { object = object; operation = operation }) ≡ true
    → DeniesUnit shapes list clock unit object operation → DueBy (IsDenialOf shapes list clock unit) calls (Denied unit object operation)
by_call shapes list clock unit object operation [] among denies = absurd (cc)
by_call shapes list clock unit object operation (called ∷ calls) among denies =
    either
    (λ same.
    let parts = and_parts (object == called.object) (operation == called.operation) same in
    let first : object ≡ called.object = equal object called.object parts.0 in
    let second : operation ≡ called.operation = equal operation called.operation parts.1 in
    let moved : DeniesUnit shapes list clock unit called.object operation = subst (λ (n : ℕ). DeniesUnit shapes list clock unit n operation) first denies in
    inl ((λ i. Denied unit (first i) (second i)), subst (λ (n : ℕ). DeniesUnit shapes list clock unit called.object n) second moved)
    )
    (λ later. inr (by_call shapes list clock unit object operation calls later denies))
    (or_cases (is_same (record { object = object; operation = operation }) called) (is_among calls (record { object = object; operation = operation })) among)

-- the note is on a call of a unit among these, and is denied
record OnUnits (shapes : List Shape) (list : List Words) (clock : ℕ) (units : List UnitCalls) (note : Never) : Type 0 where
  pub unit : ℕ
  pub object : ℕ
  pub operation : ℕ
  pub is : note ≡ Denied unit object operation
  pub calls : unit_calls units unit (record { object = object; operation = operation }) ≡ true
  pub denies : DeniesUnit shapes list clock unit object operation

on_units : (shapes : List Shape) (list : List Words) (clock : ℕ) (units : List UnitCalls) (note : Never) → DueBy (OfUnit shapes list clock) units note → OnUnits shapes list clock units note
on_units shapes list clock [] note d = absurd d
on_units shapes list clock (calls ∷ units) note (inl d) =
    let found = on_call shapes list clock calls.unit (calls_of calls.tasks.items) note d in
    let called : Called = record { object = found.object; operation = found.operation } in
    record {
      unit = calls.unit;
      object = found.object;
      operation = found.operation;
      is = found.is;
      calls = or_left ((calls.unit == calls.unit) && is_among (calls_of calls.tasks.items) called) (unit_calls units calls.unit called)
          (and_from (calls.unit == calls.unit) (is_among (calls_of calls.tasks.items) called) (equal_to calls.unit calls.unit refl) found.among);
      denies = found.denies;
    }
on_units shapes list clock (calls ∷ units) note (inr d) =
    let found = on_units shapes list clock units note d in
    let called : Called = record { object = found.object; operation = found.operation } in
    record {
      unit = found.unit;
      object = found.object;
      operation = found.operation;
      is = found.is;
      calls = or_right ((calls.unit == found.unit) && is_among (calls_of calls.tasks.items) called) (unit_calls units found.unit called) found.calls;
      denies = found.denies;
    }

by_units : (shapes : List Shape) (list : List Words) (clock unit object operation : ℕ) (units : List UnitCalls) → unit_calls units unit (record { object = object; operation = operation }) ≡ true
    → DeniesUnit shapes list clock unit object operation → DueBy (OfUnit shapes list clock) units (Denied unit object operation)
by_units shapes list clock unit object operation [] called denies = absurd (cc)
by_units shapes list clock unit object operation (calls ∷ units) called denies =
    either
    (λ here.
    let parts = and_parts (calls.unit == unit) (is_among (calls_of calls.tasks.items) (record { object = object; operation = operation })) here in
    let same : unit ≡ calls.unit = sym (equal calls.unit unit parts.0) in
    let Holds : ℕ → Type 0 = λ n. DueBy (IsDenialOf shapes list clock n) (calls_of calls.tasks.items) (Denied n object operation) in
    let there : Holds unit = by_call shapes list clock unit object operation (calls_of calls.tasks.items) parts.1 denies in
    inl (subst (λ (n : ℕ). OfUnit shapes list clock calls (Denied n object operation)) (sym same) (subst Holds same there))
    )
    (λ later. inr (by_units shapes list clock unit object operation units later denies))
    (or_cases ((calls.unit == unit) && is_among (calls_of calls.tasks.items) (record { object = object; operation = operation })) (unit_calls units unit (record { object = object; operation = operation })) called)

-- what is due of calls, and then of lines
abbrev pub DenialParts : List Shape → List Shape → List UnitCalls → List Words → ℕ → Never → Type 0
DenialParts before shapes units list clock note = DueBy (OfUnit shapes list clock) units note ⊎ DueBelow (IsLineDenial before shapes list clock) 10 note

pub denial_to : (before shapes : List Shape) (units : List UnitCalls) (list : List Words) (clock : ℕ) (note : Never) → DenialParts before shapes units list clock note → IsDenial before shapes units list clock note
denial_to before shapes units list clock note (inl d) =
    let found = on_units shapes list clock units note d in
    subst (IsDenial before shapes units list clock) (sym found.is) (found.calls, found.denies)
denial_to before shapes units list clock note (inr d) =
    let few : d.0 ≤ last_line = omega (arith, d.1) in
    subst (IsDenial before shapes units list clock) (sym d.2.0) (few, d.2.1.0, d.2.1.1)

pub denial_from : (before shapes : List Shape) (units : List UnitCalls) (list : List Words) (clock : ℕ) (note : Never) → IsDenial before shapes units list clock note → DenialParts before shapes units list clock note
denial_from before shapes units list clock (Denied unit object operation) d = inl (by_units shapes list clock unit object operation units d.0 d.1)
denial_from before shapes units list clock (Above actor object) d = absurd d
denial_from before shapes units list clock (LineDenied line) d =
    let few : line < 10 = omega (arith, d.0) in
    inr (line, few, (refl, (d.1, d.2)))
denial_from before shapes units list clock (LineAbove line) d = absurd d

-- Ceilings

-- the note is on an object that is among those of these calls, and whose ceiling is too low
record OnObject (shapes : List Shape) (actor : ℕ) (calls : List Called) (note : Never) : Type 0 where
  pub object : ℕ
  pub is : note ≡ Above actor object
  pub among : list_any (λ called. called.object == object) calls ≡ true
  pub above : is_above (actor_task shapes actor) (place shapes object) ≡ true

on_object : (shapes : List Shape) (actor : ℕ) (calls : List Called) (note : Never) → DueBy (IsTooHighOf shapes actor) calls note → OnObject shapes actor calls note
on_object shapes actor [] note d = absurd d
on_object shapes actor (called ∷ calls) note (inl d) = record {
  object = called.object;
  is = d.0;
  among = or_left (called.object == called.object) (list_any (λ other. other.object == called.object) calls) (equal_to called.object called.object refl);
  above = d.1;
}
on_object shapes actor (called ∷ calls) note (inr d) =
    let found = on_object shapes actor calls note d in
    record {
      object = found.object;
      is = found.is;
      among = or_right (called.object == found.object) (list_any (λ other. other.object == found.object) calls) found.among;
      above = found.above;
    }

by_object : (shapes : List Shape) (actor object : ℕ) (calls : List Called) → list_any (λ called. called.object == object) calls ≡ true → is_above (actor_task shapes actor) (place shapes object) ≡ true
    → DueBy (IsTooHighOf shapes actor) calls (Above actor object)
by_object shapes actor object [] among above = absurd (cc)
by_object shapes actor object (called ∷ calls) among above = either
    (λ same.
    let is : object ≡ called.object = sym (equal called.object object same) in
    inl (ap (Above actor) is, subst (λ (n : ℕ). is_above (actor_task shapes actor) (place shapes n) ≡ true) is above)
    )
    (λ later. inr (by_object shapes actor object calls later above))
    (or_cases (called.object == object) (list_any (λ other. other.object == object) calls) among)

-- a task that is this actor names the object
abbrev names : ℕ → ℕ → TaskCalls → Bool
names actor object task = (task.actor == actor) && names_object object task

record OnTasks (shapes : List Shape) (tasks : List TaskCalls) (note : Never) : Type 0 where
  pub actor : ℕ
  pub object : ℕ
  pub is : note ≡ Above actor object
  pub among : list_any (names actor object) tasks ≡ true
  pub above : is_above (actor_task shapes actor) (place shapes object) ≡ true

on_tasks : (shapes : List Shape) (tasks : List TaskCalls) (note : Never) → DueBy (OfTask shapes) tasks note → OnTasks shapes tasks note
on_tasks shapes [] note d = absurd d
on_tasks shapes (task ∷ tasks) note (inl d) =
    let found = on_object shapes task.actor task.calls.items note d in
    record {
      actor = task.actor;
      object = found.object;
      is = found.is;
      among = or_left (names task.actor found.object task) (list_any (names task.actor found.object) tasks)
          (and_from (task.actor == task.actor) (names_object found.object task) (equal_to task.actor task.actor refl) found.among);
      above = found.above;
    }
on_tasks shapes (task ∷ tasks) note (inr d) =
    let found = on_tasks shapes tasks note d in
    record {
      actor = found.actor;
      object = found.object;
      is = found.is;
      among = or_right (names found.actor found.object task) (list_any (names found.actor found.object) tasks) found.among;
      above = found.above;
    }

by_tasks : (shapes : List Shape) (actor object : ℕ) (tasks : List TaskCalls) → list_any (names actor object) tasks ≡ true → is_above (actor_task shapes actor) (place shapes object) ≡ true
    → DueBy (OfTask shapes) tasks (Above actor object)
by_tasks shapes actor object [] among above = absurd (cc)
by_tasks shapes actor object (task ∷ tasks) among above = either
    (λ here.
    let parts = and_parts (task.actor == actor) (names_object object task) here in
    let same : actor ≡ task.actor = sym (equal task.actor actor parts.0) in
    let Holds : ℕ → Type 0 = λ n. DueBy (IsTooHighOf shapes n) task.calls.items (Above n object) in
    let there : Holds actor = by_object shapes actor object task.calls.items parts.1 above in
    inl (subst (λ (n : ℕ). OfTask shapes task (Above n object)) (sym same) (subst Holds same there))
    )
    (λ later. inr (by_tasks shapes actor object tasks later above))
    (or_cases (names actor object task) (list_any (names actor object) tasks) among)

record OnAll (shapes : List Shape) (units : List UnitCalls) (note : Never) : Type 0 where
  pub actor : ℕ
  pub object : ℕ
  pub is : note ≡ Above actor object
  pub among : task_calls units actor object ≡ true
  pub above : is_above (actor_task shapes actor) (place shapes object) ≡ true

on_all : (shapes : List Shape) (units : List UnitCalls) (note : Never) → DueBy (OfTasks shapes) units note → OnAll shapes units note
on_all shapes [] note d = absurd d
on_all shapes (calls ∷ units) note (inl d) =
    let found = on_tasks shapes calls.tasks.items note d in
    record {
      actor = found.actor;
      object = found.object;
      is = found.is;
      among = or_left (list_any (names found.actor found.object) calls.tasks.items) (task_calls units found.actor found.object) found.among;
      above = found.above;
    }
on_all shapes (calls ∷ units) note (inr d) =
    let found = on_all shapes units note d in
    record {
      actor = found.actor;
      object = found.object;
      is = found.is;
      among = or_right (list_any (names found.actor found.object) calls.tasks.items) (task_calls units found.actor found.object) found.among;
      above = found.above;
    }

by_all : (shapes : List Shape) (actor object : ℕ) (units : List UnitCalls) → task_calls units actor object ≡ true → is_above (actor_task shapes actor) (place shapes object) ≡ true
    → DueBy (OfTasks shapes) units (Above actor object)
by_all shapes actor object [] among above = absurd (cc)
by_all shapes actor object (calls ∷ units) among above = either
    (λ here. inl (by_tasks shapes actor object calls.tasks.items here above))
    (λ later. inr (by_all shapes actor object units later above))
    (or_cases (list_any (names actor object) calls.tasks.items) (task_calls units actor object) among)

abbrev pub CeilingParts : List Shape → List Shape → List UnitCalls → Never → Type 0
CeilingParts before shapes units note = DueBy (OfTasks shapes) units note ⊎ DueBelow (IsLineTooHigh before shapes) 10 note

pub ceiling_to : (before shapes : List Shape) (units : List UnitCalls) (note : Never) → CeilingParts before shapes units note → IsTooHigh before shapes units note
ceiling_to before shapes units note (inl d) =
    let found = on_all shapes units note d in
    subst (IsTooHigh before shapes units) (sym found.is) (found.among, found.above)
ceiling_to before shapes units note (inr d) =
    let few : d.0 ≤ last_line = omega (arith, d.1) in
    subst (IsTooHigh before shapes units) (sym d.2.0) (few, d.2.1.0, d.2.1.1)

pub ceiling_from : (before shapes : List Shape) (units : List UnitCalls) (note : Never) → IsTooHigh before shapes units note → CeilingParts before shapes units note
ceiling_from before shapes units (Denied unit object operation) d = absurd d
ceiling_from before shapes units (Above actor object) d = inl (by_all shapes actor object units d.0 d.1)
ceiling_from before shapes units (LineDenied line) d = absurd d
ceiling_from before shapes units (LineAbove line) d =
    let few : line < 10 = omega (arith, d.0) in
    inr (line, few, (refl, (d.1, d.2)))

-- calls that are the same make the same notes due

pub same_due : (shapes : List Shape) (list : List Words) (clock unit : ℕ) (calls others : List Called) → AreSame calls others → (note : Never)
    → DueBy (IsDenialOf shapes list clock unit) calls note → DueBy (IsDenialOf shapes list clock unit) others note
same_due shapes list clock unit calls others same note d =
    let found = on_call shapes list clock unit calls note d in
    let called : Called = record { object = found.object; operation = found.operation } in
    subst (DueBy (IsDenialOf shapes list clock unit) others) (sym found.is)
    (by_call shapes list clock unit found.object found.operation others (sym (same called) ∙ found.among) found.denies)

-- those of a unit, each call once
pub same_adds : {X E : Type 0} (shapes : List Shape) (list : List Words) (clock : ℕ) (calls : UnitCalls) (none made : List Called) (tasks : List TaskCalls) (given : List Called) (before after : List Never)
    → none ≡ [] → tasks ≡ calls.tasks.items → AreSame made (none ++ calls_of tasks) → given ≡ made
    → (result : Result X E) → OnOk result (Adds (DueBy (IsDenialOf shapes list clock calls.unit) given) before after) → OnOk result (Adds (OfUnit shapes list clock calls) before after)
same_adds shapes list clock calls none made tasks given before after empty of_unit same is (Ok x) adds =
    let all : AreSame given (calls_of calls.tasks.items) = λ called.
    ap (λ (xs : List Called). is_among xs called) is
    ∙ (same called ∙ (λ i. is_among (empty i ++ calls_of (of_unit i)) called)) in
    let back : AreSame (calls_of calls.tasks.items) given = λ called. sym (all called) in
    alike (DueBy (IsDenialOf shapes list clock calls.unit) given) (OfUnit shapes list clock calls) before after
    (same_due shapes list clock calls.unit given (calls_of calls.tasks.items) all)
    (same_due shapes list clock calls.unit (calls_of calls.tasks.items) given back) adds
same_adds shapes list clock calls none made tasks given before after empty of_unit same is (Err e) adds = adds

-- all denials, and all ceilings
pub all_denials : (before shapes : List Shape) (units : List UnitCalls) (list : List Words) (clock : ℕ) (none calls lines : List Never) → none ≡ []
    → Adds (DueBy (OfUnit shapes list clock) units) none calls → Adds (DueBelow (IsLineDenial before shapes list clock) 10) calls lines → AreAll (IsDenial before shapes units list clock) lines
all_denials before shapes units list clock none calls lines empty first second =
    finished (DenialParts before shapes units list clock) (IsDenial before shapes units list clock) lines (denial_to before shapes units list clock) (denial_from before shapes units list clock)
    (subst (λ (ns : List Never). Adds (DenialParts before shapes units list clock) ns lines) empty
    (both (DueBy (OfUnit shapes list clock) units) (DueBelow (IsLineDenial before shapes list clock) 10) none calls lines first second))

pub all_ceilings : (before shapes : List Shape) (units : List UnitCalls) (none calls lines : List Never) → none ≡ []
    → Adds (DueBy (OfTasks shapes) units) none calls → Adds (DueBelow (IsLineTooHigh before shapes) 10) calls lines → AreAll (IsTooHigh before shapes units) lines
all_ceilings before shapes units none calls lines empty first second =
    finished (CeilingParts before shapes units) (IsTooHigh before shapes units) lines (ceiling_to before shapes units) (ceiling_from before shapes units)
    (subst (λ (ns : List Never). Adds (CeilingParts before shapes units) ns lines) empty
    (both (DueBy (OfTasks shapes) units) (DueBelow (IsLineTooHigh before shapes) 10) none calls lines first second))
