-- Machines that go on by what is kept.
use Rattle.std.proofs.Common.{◌≡◌, ◌<◌, ◌≤◌, ◌+◌, ◌-◌, refl, sym, ap, subst, ◌∙◌, arith, ℕ, suc, List, [], ◌∷◌, ◌++◌, Bool, true, false, length, take, get_or, append_assoc, append-nil, ◌⊎◌, inl, inr}
use Rattle.std.specs.Prelude.{◌&&◌, not, IsTrue, IsFalse, Option}
use Rattle.std.proofs.Math.Seq.{take-suc}
use Rattle.std.proofs.lemmas.List.{take-append-le, take_all, length-append}
use Rattle.rv_event.specs.declared.entry.Answer.{Answer}
use Rattle.rv_event.specs.declared.entry.Request.{Request}
use Rattle.rv_exec.specs.Next.{settling}
use Rattle.rv_flat.specs.declared.unit.FlatUnit.{FlatUnit}
use Rattle.rv_flat.specs.FlatUnits.{flat_view}
use Rattle.rv_go.specs.declared.run.Run.{Run}
use Rattle.rv_go.specs.declared.run.Text.{Text}
use Rattle.rv_go.specs.declared.run.Text.TheVariants as texts
use Rattle.rv_go.specs.Runs.{asked_by, forgotten, is_of_task, IsBehind, IsRun, IsTaskOf, IsText, Follows}
use Rattle.rv_machine.specs.declared.machine.Machine.{Machine}
use Rattle.rv_machine.specs.Machines.{Fits}

-- a machine that looked at one more
taken_on : (before kept : List Answer) (n : ℕ) (answer : Answer) → n < length kept → answer ≡ get_or kept n answer
    → before ++ take (n + 1) kept ≡ (before ++ take n kept) ++ answer ∷ []
taken_on before kept n answer lt at =
    let e : n + 1 ≡ suc n = omega arith in
    let more : take (n + 1) kept ≡ take n kept ++ answer ∷ [] = ap (λ k. take k kept) e ∙ (take-suc kept n answer lt ∙ ap (λ (x : Answer). take n kept ++ x ∷ []) (sym at)) in
    ap (λ (x : List Answer). before ++ x) more ∙ sym (append_assoc before (take n kept) (answer ∷ []))

pub looks_on : (u : FlatUnit) (budget : ℕ) (before kept : List Answer) (run : Run) (answer : Answer) (new : Machine)
    → run.looked < length kept → answer ≡ get_or kept run.looked answer → Fits u new
    → ((given : List Answer) → IsBehind u (asked_by (flat_view u) budget run.text) (settling given) run.machine → IsBehind u (asked_by (flat_view u) budget run.text) (settling (given ++ answer ∷ [])) new)
    → IsRun u budget before kept run → IsRun u budget before kept (record run { looked = run.looked + 1; machine = new })
looks_on u budget before kept run answer new lt at fits goes is = record {
  within = omega (arith, lt);
  fits = fits;
  behind = subst (λ (x : List Answer). IsBehind u (asked_by (flat_view u) budget run.text) (settling x) new) (sym (taken_on before kept run.looked answer lt at)) (goes (before ++ take run.looked kept) is.behind);
}

-- one that looked at all
all_taken : (before kept : List Answer) (n : ℕ) → n ≡ length kept → before ++ take n kept ≡ before ++ kept
all_taken before kept n is = ap (λ (x : List Answer). before ++ x) (take_all n kept (omega (arith, is)))

pub looked_at_all : (u : FlatUnit) (budget : ℕ) (before kept : List Answer) (run : Run) → run.looked ≡ length kept → IsRun u budget before kept run
    → IsBehind u (asked_by (flat_view u) budget run.text) (settling (before ++ kept)) run.machine
looked_at_all u budget before kept run all is = subst (λ (x : List Answer). IsBehind u (asked_by (flat_view u) budget run.text) (settling x) run.machine) (all_taken before kept run.looked all) is.behind

-- a machine in another place of its text's
pub moved : (u : FlatUnit) (budget : ℕ) (before kept : List Answer) (run : Run) (new : Machine)
    → Fits u new → (IsBehind u (asked_by (flat_view u) budget run.text) (settling (before ++ take run.looked kept)) run.machine → IsBehind u (asked_by (flat_view u) budget run.text) (settling (before ++ take run.looked kept)) new)
    → IsRun u budget before kept run → IsRun u budget before kept (record run { machine = new })
moved u budget before kept run new fits behind is = record { within = is.within; fits = fits; behind = behind is.behind }

-- one that asks
pub asks_on : (u : FlatUnit) (budget : ℕ) (before kept : List Answer) (run : Run) (text : Text) (asked : Option Request)
    → run.text ≡ text → run.looked ≡ length kept
    → ((given : List Answer) → IsBehind u (asked_by (flat_view u) budget run.text) given run.machine → asked ≡ asked_by (flat_view u) budget run.text given)
    → IsRun u budget before kept run → asked ≡ asked_by (flat_view u) budget text (settling (before ++ kept))
asks_on u budget before kept run text asked same all asks is =
    asks (settling (before ++ kept)) (looked_at_all u budget before kept run all is) ∙ ap (λ (t : Text). asked_by (flat_view u) budget t (settling (before ++ kept))) same

-- the same, with the answers that are forgotten
record Split (u : FlatUnit) (budget : ℕ) (all : List Answer) (actor : ℕ) (kept : List Answer) (run : Run) : Type 0 where
  before : List Answer
  whole : before ++ kept ≡ all
  own : (before ≡ []) ⊎ IsTaskOf actor run.text
  is_run : IsRun u budget before kept run

split_at : (before kept all : List Answer) → before ++ kept ≡ all → forgotten all kept ≡ before
split_at before kept all is =
    let l : length before + length kept ≡ length all = sym (length-append before kept) ∙ ap (λ (x : List Answer). length x) is in
    let n : length all - length kept ≡ length before = omega (arith, l) in
    ap (λ (x : List Answer). take (length all - length kept) x) (sym is)
    ∙ (ap (λ (k : ℕ). take k (before ++ kept)) n
    ∙ (take-append-le (length before) before kept (omega arith) ∙ take_all (length before) before (omega arith)))

none_before : (before kept all : List Answer) → before ++ kept ≡ all → length all ≤ length kept → before ≡ []
none_before [] kept all is le = refl
none_before (a ∷ before) kept all is le =
    let l : length (a ∷ before) + length kept ≡ length all = sym (length-append (a ∷ before) kept) ∙ ap (λ (x : List Answer). length x) is in
    absurd (omega (arith, l, le))

follows_of : (u : FlatUnit) (budget : ℕ) (all : List Answer) (actor : ℕ) (kept : List Answer) (run : Run) → Split u budget all actor kept run → Follows u budget all actor kept run
follows_of u budget all actor kept run s =
    let same : forgotten all kept ≡ s.before = split_at s.before kept all s.whole in
    record {
      whole = ap (λ (x : List Answer). x ++ kept) same ∙ s.whole;
      own = λ fewer.
          elim s.own [
            | inl none ↦
                let e : kept ≡ all = ap (λ (x : List Answer). x ++ kept) (sym none) ∙ s.whole in
                let l : length kept ≡ length all = ap (λ (x : List Answer). length x) e in
                absurd (omega (arith, fewer, l))
            | inr own ↦ own
          ];
      is_run = subst (λ (x : List Answer). IsRun u budget x kept run) (sym same) s.is_run;
    }

fewer_or : (n k : ℕ) → (n < k) ⊎ (k ≤ n)
fewer_or n k = Prim.grind arith

split_of : (u : FlatUnit) (budget : ℕ) (all : List Answer) (actor : ℕ) (kept : List Answer) (run : Run) → Follows u budget all actor kept run → Split u budget all actor kept run
split_of u budget all actor kept run f = record {
  before = forgotten all kept;
  whole = f.whole;
  own = elim (fewer_or (length kept) (length all)) [
    | inl fewer ↦ inr (f.own fewer)
    | inr all_there ↦ inl (none_before (forgotten all kept) kept all f.whole all_there)
  ];
  is_run = f.is_run;
}

-- a machine that begins, where all is kept
begins_to_follow_by : (u : FlatUnit) (budget : ℕ) (all : List Answer) (actor : ℕ) (kept : List Answer) (run : Run)
    → kept ≡ all → ((given : List Answer) → IsRun u budget [] given run) → Split u budget all actor kept run
begins_to_follow_by u budget all actor kept run whole is = record { before = []; whole = whole; own = inl refl; is_run = is kept }

-- a machine that was moved on
still_follows_by : (u : FlatUnit) (budget : ℕ) (all : List Answer) (actor : ℕ) (kept : List Answer) (old new : Run)
    → new.text ≡ old.text → ((b : ℕ) (before : List Answer) → IsRun u b before kept old → IsRun u b before kept new)
    → Split u budget all actor kept old → Split u budget all actor kept new
still_follows_by u budget all actor kept old new same moves is = record {
  before = is.before;
  whole = is.whole;
  own = elim is.own [
    | inl none ↦ inl none
    | inr own ↦ inr (subst (λ (t : Text). IsTaskOf actor t) (sym same) own)
  ];
  is_run = moves budget is.before is.is_run;
}

-- one more is kept
follows_more_by : (u : FlatUnit) (budget : ℕ) (all : List Answer) (actor : ℕ) (kept : List Answer) (run : Run) (answer : Answer)
    → Split u budget all actor kept run → Split u budget (all ++ answer ∷ []) actor (kept ++ answer ∷ []) run
follows_more_by u budget all actor kept run answer is = record {
  before = is.before;
  whole = sym (append_assoc is.before kept (answer ∷ [])) ∙ ap (λ (x : List Answer). x ++ answer ∷ []) is.whole;
  own = is.own;
  is_run = record {
    within = let l = length-append kept (answer ∷ []) in let w = is.is_run.within in omega (arith, l, w);
    fits = is.is_run.fits;
    behind =
        subst (λ (x : List Answer). IsBehind u (asked_by (flat_view u) budget run.text) (settling (is.before ++ x)) run.machine) (sym (take-append-le run.looked kept (answer ∷ []) is.is_run.within))
        is.is_run.behind;
  };
}

-- what is kept is forgotten
forgets_all_by : (u : FlatUnit) (budget : ℕ) (all : List Answer) (actor : ℕ) (kept : List Answer) (run : Run)
    → run.looked ≡ length kept → IsTaskOf actor run.text → Split u budget all actor kept run → Split u budget all actor [] (record run { looked = 0 })
forgets_all_by u budget all actor kept run looked own is = record {
  before = is.before ++ kept;
  whole = append-nil (is.before ++ kept) ∙ is.whole;
  own = inr own;
  is_run = record {
    within = omega arith;
    fits = is.is_run.fits;
    behind =
        subst (λ (x : List Answer). IsBehind u (asked_by (flat_view u) budget run.text) (settling x) run.machine) (sym (append-nil (is.before ++ kept)))
        (looked_at_all u budget is.before kept run looked is.is_run);
  };
}

-- the texts that an actor may have
one_text : (actor : ℕ) (one other : Text) → IsTaskOf actor one → IsText actor other → one ≡ other
one_text actor one (texts.Task again) own is = own.own ∙ ap (λ n. texts.Task n) (sym is.0)
one_text actor one (texts.Handler object operation) own is = let number = own.number in absurd (omega (arith, number, is))

-- another text's machine went on by what is kept alone
other_whole_by : (u : FlatUnit) (budget : ℕ) (all : List Answer) (actor : ℕ) (kept : List Answer) (run : Run) (text : Text)
    → IsText actor text → (run.text ≡ text → ⊥) → Split u budget all actor kept run → kept ≡ all
other_whole_by u budget all actor kept run text is other follows = elim follows.own [
  | inl none ↦ ap (λ (x : List Answer). x ++ kept) (sym none) ∙ follows.whole
  | inr own ↦ absurd (other (one_text actor run.text text own is))
]

-- only a task's text is forgotten
pub text_of_task : (actor : ℕ) (text : Text) (keeps : Bool) → IsText actor text → IsTrue (is_of_task text && not keeps) → IsTaskOf actor text
text_of_task actor (texts.Task task) keeps is so = record { own = ap (λ n. texts.Task n) is.0; number = is.1 }
text_of_task actor (texts.Handler object operation) keeps is so = absurd (cc so)

pub forgets_not : (b keeps : Bool) → IsTrue keeps → IsFalse (b && not keeps)
forgets_not true true so = refl
forgets_not true false so = absurd (cc so)
forgets_not false keeps so = refl

-- what is asked behind all answers
asked_all_by : (u : FlatUnit) (budget : ℕ) (all : List Answer) (actor : ℕ) (kept given : List Answer) (run : Run) (text : Text) (asked : Option Request)
    → given ≡ kept → run.text ≡ text
    → ((b : ℕ) (before : List Answer) → IsRun u b before given run → asked ≡ asked_by (flat_view u) b run.text (settling (before ++ given)))
    → Split u budget all actor kept run → asked ≡ asked_by (flat_view u) budget text (settling all)
asked_all_by u budget all actor kept given run text asked same its asks is =
    asks budget is.before (subst (λ (x : List Answer). IsRun u budget is.before x run) (sym same) is.is_run)
    ∙ (ap (λ (t : Text). asked_by (flat_view u) budget t (settling (is.before ++ given))) its
    ∙ ap (λ (x : List Answer). asked_by (flat_view u) budget text (settling x)) (ap (λ (x : List Answer). is.before ++ x) same ∙ is.whole))

-- What machines do with the answers that are kept

pub begins_to_follow : (u : FlatUnit) (budget : ℕ) (all : List Answer) (actor : ℕ) (kept : List Answer) (run : Run)
    → kept ≡ all → ((given : List Answer) → IsRun u budget [] given run) → Follows u budget all actor kept run
begins_to_follow u budget all actor kept run whole is = follows_of u budget all actor kept run (begins_to_follow_by u budget all actor kept run whole is)

pub still_follows : (u : FlatUnit) (budget : ℕ) (all : List Answer) (actor : ℕ) (kept : List Answer) (old new : Run)
    → new.text ≡ old.text → ((b : ℕ) (before : List Answer) → IsRun u b before kept old → IsRun u b before kept new)
    → Follows u budget all actor kept old → Follows u budget all actor kept new
still_follows u budget all actor kept old new same moves is =
    follows_of u budget all actor kept new (still_follows_by u budget all actor kept old new same moves (split_of u budget all actor kept old is))

pub follows_more : (u : FlatUnit) (budget : ℕ) (all : List Answer) (actor : ℕ) (kept : List Answer) (run : Run) (answer : Answer)
    → Follows u budget all actor kept run → Follows u budget (all ++ answer ∷ []) actor (kept ++ answer ∷ []) run
follows_more u budget all actor kept run answer is =
    follows_of u budget (all ++ answer ∷ []) actor (kept ++ answer ∷ []) run (follows_more_by u budget all actor kept run answer (split_of u budget all actor kept run is))

pub forgets_all : (u : FlatUnit) (budget : ℕ) (all : List Answer) (actor : ℕ) (kept : List Answer) (run : Run)
    → run.looked ≡ length kept → IsTaskOf actor run.text → Follows u budget all actor kept run → Follows u budget all actor [] (record run { looked = 0 })
forgets_all u budget all actor kept run looked own is =
    follows_of u budget all actor [] (record run { looked = 0 }) (forgets_all_by u budget all actor kept run looked own (split_of u budget all actor kept run is))

pub other_whole : (u : FlatUnit) (budget : ℕ) (all : List Answer) (actor : ℕ) (kept : List Answer) (run : Run) (text : Text)
    → IsText actor text → (run.text ≡ text → ⊥) → Follows u budget all actor kept run → kept ≡ all
other_whole u budget all actor kept run text is other follows = other_whole_by u budget all actor kept run text is other (split_of u budget all actor kept run follows)

pub asked_all : (u : FlatUnit) (budget : ℕ) (all : List Answer) (actor : ℕ) (kept given : List Answer) (run : Run) (text : Text) (asked : Option Request)
    → given ≡ kept → run.text ≡ text
    → ((b : ℕ) (before : List Answer) → IsRun u b before given run → asked ≡ asked_by (flat_view u) b run.text (settling (before ++ given)))
    → Follows u budget all actor kept run → asked ≡ asked_by (flat_view u) budget text (settling all)
asked_all u budget all actor kept given run text asked same its asks is = asked_all_by u budget all actor kept given run text asked same its asks (split_of u budget all actor kept run is)
