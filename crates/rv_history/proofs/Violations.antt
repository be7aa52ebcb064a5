-- The first rule that a request violates, and what is so where it violates none.
use Rattle.std.proofs.Common.{◌≡◌, ℕ, List, [], ◌∷◌, Some, None, Option, Bool, true, false, ap, sym, ◌∙◌, refl}
use Rattle.std.specs.Prelude.{◌==◌, is_some, not, ◌&&◌, ◌||◌, if◌then◌else◌}
use Rattle.std.specs.List.{list_any}
use Rattle.rv_shape.specs.Catalogue.{OnProtected, Site, is_entry, is_function}
use Rattle.rv_shape.specs.declared.kind.Kind.{Kind}
use Rattle.rv_shape.specs.declared.kind.Kind.TheVariants.{Function, Procedure, Entry as EntryKind, Handler}
use Rattle.rv_event.specs.Past.{under_way, is_unsettled, waiter}
use Rattle.rv_event.specs.declared.entry.Request.{Request}
use Rattle.rv_event.specs.declared.entry.Answer.{Answer}
use Rattle.rv_event.specs.declared.entry.Answer.TheVariants.{Refused}
use Rattle.rv_event.specs.declared.entry.Body.{Body}
use Rattle.rv_event.specs.declared.entry.Rule.{Rule}
use Rattle.rv_event.specs.declared.entry.Rule.TheVariants.{Grant, Blocking, Reentry, Ceiling, Queue, Waiter}
use Rattle.rv_history.specs.Due.{unless_refused}
use Rattle.rv_history.specs.Exclusion.{conflicts, excluded, full_queue, is_barred, is_open}
use Rattle.rv_history.specs.History.{History}
use Rattle.rv_history.specs.Rules.{breaks, first_among, is_call, is_grant, is_taken, rules}
use Rattle.rv_history.proofs.Answered.{and_false, and_none, and_true, both, off}

-- a rule that is found is violated
pub is_found : (p : Rule → Bool) (rs : List Rule) (rule : Rule) → first_among p rs ≡ Some rule → p rule ≡ true
is_found p [] rule e = absurd (cc)
is_found p (r ∷ rs) rule e = by_test (p r) refl (is_found p rs rule) e
  where
    by_test : (b : Bool) → p r ≡ b → (first_among p rs ≡ Some rule → p rule ≡ true) → (if b then Some r else first_among p rs) ≡ Some rule → p rule ≡ true
    by_test true is rest f = cc
    by_test false is rest f = rest f

past_one : (p : Rule → Bool) (r : Rule) (rs : List Rule) → first_among p (r ∷ rs) ≡ None → (p r ≡ false) × (first_among p rs ≡ None)
past_one p r rs e = by_test (p r) refl e
  where
    by_test : (b : Bool) → p r ≡ b → (if b then Some r else first_among p rs) ≡ None → (p r ≡ false) × (first_among p rs ≡ None)
    by_test true is e = absurd (cc)
    by_test false is e = (is, e)

-- where none is found none is violated
pub none_found : (p : Rule → Bool) → first_among p rules ≡ None → (rule : Rule) → p rule ≡ false
none_found p e = each
  where
    behind_grant : first_among p (Blocking ∷ Reentry ∷ Ceiling ∷ Queue ∷ Waiter ∷ []) ≡ None
    behind_grant = (past_one p Grant (Blocking ∷ Reentry ∷ Ceiling ∷ Queue ∷ Waiter ∷ []) e).1

    behind_blocking : first_among p (Reentry ∷ Ceiling ∷ Queue ∷ Waiter ∷ []) ≡ None
    behind_blocking = (past_one p Blocking (Reentry ∷ Ceiling ∷ Queue ∷ Waiter ∷ []) behind_grant).1

    behind_reentry : first_among p (Ceiling ∷ Queue ∷ Waiter ∷ []) ≡ None
    behind_reentry = (past_one p Reentry (Ceiling ∷ Queue ∷ Waiter ∷ []) behind_blocking).1

    behind_ceiling : first_among p (Queue ∷ Waiter ∷ []) ≡ None
    behind_ceiling = (past_one p Ceiling (Queue ∷ Waiter ∷ []) behind_reentry).1

    behind_queue : first_among p (Waiter ∷ []) ≡ None
    behind_queue = (past_one p Queue (Waiter ∷ []) behind_ceiling).1

    each : (rule : Rule) → p rule ≡ false
    each Grant = (past_one p Grant (Blocking ∷ Reentry ∷ Ceiling ∷ Queue ∷ Waiter ∷ []) e).0
    each Blocking = (past_one p Blocking (Reentry ∷ Ceiling ∷ Queue ∷ Waiter ∷ []) behind_grant).0
    each Reentry = (past_one p Reentry (Ceiling ∷ Queue ∷ Waiter ∷ []) behind_blocking).0
    each Ceiling = (past_one p Ceiling (Queue ∷ Waiter ∷ []) behind_reentry).0
    each Queue = (past_one p Queue (Waiter ∷ []) behind_ceiling).0
    each Waiter = (past_one p Waiter [] behind_queue).0

-- and where none is violated none is found
pub none_violated : (p : Rule → Bool) (rs : List Rule) → ((rule : Rule) → p rule ≡ false) → first_among p rs ≡ None
none_violated p [] f = refl
none_violated p (r ∷ rs) f = (λ i. if f r i then Some r else first_among p rs) ∙ none_violated p rs f

-- what is so of each answer by which a request is refused, and of the one that stands where no rule refuses it
pub each_refused : (P : Answer → Type 0) (number line : ℕ) (found : Option Rule) (answer : Answer) → ((rule : Rule) (k : ℕ) → found ≡ Some rule → P (Refused rule k number)) → (found ≡ None → P answer)
    → P (unless_refused number line found answer)
each_refused P n l None x refused stands = stands refl
each_refused P n l (Some rule) x refused stands = refused rule (if is_grant rule then l else 0) refl

-- an object that somebody holds, or that is unsettled, keeps each exclusive operation out
on_object : (h : History) (o : ℕ) (bs : List Body) → list_any (conflicts h.shapes o false) bs ≡ list_any (λ b. b.object == o) bs
on_object h o [] = refl
on_object h o (b ∷ bs) = λ i. and_true (b.object == o) i || on_object h o bs i

taken_is : (h : History) (o : ℕ) → excluded h o false ≡ is_taken h o
taken_is h o = ap (λ t. t || is_unsettled h.shapes o h.past) (on_object h o (under_way h.shapes h.past))

entry_excludes : (kind : Kind) → is_entry kind ≡ true → is_function kind ≡ false
entry_excludes (Function range) e = absurd (off e)
entry_excludes Procedure e = refl
entry_excludes (EntryKind barrier) e = refl
entry_excludes (Handler line) e = refl

entry_taken : (h : History) (o : ℕ) (kind : Kind) → is_barred h o kind ≡ true → excluded h o (is_function kind) ≡ is_taken h o
entry_taken h o kind shut =
    let entry = both (is_entry kind) (not (is_open h o)) shut in
    ap (excluded h o) (entry_excludes kind entry.0) ∙ taken_is h o

-- so nobody has an object that keeps out no call of its entry
pub not_taken : (h : History) (o : ℕ) (kind : Kind) → is_barred h o kind ≡ true → excluded h o (is_function kind) ≡ false → is_taken h o ≡ false
not_taken h o kind shut free = sym (entry_taken h o kind shut) ∙ free

-- the rule of queues, by what keeps the call out and what bars it
pub queue_rule : (h : History) (a : ℕ) (r : Request) (o : ℕ) (s : Site) →
    breaks h Queue a r o (OnProtected s) ≡ ((is_barred h o s.operation.kind && not (excluded h o (is_function s.operation.kind))) && (is_call r && full_queue h o))
queue_rule h a r o s = by_barred (is_barred h o s.operation.kind) refl
  where
    called : (c x t f : Bool) → x ≡ t → (((c && true) && not t) && f) ≡ ((true && not x) && (c && f))
    called true x t f same = ap (λ b. not b && f) (sym same)
    called false x t f same = sym (and_false (not x))

    uncalled : (c x t f : Bool) → (((c && false) && not t) && f) ≡ ((false && not x) && (c && f))
    uncalled true x t f = refl
    uncalled false x t f = refl

    by_barred : (b : Bool) → is_barred h o s.operation.kind ≡ b → (((is_call r && b) && not (is_taken h o)) && full_queue h o) ≡ ((b && not (excluded h o (is_function s.operation.kind))) && (is_call r && full_queue h o))
    by_barred true is = called (is_call r) (excluded h o (is_function s.operation.kind)) (is_taken h o) (full_queue h o) (entry_taken h o s.operation.kind is)
    by_barred false is = uncalled (is_call r) (excluded h o (is_function s.operation.kind)) (is_taken h o) (full_queue h o)

-- a call of a protected operation, and a fired line, find nobody who waits on a suspension object
pub waiter_rule : (h : History) (a : ℕ) (r : Request) (o : ℕ) (s : Site) → breaks h Waiter a r o (OnProtected s) ≡ false
waiter_rule h a r o s = and_none (is_call r && false) (is_some (waiter o h.past)) (and_false (is_call r))

-- the first rule is the same by tests that agree
pub same_first : (p q : Rule → Bool) (rs : List Rule) → ((rule : Rule) → p rule ≡ q rule) → first_among p rs ≡ first_among q rs
same_first p q [] f = refl
same_first p q (r ∷ rs) f = λ i. if f r i then Some r else same_first p q rs f i
