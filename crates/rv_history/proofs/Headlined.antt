-- The headline at each entry of a legal history that answers a request.
use Rattle.std.proofs.Common.{◌≡◌, ◌⊎◌, inl, inr, ℕ, zero, suc, ◌≤◌, List, [], ◌∷◌, ◌++◌, Some, None, Option, Bool, true, false, cond, ap, subst, sym, ◌∙◌, refl}
use Rattle.std.specs.Prelude.{ℤ, ◌==◌, ◌&&◌, ◌||◌, ◌↔◌, map, nat_lt, not, slice_get, length}
use Rattle.std.specs.List.{filter, list_any}
use Rattle.rv_access.specs.Words.{Words}
use Rattle.rv_prio.specs.Priority.{greatest}
use Rattle.rv_shape.specs.Shape.{Shape}
use Rattle.rv_shape.specs.Catalogue.{Target, ceiling, target, who}
use Rattle.rv_event.specs.Recorded.{recorded}
use Rattle.rv_event.specs.Past.{is_unsettled, last_queued, started, under_way, unsettled}
use Rattle.rv_event.specs.declared.entry.Answer.{Answer}
use Rattle.rv_event.specs.declared.entry.Answer.TheVariants as Answers
use Rattle.rv_event.specs.declared.entry.Body.{Body}
use Rattle.rv_event.specs.declared.entry.Entry.{Entry}
use Rattle.rv_event.specs.declared.entry.Entry.TheVariants.{Asked, Load, ListChange}
use Rattle.rv_event.specs.declared.entry.Next.{Next}
use Rattle.rv_event.specs.declared.entry.Next.TheVariants.{Nothing, HandedTo, Dropped}
use Rattle.rv_event.specs.declared.entry.Recorded.{Recorded}
use Rattle.rv_event.specs.declared.entry.Recorded.TheVariants as Words
use Rattle.rv_event.specs.declared.entry.Request.{Request}
use Rattle.rv_event.specs.declared.entry.Request.TheVariants.{Call, Complete, Settle, Resume, DelayUntil, Clock, Fire, Quit, Tick, Halt}
use Rattle.rv_event.specs.declared.entry.Rule.{Rule}
use Rattle.rv_event.specs.declared.entry.Rule.TheVariants.{Grant, Blocking, Reentry, Ceiling, Queue, Waiter}
use Rattle.rv_history.specs.declared.limits.Limits.{Limits}
use Rattle.rv_history.specs.Due.{goes_on, out}
use Rattle.rv_history.specs.HandOver.{IsHandedOver, served}
use Rattle.rv_history.specs.Headline.{Headline, IsAllowed, IsLawful}
use Rattle.rv_history.specs.History.{History}
use Rattle.rv_history.specs.Journal.{all_but_last}
use Rattle.rv_history.specs.Legal.{IsLegal, Legal}
use Rattle.rv_history.specs.Owed.{IsSolvent}
use Rattle.rv_history.specs.Rewound.{one_back, rewound, without_newest}
use Rattle.rv_history.specs.Exclusion.{full_queue}
use Rattle.rv_history.specs.Rules.{breaks, is_barred_at, is_protected, is_taken, may_block, violates}
use Rattle.rv_history.specs.Subject.{base_of}
use Rattle.rv_history.proofs.Answered.{and_false, and_none, answered, word_is}
use Rattle.rv_history.proofs.Ending.{head_on, head_waits}
use Rattle.rv_history.proofs.Exactly.{allowed_due, started_allowed}
use Rattle.rv_history.proofs.First.{names_first}
use Rattle.rv_history.proofs.Growing.{front_is}
use Rattle.rv_history.proofs.HandOver.{dropped_exactly, handed_exactly, only_dropped}
use Rattle.rv_history.proofs.Refused.{refused_leaves}
use Rattle.rv_history.proofs.Room.{legal_solvent}
use Rattle.rv_history.proofs.Stances.{itself, same_number, some_is}
use Rattle.rv_history.proofs.Standing.{legal_waits}
use Rattle.rv_history.proofs.Told.{refused_is}
use Rattle.rv_history.proofs.Waits.{Waits}

-- A handed call is lawful.

or_some : (b : Bool) → (b || true) ≡ true
or_some true = refl
or_some false = refl

-- what is first among some of these is one of these
first_any : (p q : Body → Bool) (xs : List Body) (b : Body) → slice_get (filter q xs) 0 ≡ Some b → p b ≡ true → list_any p xs ≡ true
first_any p q [] b e f = absurd (cc)
first_any p q (x ∷ xs) b e f = by_test (q x) e (first_any p q xs b)
  where
    by_test : (t : Bool) → slice_get (cond t (x ∷ filter q xs) (filter q xs)) 0 ≡ Some b → (slice_get (filter q xs) 0 ≡ Some b → p b ≡ true → list_any p xs ≡ true) → (p x || list_any p xs) ≡ true
    by_test true g rest = ap (λ t. t || list_any p xs) (ap p (some_is x b g) ∙ f)
    by_test false g rest = ap (λ t. p x || t) (rest g f) ∙ or_some (p x)

-- an end or a settle serves an object that its actor holds or left unsettled
served_taken : (h : History) (a : ℕ) (r : Request) (b : Body) → served h.shapes a h.past r ≡ Some b → is_taken h b.object ≡ true
served_taken h a (Complete vs x) b e =
    ap (λ t. t || is_unsettled h.shapes b.object h.past) (first_any (λ d. d.object == b.object) (λ d. d.actor == a) (under_way h.shapes h.past) b e (itself b.object))
served_taken h a Settle b e =
    ap (λ t. list_any (λ d. d.object == b.object) (under_way h.shapes h.past) || t) (first_any (λ d. d.object == b.object) (λ d. d.actor == a) (unsettled h.shapes h.past) b e (itself b.object))
    ∙ or_some (list_any (λ d. d.object == b.object) (under_way h.shapes h.past))
served_taken h a r b e = absurd (cc)

lawful_waiter : (h : History) (c : Body) (v : Waits h.shapes h.past c) → is_taken h c.object ≡ true → violates h Grant c.actor (Call c.object c.operation []) ≡ false → IsLawful h c
lawful_waiter h c v taken granted values rule = by_rule rule
  where
    q : Request
    q = Call c.object c.operation values

    t : Target
    t = target h.shapes c.object c.operation

    by_rule : (rule : Rule) → breaks h rule c.actor q c.object t ≡ false
    by_rule Grant = granted
    by_rule Blocking = ap (λ (bs : List Body). nat_lt 0 (length bs) && may_block q t) v.none
    by_rule Reentry = ap (λ (bs : List Body). is_protected t && list_any (λ b. b.object == c.object) bs) v.none ∙ and_false (is_protected t)
    by_rule Ceiling =
        ap (λ (at : Target). breaks h Ceiling c.actor q c.object at) v.low.at
        ∙ ap (λ (bs : List Body). nat_lt v.low.site.object.ceiling (greatest (base_of (who h.shapes c.actor)) (map (λ body. ceiling h.shapes body.object) bs))) v.none
        ∙ v.low.under
    by_rule Queue =
        and_none (is_barred_at h c.object t && not (is_taken h c.object)) (full_queue h c.object)
        (ap (λ b. is_barred_at h c.object t && not b) taken ∙ and_false (is_barred_at h c.object t))
    by_rule Waiter = ap (λ (at : Target). breaks h Waiter c.actor q c.object at) v.low.at

pub handed_lawful : (h : History) (a : ℕ) (r : Request) (n : ℕ) → Legal h → (w : IsHandedOver h a r n) → IsLawful h w.call
handed_lawful h a r n l w =
    let m = w.reached in
    let there : w.call.object ≡ m.body.object = same_number w.call.object m.body.object (head_on h.past m.body.object w.call m.behind m.first) in
    lawful_waiter h w.call (head_waits h.shapes h.past m.body.object w.call m.behind (legal_waits h.limits h.past h.shapes h.lists l) m.first)
    (ap (is_taken h) there ∙ served_taken h a r m.body m.serving) (ap not w.grant)

-- The queued call is the one whose body starts.
handed_body : (h : History) (a : ℕ) (r : Request) (w : Recorded) (n : ℕ) → Legal h → (over : IsHandedOver h a r n) → w ≡ Words.Done (HandedTo n) → started h.shapes h.past (Asked a r w) ≡ Some over.call
handed_body h a r w n l over e = ap (λ v. started h.shapes h.past (Asked a r v)) e ∙ by_request r over.reached.serving
  where
    last : last_queued n h.past ≡ Some over.call
    last =
        ap (λ m. last_queued m h.past) (sym over.its)
        ∙ (head_waits h.shapes h.past over.reached.body.object over.call over.reached.behind (legal_waits h.limits h.past h.shapes h.lists l) over.reached.first).last

    by_request : (r : Request) → served h.shapes a h.past r ≡ Some over.reached.body → started h.shapes h.past (Asked a r (Words.Done (HandedTo n))) ≡ Some over.call
    by_request (Complete vs x) f = last
    by_request Settle f = last
    by_request r f = absurd (cc)

-- No other entry starts a body.

started_by : (h : History) (a : ℕ) (r : Request) (w : Recorded) (b : Body) → started h.shapes h.past (Asked a r w) ≡ Some b → (w ≡ Words.Started) ⊎ ((n : ℕ) × (w ≡ Words.Done (HandedTo n)))
started_by h a r Words.Started b e = inl refl
started_by h a r (Words.Done (HandedTo n)) b e = inr (n, refl)
started_by h a (Complete vs x) (Words.Done Nothing) b e = absurd (cc)
started_by h a (Complete vs x) (Words.Done (Dropped n line)) b e = absurd (cc)
started_by h a Settle (Words.Done Nothing) b e = absurd (cc)
started_by h a Settle (Words.Done (Dropped n line)) b e = absurd (cc)
started_by h a (Call o p vs) w b e = absurd (cc)
started_by h a (Complete vs x) w b e = absurd (cc)
started_by h a Settle w b e = absurd (cc)
started_by h a Fire w b e = absurd (cc)
started_by h a r w b e = absurd (cc)

-- One entry.

done_is : (x : Answer) (next : Next) → recorded x ≡ Some (Words.Done next) → x ≡ Answers.Done next
done_is (Answers.Done other) next e = cc
done_is x next e = absurd (cc)

headline_at : (c : Limits) (past : List Entry) (shapes : List Shape) (lists : List (List Words)) (a : ℕ) (r : Request) (w : Recorded) → 1 ≤ c.capacity → IsLegal c (Asked a r w ∷ past) shapes lists →
    Headline (record { limits = c; past = past; shapes = shapes; lists = lists }) a r w
headline_at c past shapes lists a r w some l = record {
  starts = (λ e. started_allowed h a r (l.1 ∙ ap (λ v. Some v) e), λ allowed. sym (word_is Words.Started w (sym (ap recorded (allowed_due h a r allowed)) ∙ (answered h a r w l.1).said)));
  hands_over = λ n. (
    λ e. (handed_exactly h a r n l.0 solvent).0 (done_is (out h a r) (HandedTo n) (l.1 ∙ ap (λ v. Some v) e)),
    λ over. sym (word_is (Words.Done (HandedTo n)) w (sym (ap recorded ((handed_exactly h a r n l.0 solvent).1 over)) ∙ l.1)),
  );
  takes_over = λ n over e. handed_body h a r w n l.0 over e;
  lawfully = λ n over. handed_lawful h a r n l.0 over;
  drops = λ n line. (
    λ e. (dropped_exactly h a r n line l.0 solvent).0 (done_is (out h a r) (Dropped n line) (l.1 ∙ ap (λ v. Some v) e)),
    λ drop. sym (word_is (Words.Done (Dropped n line)) w (sym (ap recorded ((dropped_exactly h a r n line l.0 solvent).1 drop)) ∙ l.1)),
  );
  only_drops = λ n line e. only_dropped h a r n line l.0 (done_is (out h a r) (Dropped n line) (l.1 ∙ ap (λ v. Some v) e));
  nowhere_else = λ b e. started_by h a r w b e;
  names_first = λ rule line version calls e. names_first h a r rule line version calls (refused_is (out h a r) rule line version (l.1 ∙ ap (λ v. Some v) e));
  changes_nothing = λ rule line version calls e. refused_leaves h a r rule line version calls;
}
  where
    h : History
    h = record { limits = c; past = past; shapes = shapes; lists = lists }

    solvent : IsSolvent h
    solvent = legal_solvent h some l.0

-- Each history that a legal one was is legal.

back_legal : (c : Limits) (past : List Entry) (shapes : List Shape) (lists : List (List Words)) → IsLegal c past shapes lists → Legal (one_back c past shapes lists)
back_legal c [] shapes lists l = l
back_legal c (Asked a r w ∷ past) shapes lists l = l.0
back_legal c (Load ∷ past) shapes lists l = subst (λ (ss : List Shape). IsLegal c past ss lists) (sym (ap all_but_last l.2 ∙ front_is l.0 l.1)) l.3
back_legal c (ListChange ∷ past) shapes lists l = subst (λ (ls : List (List Words)). IsLegal c past shapes ls) (sym (ap all_but_last l.2 ∙ front_is l.0 l.1)) l.3

back_limits : (c : Limits) (past : List Entry) (shapes : List Shape) (lists : List (List Words)) → (one_back c past shapes lists).limits ≡ c
back_limits c [] shapes lists = refl
back_limits c (e ∷ past) shapes lists = refl

pub rewound_legal : (n : ℕ) (h : History) → Legal h → Legal (rewound n h)
rewound_legal zero h l = l
rewound_legal (suc n) h l = rewound_legal n (without_newest h) (back_legal h.limits h.past h.shapes h.lists l)

rewound_limits : (n : ℕ) (h : History) → (rewound n h).limits ≡ h.limits
rewound_limits zero h = refl
rewound_limits (suc n) h = rewound_limits n (without_newest h) ∙ back_limits h.limits h.past h.shapes h.lists

newest_headline : (h : History) (a : ℕ) (r : Request) (w : Recorded) (past : List Entry) → 1 ≤ h.limits.capacity → Legal h → h.past ≡ Asked a r w ∷ past → Headline (without_newest h) a r w
newest_headline h a r w past some l is =
    subst (λ (p : List Entry). Headline (one_back h.limits p h.shapes h.lists) a r w) (sym is)
    (headline_at h.limits past h.shapes h.lists a r w some (subst (λ (p : List Entry). IsLegal h.limits p h.shapes h.lists) is l))

pub headline_everywhere : (h : History) (n a : ℕ) (r : Request) (w : Recorded) (past : List Entry) → 1 ≤ h.limits.capacity → Legal h → (rewound n h).past ≡ Asked a r w ∷ past → Headline (without_newest (rewound n h)) a r w
headline_everywhere h n a r w past some l is =
    newest_headline (rewound n h) a r w past (subst (λ (c : Limits). 1 ≤ c.capacity) (sym (rewound_limits n h)) some) (rewound_legal n h l) is
