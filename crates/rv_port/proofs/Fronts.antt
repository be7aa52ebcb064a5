-- The front of what was seen before an event of the actor is the one that it was answered on.
use Rattle.std.proofs.Common.{◌≡◌, ⊎_elim, ℕ, List, [], ◌∷◌, ◌++◌, Bool, true, false, cond, eqb, eq-eqb, refl, sym, ap, ◌∙◌, subst, append_assoc, Option}
use Rattle.rv_event.specs.Recorded.{recorded}
use Rattle.rv_event.specs.declared.entry.Answer.{Answer}
use Rattle.rv_event.specs.declared.entry.Recorded.{Recorded}
use Rattle.rv_event.specs.declared.entry.Request.{Request}
use Rattle.rv_history.specs.declared.limits.Limits.{Limits}
use Rattle.rv_history.specs.Legal.{Legal}
use Rattle.rv_turn.specs.Histories.{mine, StartsWith}
use Rattle.rv_turn.specs.Prefixes.{mine-append}
use Rattle.rv_behind.specs.Acting.{entered}
use Rattle.rv_behind.specs.Events.{by, history_at}
use Rattle.rv_behind.specs.declared.event.Event.{Event}
use Rattle.rv_behind.specs.declared.event.Event.TheVariants.{Asks}
use Rattle.rv_meant.specs.Settles.{is_settle}
use Rattle.rv_accounts.specs.Seen.{but_settles, settles}
use Rattle.rv_accounts.specs.WithoutSettles.{but_settles-append}
use Rattle.rv_port.specs.Held.{Owns}
use Rattle.rv_port.specs.Traces.{Passing, Trace, limits_in, noted, IsAnswered, EachAnswered, Went}
use Rattle.rv_port.specs.Composing.{owned_then}
use Rattle.rv_port.proofs.Accounting.{first_or, rest_of, FoundIn, found, each_at}

-- Two fronts with as many of the actor's events, and behind each the same event of his

-- an event of the actor that is no settle isn't left out
one_kept : (a : ℕ) (q : Request) (word : Recorded) (es : List Event) → is_settle q ≡ false → but_settles (mine by a (Asks a q word ∷ es)) ≡ Asks a q word ∷ but_settles (mine by a es)
one_kept a q word es plain =
    ap (λ (k : Bool). but_settles (cond k (Asks a q word ∷ mine by a es) (mine by a es))) (eq-eqb a a refl)
    ∙ ap (λ (k : Bool). cond k (but_settles (mine by a es)) (Asks a q word ∷ but_settles (mine by a es))) plain

rest_kept : (k s : Bool) (d : Event) (xs ys : List Event) → settles d ≡ s → but_settles (cond k (d ∷ xs) xs) ≡ but_settles (cond k (d ∷ ys) ys) → but_settles xs ≡ but_settles ys
rest_kept true true d xs ys is e = ap (λ (b : Bool). cond b (but_settles xs) (d ∷ but_settles xs)) (sym is) ∙ (e ∙ ap (λ (b : Bool). cond b (but_settles ys) (d ∷ but_settles ys)) is)
rest_kept true false d xs ys is e =
    ap (λ (l : List Event). rest_of l) (ap (λ (b : Bool). cond b (but_settles xs) (d ∷ but_settles xs)) (sym is) ∙ (e ∙ ap (λ (b : Bool). cond b (but_settles ys) (d ∷ but_settles ys)) is))
rest_kept false s d xs ys is e = e

pub same_front : (a : ℕ) (q : Request) (word : Recorded) (one other more rest : List Event) → is_settle q ≡ false → one ++ Asks a q word ∷ more ≡ other ++ Asks a q word ∷ rest → but_settles (mine by a one) ≡ but_settles (mine by a other) → one ≡ other
same_front a q word [] [] more rest plain e m = refl
same_front a q word [] (d ∷ other) more rest plain e m =
    let is : Asks a q word ≡ d = ap (λ (l : List Event). first_or d l) e in
    absurd (cc (m ∙ (ap (λ (z : Event). but_settles (mine by a (z ∷ other))) (sym is) ∙ one_kept a q word other plain)))
same_front a q word (c ∷ one) [] more rest plain e m =
    let is : c ≡ Asks a q word = ap (λ (l : List Event). first_or c l) e in
    absurd (cc (sym m ∙ (ap (λ (z : Event). but_settles (mine by a (z ∷ one))) is ∙ one_kept a q word one plain)))
same_front a q word (c ∷ one) (d ∷ other) more rest plain e m =
    let is : c ≡ d = ap (λ (l : List Event). first_or c l) e in
    let same : but_settles (mine by a one) ≡ but_settles (mine by a other) =
    rest_kept (eqb (by c) a) (settles c) c (mine by a one) (mine by a other) refl (m ∙ ap (λ (z : Event). but_settles (mine by a (z ∷ other))) (sym is)) in
    let all : one ≡ other = same_front a q word one other more rest plain (ap (λ (l : List Event). rest_of l) e) same in
    λ i. is i ∷ all i

pub same_behind : (own xs ys : List Event) → own ++ xs ≡ own ++ ys → xs ≡ ys
same_behind [] xs ys e = e
same_behind (d ∷ own) xs ys e = same_behind own xs ys (ap (λ (l : List Event). rest_of l) e)

-- An event that the actor added since

-- what came to be the actor's own in what was seen, without the settles
pub all_kept : (v w : Passing) (trace : Trace) → Owns w → Went v trace w → but_settles (mine by v.actor w.seen) ≡ but_settles (v.base ++ v.own) ++ noted v.actor trace
all_kept v w trace owned went =
    ap but_settles (ap (λ (n : ℕ). mine by n w.seen) (sym (ap (λ (z : Passing). z.actor) went.same)) ∙ owned)
    ∙ owned_then v w trace (ap (λ (z : Passing). z.base) went.same) went.grew

module _ (v w : Passing) (trace : Trace) (owns : Owns v) (owned : Owns w) (went : Went v trace w)
    (before after : List Event) (q : Request) (word : Recorded) (plain : is_settle q ≡ false) (p : StartsWith before v.seen) (e : w.seen ≡ before ++ Asks v.actor q word ∷ after) where
  abbrev a : ℕ
  a = v.actor

  abbrev limits : Limits
  limits = limits_in v.about

  abbrev own : List Event
  own = but_settles (v.base ++ v.own)

  abbrev one : Event
  one = Asks v.actor q word

  -- its own events since, up to this one
  abbrev since : List Event
  since = but_settles (mine by a p.0)

  before_mine : but_settles (mine by a before) ≡ own ++ since
  before_mine =
      ap (λ (l : List Event). but_settles (mine by a l)) p.1
      ∙ (ap but_settles (mine-append by a v.seen p.0) ∙ (but_settles-append (mine by a v.seen) (mine by a p.0) ∙ ap (λ (l : List Event). but_settles l ++ since) owns))

  noted_is : noted a trace ≡ since ++ one ∷ but_settles (mine by a after)
  noted_is = same_behind own (noted a trace) (since ++ one ∷ but_settles (mine by a after))
      (sym (all_kept v w trace owned went) ∙ (ap (λ (l : List Event). but_settles (mine by a l)) e ∙ (ap but_settles (mine-append by a before (one ∷ after))
      ∙ (but_settles-append (mine by a before) (mine by a (one ∷ after)) ∙ ((λ i. before_mine i ++ one_kept a q word after plain i) ∙ append_assoc own since (one ∷ but_settles (mine by a after)))))))

  -- its pair in the trace
  pub at_own : FoundIn a trace since q word
  at_own = found a trace since (but_settles (mine by a after)) q word noted_is

  pub each_own : EachAnswered limits a v.seen w.seen w.left own (at_own.before ++ (q, at_own.answer) ∷ at_own.after)
  each_own = subst (λ (l : Trace). EachAnswered limits a v.seen w.seen w.left own l) at_own.trace_is went.each

  pub before_noted : but_settles (mine by a before) ≡ own ++ noted a at_own.before
  before_noted = before_mine ∙ ap (λ (l : List Event). own ++ l) (sym at_own.noted_is)

  answered : IsAnswered limits a v.seen (own ++ noted a at_own.before) w.seen q at_own.answer
  answered = ⊎_elim (λ x. x) (λ x. absurd (cc (at_own.word_is, ap (λ (c : Answer). recorded c) x.0))) (each_at limits a v.seen w.seen w.left own at_own.before q at_own.answer at_own.after each_own)

  to_next : StartsWith w.seen (answered.at ++ one ∷ [])
  to_next = subst (λ (o : Option Recorded). StartsWith w.seen (entered answered.at a q o)) at_own.word_is answered.to

  front_is : before ≡ answered.at
  front_is =
      let z = to_next in
      same_front a q word before answered.at after z.0 plain
      (sym e ∙ (z.1 ∙ append_assoc answered.at (one ∷ []) z.0))
      (before_noted ∙ sym answered.own_is)

  pub legal_before : Legal (history_at limits before)
  legal_before = subst (λ (l : List Event). Legal (history_at limits l)) (sym front_is) answered.legal
