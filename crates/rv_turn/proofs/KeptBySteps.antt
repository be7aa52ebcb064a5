-- Each step keeps the rule.
use Rattle.std.proofs.Common.{◌≡◌, ◌≢◌, ℕ, zero, suc, ◌+◌, ◌%◌, ◌^◌, ◌<◌, ◌≤◌, Bool, true, false, eqb, if◌then◌else◌, List, [], ◌∷◌, ◌++◌, length, get_or, set, Option, Some, None, sym, refl, ap, ◌∙◌, subst, ⊎_elim, arith, length-append, length-set, append_assoc, append-nil, eq-eqb, ne_eqb}
use mathlib.Core.Logic.{dite}
use mathlib.Core.Option.{some, none, some-injective, some-ne-none}
use native.Mathlib.Decide.{ℕ_discrete}
use lib.ListN.{get_elem?}
use Rattle.atomic_table.specs.Table.{State, Me, step, keeps, takes, gives, stepped, Allows, opening}
use lib.Seq.{set-get_or}
use Rattle.atomic_table.proofs.Lists.{at_set, set_again, set_here, set_else}
use Rattle.rv_turn.specs.declared.view.View.{View}
use Rattle.rv_turn.specs.Histories.{mine, StartsWith, Has, Each}
use Rattle.rv_turn.specs.declared.view.Joined.{Joined}
use Rattle.rv_turn.specs.Views.{opening_view, queued, turned, grown, served}
use Rattle.rv_turn.specs.Rules.{total, ticket_count, acts_left, waiting, NoneHas, Apart, Fits, Stands, Kept, drew, called, counted, added, passed}

pub each_map : {A : Type 0} {P Q : A → Type 0} (l : List A) → ((x : A) → P x → Q x) → Each P l → Each Q l
each_map [] f e = tt
each_map (x ∷ xs) f e = (f x e.0, each_map xs f e.1)

-- the total after one view is changed
pub total-set : {V : Type 0} (f : V → ℕ) (l : List V) (i : ℕ) (v w : V) → get_elem? l i ≡ some v → total f (set l i w) + f v ≡ total f l + f w
total-set f [] i v w e = absurd (some-ne-none v (sym e))
total-set f (x ∷ xs) zero v w e = omega (arith, ap f (some-injective x v e))
total-set f (x ∷ xs) (suc i) v w e = omega (arith, total-set f xs i v w e)

pub one_ticket : (n : ℕ) → 0 < n → ticket_count n ≡ 1
one_ticket zero p = absurd (omega (arith, p))
one_ticket (suc n) p = refl

pub no_ticket : (n : ℕ) → n ≡ 0 → ticket_count n ≡ 0
no_ticket n e = ap ticket_count e

abbrev unsome : {C : Type 0} → C → Option C → C
unsome d None = d
unsome d (Some x) = x

pub some_same : {C : Type 0} (a b : C) → ◌≡◌ {A = Option C} (Some a) (Some b) → a ≡ b
some_same a b e = ap (unsome a) e

module _ {E : Type 0} where
  pub starts_none : (xs : List E) → StartsWith xs []
  starts_none xs = (xs, refl)

  pub starts_self : (xs : List E) → StartsWith xs xs
  starts_self xs = ([], sym (append-nil xs))

  pub starts_more : (log seen : List E) (more : List E) → StartsWith log seen → StartsWith (log ++ more) seen
  starts_more log seen more p = (p.0 ++ more, ap (λ (l : List E). l ++ more) p.1 ∙ append_assoc seen p.0 more)

  if_more : (b : Bool) (x e : E) (l l' : List E) → l ≡ l' ++ e ∷ [] → (if b then x ∷ l else l) ≡ (if b then x ∷ l' else l') ++ e ∷ []
  if_more true x e l l' is = ap (λ (z : List E). x ∷ z) is
  if_more false x e l l' is = is

  module _ (by : E → ℕ) where
    pub mine_more : (a : ℕ) (log : List E) (e : E) → by e ≡ a → mine by a (log ++ e ∷ []) ≡ mine by a log ++ e ∷ []
    mine_more a [] e is = ap (λ (b : Bool). if b then e ∷ [] else []) (eq-eqb (by e) a is)
    mine_more a (x ∷ xs) e is = if_more (eqb (by x) a) x e _ _ (mine_more a xs e is)

    pub mine_same : (a : ℕ) (log : List E) (e : E) → by e ≢ a → mine by a (log ++ e ∷ []) ≡ mine by a log
    mine_same a [] e is = ap (λ (b : Bool). if b then e ∷ [] else []) (ne_eqb (by e) a is)
    mine_same a (x ∷ xs) e is = ap (λ (l : List E). if (eqb (by x) a) then x ∷ l else l) (mine_same a xs e is)

module _ {E A : Type 0} where
  pub acts-set : (l : List (View E A)) (i : ℕ) (v w : View E A) → get_elem? l i ≡ some v → acts_left (set l i w) + v.acts ≡ acts_left l + w.acts
  acts-set l i v w e = total-set (λ (z : View E A). z.acts) l i v w e

  pub waiting-set : (l : List (View E A)) (i : ℕ) (v w : View E A) → get_elem? l i ≡ some v → waiting (set l i w) + ticket_count v.ticket ≡ waiting l + ticket_count w.ticket
  waiting-set l i v w e = total-set (λ (z : View E A). ticket_count z.ticket) l i v w e

  pub each_after : (P : View E A → Type 0) (vs : List (View E A)) (id : ℕ) (w : View E A) → P w → ((j : ℕ) (u : View E A) → j ≢ id → get_elem? vs j ≡ some u → P u)
      → (j : ℕ) (u : View E A) → get_elem? (set vs id w) j ≡ some u → P u
  each_after P vs id w mine others j u e = ⊎_elim (λ (t : (j ≡ id) × (w ≡ u)). subst P t.1 mine) (λ (t : (j ≢ id) × (get_elem? vs j ≡ some u)). others j u t.0 t.1) (at_set vs id j w u e)

  abbrev pub AllApart : List (View E A) → Type 0
  AllApart vs = (i j : ℕ) (v w : View E A) → get_elem? vs i ≡ some v → get_elem? vs j ≡ some w → i ≢ j → Apart v w

  pub apart_after : (vs : List (View E A)) (id : ℕ) (w : View E A) → AllApart vs → ((j : ℕ) (u : View E A) → j ≢ id → get_elem? vs j ≡ some u → Apart w u × Apart u w) → AllApart (set vs id w)
  apart_after vs id w all mine i j a b ea eb ne =
      ⊎_elim
      (λ (s : (i ≡ id) × (w ≡ a)). ⊎_elim
      (λ (t : (j ≡ id) × (w ≡ b)). absurd (ne (s.0 ∙ sym t.0)))
      (λ (t : (j ≢ id) × (get_elem? vs j ≡ some b)). subst (λ (z : View E A). Apart z b) s.1 (mine j b t.0 t.1).0)
      (at_set vs id j w b eb))
      (λ (s : (i ≢ id) × (get_elem? vs i ≡ some a)). ⊎_elim
      (λ (t : (j ≡ id) × (w ≡ b)). subst (λ (z : View E A). Apart a z) t.1 (mine i a s.0 s.1).1)
      (λ (t : (j ≢ id) × (get_elem? vs j ≡ some b)). all i j a b s.1 t.1 ne)
      (at_set vs id j w b eb))
      (at_set vs id i w a ea)

  -- one view alone has the turn, since its ticket is the one served
  pub alone_of : {by : E → ℕ} {limit : A} {log : List E} {next now : ℕ} {given : List ℕ} {kept : List (Joined E A)} (vs : List (View E A)) → AllApart vs → ((j : ℕ) (u : View E A) → get_elem? vs j ≡ some u → Fits by limit log next now given kept u)
      → (i j : ℕ) (v w : View E A) → get_elem? vs i ≡ some v → get_elem? vs j ≡ some w → v.turn ≡ true → w.turn ≡ true → i ≡ j
  alone_of {now = now} vs apart each i j v w ei ej on too = dite (ℕ_discrete i j) (λ same. same)
      (λ other. let a : v.ticket ≡ now + 1 = ((each i v ei).turn on).1 in let b : w.ticket ≡ now + 1 = ((each j w ej).turn too).1 in absurd ((apart i j v w ei ej other).0 (omega arith) (a ∙ sym b)))

  at_one : (v u : View E A) (j : ℕ) → get_elem? (v ∷ []) j ≡ some u → (P : View E A → Type 0) → P v → P u
  at_one v u zero e P p = subst P (some-injective v u e) p
  at_one v u (suc j) e P p = absurd (some-ne-none u (sym e))

  only_one : (v u : View E A) (j : ℕ) → get_elem? (v ∷ []) j ≡ some u → j ≡ 0
  only_one v u zero e = refl
  only_one v u (suc j) e = absurd (some-ne-none u (sym e))

  pub there : (l : List (View E A)) (i : ℕ) (v w : View E A) → get_elem? l i ≡ some v → get_elem? (set l i w) i ≡ some w
  there [] i v w e = absurd (some-ne-none v (sym e))
  there (x ∷ xs) zero v w e = refl
  there (x ∷ xs) (suc i) v w e = there xs i v w e

  pub off_before : (vs : List (View E A)) (id : ℕ) (v w : View E A) → get_elem? vs id ≡ some v → v.turn ≡ false → ((j : ℕ) (u : View E A) → get_elem? (set vs id w) j ≡ some u → u.turn ≡ false)
      → (j : ℕ) (u : View E A) → get_elem? vs j ≡ some u → u.turn ≡ false
  off_before vs id v w at off all j u e = dite (ℕ_discrete j id)
      (λ same. ap (λ (z : View E A). z.turn) (some-injective u v (sym e ∙ (ap (λ (n : ℕ). get_elem? vs n) same ∙ at))) ∙ off)
      (λ other. all j u (set_else vs id j w other ∙ e))

lt_of : (a b : ℕ) → a ≤ b → (a ≢ b) → a < b
lt_of a b le ne = dite (ℕ_discrete a b) (λ e. absurd (ne e)) (λ n. omega arith)

pub by_bool : (b : Bool) (P : Type 0) → (b ≡ true → P) → (b ≡ false → P) → P
by_bool true P f h = f refl
by_bool false P f h = h refl

is_off : (b : Bool) → (b ≡ true → ⊥) → b ≡ false
is_off true never = absurd (never refl)
is_off false never = refl

module _ {C E A : Type 0} (history : C → List E) (about : C → A) (by : E → ℕ) (made : C) where
  abbrev pub Sat : Type 0
  Sat = Me (Option C) (View E A)

  abbrev pub St : Type 0
  St = State (Option C) (View E A)

  abbrev pub Rule : St → Type 0
  Rule = Kept history about by made

  -- a step of the seat id, whose view goes from v to w
  pub goes : (s : St) (k : Rule s) (id : ℕ) (v w : View E A) (log : List E) (next now : ℕ) (ws : List ℕ) (hs : _) → get_elem? s.views id ≡ some v → ws ≡ length log ∷ next ∷ now ∷ [] → length hs ≡ 1
      → (next ≡ 0 → get_elem? hs 0 ≡ some (some (Some made)))
      → (NoneHas (set s.views id w) → (x : C) × (get_elem? hs 0 ≡ some (some (Some x))) × (history x ≡ log) × (about x ≡ about made))
      → Fits by (about made) log next now k.given k.kept w
      → ((j : ℕ) (u : View E A) → j ≢ id → get_elem? s.views j ≡ some u → Fits by (about made) k.log k.next k.now k.given k.kept u → Apart v u → Apart u v → Fits by (about made) log next now k.given k.kept u × Apart w u × Apart u w)
      → (w.passes ≡ true → (v.passes ≡ true) × (w.actor ≡ v.actor))
      → ((j : Joined E A) → Stands by (about made) k.log j → (v.passes ≡ true → v.actor ≢ j.actor) → Stands by (about made) log j)
      → ((a : ℕ) → 0 < a → (Has a k.given → ⊥) → mine by a log ≡ [])
      → now + waiting (set s.views id w) ≡ next → next + acts_left (set s.views id w) ≤ 4611686018427387905
      → Rule record { words = ws; homes = hs; views = set s.views id w }
  goes s k id v w log next now ws hs at words slot fresh home mine_fits others same stands strange tickets few =
      let each : (j : ℕ) (u : View E A) → get_elem? (set s.views id w) j ≡ some u → Fits by (about made) log next now k.given k.kept u = each_after (Fits by (about made) log next now k.given k.kept) s.views id w mine_fits
      (λ j u other e. (others j u other e (k.each j u e) (k.apart id j v u at e (λ z. other (sym z))) (k.apart j id u v e at other)).0) in
      let apart : AllApart (set s.views id w) = apart_after s.views id w k.apart
      (λ j u other e. let t = others j u other e (k.each j u e) (k.apart id j v u at e (λ z. other (sym z))) (k.apart j id u v e at other) in (t.1, t.2)) in record {
        log = log;
        next = next;
        now = now;
        given = k.given;
        kept = k.kept;
        words = words;
        one_slot = slot;
        fresh = fresh;
        home = home;
        alone = alone_of (set s.views id w) apart each;
        each = each;
        apart = apart;
        gone = each_map k.kept (λ j g. let gone = g.1.2 in (
          stands j g.0 (λ p. gone id v at p),
          (
            g.1.0,
            g.1.1,
            each_after (λ u. u.passes ≡ true → u.actor ≢ j.actor) s.views id w (λ p e. let q = same p in gone id v at q.0 (sym q.1 ∙ e)) (λ i u _ e. gone i u e),
          ),
        )) k.gone;
        strangers = strange;
        tickets = tickets;
        few = few;
      }

  -- a step that changes nothing
  unmoved : (s : St) (k : Rule s) (i id : ℕ) (cs : List (ℕ × Option C)) (v : View E A) → get_elem? s.views id ≡ some v → Rule (stepped s i (get_or s.words i 0) id cs v keeps)
  unmoved s k i id cs v at = subst Rule (λ j. record { words = sym (set-get_or s.words i 0) j; homes = s.homes; views = sym (set_again s.views id v at) j }) k

  pub draws : (slots id : ℕ) (m : Sat) → m.0.turn ≡ false → m.0.ticket ≡ 0 → 0 < m.0.acts → Allows Rule slots id m 1 (λ n. (n + 1) % 2 ^ 64) (drew history about by (step slots 1 1 0 none) m)
  draws slots id m off idle some_acts s k wide at small = let v : View E A = m.0 in let r : ℕ = get_or s.words 1 0 in let w : View E A = queued v r in
      let is : r ≡ k.next = ap (λ (ws : List ℕ). get_or ws 1 0) k.words in let moved = acts-set s.views id v w at in let few = k.few in let tickets = k.tickets in let line = waiting-set s.views id v w at in let none = no_ticket v.ticket idle in let one = one_ticket (r + 1) (omega arith) in
      let up : (r + 1) % 18446744073709551616 ≡ k.next + 1 = omega arith in let f = k.each id v at in (
        w,
        keeps,
        tt,
        goes s k id v w k.log (k.next + 1) k.now (set s.words 1 ((r + 1) % 18446744073709551616)) s.homes at
            (ap (λ (ws : List ℕ). set ws 1 ((r + 1) % 18446744073709551616)) k.words ∙ ap (λ (n : ℕ). length k.log ∷ n ∷ k.now ∷ []) up)
            k.one_slot (λ z. absurd (omega arith)) (λ none_has. k.home (off_before s.views id v w at off none_has))
            record { seen = f.seen; told = f.told; turn = λ e. absurd (cc e); ticket = λ _. (omega arith, omega arith); owns = f.owns; about = f.about; actor = f.actor; first = f.first }
            (λ j u other e g a b. (
              record { seen = g.seen; told = g.told; turn = g.turn; ticket = λ some_ticket. let t = g.ticket some_ticket in (t.0, omega arith); owns = g.owns; about = g.about; actor = g.actor; first = g.first },
              ((λ _ same. let t = g.ticket (omega arith) in let z = t.1 in absurd (omega arith)), a.1),
              ((λ some_ticket same. let t = g.ticket some_ticket in let z = t.1 in absurd (omega arith)), b.1),
            ))
            (λ p. (p, refl)) (λ j z _. z) k.strangers (omega arith) (omega arith),
        refl,
      )

  -- where the seat's ticket is served, no seat has the turn, or it is this one
  none_has_turn : (s : St) (k : Rule s) (id : ℕ) (v : View E A) → get_elem? s.views id ≡ some v → v.turn ≡ false → v.ticket ≡ k.now + 1 → NoneHas s.views
  none_has_turn s k id v at off mine j u e = dite (ℕ_discrete j id)
      (λ same. ap (λ (z : View E A). z.turn) (some-injective u v (sym e ∙ (ap (λ (n : ℕ). get_elem? s.views n) same ∙ at))) ∙ off)
      (λ other. is_off u.turn (λ on. let t = ((k.each j u e).turn on).1 in (k.apart id j v u at e (λ z. other (sym z))).0 (omega arith) (mine ∙ sym t)))

  pub calls : (slots id : ℕ) (m : Sat) → m.0.turn ≡ false → Allows Rule slots id m 2 (λ n. n) (called history about by (step slots 2 0 0 none) m)
  calls slots id m off s k wide at small = let v : View E A = m.0 in let r : ℕ = get_or s.words 2 0 in let is : r ≡ k.now = ap (λ (ws : List ℕ). get_or ws 2 0) k.words in
      dite (ℕ_discrete (r + 1) v.ticket)
      (λ hit. let t = k.home (none_has_turn s k id v at off (omega arith)) in let x : C = t.0 in let log_is : history x ≡ k.log = t.2 in let w : View E A = turned v (history x) in
      let f = k.each id v at in let moved = acts-set s.views id v w at in let few = k.few in let tickets = k.tickets in let line = waiting-set s.views id v w at in let drawn = (f.ticket (omega arith)).1 in (
        w,
        takes 0 (Some x),
        t.1,
        goes s k id v w k.log k.next k.now (set s.words 2 r) (set s.homes 0 none) at (set-get_or s.words 2 0 ∙ k.words) (length-set s.homes 0 none ∙ k.one_slot)
            (λ z. absurd (omega arith)) (λ none_has. absurd (cc (none_has id w (there s.views id v w at))))
            record { seen = subst (λ (l : List E). StartsWith k.log l) (sym log_is) (starts_self k.log); told = f.told; turn = λ _. (log_is, omega arith); ticket = f.ticket; owns = f.owns; about = f.about; actor = f.actor; first = f.first }
            (λ j u other e g a b. (g, a, b)) (λ p. (p, refl)) (λ j z _. z) k.strangers (omega arith) (omega arith),
        (
          (λ _. (
            x,
            refl,
            subst (λ (l : List E). StartsWith l v.seen) (sym log_is) f.seen,
            subst (λ (l : List E). StartsWith l v.told) (sym log_is) f.told,
            (λ p. ap (mine by v.actor) log_is ∙ f.owns p),
            λ p. f.about p ∙ ap Some (sym t.3),
          )),
          λ miss. absurd (miss hit),
        ),
      ))
      (λ miss. (v, keeps, tt, unmoved s k 2 id m.1 v at, ((λ hit. absurd (miss hit)), λ _. refl)))

  pub counts : (slots id : ℕ) (m : Sat) → Allows Rule slots id m 0 (λ n. n) (counted history about by (step slots 0 0 0 none) m)
  counts slots id m s k wide at small =
      (m.0, keeps, tt, unmoved s k 0 id m.1 m.0 at, (refl, λ on. ap (λ (ws : List ℕ). get_or ws 0 0) k.words ∙ ap length (sym ((k.each id m.0 at).turn on).0)))

  -- another seat has no turn while this one has it
  only_turn : (s : St) (k : Rule s) (id j : ℕ) (v u : View E A) → get_elem? s.views id ≡ some v → get_elem? s.views j ≡ some u → j ≢ id → v.turn ≡ true → u.turn ≡ true → ⊥
  only_turn s k id j v u at e other on too = let a = ((k.each id v at).turn on).1 in let b = ((k.each j u e).turn too).1 in (k.apart id j v u at e (λ z. other (sym z))).0 (omega arith) (a ∙ sym b)

  -- the actor of a pass is the operator, or was given a pass
  pub not_strange : (s : St) (k : Rule s) (id : ℕ) (v : View E A) (a : ℕ) → get_elem? s.views id ≡ some v → v.passes ≡ true → 0 < a → (Has a k.given → ⊥) → v.actor ≢ a
  not_strange s k id v a at passes more strange is =
      let f : Fits by (about made) k.log k.next k.now k.given k.kept v = k.each id v at in
      by_bool v.first ⊥ (λ e. let z = (f.first e).1 in absurd (omega arith)) (λ e. strange (subst (λ (n : ℕ). Has n k.given) is (f.actor passes e).1))

  pub adds : (slots id : ℕ) (v : View E A) (x : C) (e : E) → v.turn ≡ true → v.passes ≡ true → history x ≡ v.seen ++ e ∷ [] → by e ≡ v.actor → length (history x) < 18446744073709551616
      → Allows Rule slots id (v, (0, Some x) ∷ []) 0 (λ n. (n + 1) % 2 ^ 64) (added history about by (step slots 0 1 0 none) (v, (0, Some x) ∷ []))
  adds slots id v x e on passes more mine_is fits s k wide at small = let r : ℕ = get_or s.words 0 0 in let w : View E A = grown v (history x) e in
      let is : r ≡ length k.log = ap (λ (ws : List ℕ). get_or ws 0 0) k.words in let f = k.each id v at in let turn = f.turn on in let seen_is : v.seen ≡ k.log = turn.0 in
      let log' : List E = k.log ++ e ∷ [] in let grew : history x ≡ log' = more ∙ ap (λ (l : List E). l ++ e ∷ []) seen_is in let long = length-append k.log (e ∷ []) in
      let moved = acts-set s.views id v w at in let few = k.few in let tickets = k.tickets in let line = waiting-set s.views id v w at in let grew_long = ap length grew in let drawn = (f.ticket (omega arith)).0 in let drawn' = (f.ticket (omega arith)).1 in
      let up : (r + 1) % 18446744073709551616 ≡ length log' = omega arith in (
        w,
        keeps,
        tt,
        goes s k id v w log' k.next k.now (set s.words 0 ((r + 1) % 18446744073709551616)) s.homes at
            (ap (λ (ws : List ℕ). set ws 0 ((r + 1) % 18446744073709551616)) k.words ∙ ap (λ (n : ℕ). n ∷ k.next ∷ k.now ∷ []) up)
            k.one_slot k.fresh (λ none_has. absurd (cc (none_has id w (there s.views id v w at))))
            record {
              seen = subst (λ (l : List E). StartsWith log' l) (sym grew) (starts_self log');
              told = starts_more k.log v.told (e ∷ []) f.told;
              turn = λ _. (grew, turn.1);
              ticket = f.ticket;
              about = f.about;
              owns = λ p. mine_more by v.actor k.log e mine_is ∙ (ap (λ (l : List E). l ++ e ∷ []) (f.owns p) ∙ append_assoc v.base v.own (e ∷ []));
              actor = f.actor;
              first = f.first;
            }
            (λ j u other at_j g a b. (
              record {
                seen = starts_more k.log u.seen (e ∷ []) g.seen;
                told = starts_more k.log u.told (e ∷ []) g.told;
                turn = λ too. absurd (only_turn s k id j v u at at_j other on too);
                ticket = g.ticket;
                about = g.about;
                owns = λ p. mine_same by u.actor k.log e (λ same. a.1 passes p (sym mine_is ∙ same)) ∙ g.owns p;
                actor = g.actor;
                first = g.first;
              },
              a,
              b,
            ))
            (λ p. (p, refl)) (λ j z gone. (starts_more k.log j.seen (e ∷ []) z.0, mine_same by j.actor k.log e (λ same. gone passes (sym mine_is ∙ same)) ∙ z.1, z.2))
            (λ a some_actor strange. mine_same by a k.log e (λ same. not_strange s k id v a at passes some_actor strange (sym mine_is ∙ same)) ∙ k.strangers a some_actor strange)
            (omega arith) (omega arith),
        (is ∙ ap length (sym seen_is), (e, x, refl, more, mine_is, refl)),
      )

  pub passes_on : (slots id : ℕ) (v : View E A) (x : C) → v.turn ≡ true → v.passes ≡ true → history x ≡ v.seen → v.about ≡ Some (about x)
      → Allows Rule slots id (v, (0, Some x) ∷ []) 2 (λ n. (n + 1) % 2 ^ 64) (passed history about by (step slots 2 1 0 none) (v, (0, Some x) ∷ []))
  passes_on slots id v x on passes whole bound_by s k wide at small = let r : ℕ = get_or s.words 2 0 in let w : View E A = served v in
      let is : r ≡ k.now = ap (λ (ws : List ℕ). get_or ws 2 0) k.words in let f = k.each id v at in let turn = f.turn on in let seen_is : v.seen ≡ k.log = turn.0 in
      let ticket_is = turn.1 in let within = f.ticket (omega arith) in let bound = within.1 in
      let moved = acts-set s.views id v w at in let few = k.few in let one = k.one_slot in let tickets = k.tickets in let line = waiting-set s.views id v w at in let had = one_ticket v.ticket (omega arith) in let none = no_ticket w.ticket refl in
      let up : (r + 1) % 18446744073709551616 ≡ k.now + 1 = omega arith in (
        w,
        gives,
        tt,
        goes s k id v w k.log k.next (k.now + 1) (set s.words 2 ((r + 1) % 18446744073709551616)) (set s.homes 0 (some (Some x))) at
            (ap (λ (ws : List ℕ). set ws 2 ((r + 1) % 18446744073709551616)) k.words ∙ ap (λ (n : ℕ). length k.log ∷ k.next ∷ n ∷ []) up)
            (length-set s.homes 0 (some (Some x)) ∙ k.one_slot) (λ z. absurd (omega arith))
            (λ _. (x, set_here s.homes 0 (some (Some x)) (omega arith), whole ∙ seen_is, some_same (about x) (about made) (sym bound_by ∙ f.about passes)))
            record { seen = f.seen; told = f.told; turn = λ e. absurd (cc e); ticket = λ z. absurd (omega arith); owns = f.owns; about = f.about; actor = f.actor; first = f.first }
            (λ j u other at_j g a b. (
              record {
                seen = g.seen;
                told = g.told;
                turn = λ too. absurd (only_turn s k id j v u at at_j other on too);
                ticket = λ some_ticket. let t = g.ticket some_ticket in let z = t.0 in (lt_of (k.now + 1) u.ticket (omega arith) (λ same. a.0 (omega arith) (ticket_is ∙ same)), t.1);
                owns = g.owns;
                about = g.about;
                actor = g.actor;
                first = g.first;
              },
              ((λ z. absurd (omega arith)), a.1),
              ((λ some_ticket same. absurd (omega arith)), b.1),
            ))
            (λ p. (p, refl)) (λ j z _. z) k.strangers (omega arith) (omega arith),
        refl,
      )

  pub starts : length (history made) < 18446744073709551616 → ((a : ℕ) → 0 < a → mine by a (history made) ≡ []) → Rule (opening (length (history made) ∷ 0 ∷ 0 ∷ []) (Some made ∷ []) (opening_view by (about made) (history made)))
  starts small alone = let v : View E A = opening_view by (about made) (history made) in record {
    log = history made;
    next = 0;
    now = 0;
    given = [];
    kept = [];
    words = refl;
    one_slot = refl;
    fresh = λ _. refl;
    home = λ _. (made, refl, refl, refl);
    each = λ j u e. at_one v u j e (Fits by (about made) (history made) 0 0 [] []) record {
      seen = starts_self (history made);
      told = starts_none (history made);
      turn = λ on. absurd (cc on);
      ticket = λ l. absurd (omega arith);
      about = λ _. refl;
      owns = λ _. sym (append-nil (mine by 0 (history made)));
      actor = λ _ e'. absurd (cc e');
      first = λ _. (refl, refl, refl, refl);
    };
    alone = λ i j u w e d _ _. only_one v u i e ∙ sym (only_one v w j d);
    apart = λ i j u w e d ne. absurd (ne (only_one v u i e ∙ sym (only_one v w j d)));
    gone = tt;
    strangers = λ a some_actor _. alone a some_actor;
    tickets = refl;
    few = omega arith;
  }

  pub adds_at : (slots id : ℕ) (m : Sat) (x : C) (e : E) → m.1 ≡ (0, Some x) ∷ [] → m.0.turn ≡ true → m.0.passes ≡ true → history x ≡ m.0.seen ++ e ∷ [] → by e ≡ m.0.actor → length (history x) < 18446744073709551616
      → Allows Rule slots id m 0 (λ n. (n + 1) % 2 ^ 64) (added history about by (step slots 0 1 0 none) m)
  adds_at slots id m x e is on passes more mine_is fits =
      subst (λ (l : List (ℕ × Option C)). Allows Rule slots id (m.0, l) 0 (λ n. (n + 1) % 2 ^ 64) (added history about by (step slots 0 1 0 none) (m.0, l))) (sym is) (adds slots id m.0 x e on passes more mine_is fits)

  pub passes_at : (slots id : ℕ) (m : Sat) (x : C) → m.1 ≡ (0, Some x) ∷ [] → m.0.turn ≡ true → m.0.passes ≡ true → history x ≡ m.0.seen → m.0.about ≡ Some (about x) → Allows Rule slots id m 2 (λ n. (n + 1) % 2 ^ 64) (passed history about by (step slots 2 1 0 none) m)
  passes_at slots id m x is on passes whole bound_by =
      subst (λ (l : List (ℕ × Option C)). Allows Rule slots id (m.0, l) 2 (λ n. (n + 1) % 2 ^ 64) (passed history about by (step slots 2 1 0 none) (m.0, l))) (sym is) (passes_on slots id m.0 x on passes whole bound_by)
