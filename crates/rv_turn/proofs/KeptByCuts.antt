-- Notes, passes that are given, and passes that are taken in.
use Rattle.std.proofs.Common.{◌≡◌, ◌≢◌, ◌⊎◌, ℕ, zero, suc, ◌+◌, ◌<◌, ◌≤◌, true, false, List, [], ◌∷◌, ◌++◌, length, get_or, set, Option, sym, refl, ap, ◌∙◌, subst, inl, inr, ⊎_elim, arith}
use mathlib.Core.Option.{some, none, some-injective, some-ne-none}
use lib.ListN.{get_elem?}
use lib.Seq.{set-get_or}
use Rattle.atomic_table.specs.Table.{State, Me, step, keeps, Allows, Splits, Joins}
use Rattle.atomic_table.proofs.Lists.{at_set, set_again, set_else, at_snoc, at_longer}
use Rattle.rv_turn.specs.declared.view.View.{View}
use Rattle.rv_turn.specs.declared.view.Joined.{Joined}
use Rattle.rv_turn.specs.Histories.{mine, Has, Each}
use Rattle.rv_turn.specs.Views.{note_of, pass_of, gave, informed, took_in, looking, heeding}
use Rattle.rv_turn.specs.Rules.{total, ticket_count, acts_left, waiting, Apart, Fits, Stands, learned, heard}
use Rattle.rv_turn.proofs.Longer.{longer_within}
use Rattle.rv_turn.proofs.KeptBySteps.{each_map, acts-set, waiting-set, no_ticket, alone_of, each_after, apart_after, AllApart, starts_self, starts_none, there, goes, by_bool, off_before, not_strange, Rule, St}

-- the total with one view more
total-snoc : {V : Type 0} (f : V → ℕ) (l : List V) (w : V) → total f (l ++ w ∷ []) ≡ total f l + f w
total-snoc f [] w = omega arith
total-snoc f (x ∷ xs) w = omega (arith, total-snoc f xs w)

module _ {E A : Type 0} where
  acts-snoc : (l : List (View E A)) (w : View E A) → acts_left (l ++ w ∷ []) ≡ acts_left l + w.acts
  acts-snoc l w = total-snoc (λ (z : View E A). z.acts) l w

  waiting-snoc : (l : List (View E A)) (w : View E A) → waiting (l ++ w ∷ []) ≡ waiting l + ticket_count w.ticket
  waiting-snoc l w = total-snoc (λ (z : View E A). ticket_count z.ticket) l w

  each_snoc : (P : View E A → Type 0) (vs : List (View E A)) (w : View E A) → P w → ((j : ℕ) (u : View E A) → get_elem? vs j ≡ some u → P u) → (j : ℕ) (u : View E A) → get_elem? (vs ++ w ∷ []) j ≡ some u → P u
  each_snoc P vs w mine others j u e = ⊎_elim (λ t. others j u t) (λ t. subst P t mine) (at_snoc vs w u j e)

  -- a view that stands behind the others, or is one of them
  behind : (vs : List (View E A)) (w u : View E A) (j : ℕ) → get_elem? (vs ++ w ∷ []) j ≡ some u → (get_elem? vs j ≡ some u) ⊎ ((j ≡ length vs) × (w ≡ u))
  behind [] w u zero e = inr (refl, some-injective w u e)
  behind [] w u (suc j) e = absurd (some-ne-none u (sym e))
  behind (x ∷ xs) w u zero e = inl e
  behind (x ∷ xs) w u (suc j) e = ⊎_elim (λ t. inl t) (λ t. inr (ap suc t.0, t.1)) (behind xs w u j e)

  apart_snoc : (vs : List (View E A)) (w : View E A) → AllApart vs → ((j : ℕ) (u : View E A) → get_elem? vs j ≡ some u → Apart w u × Apart u w) → AllApart (vs ++ w ∷ [])
  apart_snoc vs w all new i j a b ea eb ne =
      ⊎_elim
      (λ s. ⊎_elim (λ t. all i j a b s t ne) (λ t. subst (λ (z : View E A). Apart a z) t.1 (new i a s).1) (behind vs w b j eb))
      (λ s. ⊎_elim (λ t. subst (λ (z : View E A). Apart z b) s.1 (new j b t).0) (λ t. absurd (ne (s.0 ∙ sym t.0))) (behind vs w b j eb))
      (behind vs w a i ea)

  -- where no seat has the turn after a step that keeps it, none had it before
  each_back : (vs : List (View E A)) (id : ℕ) (v w : View E A) → get_elem? vs id ≡ some v → w.turn ≡ v.turn → ((j : ℕ) (u : View E A) → get_elem? (set vs id w) j ≡ some u → u.turn ≡ false)
      → (j : ℕ) (u : View E A) → get_elem? vs j ≡ some u → u.turn ≡ false
  each_back vs id v w at same all = off_before vs id v w at (sym same ∙ all id w (there vs id v w at)) all

module _ {C E A : Type 0} (history : C → List E) (about : C → A) (by : E → ℕ) (made : C) where
  abbrev R : State (Option C) (View E A) → Type 0
  R = Rule history about by made

  pub learns : (slots id : ℕ) (m : Me (Option C) (View E A)) → Allows R slots id m 0 (λ n. n) (learned history about by (step slots 0 0 0 none) m)
  learns slots id m s k wide at small = let v : View E A = m.0 in let w : View E A = looking v k.log in let f = k.each id v at in let moved = acts-set s.views id v w at in let few = k.few in let tickets = k.tickets in let line = waiting-set s.views id v w at in (
    w,
    keeps,
    tt,
    goes history about by made s k id v w k.log k.next k.now (set s.words 0 (get_or s.words 0 0)) s.homes at (set-get_or s.words 0 0 ∙ k.words) k.one_slot k.fresh
        (λ none_has. k.home (each_back s.views id v w at refl none_has))
        record { seen = starts_self k.log; told = f.told; turn = λ on. (refl, (f.turn on).1); ticket = f.ticket; owns = f.owns; about = f.about; actor = f.actor; first = f.first }
        (λ j u other e g a b. (g, a, b)) (λ p. (p, refl)) (λ j z _. z) k.strangers (omega arith) (omega arith),
    (
      (
        k.log,
        refl,
        f.seen,
        f.told,
        f.owns,
        (λ on. sym (f.turn on).0),
        (λ first. (about made, f.about (f.first first).0, subst (λ (l : List (Joined E A)). Each (Stands by (about made) k.log) l) (sym (f.first first).3) (each_map k.kept (λ j g. g.0) k.gone))),
        λ first a some_actor unused. k.strangers a some_actor (λ h. unused (subst (Has a) (sym (f.first first).2) h)),
      ),
      ap (λ (ws : List ℕ). get_or ws 0 0) k.words,
    ),
  )

  pub heeds : (slots id : ℕ) (m : Me (Option C) (View E A)) → m.0.turn ≡ false → Allows R slots id m 0 (λ n. n) (heard history about by (step slots 0 0 0 none) m)
  heeds slots id m off s k wide at small = let v : View E A = m.0 in let w : View E A = heeding v in let f = k.each id v at in let moved = acts-set s.views id v w at in let few = k.few in let tickets = k.tickets in let line = waiting-set s.views id v w at in (
    w,
    keeps,
    tt,
    goes history about by made s k id v w k.log k.next k.now (set s.words 0 (get_or s.words 0 0)) s.homes at (set-get_or s.words 0 0 ∙ k.words) k.one_slot k.fresh
        (λ none_has. k.home (each_back s.views id v w at refl none_has))
        record { seen = longer_within k.log v.seen v.told f.seen f.told; told = f.told; turn = λ on. absurd (cc (off, on)); ticket = f.ticket; owns = f.owns; about = f.about; actor = f.actor; first = f.first }
        (λ j u other e g a b. (g, a, b)) (λ p. (p, refl)) (λ j z _. z) k.strangers (omega arith) (omega arith),
    (k.log, refl, f.seen, f.told, f.owns),
  )

  pub notes : (id : ℕ) (v : View E A) → Splits R id v v (note_of v.seen)
  notes id v s k at = let w : View E A = note_of v.seen in let moved = acts-snoc s.views w in let few = k.few in let tickets = k.tickets in let line = waiting-snoc s.views w in
      let each : (j : ℕ) (u : View E A) → get_elem? (s.views ++ w ∷ []) j ≡ some u → Fits by (about made) k.log k.next k.now k.given k.kept u
      = each_snoc (Fits by (about made) k.log k.next k.now k.given k.kept) s.views w
      record {
        seen = (k.each id v at).seen;
        told = starts_none k.log;
        turn = λ e. absurd (cc e);
        ticket = λ z. absurd (omega arith);
        owns = λ e. absurd (cc e);
        about = λ e. absurd (cc e);
        actor = λ e _. absurd (cc e);
        first = λ e. absurd (cc e);
      }
      k.each in
      let apart : AllApart (s.views ++ w ∷ []) = apart_snoc s.views w k.apart (λ j u e. (((λ z. absurd (omega arith)), λ z. absurd (cc z)), ((λ some_ticket same. absurd (omega arith)), λ _ z. absurd (cc z)))) in
      subst (λ (l : List (View E A)). R record { words = s.words; homes = s.homes; views = l ++ w ∷ [] }) (sym (set_again s.views id v at)) record {
        log = k.log;
        next = k.next;
        now = k.now;
        given = k.given;
        kept = k.kept;
        words = k.words;
        one_slot = k.one_slot;
        fresh = k.fresh;
        home = λ none_has. k.home (λ j u e. none_has j u (at_longer s.views (w ∷ []) j u e));
        alone = alone_of (s.views ++ w ∷ []) apart each;
        each = each;
        apart = apart;
        gone = each_map k.kept (λ j g. (g.0, (g.1.0, g.1.1, each_snoc (λ u. u.passes ≡ true → u.actor ≢ j.actor) s.views w (λ e. absurd (cc e)) g.1.2))) k.gone;
        strangers = k.strangers;
        tickets = omega arith;
        few = omega arith;
      }

  -- another first pass there is none
  not_first : (s : St history about by made) (k : R s) (id j : ℕ) (v u : View E A) → get_elem? s.views id ≡ some v → v.first ≡ true → j ≢ id → get_elem? s.views j ≡ some u → u.first ≡ false
  not_first s k id j v u at first other e = let f = (k.each id v at).first first in by_bool u.first (u.first ≡ false)
      (λ too. let g = (k.each j u e).first too in absurd ((k.apart id j v u at e (λ z. other (sym z))).1 f.0 g.0 (f.1 ∙ sym g.1))) (λ no_first. no_first)

  -- a pass for a stranger is apart from each seat
  away : (a n : ℕ) (v₀ : View E A) (s : St history about by made) (k : R s) (u : View E A) (j : ℕ) → get_elem? s.views j ≡ some u → (Has a k.given → ⊥) → 0 < a → Apart (pass_of v₀ a n) u × Apart u (pass_of v₀ a n)
  away a n v₀ s k u j e strange some_actor = (
    ((λ z. absurd (omega arith)), λ _ passes same. not_strange history about by made s k j u a e passes some_actor strange (sym same)),
    ((λ some_ticket same. absurd (omega arith)), λ passes _ same. not_strange history about by made s k j u a e passes some_actor strange same),
  )

  pub grants : (id : ℕ) (v : View E A) (a n : ℕ) → v.first ≡ true → 0 < a → (Has a v.given → ⊥) → n ≤ v.acts → Splits R id v (gave v a n) (pass_of v a n)
  grants id v a n first some_actor unused enough s k at = let w : View E A = gave v a n in let p : View E A = pass_of v a n in let f = k.each id v at in let mine_is = f.first first in
      let moved = acts-set s.views id v w at in let more = acts-snoc (set s.views id w) p in let few = k.few in let tickets = k.tickets in let line = waiting-set s.views id v w at in let longer = waiting-snoc (set s.views id w) p in
      let strange : Has a k.given → ⊥ = λ h. unused (subst (Has a) (sym mine_is.2) h) in
      let each : (j : ℕ) (u : View E A) → get_elem? (set s.views id w ++ p ∷ []) j ≡ some u → Fits by (about made) k.log k.next k.now (a ∷ k.given) k.kept u = each_snoc (Fits by (about made) k.log k.next k.now (a ∷ k.given) k.kept) (set s.views id w) p
      record {
        seen = f.seen;
        told = starts_none k.log;
        turn = λ e. absurd (cc e);
        ticket = λ z. absurd (omega arith);
        about = λ _. f.about mine_is.0;
        owns = λ _. k.strangers a some_actor strange;
        actor = λ _ _. (some_actor, inl refl);
        first = λ e. absurd (cc e);
      }
      (each_after (Fits by (about made) k.log k.next k.now (a ∷ k.given) k.kept) s.views id w
      record { seen = f.seen; told = f.told; turn = f.turn; ticket = f.ticket; owns = f.owns; about = f.about; actor = λ _ no_first. absurd (cc (first, no_first)); first = λ _. (mine_is.0, mine_is.1, ap (λ (l : List ℕ). a ∷ l) mine_is.2, mine_is.3) }
      (λ j u other e. let g = k.each j u e in record {
        seen = g.seen;
        told = g.told;
        turn = g.turn;
        ticket = g.ticket;
        owns = g.owns;
        about = g.about;
        actor = λ passes no_first. let t = g.actor passes no_first in (t.0, inr t.1);
        first = λ too. absurd (cc (too, not_first s k id j v u at first other e));
      })) in
      let apart : AllApart (set s.views id w ++ p ∷ []) = apart_snoc (set s.views id w) p (apart_after s.views id w k.apart (λ j u other e. (k.apart id j v u at e (λ z. other (sym z)), k.apart j id u v e at other)))
      (each_after (λ u. Apart p u × Apart u p) s.views id w (away a n v s k v id at strange some_actor) (λ j u _ e. away a n v s k u j e strange some_actor)) in record {
        log = k.log;
        next = k.next;
        now = k.now;
        given = a ∷ k.given;
        kept = k.kept;
        words = k.words;
        one_slot = k.one_slot;
        fresh = k.fresh;
        home = λ none_has. k.home (each_back s.views id v w at refl (λ j u e. none_has j u (at_longer (set s.views id w) (p ∷ []) j u e)));
        alone = alone_of (set s.views id w ++ p ∷ []) apart each;
        each = each;
        apart = apart;
        gone = each_map k.kept (λ j g. (
          g.0,
          (
            g.1.0,
            inr g.1.1,
            each_snoc (λ u. u.passes ≡ true → u.actor ≢ j.actor) (set s.views id w) p (λ _ same. strange (subst (λ (m : ℕ). Has m k.given) (sym same) g.1.1))
                (each_after (λ u. u.passes ≡ true → u.actor ≢ j.actor) s.views id w (g.1.2 id v at) (λ i u _ e. g.1.2 i u e)),
          ),
        )) k.gone;
        strangers = λ b some_b strange_b. k.strangers b some_b (λ h. strange_b (inr h));
        tickets = omega arith;
        few = omega arith;
      }

  -- the seat of a note, or of a pass, is spent
  spends : (s : St history about by made) (k : R s) (id : ℕ) (v : View E A) → get_elem? s.views id ≡ some v → v.turn ≡ false → v.ticket ≡ 0 → R record { words = s.words; homes = s.homes; views = set s.views id (note_of []) }
  spends s k id v at off idle = let w : View E A = note_of [] in let moved = acts-set s.views id v w at in let few = k.few in let tickets = k.tickets in let line = waiting-set s.views id v w at in let none = no_ticket v.ticket idle in
      goes history about by made s k id v w k.log k.next k.now s.words s.homes at k.words k.one_slot k.fresh (λ none_has. k.home (each_back s.views id v w at (sym off) none_has))
      record { seen = starts_none k.log; told = starts_none k.log; turn = λ e. absurd (cc e); ticket = λ z. absurd (omega arith); owns = λ e. absurd (cc e); about = λ e. absurd (cc e); actor = λ e _. absurd (cc e); first = λ e. absurd (cc e) }
      (λ j u other e g a b. (g, ((λ z. absurd (omega arith)), λ z. absurd (cc z)), ((λ some_ticket same. absurd (omega arith)), λ _ z. absurd (cc z))))
      (λ e. absurd (cc e)) (λ j z _. z) k.strangers (omega arith) (omega arith)

  pub informs : (id : ℕ) (v : View E A) (other : ℕ) (n : View E A) → n.turn ≡ false → n.ticket ≡ 0 → Joins R id v other n (informed v n) (note_of [])
  informs id v other n off idle s k at apart them = let w : View E A = informed v n in let moved = acts-set s.views id v w at in let few = k.few in let tickets = k.tickets in let line = waiting-set s.views id v w at in let f = k.each id v at in
      let there_n : get_elem? s.views other ≡ some n = sym (set_else s.views id other w apart) ∙ them in
      spends record { words = s.words; homes = s.homes; views = set s.views id w }
      (goes history about by made s k id v w k.log k.next k.now s.words s.homes at k.words k.one_slot k.fresh (λ none_has. k.home (each_back s.views id v w at refl none_has))
      record { seen = f.seen; told = (k.each other n there_n).seen; turn = f.turn; ticket = f.ticket; owns = f.owns; about = f.about; actor = f.actor; first = f.first }
      (λ j u other e g a b. (g, a, b)) (λ p. (p, refl)) (λ j z _. z) k.strangers (omega arith) (omega arith))
      other n them off idle

  pub takes : (id : ℕ) (v : View E A) (other : ℕ) (p : View E A) → v.first ≡ true → p.passes ≡ true → p.first ≡ false → p.turn ≡ false → p.ticket ≡ 0 → Joins R id v other p (took_in v p) (note_of [])
  takes id v other p first passes no_first off idle s k at apart them = let w : View E A = took_in v p in let z : View E A = note_of [] in let vs : List (View E A) = set s.views id w in
      let f = k.each id v at in let mine_is = f.first first in let moved = acts-set s.views id v w at in let moved' = acts-set vs other p z them in let few = k.few in let tickets = k.tickets in let line = waiting-set s.views id v w at in let line' = waiting-set vs other p z them in let none = no_ticket p.ticket idle in
      let there_p : get_elem? s.views other ≡ some p = sym (set_else s.views id other w apart) ∙ them in let g = k.each other p there_p in let has = g.actor passes no_first in
      let j : Joined E A = record { about = p.about; actor = p.actor; own = p.base ++ p.own; seen = p.seen } in
      let pick : (P : View E A → Type 0) → P w → ((i : ℕ) (u : View E A) → i ≢ id → i ≢ other → get_elem? s.views i ≡ some u → P u) → (i : ℕ) (u : View E A) → i ≢ other → get_elem? vs i ≡ some u → P u
      = λ P here others i u ne e. ⊎_elim (λ t. subst P t.1 here) (λ t. others i u t.0 ne t.1) (at_set s.views id i w u e) in
      let each : (i : ℕ) (u : View E A) → get_elem? (set vs other z) i ≡ some u → Fits by (about made) k.log k.next k.now k.given (j ∷ k.kept) u = each_after (Fits by (about made) k.log k.next k.now k.given (j ∷ k.kept)) vs other z
      record { seen = starts_none k.log; told = starts_none k.log; turn = λ e. absurd (cc e); ticket = λ l. absurd (omega arith); owns = λ e. absurd (cc e); about = λ e. absurd (cc e); actor = λ e _. absurd (cc e); first = λ e. absurd (cc e) }
      (pick (Fits by (about made) k.log k.next k.now k.given (j ∷ k.kept))
      record { seen = f.seen; told = f.told; turn = f.turn; ticket = f.ticket; owns = f.owns; about = f.about; actor = f.actor; first = λ _. (mine_is.0, mine_is.1, mine_is.2, ap (λ (l : List (Joined E A)). j ∷ l) mine_is.3) }
      (λ i u ne _ e. let h = k.each i u e in
      record { seen = h.seen; told = h.told; turn = h.turn; ticket = h.ticket; owns = h.owns; about = h.about; actor = h.actor; first = λ too. absurd (cc (too, not_first s k id i v u at first ne e)) })) in
      let away : AllApart (set vs other z) = apart_after vs other z (apart_after s.views id w k.apart (λ i u ne e. (k.apart id i v u at e (λ q. ne (sym q)), k.apart i id u v e at ne)))
      (λ i u ne e. (((λ l. absurd (omega arith)), λ q. absurd (cc q)), ((λ some_ticket same. absurd (omega arith)), λ _ q. absurd (cc q)))) in
      record {
        log = k.log;
        next = k.next;
        now = k.now;
        given = k.given;
        kept = j ∷ k.kept;
        words = k.words;
        one_slot = k.one_slot;
        fresh = k.fresh;
        home = λ none_has. k.home (each_back s.views id v w at refl (each_back vs other p z them (sym off) none_has));
        alone = alone_of (set vs other z) away each;
        each = each;
        apart = away;
        gone = (
          (
            (g.seen, g.owns passes, g.about passes),
            (
              has.0,
              has.1,
              each_after (λ u. u.passes ≡ true → u.actor ≢ p.actor) vs other z (λ e. absurd (cc e)) (pick (λ u. u.passes ≡ true → u.actor ≢ p.actor)
                  (λ _ same. let h = has.0 in let o = mine_is.1 in absurd (omega arith)) (λ i u _ ne e too. (k.apart i other u p e there_p ne).1 too passes)),
            ),
          ),
          each_map k.kept (λ i h. (
            h.0,
            (
              h.1.0,
              h.1.1,
              each_after (λ u. u.passes ≡ true → u.actor ≢ i.actor) vs other z (λ e. absurd (cc e)) (pick (λ u. u.passes ≡ true → u.actor ≢ i.actor) (h.1.2 id v at) (λ i' u _ _ e. h.1.2 i' u e)),
            ),
          )) k.gone,
        );
        strangers = k.strangers;
        tickets = omega arith;
        few = omega arith;
      }

  pub grants_at : (id : ℕ) (v : View E A) (a a' n n' : ℕ) → a ≡ a' → n ≡ n' → v.first ≡ true → 0 < a → (Has a v.given → ⊥) → n ≤ v.acts → Splits R id v (gave v a' n') (pass_of v a' n')
  grants_at id v a a' n n' p q first some_actor unused enough = subst (λ (z : ℕ × ℕ). Splits R id v (gave v z.0 z.1) (pass_of v z.0 z.1)) (λ i. (p i, q i)) (grants id v a n first some_actor unused enough)
