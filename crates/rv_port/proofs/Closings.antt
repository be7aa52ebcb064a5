-- Lists of ports that are done.
use Rattle.std.proofs.Common.{◌≡◌, ℕ, false, length, map, refl, List, [], ◌∷◌, ◌++◌, reverse, sym, ap, ◌∙◌, subst, append_assoc}
use Rattle.std.proofs.lemmas.List.{reverse-append, reverse-reverse}
use Rattle.rv_code.specs.declared.body.UnitBodies.{UnitBodies}
use Rattle.rv_history.specs.History.{History}
use Rattle.rv_history.specs.Legal.{Legal}
use Rattle.rv_turn.specs.Histories.{mine, Each, NoStrangers, StartsWith}
use Rattle.rv_turn.specs.Prefixes.{mine-append, starts_self, starts_both}
use Rattle.rv_turn.specs.Passes.{Meets, Noted, StandsIn}
use Rattle.std.specs.Prelude.{Some}
use Rattle.atomic_table.specs.Seated.{TableId}
use Rattle.rv_behind.specs.Events.{by, log_of}
use Rattle.rv_port.specs.Traces.{Passing}
use Rattle.rv_port.specs.Ports.{Porting, pass_of}
use Rattle.rv_port.specs.Closing.{KeepsAll, HasMet, IsClosed}
use Rattle.rv_behind.specs.declared.event.Event.{Event}

each_both : (P : Passing → Type 0) (xs ys : List Passing) → Each P xs → Each P ys → Each P (xs ++ ys)
each_both P [] ys t u = u
each_both P (x ∷ xs) ys t u = (t.0, each_both P xs ys t.1 u)

pub each_back : (P : Passing → Type 0) (xs : List Passing) → Each P xs → Each P (reverse xs)
each_back P [] t = tt
each_back P (x ∷ xs) t = subst (λ (l : List Passing). Each P l) (sym (reverse-append (x ∷ []) xs)) (each_both P (reverse xs) (x ∷ []) (each_back P xs t.1) (t.0, tt))

pub each_forth : (P : Passing → Type 0) (xs ys : List Passing) → ys ≡ reverse xs → Each P ys → Each P xs
each_forth P xs ys is t = subst (λ (l : List Passing). Each P l) (reverse-reverse xs) (each_back P (reverse xs) (subst (λ (l : List Passing). Each P l) is t))

-- one more was taken over
pub taken : (all left less passes : List Passing) (x : Passing) → all ≡ left ++ reverse passes → left ≡ less ++ x ∷ [] → all ≡ less ++ reverse (passes ++ x ∷ [])
taken all left less passes x is e =
    is ∙ (ap (λ (l : List Passing). l ++ reverse passes) e ∙ (append_assoc less (x ∷ []) (reverse passes) ∙ ap (λ (l : List Passing). less ++ l) (sym (reverse-append passes (x ∷ [])))))

both_each : (turn : TableId) (xs : List Passing) → Each (λ p. (p.first ≡ false) × (p.base ≡ [])) xs → Each (λ p. p.turn ≡ turn) xs → Each (λ p. (p.first ≡ false) × (p.turn ≡ turn)) xs
both_each turn [] t u = tt
both_each turn (x ∷ xs) t u = ((t.0.0, u.0), both_each turn xs t.1 u.1)

-- the passes of ports of a turn are of it
pub each_pass : (turn : TableId) (ports : List Porting) → Each (λ p. p.turn ≡ turn) ports → Each (λ p. p.turn ≡ turn) (map pass_of ports)
each_pass turn [] t = tt
each_pass turn (p ∷ ps) t = (t.0, each_pass turn ps t.1)

-- the passes are of the turn, and none is the first
pub others : (turn : TableId) (finished passes : List Passing) → passes ≡ reverse finished → Each (λ p. (p.first ≡ false) × (p.base ≡ [])) passes → Each (λ p. p.turn ≡ turn) finished
    → Each (λ p. (p.first ≡ false) × (p.turn ≡ turn)) passes
others turn finished passes is t u = both_each turn passes t (subst (λ (l : List Passing). Each (λ p. p.turn ≡ turn) l) (sym is) (each_back (λ p. p.turn ≡ turn) finished u))

-- what was seen of an actor's events stays
pub mine_later : (a : ℕ) (seen log : List Event) → StartsWith log seen → StartsWith (mine by a log) (mine by a seen)
mine_later a seen log w = (mine by a w.0, ap (mine by a) w.1 ∙ mine-append by a seen w.0)

each_keeps : (log : List Event) (ports : List Passing) → Each (StandsIn by log) ports → Each (KeepsAll log) ports
each_keeps log [] t = tt
each_keeps log (p ∷ ps) t = ((λ a. mine_later a p.seen log t.0.0), each_keeps log ps t.1)

-- of a port that had no event before, what stands of its actor is its own
each_own : (log : List Event) (ports : List Passing) → Each (λ p. (p.first ≡ false) × (p.base ≡ [])) ports → Each (StandsIn by log) ports → Each (λ p. mine by p.actor log ≡ p.own) ports
each_own log [] none t = tt
each_own log (p ∷ ps) none t = (t.0.1 ∙ ap (λ (l : List Event). l ++ p.own) none.0.1, each_own log ps none.1 t.1)

-- Notes that are met, the last first

each_first : (P : Noted Event → Type 0) (xs ys : List (Noted Event)) → Each P (xs ++ ys) → Each P xs
each_first P [] ys t = tt
each_first P (x ∷ xs) ys t = (t.0, each_first P xs ys t.1)

each_last : (P : Noted Event → Type 0) (xs : List (Noted Event)) (x : Noted Event) → Each P (xs ++ x ∷ []) → P x
each_last P [] x t = t.0
each_last P (y ∷ xs) x t = each_last P xs x t.1

each_and : (P : Noted Event → Type 0) (xs : List (Noted Event)) (x : Noted Event) → Each P xs → P x → Each P (xs ++ x ∷ [])
each_and P [] x t p = (p, tt)
each_and P (y ∷ xs) x t p = (t.0, each_and P xs x t.1 p)

-- So far a pass has met all notes but those that are left: these are of its turn.
pub record Meeting (v : Passing) (all left : List (Noted Event)) (w : Passing) : Type 0 where
  pub later : StartsWith w.seen v.seen
  pub same : w ≡ record v { seen = w.seen }
  pub turn : Each (λ note. note.turn ≡ w.turn) left
  pub rest : (log : List Event) → StartsWith log w.seen → Each (λ note. StartsWith log note.seen) left → Each (λ note. StartsWith log note.seen) all

pub none_met : (v : Passing) (all : List (Noted Event)) → Each (λ note. note.turn ≡ v.turn) all → Meeting v all all v
none_met v all turn = record { later = starts_self v.seen; same = refl; turn = turn; rest = λ log later each. each }

-- the next is of the pass's turn
pub next_turn : (v w : Passing) (all left less : List (Noted Event)) (note : Noted Event) → Meeting v all left w → left ≡ less ++ note ∷ [] → note.turn ≡ w.turn
next_turn v w all left less note m is = each_last (λ n. n.turn ≡ w.turn) less note (subst (Each (λ (n : Noted Event). n.turn ≡ w.turn)) is m.turn)

-- one more is met
pub one_met : (v w u : Passing) (all left less : List (Noted Event)) (note : Noted Event) → Meeting v all left w → left ≡ less ++ note ∷ [] → Meets by w note.seen u → Meeting v all less u
one_met v w u all left less note m is met = record {
  later = starts_both v.seen w.seen u.seen m.later met.earlier;
  same = met.same ∙ ap (λ (z : Passing). record z { seen = u.seen }) m.same;
  turn = subst (λ (t : TableId). Each (λ (n : Noted Event). n.turn ≡ t) less) (sym (ap (λ (z : Passing). z.turn) met.same)) (each_first (λ n. n.turn ≡ w.turn) less (note ∷ []) (subst (Each (λ (n : Noted Event). n.turn ≡ w.turn)) is m.turn));
  rest = λ log later each. m.rest log (starts_both w.seen u.seen log met.earlier later)
      (subst (Each (λ (n : Noted Event). StartsWith log n.seen)) (sym is) (each_and (λ n. StartsWith log n.seen) less note each (starts_both note.seen u.seen log met.told later)));
}

-- all are met
pub all_met : (v w : Passing) (all left : List (Noted Event)) → Meeting v all left w → left ≡ [] → HasMet v all w
all_met v w all left m none = record {
  later = m.later;
  told = m.rest w.seen (starts_self w.seen) (subst (Each (λ (n : Noted Event). StartsWith w.seen n.seen)) (sym none) tt);
  same = m.same;
}

-- what a log begins with that begins with all that is seen now
each_noted : (log : List Event) (seen : List Event) (notes : List (Noted Event)) → StartsWith log seen → Each (λ note. StartsWith seen note.seen) notes → Each (λ note. StartsWith log note.seen) notes
each_noted log seen [] later t = tt
each_noted log seen (n ∷ ns) later t = (starts_both n.seen seen log t.0 later, each_noted log seen ns later t.1)

stood_before : (log : List Event) (control met : Passing) → StartsWith met.seen control.seen → met ≡ record control { seen = met.seen } → StandsIn by log met → StandsIn by log control
stood_before log control met later same stands = (
  starts_both control.seen met.seen log later stands.0,
  subst (λ (z : Passing). mine by z.actor log ≡ z.base ++ z.own) same stands.1,
)

pub closed : (control met : Passing) (finished passes : List Passing) (notes : List (Noted Event)) (h : History) (us : List UnitBodies) → Legal h → length us ≡ length h.shapes → passes ≡ reverse finished
    → Each (λ p. (p.first ≡ false) × (p.base ≡ [])) passes → HasMet control notes met → StandsIn by (log_of h us) met
    → Each (StandsIn by (log_of h us)) passes → NoStrangers by (log_of h us) met.given → met.about ≡ Some h.limits → Each (λ p. p.about ≡ Some h.limits) passes → IsClosed control finished notes h
closed control met finished passes notes h us l some is none meets own stand strangers about limits =
    let stood : Each (StandsIn by (log_of h us)) finished = each_forth (StandsIn by (log_of h us)) finished passes is stand in
    let before : StandsIn by (log_of h us) control = stood_before (log_of h us) control met meets.later meets.same own in record {
      legal = l;
      units = us;
      brought = some;
      operator = before;
      ports_stand = stood;
      mine_is_own = each_own (log_of h us) finished (each_forth (λ p. (p.first ≡ false) × (p.base ≡ [])) finished passes is none) stood;
      control_keeps = λ a. mine_later a control.seen (log_of h us) before.0;
      ports_keep = each_keeps (log_of h us) finished stood;
      notes_stay = each_noted (log_of h us) met.seen notes own.0 meets.told;
      strangers = subst (λ (z : Passing). NoStrangers by (log_of h us) z.given) meets.same strangers;
      limits = subst (λ (z : Passing). z.about ≡ Some h.limits) meets.same about;
      ports_limits = each_forth (λ p. p.about ≡ Some h.limits) finished passes is limits;
    }
