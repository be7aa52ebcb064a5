-- The rule of the table behind a turn, and what each kind of step tells. (own)
use Rattle.std.specs.Prelude.{◌≡◌, ◌≢◌, ℕ, zero, suc, ◌+◌, ◌<◌, ◌≤◌, true, false, List, [], ◌∷◌, ◌++◌, length, Option, Some}
use mathlib.Core.Option.{some}
use lib.ListN.{get_elem?}
use Rattle.atomic_table.specs.Table.{State, Me, Step}
use Rattle.rv_turn.specs.Histories.{mine, StartsWith, Has, Each, NoStrangers}
use Rattle.rv_turn.specs.Views.{queued, turned, grown, served, looking, heeding}
use Rattle.rv_turn.specs.declared.view.View.{View}
use Rattle.rv_turn.specs.declared.view.Joined.{Joined}

-- what was added up of each view (own)
abbrev pub total : {V : Type 0} → (V → ℕ) → List V → ℕ
total f [] = 0
total f (v ∷ vs) = f v + total f vs

-- 1 where there is a ticket, and else 0 (own)
abbrev pub ticket_count : ℕ → ℕ
ticket_count zero = 0
ticket_count (suc n) = 1

-- what the rule asks of a pass that was joined: its Seen is a prefix, its actor's entries are its Own, and it knew what no act
-- changes (own)
abbrev pub Stands : {E A : Type 0} → (E → ℕ) → A → List E → Joined E A → Type 0
Stands by limit log j = StartsWith log j.seen × (mine by j.actor log ≡ j.own) × (j.about ≡ Some limit)

module _ {E A : Type 0} where
  -- how many acts are left to all seats (own)
  abbrev pub acts_left : List (View E A) → ℕ
  acts_left vs = total (λ v. v.acts) vs

  -- how many seats have a ticket (own)
  abbrev pub waiting : List (View E A) → ℕ
  waiting vs = total (λ v. ticket_count v.ticket) vs

  -- two seats have different tickets, and two passes different actors (own)
  abbrev pub Apart : View E A → View E A → Type 0
  Apart v w = (0 < v.ticket → v.ticket ≢ w.ticket) × (v.passes ≡ true → w.passes ≡ true → v.actor ≢ w.actor)

  -- no seat has the turn (own)
  abbrev pub NoneHas : List (View E A) → Type 0
  NoneHas views = (j : ℕ) (v : View E A) → get_elem? views j ≡ some v → v.turn ≡ false

  -- What the rule asks of one view, where the history is log, and next, now, given and kept are as in the rule. (own)
  pub record Fits (by : E → ℕ) (limit : A) (log : List E) (next now : ℕ) (given : List ℕ) (kept : List (Joined E A))
      (v : View E A) : Type 0 where
    -- Seen is a prefix of the history
    pub seen : StartsWith log v.seen
    -- and so is the Seen of the note that was told
    pub told : StartsWith log v.told
    -- who has the turn has seen the whole history, and its ticket is served
    pub turn : v.turn ≡ true → (v.seen ≡ log) × (v.ticket ≡ now + 1)
    -- a ticket is one that was drawn, and is not served yet
    pub ticket : 0 < v.ticket → (now < v.ticket) × (v.ticket ≤ next)
    -- the entries of a pass's actor are those of the opening history, then its Own
    pub owns : v.passes ≡ true → mine by v.actor log ≡ v.base ++ v.own
    -- a pass knows what no act changes
    pub about : v.passes ≡ true → v.about ≡ Some limit
    -- every pass but the first is that of an actor who was given one
    pub actor : v.passes ≡ true → v.first ≡ false → (0 < v.actor) × Has v.actor given
    -- the first pass is that of actor 0, and knows who was given a pass, and which passes were joined
    pub first : v.first ≡ true → (v.passes ≡ true) × (v.actor ≡ 0) × (v.given ≡ given) × (v.kept ≡ kept)

  -- the actor was given a pass, and no seat passes for it any more (own)
  abbrev pub Gone : List (View E A) → List ℕ → ℕ → Type 0
  Gone views given a = (0 < a) × Has a given
      × ((j : ℕ) (v : View E A) → get_elem? views j ≡ some v → v.passes ≡ true → v.actor ≢ a)

module _ {C E A : Type 0} (history : C → List E) (about : C → A) (by : E → ℕ) (made : C) where
  -- The rule: what is true of the words, the slot and all views between any two steps. (own)
  pub record Kept (s : State (Option C) (View E A)) : Type 0 where
    -- the one history
    pub log : List E
    -- the next ticket
    pub next : ℕ
    -- the ticket served
    pub now : ℕ
    -- the actors that were given a pass
    pub given : List ℕ
    -- the passes that were joined
    pub kept : List (Joined E A)
    -- word 0 is as long as the history, word 1 is the next ticket, word 2 the ticket served
    pub words : s.words ≡ length log ∷ next ∷ now ∷ []
    -- there is one slot
    pub one_slot : length s.homes ≡ 1
    -- as long as no ticket was drawn, the slot has the very value that was made
    pub fresh : next ≡ 0 → get_elem? s.homes 0 ≡ some (some (Some made))
    -- slot 0 is empty only while a view has the turn, and the value at home has the history as its own
    pub home : NoneHas s.views
        → (x : C) × (get_elem? s.homes 0 ≡ some (some (Some x))) × (history x ≡ log) × (about x ≡ about made)
    -- one view alone has the turn
    pub alone : (i j : ℕ) (v w : View E A)
        → get_elem? s.views i ≡ some v → get_elem? s.views j ≡ some w → v.turn ≡ true → w.turn ≡ true → i ≡ j
    -- every view's Seen is a prefix of the history, and what else one view is asked
    pub each : (j : ℕ) (v : View E A) → get_elem? s.views j ≡ some v → Fits by (about made) log next now given kept v
    -- no ticket and no actor is given twice
    pub apart : (i j : ℕ) (v w : View E A) → get_elem? s.views i ≡ some v → get_elem? s.views j ≡ some w → i ≢ j → Apart v w
    -- the passes that were joined stand in the history, and no pass for their actors is left
    pub gone : Each (λ j. Stands by (about made) log j × Gone s.views given j.actor) kept
    -- an actor that was never given a pass has no entry
    pub strangers : NoStrangers by log given
    -- served plus the views with a ticket is the next ticket
    pub tickets : now + waiting s.views ≡ next
    -- tickets drawn, and those that may still be drawn, are at most 2^62 + 1
    pub few : next + acts_left s.views ≤ 4611686018427387905

module _ {C E A : Type 0} (history : C → List E) (about : C → A) (by : E → ℕ) where
  -- a seat: its view, and the slots that it has (own)
  abbrev Sat : Type 0
  Sat = Me (Option C) (View E A)

  -- a look at the history: it begins with all that was seen and told, the seat's own entries are its actor's, and to the
  -- first pass: the joined passes stand, and strangers have no entry (own)
  abbrev pub Met : Sat → Sat → Type 0
  Met m w = (log : List E) × (w ≡ (looking m.0 log, m.1)) × StartsWith log m.0.seen × StartsWith log m.0.told
      × (m.0.passes ≡ true → mine by m.0.actor log ≡ m.0.base ++ m.0.own)
      × (m.0.turn ≡ true → log ≡ m.0.seen)
      × (m.0.first ≡ true → (limit : A) × (m.0.about ≡ Some limit) × Each (Stands by limit log) m.0.kept)
      × (m.0.first ≡ true → NoStrangers by log m.0.given)

  -- The seat took in what it was told. The history begins with all that was seen and told, and in it the seat's own entries are
  -- its actor's. (own)
  abbrev pub Heard : Sat → Sat → Type 0
  Heard m w = (log : List E) × (w ≡ (heeding m.0, m.1)) × StartsWith log m.0.seen × StartsWith log m.0.told
      × (m.0.passes ≡ true → mine by m.0.actor log ≡ m.0.base ++ m.0.own)

  -- the seat has the turn and the value, with the whole history (own)
  abbrev pub TookTurn : Sat → Sat → Type 0
  TookTurn m w = (x : C) × (w ≡ (turned m.0 (history x), (0, Some x) ∷ m.1))
      × StartsWith (history x) m.0.seen × StartsWith (history x) m.0.told
      × (m.0.passes ≡ true → mine by m.0.actor (history x) ≡ m.0.base ++ m.0.own)
      × (m.0.passes ≡ true → m.0.about ≡ Some (about x))

  -- fetch_add of word 1: a ticket is drawn (own)
  abbrev pub drew : Step (Option C) → Sat → ℕ → Sat → Type 0
  drew st m r w = w ≡ (queued m.0 r, m.1)

  -- load of word 2: the seat's ticket is served, and it has the turn; or nothing changed (own)
  abbrev pub called : Step (Option C) → Sat → ℕ → Sat → Type 0
  called st m r w = (r + 1 ≡ m.0.ticket → TookTurn m w) × (r + 1 ≢ m.0.ticket → w ≡ m)

  -- load of word 0 by the turn's holder: the length of the history (own)
  abbrev pub counted : Step (Option C) → Sat → ℕ → Sat → Type 0
  counted st m r w = (w ≡ m) × (m.0.turn ≡ true → r ≡ length m.0.seen)

  -- fetch_add of word 0: the entry that the value in the slot has more (own)
  abbrev pub added : Step (Option C) → Sat → ℕ → Sat → Type 0
  added st m r w = (r ≡ length m.0.seen)
      × ((e : E) × (x : C) × (m.1 ≡ (0, Some x) ∷ []) × (history x ≡ m.0.seen ++ e ∷ []) × (by e ≡ m.0.actor) × (w ≡ (grown m.0 (history x) e, m.1)))

  -- fetch_add of word 2: the value is home, and the next ticket is served (own)
  abbrev pub passed : Step (Option C) → Sat → ℕ → Sat → Type 0
  passed st m r w = w ≡ (served m.0, [])

  -- load of word 0: a look at the history, and its length (own)
  abbrev pub learned : Step (Option C) → Sat → ℕ → Sat → Type 0
  learned st m r w = Met m w × (r ≡ length w.0.seen)

  -- load of word 0: what was told is taken in (own)
  abbrev pub heard : Step (Option C) → Sat → ℕ → Sat → Type 0
  heard st m r w = Heard m w
