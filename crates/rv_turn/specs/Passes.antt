-- What contracts see of a pass and of a note, and what each call leaves. (own)
use Rattle.std.specs.Prelude.{◌≡◌, ◌⊎◌, ℕ, ◌+◌, ◌-◌, ◌<◌, ◌≤◌, Bool, true, false, List, [], ◌∷◌, ◌++◌, Option, Some}
use Rattle.atomic_table.specs.Table.{Me}
use Rattle.atomic_table.specs.Seated.{TableId}
use Rattle.rv_turn.specs.Histories.{mine, StartsWith}
use Rattle.rv_turn.specs.Views.{is_idle, spare}
use Rattle.rv_turn.specs.declared.view.View.{View}
use Rattle.rv_turn.specs.declared.view.Joined.{Joined}

-- What contracts see of a pass. (own)
pub record Known (E A : Type 0) : Type 0 where
  -- which turn it is of
  pub turn : TableId
  -- whose pass it is
  pub actor : ℕ
  -- how many acts it may still make
  pub left : ℕ
  -- whether it is the turn's first pass
  pub first : Bool
  -- Seen: the longest history that it has learnt
  pub seen : List E
  -- Own: the entries that it made, in order
  pub own : List E
  -- the entries that its actor had in the history that the turn was made with
  pub base : List E
  -- of the first pass: the actors that were given a pass
  pub given : List ℕ
  -- what no act changes
  pub about : Option A

-- What contracts see of a note: which turn it is of, and the Seen of the pass that made it. (own)
pub record Noted (E : Type 0) : Type 0 where
  pub turn : TableId
  pub seen : List E

module _ {E A : Type 0} where
  -- the first pass of a turn over a value with this history (own)
  abbrev pub opening_of : TableId → A → (E → ℕ) → List E → Known E A
  opening_of turn about by before = record {
    turn = turn;
    actor = 0;
    left = 4611686018427387904;
    first = true;
    seen = before;
    own = [];
    base = mine by 0 before;
    given = [];
    about = Some about;
  }

  -- what a pass shows of its seat's view (own)
  abbrev pub known_of : TableId → View E A → ℕ → Known E A
  known_of turn v left = record {
    turn = turn;
    actor = v.actor;
    left = left;
    first = v.first;
    seen = v.seen;
    own = v.own;
    base = v.base;
    given = v.given;
    about = v.about;
  }

  -- the pass of another actor that is cut off a pass, with so many acts (own)
  abbrev pub cut_off : Known E A → List E → ℕ → ℕ → Known E A
  cut_off p log actor acts = record {
    turn = p.turn;
    actor = actor;
    left = acts;
    first = false;
    seen = log;
    own = [];
    base = [];
    given = [];
    about = p.about;
  }

  -- what is left of the pass that it was cut off (own)
  abbrev pub rest_of : Known E A → List E → ℕ → ℕ → Known E A
  rest_of p log actor acts = record p { seen = log; left = p.left - acts; given = actor ∷ p.given }

  module _ (by : E → ℕ) where
    -- A pass between two acts: it has no ticket and no turn, and its actor's entries in its Seen are its Own, behind those
    -- that were there before. (own)
    pub record IsPass {C : Type 0} (board place : TableId) (me : Me (Option C) (View E A)) (actor acts : ℕ) : Type 0 where
      pub words : board.words ≡ 3
      pub seated : place ≡ board
      pub idle : is_idle me.0
      pub none_held : me.1 ≡ []
      pub actor_is : me.0.actor ≡ actor
      pub acts_is : me.0.acts ≡ acts + spare me.0.first
      pub owns : mine by me.0.actor me.0.seen ≡ me.0.base ++ me.0.own

    -- After a note was met: Seen begins with the pass's earlier Seen and with that of the note, and is one of these, and nothing
    -- else is changed. (own)
    pub record Meets (p : Known E A) (note : List E) (after : Known E A) : Type 0 where
      pub earlier : StartsWith after.seen p.seen
      pub told : StartsWith after.seen note
      pub no_more : (after.seen ≡ p.seen) ⊎ (after.seen ≡ note)
      pub same : after ≡ record p { seen = after.seen }
      pub owns : mine by after.actor after.seen ≡ after.base ++ after.own

    -- A pass was cut off for an actor that has no entry yet, and the first pass has seen the history so far. (own)
    pub record Parted (p : Known E A) (actor acts : ℕ) (after new : Known E A) : Type 0 where
      pub enough : acts ≤ p.left
      pub later : StartsWith after.seen p.seen
      pub rest : after ≡ rest_of p after.seen actor acts
      pub new_is : new ≡ cut_off p after.seen actor acts
      pub none : mine by actor after.seen ≡ []
      pub owns : mine by p.actor after.seen ≡ p.base ++ p.own

    -- a pass in the history at the close: its Seen is a prefix, and its actor's entries are its Own, behind those that were
    -- there before (own)
    abbrev pub StandsIn : List E → Known E A → Type 0
    StandsIn log p = StartsWith log p.seen × (mine by p.actor log ≡ p.base ++ p.own)

  module _ {Q R : Type 0} (by : E → ℕ) (answers : A → List E → ℕ → Q → R → List E → Type 0) where
    -- One act: it is answered as it is due on one history that begins with all that the pass had seen. Then Seen is that
    -- history and Own is as before, or both have the act's entry more. (own)
    pub record Acted (p : Known E A) (ask : Q) (reply : R) (after : Known E A) : Type 0 where
      -- the history that it was answered on
      pub at : List E
      pub later : StartsWith at p.seen
      pub owned : mine by p.actor at ≡ p.base ++ p.own
      -- what no act changes
      pub about : A
      pub about_is : p.about ≡ Some about
      pub answer : answers about at p.actor ask reply after.seen
      pub entry : ((after.seen ≡ at) × (after.own ≡ p.own))
          ⊎ ((e : E) × (by e ≡ p.actor) × (after.seen ≡ at ++ e ∷ []) × (after.own ≡ p.own ++ e ∷ []))
      pub owns : mine by after.actor after.seen ≡ after.base ++ after.own
      pub some_left : 0 < p.left
      pub same : after ≡ record p { seen = after.seen; own = after.own; left = p.left - 1 }

-- Worn: no act was left, and nothing changed (own)
abbrev pub IsWorn : {E A : Type 0} → Known E A → Known E A → Type 0
IsWorn before after = (before.left ≡ 0) × (after ≡ before)

-- what is kept of a pass that was joined (own)
abbrev pub kept_of : {E A : Type 0} → Known E A → Joined E A
kept_of p = record { about = p.about; actor = p.actor; own = p.base ++ p.own; seen = p.seen }
