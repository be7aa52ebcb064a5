-- What a seat knows, and how each kind of step changes it. (own)
use Rattle.std.specs.Prelude.{◌≡◌, ℕ, ◌+◌, ◌-◌, Bool, true, false, List, [], ◌∷◌, ◌++◌, Some, None}
use Rattle.rv_turn.specs.Histories.{mine, longer}
use Rattle.rv_turn.specs.declared.view.View.{View}
use Rattle.rv_turn.specs.declared.view.Joined.{Joined}

-- the ticket that the first pass keeps back for the close (own)
abbrev pub spare : Bool → ℕ
spare true = 1
spare false = 0

module _ {E A : Type 0} where
  -- the view of the first pass: it has seen the opening history, and has a ticket for the close beside its 2^62 acts (own)
  abbrev pub opening_view : (E → ℕ) → A → List E → View E A
  opening_view by about before = record {
    about = Some about;
    seen = before;
    own = [];
    told = [];
    passes = true;
    actor = 0;
    acts = 4611686018427387905;
    ticket = 0;
    turn = false;
    first = true;
    base = mine by 0 before;
    given = [];
    kept = [];
  }

  -- the view with a new ticket, which takes one of its acts (own)
  abbrev pub queued : View E A → ℕ → View E A
  queued v t = record v { acts = v.acts - 1; ticket = t + 1; turn = false }

  -- the view with the turn, and so with the whole history (own)
  abbrev pub turned : View E A → List E → View E A
  turned v log = record v { seen = log; turn = true }

  -- the view with one entry of its own more (own)
  abbrev pub grown : View E A → List E → E → View E A
  grown v log e = record v { seen = log; own = v.own ++ e ∷ []; turn = true }

  -- the view without a ticket (own)
  abbrev pub served : View E A → View E A
  served v = record v { ticket = 0; turn = false }

  -- the view after a look at the whole history (own)
  abbrev pub looking : View E A → List E → View E A
  looking v log = record v { seen = log }

  -- the view after it took in what it was told (own)
  abbrev pub heeding : View E A → View E A
  heeding v = record v { seen = longer v.seen v.told }

  -- a note of what was seen (own)
  abbrev pub note_of : List E → View E A
  note_of seen = record {
    about = None;
    seen = seen;
    own = [];
    told = [];
    passes = false;
    actor = 0;
    acts = 0;
    ticket = 0;
    turn = false;
    first = false;
    base = [];
    given = [];
    kept = [];
  }

  -- the view after it was told of a note (own)
  abbrev pub informed : View E A → View E A → View E A
  informed v n = record v { told = n.seen }

  -- a new pass of an actor, with so many acts (own)
  abbrev pub pass_of : View E A → ℕ → ℕ → View E A
  pass_of v a n = record {
    about = v.about;
    seen = v.seen;
    own = [];
    told = [];
    passes = true;
    actor = a;
    acts = n;
    ticket = 0;
    turn = false;
    first = false;
    base = [];
    given = [];
    kept = [];
  }

  -- the first pass after it gave acts to an actor (own)
  abbrev pub gave : View E A → ℕ → ℕ → View E A
  gave v a n = record v { acts = v.acts - n; given = a ∷ v.given }

  -- what is kept of a pass that was joined (own)
  abbrev pub joined_of : View E A → Joined E A
  joined_of p = record { about = p.about; actor = p.actor; own = p.base ++ p.own; seen = p.seen }

  -- the first pass after a pass was joined to it (own)
  abbrev pub took_in : View E A → View E A → View E A
  took_in v p = record v { kept = joined_of p ∷ v.kept }

  -- the view that keeps these passes (own)
  abbrev pub keeping : View E A → List (Joined E A) → View E A
  keeping v kept = record v { kept = kept }

  -- a pass between two acts: no ticket, and so no turn (own)
  abbrev pub is_idle : View E A → Type 0
  is_idle v = (v.turn ≡ false) × (v.ticket ≡ 0) × (v.passes ≡ true)
