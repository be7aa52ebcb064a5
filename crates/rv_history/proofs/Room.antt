-- Room is never negative, and an entry has it where its cost is no greater than the room and what it gives up.
use Rattle.std.proofs.Common.{◌≡◌, ℕ, ◌+◌, ◌^◌, ◌<◌, ◌≤◌, List, [], ◌∷◌, ◌++◌, length, Some, Bool, true, false, arith, ap, subst, sym}
use Rattle.std.specs.Prelude.{nat_le, if◌then◌else◌, ◌↔◌}
use Rattle.std.proofs.lemmas.Bool.Decides.{nat_tests}
use Rattle.rv_access.specs.Words.{Words}
use Rattle.rv_shape.specs.Shape.{Shape}
use Rattle.rv_event.specs.Recorded.{recorded}
use Rattle.rv_event.specs.Past.{archived, halted}
use Rattle.rv_event.specs.declared.entry.Entry.{Entry}
use Rattle.rv_event.specs.declared.entry.Entry.TheVariants.{Asked, Load, ListChange}
use Rattle.rv_event.specs.declared.entry.Answer.TheVariants as Answers
use Rattle.rv_shape.specs.Fits.{shape_fits}
use Rattle.rv_history.specs.declared.limits.Limits.{Limits}
use Rattle.rv_history.specs.History.{History}
use Rattle.rv_history.specs.Owed.{owed, room, has_room, IsSolvent}
use Rattle.rv_history.specs.Due.{within, gate, nothing_more}
use Rattle.rv_history.specs.Legal.{IsLegal, Legal, due_list, out_list}
use Rattle.rv_history.specs.Fitting.{most_entries}
use Rattle.rv_history.proofs.Archived.{numbers_last}
use Rattle.rv_history.proofs.Answered.{answered, within_recorded, gate_recorded}

pub from_room : (n c : ℕ) → nat_le n c ≡ true → n ≤ c
from_room n c e = grind (arith, nat_tests)

pub to_room : (n c : ℕ) → n ≤ c → nat_le n c ≡ true
to_room n c e = grind (arith, nat_tests)

-- the host accepts the load, or the change, within the room
accepted_within : (b c enough : Bool) → gate b c (within enough nothing_more) ≡ nothing_more → enough ≡ true
accepted_within b c enough e =
    let g = gate_recorded b c (within enough nothing_more) _ (ap recorded e) in
    (within_recorded enough nothing_more _ g.said).0

list_within : (h : History) (list : List Words) → out_list h (Some list) ≡ nothing_more → has_room h.limits.capacity h.shapes (ListChange ∷ h.past) ≡ true
list_within h list e = by_length _ (gate_recorded true (halted h.past) (due_list h (Some list)) _ (ap recorded e)).said
  where
    by_length : (b : Bool) → recorded (if b then Answers.BadLine else within (has_room h.limits.capacity h.shapes (ListChange ∷ h.past)) nothing_more) ≡ recorded nothing_more → has_room h.limits.capacity h.shapes (ListChange ∷ h.past) ≡ true
    by_length true f = absurd (cc)
    by_length false f = (within_recorded (has_room h.limits.capacity h.shapes (ListChange ∷ h.past)) nothing_more _ f).0

pub solvent : (c : Limits) (past : List Entry) (shapes : List Shape) (lists : List (List Words)) → 1 ≤ c.capacity → IsLegal c past shapes lists → length past + owed shapes past ≤ c.capacity + archived past
solvent c [] shapes lists some l = subst (λ (ss : List Shape). length {A = Entry} [] + owed ss [] ≤ c.capacity + 0) (sym l.0) (omega (arith, some))
solvent c (Asked a r w ∷ past) shapes lists some l =
    let h : History = record { limits = c; past = past; shapes = shapes; lists = lists } in
    from_room _ (c.capacity + archived (Asked a r w ∷ past)) (answered h a r w l.1).paid
solvent c (Load ∷ past) shapes lists some l =
    let has = accepted_within (shape_fits l.0 l.1) (halted past) (has_room c.capacity (l.0 ++ l.1 ∷ []) (Load ∷ past)) l.4 in
    subst (λ (ss : List Shape). length (Load ∷ past) + owed ss (Load ∷ past) ≤ c.capacity + archived past) (sym l.2) (from_room _ (c.capacity + archived past) has)
solvent c (ListChange ∷ past) shapes lists some l =
    let h : History = record { limits = c; past = past; shapes = shapes; lists = l.0 } in
    from_room _ (c.capacity + archived past) (list_within h l.1 l.4)

pub legal_solvent : (h : History) → 1 ≤ h.limits.capacity → Legal h → IsSolvent h
legal_solvent h some l = solvent h.limits h.past h.shapes h.lists some l

-- an entry has its room where its cost, one entry and the change of what is owed, is no greater than the room and what
-- the entry gives up
pub room_reads : (h : History) (e : Entry) (now : List Shape) → IsSolvent h →
    (has_room h.limits.capacity now (e ∷ h.past) ≡ true) ↔ (1 + owed now (e ∷ h.past) + archived h.past ≤ room h + owed h.shapes h.past + archived (e ∷ h.past))
room_reads h e now solvent = (
  λ enough. let n = from_room _ (h.limits.capacity + archived (e ∷ h.past)) enough in omega (arith, n, solvent),
  λ cost. to_room _ (h.limits.capacity + archived (e ∷ h.past)) (omega (arith, cost, solvent)),
)

-- a legal history has fewer entries than numbers last for, where its capacity is below that
pub lengths_last : (c : Limits) (past : List Entry) (shapes : List Shape) (lists : List (List Words)) → 1 ≤ c.capacity → c.capacity < most_entries → IsLegal c past shapes lists → length past < most_entries
lengths_last c past shapes lists some few l = omega (arith, solvent c past shapes lists some l, numbers_last c past shapes lists few l)

pub few_entries : (h : History) → 1 ≤ h.limits.capacity → h.limits.capacity ≤ 2 ^ 20 → Legal h → length h.past < 10 ^ 12
few_entries h some most l = lengths_last h.limits h.past h.shapes h.lists some (omega (arith, most)) l

pub few_solvent : (h : History) → h.limits.capacity ≤ 2 ^ 20 → Legal h → IsSolvent h → length h.past < 10 ^ 12
few_solvent h most l solvent = omega (arith, solvent, numbers_last h.limits h.past h.shapes h.lists (omega (arith, most)) l)
