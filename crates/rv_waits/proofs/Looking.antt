-- What is gathered follows a journal.
use Rattle.std.proofs.Common.{◌≡◌, ℕ, suc, List, [], ◌∷◌, ◌++◌, Some, Option, Result, Ok, Err, length, get_or, drop, sym, ap, ◌∙◌, subst, append_assoc, append-nil, arith, Bor, codes, ◌≤◌}
use Rattle.std.specs.Prelude.{OnOk, String, string_bytes}
use Rattle.rv_access.specs.Words.{Words}
use Rattle.rv_shape.specs.Shape.{Shape}
use Rattle.rv_event.specs.Past.{clock, ended, next_of, started}
use Rattle.rv_event.specs.Recorded.{recorded}
use Rattle.rv_event.specs.declared.entry.Answer.{Answer}
use Rattle.rv_event.specs.declared.entry.Entry.{Entry}
use Rattle.rv_event.specs.declared.entry.Entry.TheVariants.{Asked, Load, ListChange}
use Rattle.rv_event.specs.declared.entry.Recorded.{Recorded}
use Rattle.rv_event.specs.declared.entry.Request.{Request}
use Rattle.rv_history.specs.History.{History}
use Rattle.rv_history.proofs.Growing.{front_is}
use Rattle.rv_reading.specs.Reads.{told}
use Rattle.rv_reading.specs.Told.{Told, Asks, Loads, Lists}
use Rattle.rv_reading.specs.declared.deed.Deed.{Deed}
use Rattle.rv_reading.specs.declared.deed.Deed.TheVariants as Deeds
use Rattle.rv_audit.specs.Meant.{Meant, OfList, OfLoad, due, next}
use Rattle.rv_audit.specs.Observing.{Notes, Takes}
use Rattle.rv_refused.specs.Filters.{FilterText}
use Rattle.rv_refused.specs.Looking.{WillHold}
use Rattle.rv_lasting.specs.Calls.{KeepsCalls}
use Rattle.rv_lasting.specs.Lasting.{delay_by, waiting_by, woken_by}
use Rattle.rv_lasting.specs.Lines.{ended_line}
use Rattle.rv_lasting.specs.Rows.{rows}
use Rattle.rv_lasting.specs.Tracks.{Tracked}
use Rattle.rv_lasting.specs.Tracks as Tracks
use Rattle.rv_lasting.specs.declared.calls.Calls.{Calls}
use Rattle.rv_lasting.specs.declared.track.Begun.{Begun}
use Rattle.rv_waits.specs.Following.{Follows, Gathers, Looks, LooksForBodies, LooksForDelays, LooksForWaits, begun_of, turned}
use Rattle.rv_waits.specs.Lasting.{Waits, Bodies, Delays, freed_by, if_taken, tracked}
use Rattle.rv_waits.specs.Waits.{lasting_line, lasting_lines, waits_in, waits_text}
use Rattle.rv_waits.specs.declared.waits.Waits.{Waits as Observer}

-- One entry

turn_is : (f g : FilterText) (t s : Tracked) (n k : ℕ) (shapes : List Shape) (tick : ℕ) (actor : Option ℕ) (begun : ℕ → Option Begun) → f ≡ g → t ≡ s → n ≡ k → turned f shapes tick actor (begun n) t ≡ turned g shapes tick actor (begun k) s
turn_is f g t s n k shapes tick actor begun a b c =
    ap (λ (x : FilterText). turned x shapes tick actor (begun n) t) a ∙ ap (λ (x : Tracked). turned g shapes tick actor (begun n) x) b
    ∙ ap (λ (x : ℕ). turned g shapes tick actor (begun x) s) c

abbrev with_line : List ℕ → FilterText → Tracked → ℕ → History → Entry → List ℕ
with_line text f t n h e =
    text ++ ended_line h.shapes (next_of e) n (clock h.past) (if_taken f h.shapes (Tracks.ended (freed_by h.past e) t.begun))

line_is : (u v : List ℕ) (f g : FilterText) (t s : Tracked) (n k : ℕ) (h : History) (e : Entry) → u ≡ v → f ≡ g → t ≡ s → n ≡ k → with_line u f t n h e ≡ with_line v g s k h e
line_is u v f g t s n k h e a b c d =
    ap (λ (x : List ℕ). with_line x f t n h e) a ∙ ap (λ (x : FilterText). with_line v x t n h e) b
    ∙ ap (λ (x : Tracked). with_line v g x n h e) c ∙ ap (λ (x : ℕ). with_line v g s x h e) d

pub looks_all : (old m n new : Observer) (h : History) (number a : ℕ) (r : Request) (w : Recorded) → LooksForWaits old m h number (Asked a r w) → LooksForBodies m n h number (Asked a r w) → LooksForDelays n new h number (Asked a r w) →
    Looks old new h number (Asked a r w)
looks_all old m n new h number a r w one two three filter gathers number_is =
    let e : Entry = Asked a r w in
    let middle = one.filter ∙ gathers.taken in
    let calls : KeepsCalls m.calls h.past = subst (λ (c : Calls). KeepsCalls c h.past) (sym one.calls) gathers.calls in
    record {
      taken = three.filter ∙ two.filter ∙ middle;
      calls = subst (λ (c : Calls). KeepsCalls c (Asked a r w ∷ h.past)) (sym three.calls) (two.calls calls);
      waits = three.waits ∙ two.waits ∙ one.waits
          ∙ turn_is old.filter filter old.waits (tracked Waits filter h.shapes h.past) number (suc (length h.past)) h.shapes (clock h.past) (freed_by h.past e) (λ k. begun_of h k (waiting_by e)) gathers.taken gathers.waits number_is;
      bodies = three.bodies ∙ two.bodies calls
          ∙ turn_is m.filter filter m.bodies (tracked Bodies filter h.shapes h.past) number (suc (length h.past)) h.shapes (clock h.past) (ended e) (λ k. begun_of h k (started h.shapes h.past e)) middle (one.bodies ∙ gathers.bodies) number_is;
      delays = three.delays
          ∙ turn_is n.filter filter n.delays (tracked Delays filter h.shapes h.past) number (suc (length h.past)) h.shapes (clock h.past) (woken_by e) (λ k. delay_by e k) (two.filter ∙ middle) (two.delays ∙ one.delays ∙ gathers.delays) number_is;
      text = ap (λ (t : String _). string_bytes t) (three.text ∙ two.text) ∙ one.text
          ∙ line_is (string_bytes old.text) (waits_in filter h.shapes h.past) old.filter filter old.waits (tracked Waits filter h.shapes h.past) number (suc (length h.past)) h e gathers.text gathers.taken gathers.waits number_is;
    }

-- a load and a list leave what is gathered

loaded : (filter : FilterText) (it : Observer) (shapes : List Shape) (past : List Entry) (unit : Shape) → Gathers filter it shapes past → Gathers filter it (shapes ++ unit ∷ []) (Load ∷ past)
loaded filter it shapes past unit gathers = record {
  taken = gathers.taken;
  calls = gathers.calls;
  waits = gathers.waits ∙ sym (ap (λ (ss : List Shape). tracked Waits filter ss past) (front_is shapes unit));
  bodies = gathers.bodies ∙ sym (ap (λ (ss : List Shape). tracked Bodies filter ss past) (front_is shapes unit));
  delays = gathers.delays ∙ sym (ap (λ (ss : List Shape). tracked Delays filter ss past) (front_is shapes unit));
  text = gathers.text ∙ sym (append-nil (waits_in filter shapes past)) ∙ sym (ap (λ (ss : List Shape). waits_in filter ss past ++ []) (front_is shapes unit));
}

listed : (filter : FilterText) (it : Observer) (shapes : List Shape) (past : List Entry) → Gathers filter it shapes past → Gathers filter it shapes (ListChange ∷ past)
listed filter it shapes past gathers = record {
  taken = gathers.taken;
  calls = gathers.calls;
  waits = gathers.waits;
  bodies = gathers.bodies;
  delays = gathers.delays;
  text = gathers.text ∙ sym (append-nil (waits_in filter shapes past));
}

-- What a line tells

abbrev pub GathersAt : FilterText → Observer → History → Type 0
GathersAt filter it h = Gathers filter it h.shapes h.past

abbrev pub NotesTold : Observer → Observer → List Shape → History → ℕ → Told → Type 0
NotesTold old new units h number it =
    (begun : Observer) → Notes (Follows begun.filter old) (WillHold (GathersAt begun.filter new) units) h number it

asked_at : (old new : Observer) (units : List Shape) (h : History) (number a : ℕ) (r : Request) (w : Recorded) → Looks old new h number (Asked a r w) → NotesTold old new units h number (Asks a r w)
asked_at old new units h number a r w looks begun follows number_is meant means due_is =
    subst (λ (m : Meant). GathersAt begun.filter new (next h m w)) (sym means) (looks begun.filter follows.gathers number_is)

on_ok : {A E : Type 0} (r : Result A E) (X Y : Type 0) → (X → Y) → OnOk r X → OnOk r Y
on_ok (Ok a) X Y f x = f x
on_ok (Err e) X Y f x = x

pub asks_noted : {E : Type 0} (old new : Observer) (units : List Shape) (h : History) (number : ℕ) (deed : Deed) (a : ℕ) (r : Request) (w : Recorded) (result : Result (Unit {0}) E) → deed ≡ Deeds.Asks a r w →
    OnOk result (Looks old new h number (Asked a r w)) → OnOk result (NotesTold old new units h number (told deed))
asks_noted old new units h number deed a r w result is looks =
    subst (λ (d : Deed). OnOk result (NotesTold old new units h number (told d))) (sym is)
    (on_ok result (Looks old new h number (Asked a r w)) (NotesTold old new units h number (Asks a r w)) (λ l. asked_at old new units h number a r w l) looks)

load_noted : (it : Observer) (units : List Shape) (h : History) (number a : ℕ) (name : List ℕ) (w : Recorded) → NotesTold it it units h number (Loads a name w)
load_noted it units h number a name w begun follows number_is meant means due_is =
    subst (λ (m : Meant). GathersAt begun.filter it (next h m w)) (sym means.2) (loaded begun.filter it h.shapes h.past means.0 follows.gathers)

list_noted : (it : Observer) (units : List Shape) (h : History) (number a : ℕ) (text : List ℕ) (w : Recorded) → NotesTold it it units h number (Lists a text w)
list_noted it units h number a text w begun follows number_is meant means due_is =
    subst (λ (m : Meant). GathersAt begun.filter it (next h m w)) (sym means.2) (listed begun.filter it h.shapes h.past follows.gathers)

pub loads_noted : (it : Observer) (units : List Shape) (h : History) (number : ℕ) (deed : Deed) (a : ℕ) (name : Bor (List ℕ)) (w : Recorded) → deed ≡ Deeds.Loads a name w → NotesTold it it units h number (told deed)
loads_noted it units h number deed a name w is =
    subst (λ (d : Deed). NotesTold it it units h number (told d)) (sym is) (load_noted it units h number a name.now w)

pub lists_noted : (it : Observer) (units : List Shape) (h : History) (number : ℕ) (deed : Deed) (a : ℕ) (text : Bor (List ℕ)) (w : Recorded) → deed ≡ Deeds.Lists a text w → NotesTold it it units h number (told deed)
lists_noted it units h number deed a text w is =
    subst (λ (d : Deed). NotesTold it it units h number (told d)) (sym is) (list_noted it units h number a text.now w)

-- behind the entry the clock is as the host has it
pub then_follows : (old : Observer) (tick : ℕ) (units : List Shape) (after : History) (it : Told) (answer : Answer) → tick ≡ clock after.past → (begun : Observer) →
    Takes (WillHold (GathersAt begun.filter old) units) (Follows begun.filter (record old { tick = tick })) units after it answer
then_follows old tick units after it answer tick_is begun h meant will means answer_is recorded_is after_is =
    let gathers : GathersAt begun.filter old after =
    subst (λ (x : History). GathersAt begun.filter old x) (sym after_is) (will meant means (ap recorded (sym answer_is) ∙ recorded_is)) in
    record {
      gathers = record {
        taken = gathers.taken;
        calls = gathers.calls;
        waits = gathers.waits;
        bodies = gathers.bodies;
        delays = gathers.delays;
        text = gathers.text;
      };
      tick = tick_is;
    }

-- All that is said

abbrev said_of : FilterText → List Shape → List ℕ → ℕ → Tracked → Tracked → Tracked → Tracked → List ℕ
said_of filter shapes text tick lasts waits bodies delays =
    text ++ (lasting_lines filter shapes tick lasts.begun
    ++ (rows (codes "waited") shapes waits.spans ++ (rows (codes "held") shapes bodies.spans ++ rows (codes "late") shapes delays.spans)))

abbrev said : FilterText → List Shape → List ℕ → ℕ → Tracked → Tracked → Tracked → List ℕ
said filter shapes text tick waits bodies delays =
    text ++ (lasting_lines filter shapes tick waits.begun
    ++ (rows (codes "waited") shapes waits.spans ++ (rows (codes "held") shapes bodies.spans ++ rows (codes "late") shapes delays.spans)))

-- a middle observer has the same of what lasts, and the lines of the waits that do behind the text
pub all_said : (f : FilterText) (it middle : Observer) (h : History) (shapes : List Shape) (all : List ℕ) → shapes ≡ h.shapes → Follows f it h → string_bytes middle.text ≡ string_bytes it.text ++ lasting_lines it.filter shapes it.tick it.waits.begun → middle.waits ≡ it.waits →
    middle.bodies ≡ it.bodies → middle.delays ≡ it.delays →
    all ≡ string_bytes middle.text ++ (rows (codes "waited") shapes middle.waits.spans ++ (rows (codes "held") shapes middle.bodies.spans ++ rows (codes "late") shapes middle.delays.spans)) → all ≡ waits_text f h
all_said f it middle h shapes all names follows lines_are waits bodies delays all_is =
    let g = follows.gathers in
    let rest : List ℕ = rows (codes "waited") shapes middle.waits.spans ++ (rows (codes "held") shapes middle.bodies.spans ++ rows (codes "late") shapes middle.delays.spans) in
    all_is ∙ ap (λ (x : List ℕ). x ++ rest) lines_are
    ∙ append_assoc (string_bytes it.text) (lasting_lines it.filter shapes it.tick it.waits.begun) rest
    ∙ ap (λ (x : Tracked). said_of it.filter shapes (string_bytes it.text) it.tick it.waits x middle.bodies middle.delays) waits
    ∙ ap (λ (x : Tracked). said_of it.filter shapes (string_bytes it.text) it.tick it.waits it.waits x middle.delays) bodies
    ∙ ap (λ (x : Tracked). said_of it.filter shapes (string_bytes it.text) it.tick it.waits it.waits it.bodies x) delays
    ∙ ap (λ (x : FilterText). said x shapes (string_bytes it.text) it.tick it.waits it.bodies it.delays) g.taken
    ∙ ap (λ (x : List Shape). said f x (string_bytes it.text) it.tick it.waits it.bodies it.delays) names
    ∙ ap (λ (x : List ℕ). said f h.shapes x it.tick it.waits it.bodies it.delays) g.text
    ∙ ap (λ (x : ℕ). said f h.shapes (waits_in f h.shapes h.past) x it.waits it.bodies it.delays) follows.tick
    ∙ ap (λ (x : Tracked). said f h.shapes (waits_in f h.shapes h.past) (clock h.past) x it.bodies it.delays) g.waits
    ∙ ap (λ (x : Tracked). said f h.shapes (waits_in f h.shapes h.past) (clock h.past) (tracked Waits f h.shapes h.past) x it.delays) g.bodies
    ∙ ap (λ (x : Tracked). said f h.shapes (waits_in f h.shapes h.past) (clock h.past) (tracked Waits f h.shapes h.past) (tracked Bodies f h.shapes h.past) x) g.delays

-- one more that lasts
pub one_lasting : (filter : FilterText) (shapes : List Shape) (tick : ℕ) (begun rest : List Begun) (it : Begun) (text middle new : List ℕ) → 1 ≤ length begun → it ≡ get_or begun 0 it → rest ≡ drop 1 begun →
    middle ≡ text ++ lasting_lines filter shapes tick rest → new ≡ middle ++ lasting_line filter shapes tick it → new ≡ text ++ lasting_lines filter shapes tick begun
one_lasting filter shapes tick [] rest it text middle new le it_is rest_is middle_is new_is = absurd (omega arith)
one_lasting filter shapes tick (b ∷ bs) rest it text middle new le it_is rest_is middle_is new_is =
    new_is ∙ ap (λ (x : List ℕ). x ++ lasting_line filter shapes tick it) middle_is
    ∙ append_assoc text (lasting_lines filter shapes tick rest) (lasting_line filter shapes tick it)
    ∙ ap (λ (x : List Begun). text ++ (lasting_lines filter shapes tick x ++ lasting_line filter shapes tick it)) rest_is
    ∙ ap (λ (x : Begun). text ++ (lasting_lines filter shapes tick bs ++ lasting_line filter shapes tick x)) it_is
