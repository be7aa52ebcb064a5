-- What is gathered follows a journal.
use Rattle.std.proofs.Common.{◌≡◌, ℕ, suc, List, [], ◌∷◌, ◌++◌, Option, Result, Ok, Err, length, sym, ap, ◌∙◌, subst, append_assoc, append-nil, Bor}
use Rattle.std.specs.Prelude.{OnOk}
use Rattle.rv_shape.specs.Shape.{Shape}
use Rattle.rv_event.specs.Past.{clock, ended, started}
use Rattle.rv_event.specs.Recorded.{recorded}
use Rattle.rv_event.specs.declared.entry.Answer.{Answer}
use Rattle.rv_event.specs.declared.entry.Entry.{Entry}
use Rattle.rv_event.specs.declared.entry.Entry.TheVariants.{Asked, Load, ListChange}
use Rattle.rv_event.specs.declared.entry.Recorded.{Recorded}
use Rattle.rv_event.specs.declared.entry.Request.{Request}
use Rattle.rv_history.specs.History.{History}
use Rattle.rv_history.proofs.Growing.{front_is}
use Rattle.rv_reading.specs.Reads.{told}
use Rattle.rv_reading.specs.Told.{Told, Asks, Loads, Lists}
use Rattle.rv_reading.specs.declared.deed.Deed.{Deed}
use Rattle.rv_reading.specs.declared.deed.Deed.TheVariants as Deeds
use Rattle.rv_audit.specs.Meant.{Meant, next}
use Rattle.rv_audit.specs.Observing.{Notes, Takes}
use Rattle.rv_refused.specs.Filters.{FilterText}
use Rattle.rv_refused.specs.Looking.{WillHold}
use Rattle.rv_lasting.specs.Calls.{KeepsCalls}
use Rattle.rv_lasting.specs.Lasting.{delay_by, waiting_by, woken_by}
use Rattle.rv_lasting.specs.Tracks.{Tracked}
use Rattle.rv_lasting.specs.declared.calls.Calls.{Calls}
use Rattle.rv_lasting.specs.declared.track.Begun.{Begun}
use Rattle.rv_waits.specs.Following.{begun_of, turned}
use Rattle.rv_waits.specs.Lasting.{Waits, Bodies, Delays, freed_by, tracked}
use Rattle.rv_picture.specs.declared.bar.Bar.{Bar}
use Rattle.rv_picture.specs.declared.bar.Kind.{Kind}
use Rattle.rv_picture.specs.declared.bar.Kind.TheVariants as Kinds
use Rattle.rv_picture.specs.declared.bar.Moment.{Moment}
use Rattle.rv_timeline.specs.Following.{Follows, Gathers, Looks, LooksForBodies, LooksForDelays, LooksForRefusal, LooksForWaits, NotesMoment, ended_bar, refused_bar}
use Rattle.rv_timeline.specs.Timelines.{bars_in, drawn_text, lasting_bars, moments_in, timeline_text}
use Rattle.rv_timeline.specs.declared.timeline.Timeline.{Timeline as Observer}
use Rattle.rv_timeline.specs.declared.timeline.Wish.{Wish}

-- One entry

turn_is : (f g : FilterText) (t s : Tracked) (n k : ℕ) (shapes : List Shape) (tick : ℕ) (actor : Option ℕ) (begun : ℕ → Option Begun) → f ≡ g → t ≡ s → n ≡ k → turned f shapes tick actor (begun n) t ≡ turned g shapes tick actor (begun k) s
turn_is f g t s n k shapes tick actor begun a b c =
    ap (λ (x : FilterText). turned x shapes tick actor (begun n) t) a ∙ ap (λ (x : Tracked). turned g shapes tick actor (begun n) x) b
    ∙ ap (λ (x : ℕ). turned g shapes tick actor (begun x) s) c

bar_is : (kind : Kind) (f g : FilterText) (t s : Tracked) (n k : ℕ) (h : History) (actor : Option ℕ) → f ≡ g → t ≡ s → n ≡ k → ended_bar kind f h n actor t ≡ ended_bar kind g h k actor s
bar_is kind f g t s n k h actor a b c =
    ap (λ (x : FilterText). ended_bar kind x h n actor t) a ∙ ap (λ (x : Tracked). ended_bar kind g h n actor x) b
    ∙ ap (λ (x : ℕ). ended_bar kind g h x actor s) c

refusal_is : (f g : FilterText) (n k : ℕ) (h : History) (e : Entry) → f ≡ g → n ≡ k → refused_bar f h n e ≡ refused_bar g h k e
refusal_is f g n k h e a b = ap (λ (x : FilterText). refused_bar x h n e) a ∙ ap (λ (x : ℕ). refused_bar g h x e) b

all_put : (old one two three four w b d r w2 b2 d2 r2 start : List Bar) → one ≡ old ++ w → two ≡ one ++ b → three ≡ two ++ d → four ≡ three ++ r → old ≡ start → w ≡ w2 → b ≡ b2 → d ≡ d2 → r ≡ r2 → four ≡ start ++ (w2 ++ (b2 ++ (d2 ++ r2)))
all_put old one two three four w b d r w2 b2 d2 r2 start e1 e2 e3 e4 s ew eb ed er =
    e4 ∙ ap (λ (x : List Bar). x ++ r) (e3 ∙ ap (λ (x : List Bar). x ++ d) (e2 ∙ ap (λ (x : List Bar). x ++ b) e1))
    ∙ append_assoc ((old ++ w) ++ b) d r ∙ append_assoc (old ++ w) b (d ++ r) ∙ append_assoc old w (b ++ (d ++ r))
    ∙ ap (λ (x : List Bar). x ++ (w ++ (b ++ (d ++ r)))) s ∙ ap (λ (x : List Bar). start ++ (x ++ (b ++ (d ++ r)))) ew
    ∙ ap (λ (x : List Bar). start ++ (w2 ++ (x ++ (d ++ r)))) eb ∙ ap (λ (x : List Bar). start ++ (w2 ++ (b2 ++ (x ++ r)))) ed
    ∙ ap (λ (x : List Bar). start ++ (w2 ++ (b2 ++ (d2 ++ x)))) er

-- with the moment of one more entry
abbrev then_at : List Moment → ℕ → ℕ → List Moment
then_at moments number tick = moments ++ record { number = number; tick = tick } ∷ []

moment_is : (ms ns : List Moment) (number k tick : ℕ) → ms ≡ ns → number ≡ k → then_at ms number tick ≡ then_at ns k tick
moment_is ms ns number k tick a b = ap (λ (x : List Moment). then_at x number tick) a ∙ ap (λ (x : ℕ). then_at ns x tick) b

pub looks_all : (old one two three new : Observer) (h : History) (number a : ℕ) (r : Request) (w : Recorded) → LooksForWaits old one h number (Asked a r w) → LooksForBodies one two h number (Asked a r w) → LooksForDelays two three h number (Asked a r w) →
    LooksForRefusal three new h number (Asked a r w) → Looks old new h number (Asked a r w)
looks_all old one two three new h number a r w waits bodies delays refusal first wish noted gathers number_is =
    let e : Entry = Asked a r w in
    let k = suc (length h.past) in
    let w0 : old.wish ≡ wish = noted.wish ∙ gathers.wished in
    let w1 : one.wish ≡ wish = waits.wish ∙ w0 in
    let w2 : two.wish ≡ wish = bodies.wish ∙ w1 in
    let w3 : three.wish ≡ wish = delays.wish ∙ w2 in
    let filter_of : (it : Observer) → it.wish ≡ wish → it.wish.filter ≡ wish.filter = λ it is. ap (λ (x : Wish). x.filter) is in
    let c0 : KeepsCalls old.calls h.past = subst (λ (c : Calls). KeepsCalls c h.past) (sym noted.calls) gathers.calls in
    let c1 : KeepsCalls one.calls h.past = subst (λ (c : Calls). KeepsCalls c h.past) (sym waits.calls) c0 in
    let c2 : KeepsCalls two.calls h.past = subst (λ (c : Calls). KeepsCalls c h.past) (sym bodies.calls) c1 in
    let c3 : KeepsCalls three.calls h.past = subst (λ (c : Calls). KeepsCalls c h.past) (sym delays.calls) c2 in
    let t0 : old.waits ≡ tracked Waits wish.filter h.shapes h.past = noted.waits ∙ gathers.waits in
    let b1 : one.bodies ≡ tracked Bodies wish.filter h.shapes h.past = waits.bodies ∙ noted.bodies ∙ gathers.bodies in
    let d2 : two.delays ≡ tracked Delays wish.filter h.shapes h.past = bodies.delays ∙ waits.delays ∙ noted.delays ∙ gathers.delays in
    record {
      wished = refusal.wish ∙ w3;
      calls = refusal.calls c3;
      waits = refusal.waits ∙ delays.waits ∙ bodies.waits ∙ waits.waits
          ∙ turn_is old.wish.filter wish.filter old.waits (tracked Waits wish.filter h.shapes h.past) number k h.shapes (clock h.past) (freed_by h.past e) (λ n. begun_of h n (waiting_by e)) (filter_of old w0) t0 number_is;
      bodies = refusal.bodies ∙ delays.bodies ∙ bodies.bodies c1
          ∙ turn_is one.wish.filter wish.filter one.bodies (tracked Bodies wish.filter h.shapes h.past) number k h.shapes (clock h.past) (ended e) (λ n. begun_of h n (started h.shapes h.past e)) (filter_of one w1) b1 number_is;
      delays = refusal.delays ∙ delays.delays
          ∙ turn_is two.wish.filter wish.filter two.delays (tracked Delays wish.filter h.shapes h.past) number k h.shapes (clock h.past) (woken_by e) (λ n. delay_by e n) (filter_of two w2) d2 number_is;
      bars = all_put old.bars.items one.bars.items two.bars.items three.bars.items new.bars.items
          (ended_bar Kinds.Wait old.wish.filter h number (freed_by h.past e) old.waits) (ended_bar Kinds.Body one.wish.filter h number (ended e) one.bodies)
          (ended_bar Kinds.Delay two.wish.filter h number (woken_by e) two.delays) (refused_bar three.wish.filter h number e)
          (ended_bar Kinds.Wait wish.filter h k (freed_by h.past e) (tracked Waits wish.filter h.shapes h.past)) (ended_bar Kinds.Body wish.filter h k (ended e) (tracked Bodies wish.filter h.shapes h.past))
          (ended_bar Kinds.Delay wish.filter h k (woken_by e) (tracked Delays wish.filter h.shapes h.past)) (refused_bar wish.filter h k e) (bars_in wish.filter h.shapes h.past)
          waits.bars bodies.bars delays.bars (refusal.bars c3) (noted.bars ∙ gathers.bars)
          (bar_is Kinds.Wait old.wish.filter wish.filter old.waits (tracked Waits wish.filter h.shapes h.past) number k h (freed_by h.past e) (filter_of old w0) t0 number_is)
          (bar_is Kinds.Body one.wish.filter wish.filter one.bodies (tracked Bodies wish.filter h.shapes h.past) number k h (ended e) (filter_of one w1) b1 number_is)
          (bar_is Kinds.Delay two.wish.filter wish.filter two.delays (tracked Delays wish.filter h.shapes h.past) number k h (woken_by e) (filter_of two w2) d2 number_is)
          (refusal_is three.wish.filter wish.filter number k h e (filter_of three w3) number_is);
      moments = refusal.moments ∙ delays.moments ∙ bodies.moments ∙ waits.moments ∙ noted.moments
          ∙ moment_is first.moments.items (moments_in h.past) number k (clock h.past) gathers.moments number_is;
    }

-- a load and a list leave what is gathered, but for the moment

loaded : (wish : Wish) (old new : Observer) (shapes : List Shape) (past : List Entry) (unit : Shape) (number : ℕ) → NotesMoment old new number (clock past) → number ≡ suc (length past) → Gathers wish old shapes past → Gathers wish new (shapes ++ unit ∷ []) (Load ∷ past)
loaded wish old new shapes past unit number noted number_is gathers = record {
  wished = noted.wish ∙ gathers.wished;
  calls = subst (λ (c : Calls). KeepsCalls c past) (sym noted.calls) gathers.calls;
  waits = noted.waits ∙ gathers.waits ∙ sym (ap (λ (ss : List Shape). tracked Waits wish.filter ss past) (front_is shapes unit));
  bodies = noted.bodies ∙ gathers.bodies ∙ sym (ap (λ (ss : List Shape). tracked Bodies wish.filter ss past) (front_is shapes unit));
  delays = noted.delays ∙ gathers.delays ∙ sym (ap (λ (ss : List Shape). tracked Delays wish.filter ss past) (front_is shapes unit));
  bars = noted.bars ∙ gathers.bars ∙ sym (append-nil (bars_in wish.filter shapes past)) ∙ sym (ap (λ (ss : List Shape). bars_in wish.filter ss past ++ []) (front_is shapes unit));
  moments = noted.moments ∙ moment_is old.moments.items (moments_in past) number (suc (length past)) (clock past) gathers.moments number_is;
}

listed : (wish : Wish) (old new : Observer) (shapes : List Shape) (past : List Entry) (number : ℕ) → NotesMoment old new number (clock past) → number ≡ suc (length past) → Gathers wish old shapes past → Gathers wish new shapes (ListChange ∷ past)
listed wish old new shapes past number noted number_is gathers = record {
  wished = noted.wish ∙ gathers.wished;
  calls = subst (λ (c : Calls). KeepsCalls c past) (sym noted.calls) gathers.calls;
  waits = noted.waits ∙ gathers.waits;
  bodies = noted.bodies ∙ gathers.bodies;
  delays = noted.delays ∙ gathers.delays;
  bars = noted.bars ∙ gathers.bars ∙ sym (append-nil (bars_in wish.filter shapes past));
  moments = noted.moments ∙ moment_is old.moments.items (moments_in past) number (suc (length past)) (clock past) gathers.moments number_is;
}

-- What a line tells

abbrev pub GathersAt : Wish → Observer → History → Type 0
GathersAt wish it h = Gathers wish it h.shapes h.past

abbrev pub NotesTold : Observer → Observer → List Shape → History → ℕ → Told → Type 0
NotesTold old new units h number it =
    (begun : Observer) → Notes (Follows begun.wish old) (WillHold (GathersAt begun.wish new) units) h number it

asked_at : (first old new : Observer) (units : List Shape) (h : History) (number a : ℕ) (r : Request) (w : Recorded) → NotesMoment first old number (clock h.past) → Looks old new h number (Asked a r w) → NotesTold first new units h number (Asks a r w)
asked_at first old new units h number a r w noted looks begun follows number_is meant means due_is =
    subst (λ (m : Meant). GathersAt begun.wish new (next h m w)) (sym means) (looks first begun.wish noted follows.gathers number_is)

on_ok : {A E : Type 0} (r : Result A E) (X Y : Type 0) → (X → Y) → OnOk r X → OnOk r Y
on_ok (Ok a) X Y f x = f x
on_ok (Err e) X Y f x = x

pub asks_noted : {E : Type 0} (first old new : Observer) (units : List Shape) (h : History) (number : ℕ) (deed : Deed) (a : ℕ) (r : Request) (w : Recorded) (result : Result (Unit {0}) E) → deed ≡ Deeds.Asks a r w → NotesMoment first old number (clock h.past) →
    OnOk result (Looks old new h number (Asked a r w)) → OnOk result (NotesTold first new units h number (told deed))
asks_noted first old new units h number deed a r w result is noted looks =
    subst (λ (d : Deed). OnOk result (NotesTold first new units h number (told d))) (sym is)
    (on_ok result (Looks old new h number (Asked a r w)) (NotesTold first new units h number (Asks a r w)) (λ l. asked_at first old new units h number a r w noted l) looks)

load_noted : (old new : Observer) (units : List Shape) (h : History) (number a : ℕ) (name : List ℕ) (w : Recorded) → NotesMoment old new number (clock h.past) → NotesTold old new units h number (Loads a name w)
load_noted old new units h number a name w noted begun follows number_is meant means due_is =
    subst (λ (m : Meant). GathersAt begun.wish new (next h m w)) (sym means.2) (loaded begun.wish old new h.shapes h.past means.0 number noted number_is follows.gathers)

list_noted : (old new : Observer) (units : List Shape) (h : History) (number a : ℕ) (text : List ℕ) (w : Recorded) → NotesMoment old new number (clock h.past) → NotesTold old new units h number (Lists a text w)
list_noted old new units h number a text w noted begun follows number_is meant means due_is =
    subst (λ (m : Meant). GathersAt begun.wish new (next h m w)) (sym means.2) (listed begun.wish old new h.shapes h.past number noted number_is follows.gathers)

pub loads_noted : (old new : Observer) (units : List Shape) (h : History) (number : ℕ) (deed : Deed) (a : ℕ) (name : Bor (List ℕ)) (w : Recorded) → deed ≡ Deeds.Loads a name w → NotesMoment old new number (clock h.past) → NotesTold old new units h number (told deed)
loads_noted old new units h number deed a name w is noted =
    subst (λ (d : Deed). NotesTold old new units h number (told d)) (sym is) (load_noted old new units h number a name.now w noted)

pub lists_noted : (old new : Observer) (units : List Shape) (h : History) (number : ℕ) (deed : Deed) (a : ℕ) (text : Bor (List ℕ)) (w : Recorded) → deed ≡ Deeds.Lists a text w → NotesMoment old new number (clock h.past) → NotesTold old new units h number (told deed)
lists_noted old new units h number deed a text w is noted =
    subst (λ (d : Deed). NotesTold old new units h number (told d)) (sym is) (list_noted old new units h number a text.now w noted)

-- behind the entry the clock is as the host has it
pub then_follows : (old : Observer) (tick : ℕ) (units : List Shape) (after : History) (it : Told) (answer : Answer) → tick ≡ clock after.past → (begun : Observer) →
    Takes (WillHold (GathersAt begun.wish old) units) (Follows begun.wish (record old { tick = tick })) units after it answer
then_follows old tick units after it answer tick_is begun h meant will means answer_is recorded_is after_is =
    let gathers : GathersAt begun.wish old after =
    subst (λ (x : History). GathersAt begun.wish old x) (sym after_is) (will meant means (ap recorded (sym answer_is) ∙ recorded_is)) in
    record {
      gathers = record {
        wished = gathers.wished;
        calls = gathers.calls;
        waits = gathers.waits;
        bodies = gathers.bodies;
        delays = gathers.delays;
        bars = gathers.bars;
        moments = gathers.moments;
      };
      tick = tick_is;
    }

-- All that is shown

abbrev lasting_all : Wish → List Shape → ℕ → Tracked → Tracked → Tracked → List Bar
lasting_all wish shapes tick waits bodies delays =
    lasting_bars Kinds.Wait wish.filter shapes tick waits.begun
    ++ (lasting_bars Kinds.Body wish.filter shapes tick bodies.begun ++ lasting_bars Kinds.Delay wish.filter shapes tick delays.begun)

abbrev shown : Wish → List Shape → List Moment → List Bar → List ℕ
shown wish shapes moments bars = drawn_text wish.form wish.frame shapes moments bars

-- a middle observer has the bars of what lasts behind the others
bars_are : (wish : Wish) (it middle : Observer) (h : History) (shapes : List Shape) → shapes ≡ h.shapes → Follows wish it h → middle.bars.items ≡ it.bars.items ++ lasting_all it.wish shapes it.tick it.waits it.bodies it.delays →
    middle.bars.items ≡ bars_in wish.filter h.shapes h.past ++ lasting_all wish h.shapes (clock h.past) (tracked Waits wish.filter h.shapes h.past) (tracked Bodies wish.filter h.shapes h.past) (tracked Delays wish.filter h.shapes h.past)
bars_are wish it middle h shapes names follows bars =
    let g = follows.gathers in
    bars ∙ ap (λ (x : Wish). it.bars.items ++ lasting_all x shapes it.tick it.waits it.bodies it.delays) g.wished
    ∙ ap (λ (x : List Shape). it.bars.items ++ lasting_all wish x it.tick it.waits it.bodies it.delays) names
    ∙ ap (λ (x : List Bar). x ++ lasting_all wish h.shapes it.tick it.waits it.bodies it.delays) g.bars
    ∙ ap (λ (x : ℕ). bars_in wish.filter h.shapes h.past ++ lasting_all wish h.shapes x it.waits it.bodies it.delays) follows.tick
    ∙ ap (λ (x : Tracked). bars_in wish.filter h.shapes h.past ++ lasting_all wish h.shapes (clock h.past) x it.bodies it.delays) g.waits
    ∙ ap (λ (x : Tracked). bars_in wish.filter h.shapes h.past ++ lasting_all wish h.shapes (clock h.past) (tracked Waits wish.filter h.shapes h.past) x it.delays) g.bodies
    ∙ ap (λ (x : Tracked). bars_in wish.filter h.shapes h.past ++ lasting_all wish h.shapes (clock h.past) (tracked Waits wish.filter h.shapes h.past) (tracked Bodies wish.filter h.shapes h.past) x) g.delays

pub all_shown : (wish : Wish) (it middle : Observer) (h : History) (shapes : List Shape) (moments : List Moment) (bars : List Bar) → shapes ≡ h.shapes → Follows wish it h → middle.bars.items ≡ it.bars.items ++ lasting_all it.wish shapes it.tick it.waits it.bodies it.delays →
    middle.wish ≡ it.wish → middle.moments.items ≡ it.moments.items → moments ≡ middle.moments.items → bars ≡ middle.bars.items → drawn_text middle.wish.form middle.wish.frame shapes moments bars ≡ timeline_text wish h
all_shown wish it middle h shapes moments bars names follows middle_bars middle_wish middle_moments moments_is bars_is =
    let g = follows.gathers in
    let all = bars_is ∙ bars_are wish it middle h shapes names follows middle_bars in
    let scale = moments_is ∙ middle_moments ∙ g.moments in
    ap (λ (x : Wish). shown x shapes moments bars) (middle_wish ∙ g.wished) ∙ ap (λ (x : List Shape). shown wish x moments bars) names
    ∙ ap (λ (x : List Moment). shown wish h.shapes x bars) scale ∙ ap (λ (x : List Bar). shown wish h.shapes (moments_in h.past) x) all
