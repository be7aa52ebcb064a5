-- What a run comes to is what its body's text means on what was recorded.
use Rattle.std.proofs.Common.{◌≡◌, ℕ, ℤ, List, [], ◌∷◌, ◌++◌, Bool, true, false, Option, Some, None, inl, inr, refl, sym, ap, ◌∙◌, subst}
use Rattle.std.specs.Prelude.{option_map}
use Rattle.rv_shape.specs.Shape.{Shape}
use Rattle.rv_code.specs.Bodies.{Body, UnitBodies}
use Rattle.rv_event.specs.declared.entry.Answer.{Answer}
use Rattle.rv_event.specs.declared.entry.Exit.{Exit}
use Rattle.rv_event.specs.declared.entry.Request.{Request}
use Rattle.rv_exec.specs.Asking.{Asking, ended, asking, Trace, Along}
use Rattle.rv_exec.specs.Blocks.{operation_run_at}
use Rattle.rv_exec.specs.Bodies.{operation_of}
use Rattle.rv_exec.specs.Calls.{end_with}
use Rattle.rv_ends.specs.Afoot.{Open}
use Rattle.rv_ends.specs.Courses.{IsCourse, IsWeighed}
use Rattle.rv_ends.specs.Explained.{AsksBehind, ByRecorded, Ends, EndsBy, FitsStop, Follows, HasNoText, calls_without_text, end_of_body, held_after, is_stopped_end, is_unasked}
use Rattle.rv_ends.specs.Following.{Place, Plays}
use Rattle.rv_ends.specs.declared.meaning.Course.{Course}
use Rattle.rv_ends.specs.declared.meaning.Course.TheVariants as course
use Rattle.rv_ends.proofs.Sound.{by_recorded, by_stop, comes_to_other, follows_front, true_is_false, winds_up}

-- where a run begins
abbrev pub begin_at : List Shape → Open → Place
begin_at shapes body = record { shapes = shapes; asked = body.asked; held = body.start.held; other = None; is_broken = false }

by_function : (o : Option Body) (is_function : Bool) (end : Exit × List ℤ) → option_map (λ (b : Body). b.is_function) o ≡ Some is_function → end_with is_function end.0 end.1 ≡ end_of_body o end
by_function None is_function end e = absurd cc
by_function (Some body) is_function end e = ap (λ (b : Bool). end_with b end.0 end.1) (sym (same body.is_function is_function e))
  where
    same : (a b : Bool) → Some a ≡ Some b → a ≡ b
    same a b e = cc e

text_there : (o : Option Body) (is_function : Bool) → option_map (λ (b : Body). b.is_function) o ≡ Some is_function → o ≡ None → ⊥
text_there None is_function e none = absurd cc
text_there (Some body) is_function e none = absurd cc

-- Two traces of one text are one, where one follows a front of what was recorded, and the other all of it.

pub record AreOne {A : Type 0} (left : Trace) (one other : A) : Type 0 where
  pub none_left : left ≡ []
  pub same : one ≡ other

one_way : {A : Type 0} (shapes : List Shape) (tree : Asking A) (held : ℕ) (t u front left : Trace) (a b : A) → Along tree t a → Along tree u b → Follows shapes held front t → Follows shapes held (front ++ left) u → AreOne left a b
one_way shapes (ended c) held [] [] front left a b p q f g = record { none_left = ap (λ (l : Trace). l ++ left) (sym f) ∙ g; same = sym p ∙ q }
one_way shapes (ended c) held [] (y ∷ u) front left a b p q f g = absurd q
one_way shapes (ended c) held (x ∷ t) u front left a b p q f g = absurd p
one_way shapes (asking r next) held [] u front left a b p q f g = absurd p
one_way shapes (asking r next) held (x ∷ t) [] front left a b p q f g = absurd q
one_way {A} shapes (asking r next) held (x ∷ t) (y ∷ u) front left a b p q f g =
    by_case (λ k fr along f g. one_way shapes (next x.1) k t u fr left a b p.1 along f g) f g
  where
    same_ask : x.0 ≡ y.0
    same_ask = sym p.0 ∙ q.0

    by_case : ((k : ℕ) (fr : Trace) → Along (next x.1) u b → Follows shapes k fr t → Follows shapes k (fr ++ left) u → AreOne left a b)
        → Follows shapes held front (x ∷ t) → Follows shapes held (front ++ left) (y ∷ u) → AreOne left a b
    by_case on (inl f) (inl g) = on held front (subst (λ (w : Answer). Along (next w) u b) (g.1 ∙ sym f.1) q.1) f.2 g.2
    by_case on (inl f) (inr g) = true_is_false (sym f.0 ∙ ap (λ (r : Request). is_unasked shapes held r) same_ask ∙ g.0)
    by_case on (inr f) (inl g) = true_is_false (sym g.0 ∙ ap (λ (r : Request). is_unasked shapes held r) (sym same_ask) ∙ f.0)
    by_case on (inr f) (inr g) =
        let both : x ∷ (f.1 ++ left) ≡ y ∷ g.1 = ap (λ (l : Trace). l ++ left) (sym f.2) ∙ g.2 in
        let same : x.1 ≡ y.1 = ap (λ (z : Request × Answer). z.1) (head_is x y (f.1 ++ left) g.1 both) in
        on (held_after held x.1) f.1 (subst (λ (w : Answer). Along (next w) u b) (sym same) q.1) f.3
        (subst (λ (l : Trace). Follows shapes (held_after held x.1) l u) (sym (tail_is x y (f.1 ++ left) g.1 both))
        (subst (λ (w : Answer). Follows shapes (held_after held w) g.1 u) (sym same) g.3))
      where
        head_is : (c d : Request × Answer) (xs ys : Trace) → c ∷ xs ≡ d ∷ ys → c ≡ d
        head_is c d xs ys e = cc e

        tail_is : (c d : Request × Answer) (xs ys : Trace) → c ∷ xs ≡ d ∷ ys → xs ≡ ys
        tail_is c d xs ys e = cc e

pub course_is : (bodies : UnitBodies) (shapes : List Shape) (body : Open) (end : Request) (is_function : Bool) (q : Place) (exit : Exit) (left : List ℤ) (trace : Trace) (found : Course)
    → calls_without_text bodies body.asked ≡ false
    → option_map (λ (b : Body). b.is_function) (operation_of bodies body.start.object body.start.operation) ≡ Some is_function
    → Along (operation_run_at bodies body.start.held body.start.object body.start.operation body.start.values body.start.components) trace (exit, left) → Plays (begin_at shapes body) trace q
    → IsWeighed q (end_with is_function exit left) end found → IsCourse bodies shapes body end found
course_is bodies shapes body end is_function q exit left trace found texts code along plays w = by_found found w
  where
    has_text : HasNoText bodies body → ⊥
    has_text (inl none) = text_there (operation_of bodies body.start.object body.start.operation) is_function code none
    has_text (inr calls) = true_is_false (sym calls ∙ texts)

    ends : end_with is_function exit left ≡ end → Ends bodies body.start trace end
    ends e = ((exit, left), along, sym e ∙ by_function (operation_of bodies body.start.object body.start.operation) is_function (exit, left) code)

    ends_so : (request : Request) → request ≡ end_with is_function exit left → Ends bodies body.start trace request
    ends_so request e = ((exit, left), along, e ∙ by_function (operation_of bodies body.start.object body.start.operation) is_function (exit, left) code)

    by_front : {request : Request} → q.other ≡ None → request ≡ end_with is_function exit left → EndsBy bodies shapes body request
    by_front {request} none e =
        let s = follows_front (begin_at shapes body) q trace plays none in
        record { front = s.front; left = q.asked; trace = trace; recorded_is = s.recorded_is; follows = s.follows; ends = ends_so request e }

    not_so : q.other ≡ None → (q.asked ≡ [] → end_with is_function exit left ≡ end → is_stopped_end end ≡ true) → ByRecorded bodies shapes body end → ⊥
    not_so none only r =
        let s = follows_front (begin_at shapes body) q trace plays none in
        let one = one_way shapes (operation_run_at bodies body.start.held body.start.object body.start.operation body.start.values body.start.components) body.start.held trace r.1 s.front q.asked (exit, left) r.3.0 along r.3.1 s.follows
        (subst (λ (l : Trace). Follows shapes body.start.held l r.1) s.recorded_is r.2) in
        let given : end_with is_function exit left ≡ end =
        by_function (operation_of bodies body.start.object body.start.operation) is_function (exit, left) code
        ∙ ap (λ (x : Exit × List ℤ). end_of_body (operation_of bodies body.start.object body.start.operation) x) one.same ∙ sym r.3.2 in
        true_is_false (sym (only one.none_left given) ∙ r.0)

    -- the first other ask; it fits no stop, where the run came to something else
    by_other : (other : Request) → q.other ≡ Some other
        → (asks : AsksBehind bodies shapes body other) × ((q.is_broken ≡ false → q.asked ≡ [] → end_with is_function exit left ≡ end → ⊥) → FitsStop bodies shapes body other asks end → ⊥)
    by_other other is =
        let s = comes_to_other (begin_at shapes body) q trace other refl plays is in (
          record {
            front = s.front;
            left = s.left;
            before = s.before;
            behind = s.behind;
            end = (exit, left);
            recorded_is = s.recorded_is;
            follows = s.follows;
            asks = subst (λ (t : Trace). Along (operation_run_at bodies body.start.held body.start.object body.start.operation body.start.values body.start.components) t (exit, left)) s.trace_is along;
            is_other = s.is_other;
            is_asked = s.is_asked;
          },
          λ only fits.
              let there = winds_up s.at q s.behind other s.at_other s.plays (s.at_left ∙ fits.0) fits.1 fits.2 in
              only (there.0 ∙ s.at_whole) there.1 (by_function (operation_of bodies body.start.object body.start.operation) is_function (exit, left) code ∙ sym fits.3),
        )

    by_found : (f : Course) → IsWeighed q (end_with is_function exit left) end f → IsCourse bodies shapes body end f
    by_found course.Explained w = ((w.3, trace, by_recorded (begin_at shapes body) q trace plays w.0 w.1, ends w.2), has_text)
    by_found course.WithoutText w = absurd w
    by_found (course.Gives request) w = (by_front w.0 w.1, (λ r. not_so w.0 w.2 r), has_text)
    by_found (course.Stops other) w = (trace, by_stop (begin_at shapes body) q trace other refl plays w.0 w.1 w.2, ends w.3, (by_other other w.0).0, has_text)
    by_found (course.Asks request) w = (let o = by_other request w.0 in (o.0, has_text, λ fits. o.1 w.1 fits))
