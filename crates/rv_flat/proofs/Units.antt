-- Lists of what stands in a table.
use Rattle.std.proofs.Common.{◌≡◌, refl, ap, sym, ◌∙◌, subst, arith, ℕ, zero, suc, ◌+◌, ◌≤◌, ◌<◌, List, [], ◌∷◌, ◌++◌, length, map, take, get_or, Option, Some, None}
use Rattle.std.proofs.Math.Seq.{take-suc}
use Rattle.std.specs.Prelude.{slice_get}
use Rattle.std.specs.Option.{option_map}
use Rattle.std.proofs.lemmas.List.{map-append, append_assoc, append-nil}
use Rattle.std.proofs.lemmas.Option.{slice_get-map}
use Rattle.rv_code.specs.Bodies as t
use Rattle.rv_flat.specs.declared.body.FlatBody.{FlatBody}
use Rattle.rv_flat.specs.declared.unit.FlatObject.{FlatObject}
use Rattle.rv_flat.specs.FlatView.{IsAmong, body_in, BodyStands}
use Rattle.rv_code.specs.declared.body.ObjectBodies.{ObjectBodies}
use Rattle.rv_code.specs.BodyView.{list_at, listed, object_view}
use Rattle.rv_flat.specs.FlatUnits.{Standing, Every, IsObjectAmong, IsTaskAmong, listed_in, object_in, task_in}
use Rattle.rv_flat.specs.Trees.{Tree, tree_at, as_declarations, as_statements, as_handlers}

-- what stands in a table stands behind more, too
pub record Lasting {F X : Type 0} (IsIn : ℕ → F → Type 0) (view : List Tree → F → X) : Type 0 where
  pub kept : (b c : List Tree) (f : F) → ((k : ℕ) → k ≤ length b → tree_at c k ≡ tree_at b k) → IsIn (length b) f → view c f ≡ view b f
  pub weaker : (n m : ℕ) (f : F) → n ≤ m → IsIn n f → IsIn m f

body_kept : (b c : List Tree) (f : FlatBody) → ((k : ℕ) → k ≤ length b → tree_at c k ≡ tree_at b k) → IsAmong (length b) f → body_in c f ≡ body_in b f
body_kept b c f same h = λ i. record {
  parameters = f.parameters.items;
  is_function = f.is_function;
  declarations = as_declarations (same f.declarations h.0 i);
  statements = as_statements (same f.statements h.1 i);
  handlers = as_handlers (same f.handlers h.2 i);
}

body_weaker : (n m : ℕ) (f : FlatBody) → n ≤ m → IsAmong n f → IsAmong m f
body_weaker n m f le h = let p = h.0 in let q = h.1 in let r = h.2 in (omega (arith, le, p), omega (arith, le, q), omega (arith, le, r))

pub body_lasts : Lasting IsAmong body_in
body_lasts = record { kept = body_kept; weaker = body_weaker }

each_kept : {F X : Type 0} (IsIn : ℕ → F → Type 0) (view : List Tree → F → X) → Lasting IsIn view → (b c : List Tree) (fs : List F) → ((k : ℕ) → k ≤ length b → tree_at c k ≡ tree_at b k) → Every (IsIn (length b)) fs → map (view c) fs ≡ map (view b) fs
each_kept IsIn view l b c [] same h = refl
each_kept IsIn view l b c (f ∷ fs) same h = λ i. l.kept b c f same h.0 i ∷ each_kept IsIn view l b c fs same h.1 i

each_weaker : {F X : Type 0} (IsIn : ℕ → F → Type 0) (view : List Tree → F → X) → Lasting IsIn view → (n m : ℕ) (fs : List F) → n ≤ m → Every (IsIn n) fs → Every (IsIn m) fs
each_weaker IsIn view l n m [] le h = tt
each_weaker IsIn view l n m (f ∷ fs) le h = (l.weaker n m f le h.0, each_weaker IsIn view l n m fs le h.1)

pub list_lasts : {F X : Type 0} (IsIn : ℕ → F → Type 0) (view : List Tree → F → X) → Lasting IsIn view → Lasting (λ n. Every (IsIn n)) (λ ts. map (view ts))
list_lasts IsIn view l = record { kept = each_kept IsIn view l; weaker = each_weaker IsIn view l }

pub object_lasts : Lasting IsObjectAmong object_in
object_lasts = record {
  kept = λ b c o same h. each_kept IsAmong body_in body_lasts b c o.operations.items same h;
  weaker = λ n m o le h. each_weaker IsAmong body_in body_lasts n m o.operations.items le h;
}

task_kept : (b c : List Tree) (f : Option FlatBody) → ((k : ℕ) → k ≤ length b → tree_at c k ≡ tree_at b k) → IsTaskAmong (length b) f → task_in c f ≡ task_in b f
task_kept b c None same h = refl
task_kept b c (Some f) same h = ap Some (body_kept b c f same h)

task_weaker : (n m : ℕ) (f : Option FlatBody) → n ≤ m → IsTaskAmong n f → IsTaskAmong m f
task_weaker n m None le h = tt
task_weaker n m (Some f) le h = body_weaker n m f le h

pub task_lasts : Lasting IsTaskAmong task_in
task_lasts = record { kept = task_kept; weaker = task_weaker }

pub body_stands : (before after : List Tree) (f : FlatBody) (x : t.Body) → BodyStands before after f x → Standing IsAmong body_in before after f x
body_stands before after f x h = record { longer = h.longer; same = h.same; within = h.within; is = h.is }

every_more : {F : Type 0} (P : F → Type 0) (fs : List F) (f : F) → Every P fs → P f → Every P (fs ++ f ∷ [])
every_more P [] f h p = (p, tt)
every_more P (g ∷ fs) f h p = (h.0, every_more P fs f h.1 p)

pub standing_none : {F X : Type 0} (IsIn : ℕ → F → Type 0) (view : List Tree → F → X) (ts : List Tree) → Standing (λ n. Every (IsIn n)) (λ us. map (view us)) ts ts [] []
standing_none IsIn view ts = record { longer = omega arith; same = λ c le. refl; within = tt; is = refl }

-- what stood stands behind more, and what stands behind more stands behind all
pub standing_kept : {F X G Y : Type 0} (IsIn : ℕ → F → Type 0) (view : List Tree → F → X) (IsOf : ℕ → G → Type 0) (other : List Tree → G → Y) (a b c : List Tree) (f : F) (x : X) (g : G) (y : Y) → Lasting IsIn view → Standing IsIn view a b f x → Standing IsOf other b c g y → Standing IsIn view a c f x
standing_kept IsIn view IsOf other a b c f x g y l h k =
    let p = h.longer in let q = k.longer in
    record {
      longer = omega (arith, p, q);
      same = λ n le. k.same n (omega (arith, le, p)) ∙ h.same n le;
      within = l.weaker (length b) (length c) f q h.within;
      is = l.kept b c f k.same h.within ∙ h.is;
    }

pub standing_more : {F X : Type 0} (IsIn : ℕ → F → Type 0) (view : List Tree → F → X) (a b c : List Tree) (fs : List F) (xs : List X) (f : F) (x : X) → Lasting IsIn view → Standing (λ n. Every (IsIn n)) (λ us. map (view us)) a b fs xs → Standing IsIn view b c f x → Standing (λ n. Every (IsIn n)) (λ us. map (view us)) a c (fs ++ f ∷ []) (xs ++ x ∷ [])
standing_more IsIn view a b c fs xs f x l h k =
    let q = k.longer in
    let kept = standing_kept (λ n. Every (IsIn n)) (λ us. map (view us)) IsIn view a b c fs xs f x (list_lasts IsIn view l) h k in
    record {
      longer = kept.longer;
      same = kept.same;
      within = every_more (IsIn (length c)) fs f kept.within k.within;
      is = map-append (view c) fs (f ∷ []) ∙ (λ i. kept.is i ++ k.is i ∷ []);
    }

-- the same, along a list of what is added
pub standing_next : {R F X : Type 0} (IsIn : ℕ → F → Type 0) (view : List Tree → F → X) (of : R → X) (a b c : List Tree) (fs gs : List F) (rs : List R) (i : ℕ) (r : R) (f : F) → Lasting IsIn view → i < length rs → r ≡ get_or rs i r → gs ≡ fs ++ f ∷ [] → Standing (λ n. Every (IsIn n)) (λ us. map (view us)) a b fs (map of (take i rs)) → Standing IsIn view b c f (of r) → Standing (λ n. Every (IsIn n)) (λ us. map (view us)) a c gs (map of (take (i + 1) rs))
standing_next IsIn view of a b c fs gs rs i r f l lt at is h k =
    let e : i + 1 ≡ suc i = omega arith in
    let taken : take (i + 1) rs ≡ take i rs ++ r ∷ [] =
    ap (λ n. take n rs) e ∙ (take-suc rs i r lt ∙ ap (λ z. take i rs ++ z ∷ []) (sym at)) in
    let mapped : map of (take (i + 1) rs) ≡ map of (take i rs) ++ of r ∷ [] =
    ap (map of) taken ∙ map-append of (take i rs) (r ∷ []) in
    subst (λ z. Standing (λ n. Every (IsIn n)) (λ us. map (view us)) a c gs z) (sym mapped)
    (subst (λ z. Standing (λ n. Every (IsIn n)) (λ us. map (view us)) a c z (map of (take i rs) ++ of r ∷ [])) (sym is)
    (standing_more IsIn view a b c fs (map of (take i rs)) f (of r) l h k))

-- none of the list is added yet, and all of it is
pub standing_first : {R F X : Type 0} (IsIn : ℕ → F → Type 0) (view : List Tree → F → X) (of : R → X) (ts : List Tree) (fs : List F) (rs : List R) → fs ≡ [] → Standing (λ n. Every (IsIn n)) (λ us. map (view us)) ts ts fs (map of (take 0 rs))
standing_first IsIn view of ts fs rs is =
    subst (λ z. Standing (λ n. Every (IsIn n)) (λ us. map (view us)) ts ts z []) (sym is) (standing_none IsIn view ts)

take_all : {R : Type 0} (rs : List R) (i : ℕ) → length rs ≤ i → take i rs ≡ rs
take_all [] zero le = refl
take_all [] (suc i) le = refl
take_all (r ∷ rs) zero le = absurd (omega (arith, le))
take_all (r ∷ rs) (suc i) le = ap (λ z. r ∷ z) (take_all rs i (omega (arith, le)))

pub standing_all : {R F X : Type 0} (IsIn : ℕ → F → Type 0) (view : List Tree → F → X) (of : R → X) (a b : List Tree) (fs : List F) (rs : List R) (i : ℕ) → length rs ≤ i → Standing (λ n. Every (IsIn n)) (λ us. map (view us)) a b fs (map of (take i rs)) → Standing (λ n. Every (IsIn n)) (λ us. map (view us)) a b fs (map of rs)
standing_all IsIn view of a b fs rs i le h = subst (λ z. Standing (λ n. Every (IsIn n)) (λ us. map (view us)) a b fs (map of z)) (take_all rs i le) h

-- the same, behind others that stand
pub standing_behind : {R F X : Type 0} (IsIn : ℕ → F → Type 0) (view : List Tree → F → X) (of : R → X) (a b c : List Tree) (fs gs : List F) (rs : List R) (i : ℕ) (r : R) (f : F) (xs : List X) → Lasting IsIn view → i < length rs → r ≡ get_or rs i r → gs ≡ fs ++ f ∷ [] → Standing (λ n. Every (IsIn n)) (λ us. map (view us)) a b fs (xs ++ map of (take i rs)) → Standing IsIn view b c f (of r) → Standing (λ n. Every (IsIn n)) (λ us. map (view us)) a c gs (xs ++ map of (take (i + 1) rs))
standing_behind IsIn view of a b c fs gs rs i r f xs l lt at is h k =
    let e : i + 1 ≡ suc i = omega arith in
    let taken : take (i + 1) rs ≡ take i rs ++ r ∷ [] =
    ap (λ n. take n rs) e ∙ (take-suc rs i r lt ∙ ap (λ z. take i rs ++ z ∷ []) (sym at)) in
    let mapped : xs ++ map of (take (i + 1) rs) ≡ xs ++ map of (take i rs) ++ of r ∷ [] =
    ap (λ z. xs ++ map of z) taken ∙ (ap (λ z. xs ++ z) (map-append of (take i rs) (r ∷ [])) ∙ sym (append_assoc xs (map of (take i rs)) (of r ∷ []))) in
    subst (λ z. Standing (λ n. Every (IsIn n)) (λ us. map (view us)) a c gs z) (sym mapped)
    (subst (λ z. Standing (λ n. Every (IsIn n)) (λ us. map (view us)) a c z (xs ++ map of (take i rs) ++ of r ∷ [])) (sym is)
    (standing_more IsIn view a b c fs (xs ++ map of (take i rs)) f (of r) l h k))

pub standing_start : {R F X : Type 0} (IsIn : ℕ → F → Type 0) (view : List Tree → F → X) (of : R → X) (a b : List Tree) (fs : List F) (rs : List R) (xs : List X) → Standing (λ n. Every (IsIn n)) (λ us. map (view us)) a b fs xs → Standing (λ n. Every (IsIn n)) (λ us. map (view us)) a b fs (xs ++ map of (take 0 rs))
standing_start IsIn view of a b fs rs xs h = subst (λ z. Standing (λ n. Every (IsIn n)) (λ us. map (view us)) a b fs z) (sym (append-nil xs)) h

pub standing_end : {R F X : Type 0} (IsIn : ℕ → F → Type 0) (view : List Tree → F → X) (of : R → X) (a b : List Tree) (fs : List F) (rs : List R) (i : ℕ) (xs : List X) → length rs ≤ i → Standing (λ n. Every (IsIn n)) (λ us. map (view us)) a b fs (xs ++ map of (take i rs)) → Standing (λ n. Every (IsIn n)) (λ us. map (view us)) a b fs (xs ++ map of rs)
standing_end IsIn view of a b fs rs i xs le h = subst (λ z. Standing (λ n. Every (IsIn n)) (λ us. map (view us)) a b fs (xs ++ map of z)) (take_all rs i le) h

-- nothing stands anywhere
pub standing_empty : {F X : Type 0} (IsIn : ℕ → F → Type 0) (view : List Tree → F → X) (ts : List Tree) (fs : List F) → fs ≡ [] → Standing (λ n. Every (IsIn n)) (λ us. map (view us)) ts ts fs []
standing_empty IsIn view ts fs is = subst (λ z. Standing (λ n. Every (IsIn n)) (λ us. map (view us)) ts ts z []) (sym is) (standing_none IsIn view ts)

-- an object by the bodies of its operations
pub object_stands : (a b : List Tree) (o : FlatObject) (xs : List t.Body) → Standing (λ n. Every (IsAmong n)) (λ us. map (body_in us)) a b o.operations.items xs → Standing IsObjectAmong object_in a b o xs
object_stands a b o xs h = record { longer = h.longer; same = h.same; within = h.within; is = h.is }

pub task_stands : (a b : List Tree) (f : FlatBody) (x : t.Body) → BodyStands a b f x → Standing IsTaskAmong task_in a b (Some f) (Some x)
task_stands a b f x h = record { longer = h.longer; same = h.same; within = h.within; is = ap Some h.is }

pub no_task_stands : (a : List Tree) → Standing IsTaskAmong task_in a a None None
no_task_stands a = record { longer = omega arith; same = λ c le. refl; within = tt; is = refl }

-- Lists that objects share

abbrev or_none : Option (List t.Body) → List t.Body
or_none None = []
or_none (Some xs) = xs

pub list_is : (ts : List Tree) (fs : List FlatObject) (ls : List ObjectBodies) (n : ℕ) → map (object_in ts) fs ≡ map object_view ls → listed_in ts (slice_get fs n) ≡ list_at ls n
list_is ts fs ls n is =
    flat_or (slice_get fs n)
    ∙ (ap or_none (sym (slice_get-map (object_in ts) fs n))
    ∙ (ap (λ z. or_none (slice_get z n)) is
    ∙ (ap or_none (slice_get-map object_view ls n) ∙ code_or (slice_get ls n)))) where
      flat_or : (o : Option FlatObject) → listed_in ts o ≡ or_none (option_map (object_in ts) o)
      flat_or None = refl
      flat_or (Some o) = refl

      code_or : (o : Option ObjectBodies) → or_none (option_map object_view o) ≡ listed o
      code_or None = refl
      code_or (Some o) = refl

-- a copy of a list stands where the list does
pub copy_stands : (a ts : List Tree) (fs : List FlatObject) (ls : List ObjectBodies) (n : ℕ) (f : FlatObject)
    → Standing (λ k. Every (IsObjectAmong k)) (λ us. map (object_in us)) a ts fs (map object_view ls)
    → ((us : List Tree) → object_in us f ≡ listed_in us (slice_get fs n)) → ((k : ℕ) → Every (IsObjectAmong k) fs → IsObjectAmong k f)
    → Standing IsObjectAmong object_in ts ts f (list_at ls n)
copy_stands a ts fs ls n f h bodies among = record {
  longer = omega arith;
  same = λ c le. refl;
  within = among (length ts) h.within;
  is = bodies ts ∙ list_is ts fs ls n h.is;
}

pub every_get : {F : Type 0} (P : F → Type 0) (fs : List F) (n : ℕ) (f : F) → n < length fs → f ≡ get_or fs n f → Every P fs → P f
every_get P [] n f lt at h = absurd (omega (arith, lt))
every_get P (g ∷ fs) zero f lt at h = subst P (sym at) h.0
every_get P (g ∷ fs) (suc n) f lt at h = every_get P fs n f (omega (arith, lt)) at h.1

-- one more is copied
pub copied_bodies : (ts : List Tree) (cs ds fs : List FlatBody) (i : ℕ) (f d : FlatBody) → i < length fs → f ≡ get_or fs i f → ds ≡ cs ++ d ∷ []
    → map (body_in ts) cs ≡ map (body_in ts) (take i fs) → body_in ts d ≡ body_in ts f → map (body_in ts) ds ≡ map (body_in ts) (take (i + 1) fs)
copied_bodies ts cs ds fs i f d lt at is before here =
    let e : i + 1 ≡ suc i = omega arith in
    let taken : take (i + 1) fs ≡ take i fs ++ f ∷ [] =
    ap (λ n. take n fs) e ∙ (take-suc fs i f lt ∙ ap (λ z. take i fs ++ z ∷ []) (sym at)) in
    ap (map (body_in ts)) is
    ∙ (map-append (body_in ts) cs (d ∷ [])
    ∙ ((λ j. before j ++ here j ∷ [])
    ∙ (sym (map-append (body_in ts) (take i fs) (f ∷ [])) ∙ ap (map (body_in ts)) (sym taken))))

pub copied_among : (n : ℕ) (cs ds fs : List FlatBody) (i : ℕ) (f d : FlatBody) → i < length fs → f ≡ get_or fs i f → ds ≡ cs ++ d ∷ []
    → (Every (IsAmong n) fs → Every (IsAmong n) cs) → (IsAmong n f → IsAmong n d) → Every (IsAmong n) fs → Every (IsAmong n) ds
copied_among n cs ds fs i f d lt at is before here all =
    subst (Every (IsAmong n)) (sym is) (every_more (IsAmong n) cs d (before all) (here (every_get (IsAmong n) fs i f lt at all)))

pub copied_all : (ts : List Tree) (cs fs : List FlatBody) (i : ℕ) → length fs ≤ i → map (body_in ts) cs ≡ map (body_in ts) (take i fs) → map (body_in ts) cs ≡ map (body_in ts) fs
copied_all ts cs fs i le h = h ∙ ap (map (body_in ts)) (take_all fs i le)
