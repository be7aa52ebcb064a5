-- The list that is kept is the one in force.
use Rattle.std.proofs.Common.{◌≡◌, ◌+◌, ◌++◌, ℕ, suc, Bool, true, List, [], Option, length, ap, ◌∙◌, sym, subst, append_assoc, arith, Bor, if◌then◌else◌}
use Rattle.rv_access.specs.Words.{Words}
use Rattle.rv_shape.specs.Catalogue.{Target, all_objects, target}
use Rattle.rv_shape.specs.Shape.{Shape}
use Rattle.rv_event.specs.declared.entry.Recorded.{Recorded}
use Rattle.rv_event.specs.declared.entry.Request.{Request}
use Rattle.rv_history.specs.History.{History, force}
use Rattle.rv_reading.specs.Reads.{told}
use Rattle.rv_reading.specs.declared.deed.Deed.{Deed}
use Rattle.rv_reading.specs.declared.deed.Deed.TheVariants as Deeds
use Rattle.rv_audit.specs.Meant.{Meant, Means, answer_in, next}
use Rattle.rv_rights.specs.Following.{Follows}
use Rattle.rv_rights.specs.Rights.{WishText, call_of, grants_of, or_no_text, rights_at, rights_below, rights_of, rights_on, rights_text, takes_unit, tells_none}
use Rattle.rv_rights.specs.declared.rights.Rights.{Rights}

pub asked_keeps : (units : List Shape) (h k : History) (deed : Deed) (a : ℕ) (r : Request) (w : Recorded) (meant : Meant) → deed ≡ Deeds.Asks a r w → Means units (told deed) meant → k ≡ next h meant (answer_in (told deed)) → force k ≡ force h
asked_keeps units h k deed a r w meant is means after =
    let means_is = subst (λ (d : Deed). Means units (told d) meant) is means in
    ap force after ∙ ap (λ (m : Meant). force (next h m (answer_in (told deed)))) means_is

pub load_keeps : (units : List Shape) (h k : History) (deed : Deed) (a : ℕ) (name : Bor (List ℕ)) (w : Recorded) (meant : Meant) → deed ≡ Deeds.Loads a name w → Means units (told deed) meant → k ≡ next h meant (answer_in (told deed)) → force k ≡ force h
load_keeps units h k deed a name w meant is means after =
    let means_is = subst (λ (d : Deed). Means units (told d) meant) is means in
    ap force after ∙ ap (λ (m : Meant). force (next h m (answer_in (told deed)))) means_is.2

pub all_listed : (wish : WishText) (other : Option (List Words)) (it : Rights) (h : History) (shapes : List Shape) (middle text : List ℕ) (b : Bool) → shapes ≡ h.shapes → Follows wish other it h →
    middle ≡ rights_below it.wish it.list it.other shapes (length (all_objects shapes)) → b ≡ tells_none it.wish it.other → text ≡ (if b then or_no_text middle else middle) → text ≡ rights_text wish other h
all_listed wish other it h shapes middle text b names follows middle_is b_is text_is =
    let all : List ℕ = rights_below wish (force h) other h.shapes (length (all_objects h.shapes)) in
    text_is ∙ ap (λ (x : Bool). if x then or_no_text middle else middle) b_is
    ∙ ap (λ (t : List ℕ). if tells_none it.wish it.other then or_no_text t else t)
    (middle_is ∙ ap (λ (w : WishText). rights_below w it.list it.other shapes (length (all_objects shapes))) follows.taken
    ∙ ap (λ (l : List Words). rights_below wish l it.other shapes (length (all_objects shapes))) follows.list
    ∙ ap (λ (o : Option (List Words)). rights_below wish (force h) o shapes (length (all_objects shapes))) follows.other
    ∙ ap (λ (ss : List Shape). rights_below wish (force h) other ss (length (all_objects ss))) names)
    ∙ ap (λ (w : WishText). if tells_none w it.other then or_no_text all else all) follows.taken
    ∙ ap (λ (o : Option (List Words)). if tells_none wish o then or_no_text all else all) follows.other

-- one more operation
pub one_operation : (wish : WishText) (list : List Words) (other : Option (List Words)) (shapes given : List Shape) (object operation : ℕ) (t : Target) (text middle new : List ℕ) → given ≡ shapes → t ≡ target shapes object (operation + 1) →
    middle ≡ text ++ rights_on wish list other shapes object operation → new ≡ middle ++ rights_at wish list other given t → new ≡ text ++ rights_on wish list other shapes object (operation + 1)
one_operation wish list other shapes given object operation t text middle new given_is t_is middle_is new_is =
    let e : operation + 1 ≡ suc operation = omega arith in
    new_is ∙ ap (λ (x : List ℕ). x ++ rights_at wish list other given t) middle_is
    ∙ append_assoc text (rights_on wish list other shapes object operation) (rights_at wish list other given t)
    ∙ ap (λ (ss : List Shape). text ++ (rights_on wish list other shapes object operation ++ rights_at wish list other ss t)) given_is
    ∙ ap (λ (x : Target). text ++ (rights_on wish list other shapes object operation ++ rights_at wish list other shapes x)) (t_is ∙ ap (λ (n : ℕ). target shapes object n) e)
    ∙ ap (λ (n : ℕ). text ++ rights_on wish list other shapes object n) (sym e)

-- what a unit is granted that the filter takes
pub taken_put : (wish : WishText) (by : Option (List ℕ)) (as_json taken : Bool) (list : List Words) (other : Option (List Words)) (called : Target) (caller old new : List ℕ) → by ≡ wish.filter.by → as_json ≡ wish.as_json → taken ≡ takes_unit by caller → taken ≡ true →
    new ≡ old ++ grants_of list other (call_of as_json caller called) → new ≡ old ++ rights_of wish list other called caller
taken_put wish by as_json taken list other called caller old new by_is form_is taken_is so new_is =
    let none : List ℕ = [] in
    let is : takes_unit wish.filter.by caller ≡ true = sym (ap (λ (b : Option (List ℕ)). takes_unit b caller) by_is) ∙ sym taken_is ∙ so in
    new_is ∙ ap (λ (j : Bool). old ++ grants_of list other (call_of j caller called)) form_is
    ∙ sym (ap (λ (b : Bool). old ++ (if b then grants_of list other (call_of wish.as_json caller called) else none)) is)
