-- At how many entries a test passes, one entry after another.
use Rattle.std.proofs.Common.{◌≡◌, ◌≤◌, ◌+◌, ℕ, Bool, true, false, List, [], ◌∷◌, ◌++◌, None, length, ap, ◌∙◌, arith}
use Rattle.rv_access.specs.Words.{Words}
use Rattle.rv_shape.specs.Shape.{Shape}
use Rattle.rv_event.specs.declared.entry.Entry.{Entry}
use Rattle.rv_event.specs.declared.entry.Entry.TheVariants.{Load, ListChange}
use Rattle.rv_history.specs.declared.limits.Limits.{Limits}
use Rattle.rv_history.specs.History.{History}
use Rattle.rv_history.specs.Journal.{lists_before, shapes_before}
use Rattle.rv_history.proofs.Growing.{front_is}
use Rattle.rv_refused.specs.Refusals.{before_last}
use Rattle.rv_asked.specs.Asked.{asked_at}
use Rattle.rv_asked.specs.Times.{Test, one_if, times, times_in}

few : (b : Bool) → one_if b ≤ 1
few true = omega arith
few false = omega arith

-- at one at most for each
pub times_few : (test : Test) (limits : Limits) (past : List Entry) (shapes : List Shape) (lists : List (List Words)) → times test limits past shapes lists ≤ length past
times_few test limits [] shapes lists = omega arith
times_few test limits (entry ∷ past) shapes lists =
    let rest = times_few test limits past (shapes_before entry shapes) (lists_before entry lists) in
    let one = few (test (before_last limits entry past shapes lists) (asked_at (shapes_before entry shapes) past entry)) in
    omega arith

-- never passed where nothing is asked
abbrev pub NeverUnasked : Test → Type 0
NeverUnasked test = (h : History) → test h None ≡ false

none_more : (n : ℕ) (b : Bool) → b ≡ false → n + one_if b ≡ n
none_more n true e = absurd cc
none_more n false e = omega arith

-- a load and a list change ask nothing
pub times_loaded : (test : Test) (h : History) (unit : Shape) → NeverUnasked test → times_in test (record h { past = Load ∷ h.past; shapes = h.shapes ++ unit ∷ [] }) ≡ times_in test h
times_loaded test h unit never =
    none_more (times test h.limits h.past (shapes_before Load (h.shapes ++ unit ∷ [])) h.lists) (test (before_last h.limits Load h.past (h.shapes ++ unit ∷ []) h.lists) None) (never (before_last h.limits Load h.past (h.shapes ++ unit ∷ []) h.lists))
    ∙ ap (λ (ss : List Shape). times test h.limits h.past ss h.lists) (front_is h.shapes unit)

pub times_listed : (test : Test) (h : History) (list : List Words) → NeverUnasked test → times_in test (record h { past = ListChange ∷ h.past; lists = h.lists ++ list ∷ [] }) ≡ times_in test h
times_listed test h list never =
    none_more (times test h.limits h.past h.shapes (lists_before ListChange (h.lists ++ list ∷ []))) (test (before_last h.limits ListChange h.past h.shapes (h.lists ++ list ∷ [])) None) (never (before_last h.limits ListChange h.past h.shapes (h.lists ++ list ∷ [])))
    ∙ ap (λ (ls : List (List Words)). times test h.limits h.past h.shapes ls) (front_is h.lists list)
