-- The last queued calls after one more entry.
use Rattle.std.proofs.Common.{◌≡◌, ◌≢◌, ◌<◌, List, ◌∷◌, length, get_or, set, Some, None, Option, Bool, true, false, arith, ap, sym, ◌∙◌, refl}
use Rattle.std.specs.Prelude.{◌==◌, if◌then◌else◌}
use Rattle.std.proofs.lemmas.Bool.Decides.{nat_tests}
use Rattle.std.proofs.lemmas.Grind.{get_or-set_at}
use Rattle.std.proofs.lemmas.List.{get_or-set_other}
use Rattle.rv_shape.specs.Catalogue.{first_of}
use Rattle.rv_event.specs.Past.{queued_by, if_of, last_queued}
use Rattle.rv_event.specs.declared.entry.Body.{Body}
use Rattle.rv_event.specs.declared.entry.Entry.{Entry}
use Rattle.rv_history.proofs.Stances.{same_number}
use Rattle.rv_present.specs.Calls.{AreCalls}

pub calls_kept : (past : List Entry) (e : Entry) (calls : List (Option Body)) → queued_by e ≡ None → AreCalls past calls → AreCalls (e ∷ past) calls
calls_kept past e calls none are a = are a ∙ sym (ap (λ q. first_of (if_of a q) (last_queued a past)) none)

pub calls_set : (past : List Entry) (e : Entry) (calls : List (Option Body)) (c : Body) → queued_by e ≡ Some c → c.actor < length calls → AreCalls past calls → AreCalls (e ∷ past) (set calls c.actor (Some c))
calls_set past e calls c is some are a = by_test (c.actor == a) refl ∙ sym (ap (λ q. first_of (if_of a q) (last_queued a past)) is)
  where
    by_test : (t : Bool) → (c.actor == a) ≡ t → get_or (set calls c.actor (Some c)) a None ≡ first_of (if t then Some c else None) (last_queued a past)
    by_test true at =
        let same : a ≡ c.actor = sym (same_number c.actor a at) in
        get_or-set_at calls c.actor a (Some c) None same some
    by_test false at =
        let other : a ≢ c.actor = grind (arith, nat_tests) in
        get_or-set_other calls c.actor a (Some c) None other ∙ are a
