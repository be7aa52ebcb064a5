-- A call is judged anew.
use Rattle.std.proofs.Common.{◌≡◌, ℕ, Bool, true, false, List, [], ◌∷◌, ◌++◌, Some, None, Option, map, refl, sym, ap, ◌∙◌, subst, append-nil, if◌then◌else◌}
use Rattle.std.specs.Prelude.{codes, string_bytes, ◌&&◌}
use Rattle.std.specs.Fmt.{decimal}
use Rattle.rv_access.specs.Lines.{allows, line_at}
use Rattle.rv_access.specs.Words.{Words}
use Rattle.rv_shape.specs.Catalogue.{Target, Who, target, who}
use Rattle.rv_shape.specs.Printed.{actor_text, target_text}
use Rattle.rv_shape.specs.Shape.{Shape}
use Rattle.rv_event.specs.Past.{clock}
use Rattle.rv_event.specs.declared.entry.Body.{Body}
use Rattle.rv_event.specs.declared.entry.Entry.{Entry}
use Rattle.rv_history.specs.History.{History, force}
use Rattle.rv_history.specs.Subject.{subject}
use Rattle.rv_asked.specs.Asked.{asking_text, decided_by, line_by, takes}
use Rattle.rv_asked.specs.Holding.{Keeps}
use Rattle.rv_asked.specs.declared.holding.Holding.{Holding}
use Rattle.rv_grants.specs.Grants.{decision_text}
use Rattle.rv_tallied.specs.Tallies.{counted, kept_for, with_words}
use Rattle.rv_tallied.specs.declared.tallies.Tally.{Tally}
use Rattle.rv_whatif.specs.Changes.{call_text, decisions_text, differs, is_one_of, line_of, with_call}
use Rattle.rv_whatif.specs.Following.{Judges, JudgesCall}
use Rattle.rv_whatif.specs.declared.whatif.WhatIf.{WhatIf}

judged : (old new : WhatIf) (h : History) (number : ℕ) (entry : Entry) (asked : Option Body) (call : Body) (changed : Bool) → asked ≡ Some call → (Keeps old.holding h.shapes h.past → changed ≡ (takes old.filter h number call && differs old.list h call)) →
    (Keeps old.holding h.shapes h.past → Judges old new h number entry call changed) → JudgesCall old new h number entry asked
judged old new h number entry asked call changed is changed_is judges =
    subst (λ (o : Option Body). JudgesCall old new h number entry o) (sym is)
    (λ keeps. subst (λ (b : Bool). Judges old new h number entry call b) (changed_is keeps) (judges keeps))

-- it stays
stays_so : (it : WhatIf) (h : History) (number : ℕ) (entry : Entry) (call : Body) → Judges it it h number entry call false
stays_so it h number entry call = record {
  filter = refl;
  list = refl;
  holding = refl;
  text = sym (append-nil (string_bytes it.text));
  calls = refl;
  tallies = λ words. refl;
}

pub unasked : (it : WhatIf) (h : History) (number : ℕ) (entry : Entry) (asked : Option Body) → asked ≡ None → JudgesCall it it h number entry asked
unasked it h number entry asked is = subst (λ (o : Option Body). JudgesCall it it h number entry o) (sym is) refl

pub untaken : (it : WhatIf) (h : History) (number : ℕ) (entry : Entry) (asked : Option Body) (call : Body) (taken : Bool) → asked ≡ Some call → taken ≡ takes it.filter h number call → taken ≡ false → JudgesCall it it h number entry asked
untaken it h number entry asked call taken is taken_is not_taken =
    judged it it h number entry asked call false is (λ keeps. sym (ap (λ (b : Bool). b && differs it.list h call) (sym taken_is ∙ not_taken))) (λ keeps. stays_so it h number entry call)

-- both decisions, by the numbers of the lines
abbrev pub IsBy : WhatIf → History → Body → ℕ → ℕ → Type 0
IsBy it h call was would = (Keeps it.holding h.shapes h.past → was ≡ decided_by (force h) h call) × (Keeps it.holding h.shapes h.past → would ≡ decided_by it.list h call)

differs_is : (it : WhatIf) (h : History) (call : Body) (was would : ℕ) (a b : Bool) → IsBy it h call was would → a ≡ allows (line_at (force h) was) → b ≡ allows (line_at it.list would) → Keeps it.holding h.shapes h.past → is_one_of a b ≡ differs it.list h call
differs_is it h call was would a b by a_is b_is keeps =
    ap (λ (x : Bool). is_one_of x b) (a_is ∙ ap (λ (n : ℕ). allows (line_at (force h) n)) (by.0 keeps))
    ∙ ap (λ (x : Bool). is_one_of (allows (line_by (force h) h call)) x) (b_is ∙ ap (λ (n : ℕ). allows (line_at it.list n)) (by.1 keeps))

both_are : (taken other : Bool) → taken ≡ true → other ≡ (taken && other)
both_are true other e = refl
both_are false other e = absurd cc

pub undiffering : (it : WhatIf) (h : History) (number : ℕ) (entry : Entry) (asked : Option Body) (call : Body) (taken : Bool) (was would : ℕ) (a b d : Bool) → asked ≡ Some call → taken ≡ takes it.filter h number call → taken ≡ true → IsBy it h call was would →
    a ≡ allows (line_at (force h) was) → b ≡ allows (line_at it.list would) → d ≡ is_one_of a b → d ≡ false → JudgesCall it it h number entry asked
undiffering it h number entry asked call taken was would a b d is taken_is is_taken by a_is b_is d_is not_so =
    judged it it h number entry asked call false is
    (λ keeps. sym not_so ∙ d_is ∙ differs_is it h call was would a b by a_is b_is keeps ∙ both_are (takes it.filter h number call) (differs it.list h call) (sym taken_is ∙ is_taken))
    (λ keeps. stays_so it h number entry call)

pub differing : (old new : WhatIf) (h : History) (number : ℕ) (entry : Entry) (asked : Option Body) (call : Body) (taken : Bool) (was would : ℕ) (a b d : Bool) → asked ≡ Some call → taken ≡ takes old.filter h number call → taken ≡ true → IsBy old h call was would →
    a ≡ allows (line_at (force h) was) → b ≡ allows (line_at old.list would) → d ≡ is_one_of a b → d ≡ true → (Keeps old.holding h.shapes h.past → Judges old new h number entry call true) → JudgesCall old new h number entry asked
differing old new h number entry asked call taken was would a b d is taken_is is_taken by a_is b_is d_is is_so judges =
    judged old new h number entry asked call true is
    (λ keeps. sym is_so ∙ d_is ∙ differs_is old h call was would a b by a_is b_is keeps ∙ both_are (takes old.filter h number call) (differs old.list h call) (sym taken_is ∙ is_taken))
    judges

-- Words

abbrev pieces : ℕ → ℕ → Who → List ℕ → Target → List ℕ → List ℕ
pieces number tick w how t decisions =
    decimal number ++ (codes " tick " ++ (decimal tick ++ 32 ∷ (actor_text w ++ 32 ∷ (how ++ (target_text t ++ (codes " -> " ++ (decisions ++ 10 ∷ [])))))))

pub change_put : (text put : List ℕ) (list : List Words) (h : History) (number : ℕ) (entry : Entry) (call : Body) (shapes : List Shape) (tick : ℕ) (w : Who) (how : List ℕ) (t : Target) (decisions : List ℕ) → shapes ≡ h.shapes → tick ≡ clock h.past → w ≡ who shapes call.actor → how ≡ asking_text entry →
    t ≡ target shapes call.object call.operation → decisions ≡ decisions_text list h call → put ≡ text ++ pieces number tick w how t decisions → put ≡ text ++ line_of list h number entry call
change_put text put list h number entry call shapes tick w how t decisions names tick_is w_is how_is t_is decisions_is put_is =
    put_is ∙ ap (λ (n : ℕ). text ++ pieces number n w how t decisions) tick_is
    ∙ ap (λ (x : Who). text ++ pieces number (clock h.past) x how t decisions) (w_is ∙ ap (λ (ss : List Shape). who ss call.actor) names)
    ∙ ap (λ (x : List ℕ). text ++ pieces number (clock h.past) (who h.shapes call.actor) x t decisions) how_is
    ∙ ap (λ (x : Target). text ++ pieces number (clock h.past) (who h.shapes call.actor) (asking_text entry) x decisions) (t_is ∙ ap (λ (ss : List Shape). target ss call.object call.operation) names)
    ∙ ap (λ (x : List ℕ). text ++ pieces number (clock h.past) (who h.shapes call.actor) (asking_text entry) (target h.shapes call.object call.operation) x) decisions_is

pub decisions_are : (list : List Words) (h : History) (call : Body) (would was : ℕ) (text : List ℕ) → would ≡ decided_by list h call → was ≡ decided_by (force h) h call → text ≡ decision_text (line_at list would) ++ (codes ", was " ++ decision_text (line_at (force h) was)) → text ≡ decisions_text list h call
decisions_are list h call would was text would_is was_is is =
    is ∙ ap (λ (n : ℕ). decision_text (line_at list n) ++ (codes ", was " ++ decision_text (line_at (force h) was))) would_is
    ∙ ap (λ (n : ℕ). decision_text (line_by list h call) ++ (codes ", was " ++ decision_text (line_at (force h) n))) was_is

pub words_are : (h : History) (call : Body) (shapes : List Shape) (who_is : List ℕ) (t : Target) (words : List ℕ) → shapes ≡ h.shapes → who_is ≡ subject h call.actor → t ≡ target shapes call.object call.operation → words ≡ who_is ++ 32 ∷ target_text t → words ≡ call_text h call
words_are h call shapes who_is t words names is t_is words_is =
    words_is ∙ ap (λ (x : List ℕ). x ++ 32 ∷ target_text t) is
    ∙ ap (λ (x : Target). subject h call.actor ++ 32 ∷ target_text x) (t_is ∙ ap (λ (ss : List Shape). target ss call.object call.operation) names)

-- it is told, noted and counted
pub changed : (old put noted new : WhatIf) (h : History) (number : ℕ) (entry : Entry) (call : Body) → (Keeps old.holding h.shapes h.past → string_bytes put.text ≡ string_bytes old.text ++ line_of old.list h number entry call) → put ≡ record old { text = put.text } →
    (Keeps put.holding h.shapes h.past → map string_bytes noted.calls.items ≡ with_words (map string_bytes put.calls.items) (call_text h call)) → noted ≡ record put { calls = noted.calls } →
    (Keeps noted.holding h.shapes h.past → (words : List ℕ) → kept_for new.tallies words ≡ counted (call_text h call) (allows (line_by noted.list h call)) words (kept_for noted.tallies words)) → new ≡ record noted { tallies = new.tallies } →
    Keeps old.holding h.shapes h.past → Judges old new h number entry call true
changed old put noted new h number entry call text put_is calls noted_is tallies new_is keeps =
    let put_holds : put.holding ≡ old.holding = ap (λ (x : WhatIf). x.holding) put_is in
    let noted_holds : noted.holding ≡ put.holding = ap (λ (x : WhatIf). x.holding) noted_is in
    let list : noted.list ≡ old.list = ap (λ (x : WhatIf). x.list) noted_is ∙ ap (λ (x : WhatIf). x.list) put_is in
    let put_keeps : Keeps put.holding h.shapes h.past = subst (λ (x : Holding). Keeps x h.shapes h.past) (sym put_holds) keeps in
    let noted_keeps : Keeps noted.holding h.shapes h.past = subst (λ (x : Holding). Keeps x h.shapes h.past) (sym noted_holds) put_keeps in
    record {
      filter = ap (λ (x : WhatIf). x.filter) new_is ∙ ap (λ (x : WhatIf). x.filter) noted_is ∙ ap (λ (x : WhatIf). x.filter) put_is;
      list = ap (λ (x : WhatIf). x.list) new_is ∙ list;
      holding = ap (λ (x : WhatIf). x.holding) new_is ∙ noted_holds ∙ put_holds;
      text = ap (λ (x : WhatIf). string_bytes x.text) new_is ∙ ap (λ (x : WhatIf). string_bytes x.text) noted_is ∙ text keeps;
      calls = ap (λ (x : WhatIf). map string_bytes x.calls.items) new_is ∙ calls put_keeps ∙ ap (λ (x : WhatIf). with_words (map string_bytes x.calls.items) (call_text h call)) put_is;
      tallies = λ words. tallies noted_keeps words ∙ ap (λ (l : List Words). counted (call_text h call) (allows (line_by l h call)) words (kept_for noted.tallies words)) list
          ∙ ap (λ (x : WhatIf). counted (call_text h call) (allows (line_by old.list h call)) words (kept_for x.tallies words)) noted_is
          ∙ ap (λ (x : WhatIf). counted (call_text h call) (allows (line_by old.list h call)) words (kept_for x.tallies words)) put_is;
    }
