-- Acts that were carried out, and then others.
use Rattle.std.proofs.Common.{◌≡◌, ℕ, List, [], ◌∷◌, ◌++◌, Some, None, Option, Ok, Err, Result, refl, sym, ap, ◌∙◌, subst, append_assoc}
use Rattle.std.specs.Prelude.{Bool}
use Rattle.std.specs.Io.KnownBytes.{Appends}
use Rattle.std.proofs.lemmas.Grind.{flat_map-append}
use Rattle.rv_script.specs.Prefixes.{WritesPrefix}
use Rattle.rv_script.proofs.Wrote.{appends_more, keeps_nothing, nothing_yet, prefix_behind}
use Rattle.rv_fault.specs.declared.failure.Failure.{Failure}
use Rattle.rv_fault.specs.declared.failure.Failure.TheVariants.{Refused, Memory, Io}
use Rattle.rv_fault.specs.declared.fault.ScriptFault.{ScriptFault}
use Rattle.rv_play.specs.Acts.{Act}
use Rattle.rv_play.specs.Stages.{Stage}
use Rattle.rv_play.specs.Scripted.{Told, Playing, Plays, told_line, told_text}
use Rattle.rv_play.specs.Carried.{Whole, Part, Carries}

-- Plays

plays_then : (stage mid last : Stage) (xs ys : List Act) (told more : List Told) (fault : Option ScriptFault) → Plays stage xs told None mid → Plays mid ys more fault last → Plays stage (xs ++ ys) (told ++ more) fault last
plays_then stage mid last [] ys [] more fault first next = subst (λ (s : Stage). Plays s ys more fault last) first next
plays_then stage mid last [] ys (t ∷ told) more fault first next = absurd first
plays_then stage mid last (x ∷ xs) ys [] more fault first next = absurd first
plays_then stage mid last (x ∷ xs) ys (t ∷ told) more fault first next = (first.0, plays_then t.after mid last xs ys told more fault first.1 next)

plays_stop : (stage last : Stage) (xs ys : List Act) (told : List Told) (fault : ScriptFault) → Plays stage xs told (Some fault) last → Plays stage (xs ++ ys) told (Some fault) last
plays_stop stage last [] ys [] fault plays = absurd plays
plays_stop stage last [] ys (t ∷ told) fault plays = absurd plays
plays_stop stage last (x ∷ xs) ys [] fault plays = plays
plays_stop stage last (x ∷ xs) ys (t ∷ told) fault plays = (plays.0, plays_stop t.after last xs ys told fault plays.1)

told_both : (all : Bool) (told more : List Told) → told_text all (told ++ more) ≡ told_text all told ++ told_text all more
told_both all told more = flat_map-append (told_line all) told more

-- One after another

whole_then : (a b c : Option (List ℕ)) (p q : Playing) (xs ys : List Act) (fault : Option ScriptFault) (last : Stage) → Whole a b p xs None q.stage → q.all ≡ p.all → Whole b c q ys fault last → Whole a c p (xs ++ ys) fault last
whole_then a b c p q xs ys fault last first same next =
    let more : Appends b c (told_text p.all next.told) = subst (λ (all : Bool). Appends b c (told_text all next.told)) same next.written in
    record {
      told = first.told ++ next.told;
      plays = plays_then p.stage q.stage last xs ys first.told next.told fault first.plays next.plays;
      written =
          subst (λ (text : List ℕ). Appends a c text) (sym (told_both p.all first.told next.told))
          (appends_more a b c (told_text p.all first.told) (told_text p.all next.told) first.written more);
    }

part_then : (a b c : Option (List ℕ)) (p q : Playing) (xs ys : List Act) → Whole a b p xs None q.stage → q.all ≡ p.all → Part b c q ys → Part a c p (xs ++ ys)
part_then a b c p q xs ys first same next =
    let more : WritesPrefix b c (told_text p.all next.told) = subst (λ (all : Bool). WritesPrefix b c (told_text all next.told)) same next.written in
    record {
      done = xs ++ next.done;
      rest = next.rest;
      split = ap (λ (acts : List Act). xs ++ acts) next.split ∙ sym (append_assoc xs next.done next.rest);
      last = next.last;
      told = first.told ++ next.told;
      plays = plays_then p.stage q.stage next.last xs next.done first.told next.told None first.plays next.plays;
      written =
          subst (λ (text : List ℕ). WritesPrefix a c text) (sym (told_both p.all first.told next.told))
          (prefix_behind a b c (told_text p.all first.told) (told_text p.all next.told) first.written more);
    }

-- all of the first acts were carried out, and then the others
pub carries_then : (a b c : Option (List ℕ)) (p q r : Playing) (xs ys : List Act) (result : Result (Unit {0}) Failure) → Carries a b p q xs (Ok tt) → Carries b c q r ys result → Carries a c p r (xs ++ ys) result
carries_then a b c p q r xs ys (Ok x) first next = (whole_then a b c p q xs ys None r.stage first.0 first.1 next.0, next.1 ∙ first.1)
carries_then a b c p q r xs ys (Err (Refused fault)) first next = (next.0, whole_then a b c p q xs ys (Some fault) next.0 first.0 first.1 next.1)
carries_then a b c p q r xs ys (Err Memory) first next = part_then a b c p q xs ys first.0 first.1 next
carries_then a b c p q r xs ys (Err (Io error)) first next = part_then a b c p q xs ys first.0 first.1 next

part_first : (a b : Option (List ℕ)) (p : Playing) (xs ys : List Act) → Part a b p xs → Part a b p (xs ++ ys)
part_first a b p xs ys first = record {
  done = first.done;
  rest = first.rest ++ ys;
  split = ap (λ (acts : List Act). acts ++ ys) first.split ∙ append_assoc first.done first.rest ys;
  last = first.last;
  told = first.told;
  plays = first.plays;
  written = first.written;
}

-- the first acts weren't all carried out
pub carries_stop : (a b : Option (List ℕ)) (p q r : Playing) (xs ys : List Act) (e : Failure) → Carries a b p q xs (Err e) → Carries a b p r (xs ++ ys) (Err e)
carries_stop a b p q r xs ys (Refused fault) first =
    (first.0, record { told = first.1.told; plays = plays_stop p.stage first.0 xs ys first.1.told fault first.1.plays; written = first.1.written })
carries_stop a b p q r xs ys Memory first = part_first a b p xs ys first
carries_stop a b p q r xs ys (Io error) first = part_first a b p xs ys first

-- no acts
pub carries_nothing : (a : Option (List ℕ)) (p : Playing) → Carries a a p p [] (Ok tt)
carries_nothing a p = (record { told = []; plays = refl; written = keeps_nothing a }, refl)

-- nothing was carried out
pub nothing_done : (a : Option (List ℕ)) (p : Playing) (acts : List Act) → Part a a p acts
nothing_done a p acts = record { done = []; rest = acts; split = refl; last = p.stage; told = []; plays = refl; written = nothing_yet a [] }

-- the acts that follow those so far stop them all
pub carries_fails : (a b c : Option (List ℕ)) (p q r : Playing) (done now others whole : List Act) (e : Failure) → Carries a b p q done (Ok tt) → Carries b c q r now (Err e) → done ++ (now ++ others) ≡ whole → Carries a c p r whole (Err e)
carries_fails a b c p q r done now others whole e first next same =
    subst (λ (acts : List Act). Carries a c p r acts (Err e)) (append_assoc done now others ∙ same)
    (carries_stop a c p r r (done ++ now) others e (carries_then a b c p q r done now (Err e) first next))
