-- The notes on a change are those that are new.
use Rattle.std.proofs.Common.{◌≡◌, ℕ, ◌+◌, ◌<◌, ◌⊎◌, inl, inr, List, [], ◌∷◌, ◌++◌, length, take, get_or, Bool, true, false, refl, sym, subst, ◌∙◌}
use Rattle.std.specs.List.{All, Contains}
use Rattle.std.proofs.lemmas.List.{take_more}
use Rattle.std.proofs.lemmas.List.Elements.{All-contains, All-get_or, All-push, Contains-append_left, Contains-push, Contains-push_cases}
use Rattle.rv_access.specs.Words.{Words}
use Rattle.rv_notes.specs.Names.{Scene}
use Rattle.std.specs.Prelude.{IfOk, Option, Some, Result, Ok, Err, ◌&&◌}
use Rattle.rv_access.specs.declared.change.Change.{Change}
use Rattle.rv_notes.specs.Changes.{AreChangeNotes, AreNew, AreNewOf, IsNew, denies, is_of_cover, line_changed, made}
use Rattle.rv_notes.specs.Notes.{AreNotes, Due, number_of, told}
use Rattle.rv_notes.specs.declared.note.Note.{Note}

-- Whether a note is new: it is of the line, or neither told on purpose nor among those before.

pub new_line : (scene : Scene) (before : List Words) (number : ℕ) (is_denial : Bool) (note : Note) → number_of note ≡ number → IsNew scene before number is_denial note
new_line scene before number is_denial note e = inl e

pub new_apart : (scene : Scene) (before : List Words) (number : ℕ) (is_denial : Bool) (note : Note) (old : List Note) → AreNotes scene before old
    → (is_denial && is_of_cover note) ≡ false → (Contains old note → ⊥) → IsNew scene before number is_denial note
new_apart scene before number is_denial note old are quiet apart = inr (quiet, λ due. apart (are.all note due))

pub on_purpose : (scene : Scene) (before : List Words) (number : ℕ) (is_denial : Bool) (note : Note) → (number_of note ≡ number → ⊥)
    → (is_denial && is_of_cover note) ≡ true → IsNew scene before number is_denial note → ⊥
on_purpose scene before number is_denial note other covers (inl e) = other e
on_purpose scene before number is_denial note other covers (inr new) =
    let both : true ≡ false = sym covers ∙ new.0 in
    absurd (cc)

pub not_new : (scene : Scene) (before : List Words) (number : ℕ) (is_denial : Bool) (note : Note) (old : List Note) → AreNotes scene before old → (number_of note ≡ number → ⊥)
    → Contains old note → IsNew scene before number is_denial note → ⊥
not_new scene before number is_denial note old are other among (inl e) = other e
not_new scene before number is_denial note old are other among (inr new) = new.1 (All-contains (Due scene before) old note are.due among)

-- The new ones of the notes so far

pub record NewSoFar (scene : Scene) (before after : List Words) (number : ℕ) (is_denial : Bool) (done notes : List Note) : Type 0 where
  pub due : All (λ note. Due scene after note × IsNew scene before number is_denial note) notes
  pub all : (note : Note) → Contains done note → IsNew scene before number is_denial note → Contains notes note

one_more : (scene : Scene) (before after : List Words) (number : ℕ) (is_denial : Bool) (done notes : List Note) (note : Note) (b : Bool) → Due scene after note
    → (b ≡ true → IsNew scene before number is_denial note) → (b ≡ false → IsNew scene before number is_denial note → ⊥)
    → NewSoFar scene before after number is_denial done notes → NewSoFar scene before after number is_denial (done ++ note ∷ []) (told b note notes)
one_more scene before after number is_denial done notes note true due is not so_far = record {
  due = All-push (λ n. Due scene after n × IsNew scene before number is_denial n) notes note so_far.due (due, is refl);
  all = λ other there new. among other new (Contains-push_cases done note other there);
}
  where
    among : (other : Note) → IsNew scene before number is_denial other → Contains done other ⊎ (note ≡ other) → Contains (notes ++ note ∷ []) other
    among other new (inl before_it) = Contains-append_left notes (note ∷ []) other (so_far.all other before_it new)
    among other new (inr same) = subst (λ (n : Note). Contains (notes ++ note ∷ []) n) same (Contains-push notes note)
one_more scene before after number is_denial done notes note false due is not so_far = record {
  due = so_far.due;
  all = λ other there new. among other new (Contains-push_cases done note other there);
}
  where
    among : (other : Note) → IsNew scene before number is_denial other → Contains done other ⊎ (note ≡ other) → Contains notes other
    among other new (inl before_it) = so_far.all other before_it new
    among other new (inr same) = absurd (not refl (subst (IsNew scene before number is_denial) (sym same) new))

pub new_more : (scene : Scene) (before after : List Words) (number : ℕ) (is_denial : Bool) (found notes more : List Note) (i : ℕ) (d : Note) (b : Bool) → AreNotes scene after found
    → i < length found → more ≡ told b (get_or found i d) notes → (b ≡ true → IsNew scene before number is_denial (get_or found i d)) → (b ≡ false → IsNew scene before number is_denial (get_or found i d) → ⊥)
    → NewSoFar scene before after number is_denial (take i found) notes → NewSoFar scene before after number is_denial (take (i + 1) found) more
new_more scene before after number is_denial found notes more i d b are within tells is not so_far =
    let note : Note = get_or found i d in
    let due : Due scene after note = All-get_or (Due scene after) found i d within are.due in
    subst (λ (done : List Note). NewSoFar scene before after number is_denial done more) (sym (take_more found i d within))
    (subst (NewSoFar scene before after number is_denial (take i found ++ note ∷ [])) (sym tells)
    (one_more scene before after number is_denial (take i found) notes note b due is not so_far))

pub all_new : (scene : Scene) (before after : List Words) (number : ℕ) (is_denial : Bool) (found notes : List Note) → AreNotes scene after found
    → NewSoFar scene before after number is_denial found notes → AreNew scene before after number is_denial notes
all_new scene before after number is_denial found notes are so_far = record {
  due = so_far.due;
  all = λ note due new. so_far.all note (are.all note due) new;
}

-- of the list that a change makes
told_of : (scene : Scene) (before : List Words) (change : Change) (list : Option (List Words)) (after : List Words) (notes : List Note) → Some after ≡ list
    → AreNew scene before after (line_changed after change) (denies change) notes → AreNewOf scene before change list notes
told_of scene before change list after notes is are = subst (λ (o : Option (List Words)). AreNewOf scene before change o notes) is are

pub change_told : {X E : Type 0} (scene : Scene) (before : List Words) (change : Change) (after : List Words) (items : X → List Note) (number : ℕ) (is_denial : Bool) → Some after ≡ made before change
    → number ≡ line_changed after change → is_denial ≡ denies change → (result : Result X E) → IfOk result (λ x. AreNew scene before after number is_denial (items x)) → IfOk result (λ x. AreChangeNotes scene before change (items x))
change_told scene before change after items number is_denial same is does (Ok x) are =
    told_of scene before change (made before change) after (items x) same
    (subst (λ (b : Bool). AreNew scene before after (line_changed after change) b (items x)) does
    (subst (λ (n : ℕ). AreNew scene before after n is_denial (items x)) is are))
change_told scene before change after items number is_denial same is does (Err e) are = are
