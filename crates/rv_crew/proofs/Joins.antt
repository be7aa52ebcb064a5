-- Threads that are joined one after another.
use Rattle.std.proofs.Common.{◌≡◌, ◌∙◌, ◌++◌, List, [], ◌∷◌, map, reverse, refl, sym, ap, subst, append-nil}
use Rattle.std.proofs.lemmas.List.{append_assoc, map-append, reverse-append}
use Rattle.rv_port.specs.Ports.{Porting}
use Rattle.rv_crew.specs.Teams.{EachTwo, Owed, Pays}
use Rattle.rv_crew.specs.Crews.{Joins}

-- none
pub joins_none : {D : Type 0} (does : D → Porting → Porting → Type 0) (before : List Porting) → Joins does before [] before
joins_none does before = ([], tt, sym (append-nil before))

-- two lists after two others
pub each_two_both : {A B : Type 0} (P : A → B → Type 0) (xs zs : List A) (ys ws : List B) → EachTwo P xs ys → EachTwo P zs ws → EachTwo P (xs ++ zs) (ys ++ ws)
each_two_both P [] zs [] ws e f = f
each_two_both P [] zs (y ∷ ys) ws e f = absurd e
each_two_both P (x ∷ xs) zs [] ws e f = absurd e
each_two_both P (x ∷ xs) zs (y ∷ ys) ws e f = (e.0, each_two_both P xs zs ys ws e.1 f)

-- what was owed for all that came back is paid, where it was for those before and for those that are joined
pub joined_pay : {D : Type 0} (does : D → Porting → Porting → Type 0) (paid running all : List (Owed D)) (before after : List Porting) → EachTwo (Pays does) paid before
    → Joins does before running after → all ≡ paid ++ running → EachTwo (Pays does) all after
joined_pay {D} does paid running all before after each joins is =
    subst (λ (z : List (Owed D) × List Porting). EachTwo (Pays does) z.0 z.1) (λ i. (sym is i, sym joins.2 i)) (each_two_both (Pays does) paid running before joins.0 each joins.1)

-- what is left to be joined leads on from what is joined
abbrev pub LeadsOn : {D H : Type 0} (does : D → Porting → Porting → Type 0) (owed : H → Owed D) → List Porting → List H → List Porting → List H → Type 0
LeadsOn does owed all waiting before left = (after : List Porting) → Joins does before (map owed (reverse left)) after → Joins does all (map owed (reverse waiting)) after

-- so does what is kept
abbrev pub KeptOn : {D H K : Type 0} (owed : H → Owed D) (owed_for : K → Owed D) → List K → List H → List K → List H → Type 0
KeptOn owed owed_for all waiting before left = map owed_for before ++ map owed (reverse left) ≡ map owed_for all ++ map owed (reverse waiting)

-- the last of those that wait is the next that is joined
reverse_last : {D H : Type 0} (owed : H → Owed D) (waiting left : List H) (thread : H) → waiting ≡ left ++ thread ∷ [] → map owed (reverse waiting) ≡ owed thread ∷ map owed (reverse left)
reverse_last owed waiting left thread is = ap (λ l. map owed (reverse l)) is ∙ ap (map owed) (reverse-append left (thread ∷ []))

-- one thread more is joined
pub joins_one : {D H : Type 0} (does : D → Porting → Porting → Type 0) (owed : H → Owed D) (all before before' : List Porting) (first waiting left : List H) (thread : H) (finished : Porting)
    → waiting ≡ left ++ thread ∷ [] → before' ≡ before ++ finished ∷ [] → Pays does (owed thread) finished → LeadsOn does owed all first before waiting → LeadsOn does owed all first before' left
joins_one {D} does owed all before before' first waiting left thread finished is put pays leads after joins = leads after (
  finished ∷ joins.0,
  subst (λ (l : List (Owed D)). EachTwo (Pays does) l (finished ∷ joins.0)) (sym (reverse_last owed waiting left thread is)) (pays, joins.1),
  joins.2 ∙ (ap (λ (l : List Porting). l ++ joins.0) put ∙ append_assoc before (finished ∷ []) joins.0),
)

-- what it owed is kept
pub keeps_one : {D H K : Type 0} (owed : H → Owed D) (owed_for : K → Owed D) (all before before' : List K) (first waiting left : List H) (thread : H) (kept : K)
    → waiting ≡ left ++ thread ∷ [] → before' ≡ before ++ kept ∷ [] → owed_for kept ≡ owed thread → KeptOn owed owed_for all first before waiting → KeptOn owed owed_for all first before' left
keeps_one {D} owed owed_for all before before' first waiting left thread kept is put same on =
    ap (λ l. map owed_for l ++ map owed (reverse left)) put
    ∙ (ap (λ (l : List (Owed D)). l ++ map owed (reverse left)) (map-append owed_for before (kept ∷ []))
    ∙ (append_assoc (map owed_for before) (owed_for kept ∷ []) (map owed (reverse left))
    ∙ (ap (λ (o : Owed D). map owed_for before ++ o ∷ map owed (reverse left)) same
    ∙ (ap (λ (l : List (Owed D)). map owed_for before ++ l) (sym (reverse_last owed waiting left thread is)) ∙ on))))
