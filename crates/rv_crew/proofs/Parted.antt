-- Threads that are parted: some stay, the others are given up.
use Rattle.std.proofs.Common.{◌≡◌, ℕ, List, [], ◌∷◌, ◌++◌, map, length, inl, inr, refl, sym, ap, subst, ◌∙◌, append-nil}
use Rattle.std.proofs.lemmas.List.{map-append, append_assoc}
use Rattle.rv_crew.specs.Teams.{Owed, Team}
use Rattle.rv_crew.specs.Abandoning.{Abandons, Parts, PartsInto, actors_out}

-- one thread more that stays
stays_one : {D : Type 0} (threads : List (Owed D)) (last : Owed D) (stay gone : List (Owed D)) → Parts threads stay gone → Parts (threads ++ last ∷ []) (stay ++ last ∷ []) gone
stays_one {D} [] last stay gone parts = inl ([], ap (λ (l : List (Owed D)). l ++ last ∷ []) parts.0, (refl, parts.1))
stays_one {D} (thread ∷ threads) last stay gone (inl p) =
    inl (p.0 ++ last ∷ [], ap (λ (l : List (Owed D)). l ++ last ∷ []) p.1, stays_one threads last p.0 gone p.2)
stays_one (thread ∷ threads) last stay gone (inr p) = inr (p.0, p.1, stays_one threads last stay p.0 p.2)

-- one more that is given up
goes_one : {D : Type 0} (threads : List (Owed D)) (last : Owed D) (stay gone : List (Owed D)) → Parts threads stay gone → Parts (threads ++ last ∷ []) stay (gone ++ last ∷ [])
goes_one {D} [] last stay gone parts = inr ([], ap (λ (l : List (Owed D)). l ++ last ∷ []) parts.1, (parts.0, refl))
goes_one (thread ∷ threads) last stay gone (inl p) = inl (p.0, p.1, goes_one threads last p.0 gone p.2)
goes_one {D} (thread ∷ threads) last stay gone (inr p) =
    inr (p.0 ++ last ∷ [], ap (λ (l : List (Owed D)). l ++ last ∷ []) p.1, goes_one threads last stay p.0 p.2)

-- no thread
pub none : {D : Type 0} (before : List (Owed D)) (lost : List ℕ) → PartsInto [] before lost before lost
none before lost = ([], [], (refl, refl), sym (append-nil before), sym (append-nil lost))

-- behind others a thread stays
pub stays : {D H : Type 0} (owed : H → Owed D) (threads left : List H) (last : H) (before : List (Owed D)) (lost : List ℕ) (stay stay' : List H) (lost' : List ℕ)
    → threads ≡ left ++ last ∷ [] → stay' ≡ stay ++ last ∷ [] → PartsInto (map owed left) before lost (map owed stay) lost'
    → PartsInto (map owed threads) before lost (map owed stay') lost'
stays {D} owed threads left last before lost stay stay' lost' is put p = (
  p.0 ++ owed last ∷ [],
  p.1,
  subst (λ (l : List (Owed D)). Parts l (p.0 ++ owed last ∷ []) p.1) (sym (ap (map owed) is ∙ map-append owed left (last ∷ []))) (stays_one (map owed left) (owed last) p.0 p.1 p.2),
  ap (map owed) put ∙ (map-append owed stay (last ∷ []) ∙ (ap (λ (l : List (Owed D)). l ++ owed last ∷ []) p.3 ∙ append_assoc before p.0 (owed last ∷ []))),
  p.4,
)

-- behind others a thread is given up
pub goes : {D H : Type 0} (owed : H → Owed D) (threads left : List H) (last : H) (before : List (Owed D)) (lost : List ℕ) (stay : List (Owed D)) (lost' lost'' : List ℕ)
    → threads ≡ left ++ last ∷ [] → lost'' ≡ lost' ++ (owed last).port.actor ∷ [] → PartsInto (map owed left) before lost stay lost'
    → PartsInto (map owed threads) before lost stay lost''
goes {D} owed threads left last before lost stay lost' lost'' is put p = (
  p.0,
  p.1 ++ owed last ∷ [],
  subst (λ (l : List (Owed D)). Parts l p.0 (p.1 ++ owed last ∷ [])) (sym (ap (map owed) is ∙ map-append owed left (last ∷ []))) (goes_one (map owed left) (owed last) p.0 p.1 p.2),
  p.3,
  put ∙ (ap (λ (l : List ℕ). l ++ (owed last).port.actor ∷ []) p.4 ∙ (append_assoc lost (actors_out p.1) ((owed last).port.actor ∷ [])
      ∙ ap (λ (l : List ℕ). lost ++ l) (sym (map-append (λ (o : Owed D). o.port.actor) p.1 (owed last ∷ []))))),
)
