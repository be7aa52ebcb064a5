-- The first of choices and of handlers.
use Rattle.std.proofs.Common.{◌≡◌, refl, ap, ◌∙◌, arith, ◌<◌, ℤ, List, [], ◌∷◌, length, true, false, Some, None}
use Rattle.rv_event.specs.declared.entry.Exception.{Exception}
use Rattle.rv_code.specs.declared.body.ExceptionChoice.{ExceptionChoice}
use Rattle.rv_code.specs.declared.statement.Choice.{Choice}
use Rattle.rv_code.specs.Bodies.{Handler}
use Rattle.rv_exec.specs.Choices.{covers, covered, names, named, handler_of}

pub shorter : {X : Type 0} (xs more : List X) (x : X) → xs ≡ x ∷ more → length more < length xs
shorter xs more x is = let e = ap length is in omega (arith, e)

pub covers_here : (cs more : List Choice) (c : Choice) (v : ℤ) → cs ≡ c ∷ more → covers c v ≡ true → covered cs v ≡ true
covers_here cs more c v is does = ap (λ (x : List Choice). covered x v) is ∙ rw does refl

pub covers_on : (cs more : List Choice) (c : Choice) (v : ℤ) → cs ≡ c ∷ more → covers c v ≡ false → covered cs v ≡ covered more v
covers_on cs more c v is fails = ap (λ (x : List Choice). covered x v) is ∙ rw fails refl

pub covers_none : (cs : List Choice) (v : ℤ) → cs ≡ [] → covered cs v ≡ false
covers_none cs v is = ap (λ (x : List Choice). covered x v) is

pub names_here : (cs more : List ExceptionChoice) (c : ExceptionChoice) (e : Exception) → cs ≡ c ∷ more → names c e ≡ true → named cs e ≡ true
names_here cs more c e is does = ap (λ (x : List ExceptionChoice). named x e) is ∙ rw does refl

pub names_on : (cs more : List ExceptionChoice) (c : ExceptionChoice) (e : Exception) → cs ≡ c ∷ more → names c e ≡ false → named cs e ≡ named more e
names_on cs more c e is fails = ap (λ (x : List ExceptionChoice). named x e) is ∙ rw fails refl

pub names_none : (cs : List ExceptionChoice) (e : Exception) → cs ≡ [] → named cs e ≡ false
names_none cs e is = ap (λ (x : List ExceptionChoice). named x e) is

pub handler_here : (hs more : List Handler) (h : Handler) (e : Exception) → hs ≡ h ∷ more → named h.choices e ≡ true → handler_of hs e ≡ Some h.statements
handler_here hs more h e is does = ap (λ (x : List Handler). handler_of x e) is ∙ rw does refl

pub handler_on : (hs more : List Handler) (h : Handler) (e : Exception) → hs ≡ h ∷ more → named h.choices e ≡ false → handler_of hs e ≡ handler_of more e
handler_on hs more h e is fails = ap (λ (x : List Handler). handler_of x e) is ∙ rw fails refl

pub handler_none : (hs : List Handler) (e : Exception) → hs ≡ [] → handler_of hs e ≡ None
handler_none hs e is = ap (λ (x : List Handler). handler_of x e) is
