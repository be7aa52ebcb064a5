-- What is told of a section that was looked at.
use Rattle.std.proofs.Common.{◌≡◌, ◌≢◌, ◌≤◌, ℕ, List, [], ◌∷◌, ◌++◌, Some, None, Option, Ok, Err, Result, length, refl, sym, ◌∙◌, subst, inl, inr}
use Rattle.rv_script.specs.UnitTexts.{most_unit_bytes}
use Rattle.rv_code.specs.declared.unit.Unit.{Unit as Compiled}
use Rattle.rv_fault.specs.declared.failure.Failure.{Failure}
use Rattle.rv_fault.specs.declared.failure.Failure.TheVariants.{Refused, Memory, Io}
use Rattle.rv_fault.specs.declared.fault.What.TheVariants as Whats
use Rattle.rv_fault.specs.declared.fault.What.{What}
use Rattle.rv_fault.specs.Sections.{GivesUnit, Giving, Just, Reads, if_list, if_shape}
use Rattle.rv_fault.specs.Written.{Puts}
use Rattle.rv_fault.proofs.Readings.{unread}
use Rattle.rv_access.specs.Words.{Words}
use Rattle.rv_access.specs.Reading.{list_of}
use Rattle.rv_access.specs.declared.fault.ListFault.{ListFault}
use Rattle.rv_shape.specs.Shape.{Shape}
use Rattle.rv_shape.specs.ShapeText.{shape_of}
use Rattle.rv_shape.specs.Fits.{fault}
use Rattle.rv_shape.specs.declared.fault.ShapeFault.{ShapeFault}
use Rattle.rv_shape.specs.declared.fault.ShapeFault.TheVariants as Shapes
use Rattle.rv_check.specs.Checks.{Adds, Compiles, OfUnit, OfShape, OfList, Telling, WritesOne, as_list, as_shape, at_line, fitting, list_line, shape_line, shape_failure}

-- a line that is said
pub said_one : (old new : Option (List ℕ)) (tells : Telling) (said : List ℕ) (r : Result (Unit {0}) Failure) → tells said None → Puts old new said r → WritesOne old new tells r
said_one old new tells said (Ok x) t h = (said, t, h)
said_one old new tells said (Err (Refused told)) t h = absurd h
said_one old new tells said (Err Memory) t h = inr (said, t, h)
said_one old new tells said (Err (Io error)) t h = inr (said, t, h)

-- what stands against the text of a section is told
pub unread_told : {A : Type 0} (gives : Giving A) (tells : Telling) (old : Option (List ℕ)) (line : ℕ) (failure : Failure) → ((what : What) → gives (Err what) → tells [] (Some (record { line = line; what = what })))
    → (let read : Result A Failure = Err failure in Reads line gives read) → let r : Result (Unit {0}) Failure = Err failure in WritesOne old old tells r
unread_told gives tells old line failure found read =
    unread line gives (λ (f : Failure). let r : Result (Unit {0}) Failure = Err f in WritesOne old old tells r) failure (inl refl) (λ what given. (found what given, refl)) read

-- what stands against a unit text is told
pub unit_told : (shapes after : List Shape) (text : List ℕ) (old : Option (List ℕ)) (line : ℕ) (failure : Failure) → (let read : Result Compiled Failure = Err failure in Reads line (GivesUnit shapes text) read)
    → let r : Result (Unit {0}) Failure = Err failure in WritesOne old old (at_line line (OfUnit shapes after text)) r
unit_told shapes after text old line failure read = unread_told (GivesUnit shapes text) (at_line line (OfUnit shapes after text)) old line failure (λ what given. (by_what what given, refl)) read
  where
    by_what : (what : What) → GivesUnit shapes text (Err what) → OfUnit shapes after text [] (Some what)
    by_what Whats.TooLong given = (given, refl)
    by_what (Whats.Unit fault) given = (given.0, given.1, given.2, refl)
    by_what _ given = absurd given

-- a unit that a text gives was added, or its line wasn't written whole
pub adds_told : (old new : Option (List ℕ)) (line : ℕ) (shapes after : List Shape) (shape : Shape) (text : List ℕ) → length text ≤ most_unit_bytes → Compiles shapes text shape → (r : Result (Unit {0}) Failure) → WritesOne old new (at_line line (Adds shapes after shape)) r → WritesOne old new (at_line line (OfUnit shapes after text)) r
adds_told old new line shapes after shape text few unit (Ok x) h = (h.0, (shape, few, unit, h.1), h.2)
adds_told old new line shapes after shape text few unit (Err (Refused told)) h = absurd h.0.0
adds_told old new line shapes after shape text few unit (Err Memory) (inl same) = inl same
adds_told old new line shapes after shape text few unit (Err Memory) (inr h) = inr (h.0, (shape, few, unit, h.1), h.2)
adds_told old new line shapes after shape text few unit (Err (Io error)) (inl same) = inl same
adds_told old new line shapes after shape text few unit (Err (Io error)) (inr h) = inr (h.0, (shape, few, unit, h.1), h.2)

-- a list that was read
pub list_read : (text : List ℕ) (list : List Words) → Just (if_list (list_of text)) (Ok list) → OfList text (list_line (length list)) None
list_read text list h = by_list (list_of text) h
  where
    by_list : (read : Result (List Words) ListFault) → Just (if_list read) (Ok list) → as_list read (list_line (length list)) None
    by_list (Ok other) same = (refl, cc)
    by_list (Err fault) same = absurd cc

-- what stands against a list is told
pub list_told : (text : List ℕ) (old : Option (List ℕ)) (line : ℕ) (failure : Failure) → (let read : Result (List Words) Failure = Err failure in Reads line (Just (if_list (list_of text))) read)
    → let r : Result (Unit {0}) Failure = Err failure in WritesOne old old (at_line line (OfList text)) r
list_told text old line failure read = unread_told (Just (if_list (list_of text))) (at_line line (OfList text)) old line failure (λ what given. (by_list what (list_of text) given, refl)) read
  where
    by_list : (what : What) (read : Result (List Words) ListFault) → Just (if_list read) (Err what) → as_list read [] (Some what)
    by_list what (Ok other) same = absurd cc
    by_list what (Err fault) same = (cc, refl)

-- a shape that was read, and fits
pub shape_read : (shapes after : List Shape) (text : List ℕ) (shape : Shape) → shape_of text ≡ Some shape → fault shapes shape ≡ None → after ≡ shapes ++ shape ∷ [] → OfShape shapes after text (shape_line shape.name) None
shape_read shapes after text shape h f e =
    let there : fitting shapes after shape None (shape_line shape.name) None = (refl, refl, e) in
    let fits : fitting shapes after shape (fault shapes shape) (shape_line shape.name) None = subst (λ (o : Option ShapeFault). fitting shapes after shape o (shape_line shape.name) None) (sym f) there in
    subst (λ (o : Option Shape). as_shape shapes after o (shape_line shape.name) None) (sym h) fits

-- a text that is no shape
pub shape_unread : (shapes after : List Shape) (text : List ℕ) (old : Option (List ℕ)) (line : ℕ) (failure : Failure) → (let read : Result Shape Failure = Err failure in Reads line (Just (if_shape (shape_of text))) read)
    → let r : Result (Unit {0}) Failure = Err failure in WritesOne old old (at_line line (OfShape shapes after text)) r
shape_unread shapes after text old line failure read = unread_told (Just (if_shape (shape_of text))) (at_line line (OfShape shapes after text)) old line failure (λ what given. (by_shape what (shape_of text) given, refl)) read
  where
    by_shape : (what : What) (read : Option Shape) → Just (if_shape read) (Err what) → as_shape shapes after read [] (Some what)
    by_shape what (Some other) same = absurd cc
    by_shape what None same = (cc, refl)

-- a shape that doesn't fit
against : (shapes after : List Shape) (text : List ℕ) (shape : Shape) (told : ShapeFault) → shape_of text ≡ Some shape → fault shapes shape ≡ Some told → OfShape shapes after text [] (Some (Whats.Shape told))
against shapes after text shape told h f =
    let there : fitting shapes after shape (Some told) [] (Some (Whats.Shape told)) = (refl, refl) in
    let stands : fitting shapes after shape (fault shapes shape) [] (Some (Whats.Shape told)) = subst (λ (o : Option ShapeFault). fitting shapes after shape o [] (Some (Whats.Shape told))) (sym f) there in
    subst (λ (o : Option Shape). as_shape shapes after o [] (Some (Whats.Shape told))) (sym h) stands

-- what `add` refuses a shape for is told
pub shape_refused : (shapes after : List Shape) (text : List ℕ) (shape : Shape) (old : Option (List ℕ)) (line : ℕ) (told : ShapeFault) → shape_of text ≡ Some shape → (fault shapes shape ≢ None → fault shapes shape ≡ Some told) → (fault shapes shape ≡ None → told ≡ Shapes.NoMemory)
    → let r : Result (Unit {0}) Failure = Err (shape_failure line told) in WritesOne old old (at_line line (OfShape shapes after text)) r
shape_refused shapes after text shape old line told h found memory = by_fault (fault shapes shape) refl
  where
    Refusal : ShapeFault → Type 0
    Refusal f = let r : Result (Unit {0}) Failure = Err (shape_failure line f) in WritesOne old old (at_line line (OfShape shapes after text)) r

    by_told : (f : ShapeFault) → fault shapes shape ≡ Some f → Refusal f
    by_told Shapes.NoMemory e = inl refl
    by_told f e = ((against shapes after text shape f h e, refl), refl)

    by_fault : (o : Option ShapeFault) → fault shapes shape ≡ o → Refusal told
    by_fault None e = subst Refusal (sym (memory e)) (inl refl)
    by_fault (Some f) e = by_told told (found (λ none. let both : Some f ≡ None = sym e ∙ none in absurd cc))
