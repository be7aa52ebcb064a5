-- A script that is cut before its next section.
use Rattle.std.proofs.Common.{◌≡◌, ℕ, ◌+◌, ◌<◌, ◌≤◌, Bool, true, false, List, [], ◌∷◌, length, get_or, take, drop, refl, sym, ap, ◌∙◌, arith, add-one}
use Rattle.std.specs.Prelude.{◌==◌, ◌&&◌}
use Rattle.std.specs.Str.{IsCharBoundary}
use Rattle.std.proofs.lemmas.Bool.Decides.{nat_tests}
use Rattle.rv_text.specs.Sections.{Cut, cut, onto, front_len}

abbrev parts_of : List ℕ → List (List ℕ)
parts_of text = (cut true text).parts

-- the front is that long, and the sections are those of what follows
pub record CutsAt (start : Bool) (bs : List ℕ) : Type 0 where
  pub front : (cut start bs).front ≡ take (front_len start bs) bs
  pub rest : (cut start bs).parts ≡ parts_of (drop (front_len start bs) bs)
  pub within : front_len start bs ≤ length bs
  pub small : front_len start bs < length bs → get_or bs (front_len start bs) 0 < 128

boundary : (bs : List ℕ) (n : ℕ) → n ≤ length bs → (n < length bs → get_or bs n 0 < 128) → IsCharBoundary bs n
boundary bs n within small = (within, λ h k. absurd (omega (arith, small h, k)))

opens : (s t : Bool) → (s && t) ≡ true → (s ≡ true) × (t ≡ true)
opens true true h = (refl, refl)
opens true false h = absurd cc
opens false t h = absurd cc

opened : (b : Bool) (x : ℕ) (c : Cut) → b ≡ true → (onto b x c).parts ≡ (x ∷ c.front) ∷ c.parts
opened true x c e = refl
opened false x c e = absurd cc

cuts_on : (b : Bool) (start : Bool) (x : ℕ) (xs : List ℕ) → (start && x == 64) ≡ b → CutsAt (x == 10) xs → CutsAt start (x ∷ xs)
cuts_on true start x xs e more =
    let p = opens start (x == 64) e in
    let low : x < 128 = grind (arith, nat_tests, p.1) in
    record { front = rw e refl; rest = rw e (sym (opened (x == 64) x (cut (x == 10) xs) p.1)); within = rw e (omega arith); small = λ h. rw e low }
cuts_on false start x xs e more =
    record {
      front = rw (e, add-one) (ap (λ (l : List ℕ). x ∷ l) more.front);
      rest = rw (e, add-one) more.rest;
      within = rw e (omega (arith, more.within));
      small = rw (e, add-one) (λ h. more.small (omega (arith, h)));
    }

pub cuts_at : (start : Bool) (bs : List ℕ) → CutsAt start bs
cuts_at start [] = record { front = refl; rest = refl; within = omega arith; small = λ h. absurd (omega arith) }
cuts_at start (x ∷ xs) = cuts_on (start && x == 64) start x xs refl (cuts_at (x == 10) xs)

pub section_at : (text section rest : List ℕ) (n : ℕ) → 0 < length text → get_or text 0 0 ≡ 64 → n ≡ front_len false (drop 1 text) → section ≡ take (n + 1) text → rest ≡ drop (n + 1) text → parts_of text ≡ section ∷ parts_of rest
section_at [] section rest n some first e s r = absurd (omega arith)
section_at (x ∷ xs) section rest n some first e s r =
    let at = cuts_at false xs in
    let at_sign : (x == 64) ≡ true = grind (arith, nat_tests, first) in
    let line : (x == 10) ≡ false = grind (arith, nat_tests, first) in
    rw (s, r, add-one, e)
    (opened (x == 64) x (cut (x == 10) xs) at_sign
    ∙ ap (λ (b : Bool). (x ∷ (cut b xs).front) ∷ (cut b xs).parts) line
    ∙ ap (λ (l : List ℕ). (x ∷ l) ∷ (cut false xs).parts) at.front
    ∙ ap (λ (ls : List (List ℕ)). (x ∷ take (front_len false xs) xs) ∷ ls) at.rest)

pub section_boundary : (text : List ℕ) (n : ℕ) → 0 < length text → n ≡ front_len false (drop 1 text) → IsCharBoundary text (n + 1)
section_boundary [] n some e = absurd (omega arith)
section_boundary (x ∷ xs) n some e =
    let at = cuts_at false xs in
    rw (add-one, e) (omega (arith, at.within), λ h k. absurd (omega (arith, at.small (omega (arith, h)), k)))

pub front_boundary : (text : List ℕ) → IsCharBoundary text (front_len true text)
front_boundary text = boundary text (front_len true text) (cuts_at true text).within (cuts_at true text).small
