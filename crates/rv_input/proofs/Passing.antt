-- Lines that are passed one after another.
use Rattle.std.proofs.Common.{◌≡◌, ℕ, ◌<◌, Bool, true, false, Option, Some, None, inl, inr, List, [], ◌∷◌, ◌++◌, length, refl, sym, ap, ◌∙◌, append_assoc, append-nil}
use Rattle.std.specs.Str.Lines.{lines}
use Rattle.rv_input.specs.Coming.{IfTold, Takes, GivesLine, NonePass, BeforeRun, GivesBefore, GivesText, NoEnd, content, is_run, is_end, text_of}
use Rattle.rv_input.proofs.Told.{told_both}
use Rattle.rv_input.proofs.FirstLines.{takes_content, takes_front}

one_more : (test : List ℕ → Bool) (before : List (List ℕ)) (line : List ℕ) → NonePass test before → test line ≡ false → NonePass test (before ++ line ∷ [])
one_more test [] line n e = (e, tt)
one_more test (x ∷ xs) line n e = (n.0, one_more test xs line n.1 e)

-- lines before `@run` were passed
pub record Passed (bytes old new : List ℕ) : Type 0 where
  pub before : List (List ℕ)
  pub whole : old ≡ bytes ++ new
  pub lines_whole : lines old ≡ before ++ lines new
  pub first : NonePass is_run before

passed : (bytes line whole old mid new : List ℕ) → Passed bytes old mid → Takes line mid new → 0 < length line → is_run (content line) ≡ false → whole ≡ bytes ++ line → Passed whole old new
passed bytes line whole old mid new p t some e is = record {
  before = p.before ++ content line ∷ [];
  whole = p.whole ∙ (ap (λ (l : List ℕ). bytes ++ l) (takes_front line mid new t) ∙ (sym (append_assoc bytes line new) ∙ ap (λ (l : List ℕ). l ++ new) (sym is)));
  lines_whole = p.lines_whole ∙ (ap (λ (l : List (List ℕ)). p.before ++ l) (takes_content line mid new t some) ∙ sym (append_assoc p.before (content line ∷ []) (lines new)));
  first = one_more is_run p.before (content line) p.first e;
}

-- a line more
pub one_passed : (a b c : Option (List ℕ)) (bytes line whole : List ℕ) → 0 < length line → is_run (content line) ≡ false → whole ≡ bytes ++ line → IfTold a b (Passed bytes) → IfTold b c (Takes line) → IfTold a c (Passed whole)
one_passed a b c bytes line whole some e is p q = told_both (Passed bytes) (Takes line) (Passed whole) a b c (λ x y z first next. passed bytes line whole x y z first next some e is) p q

run_found : (bytes line old mid new : List ℕ) → Passed bytes old mid → Takes line mid new → 0 < length line → is_run (content line) ≡ true → BeforeRun bytes old new
run_found bytes line old mid new p t some e = record {
  before = p.before;
  line = line;
  whole = p.whole ∙ ap (λ (l : List ℕ). bytes ++ l) (takes_front line mid new t);
  lines_whole = p.lines_whole ∙ ap (λ (l : List (List ℕ)). p.before ++ l) (takes_content line mid new t some);
  run = e;
  first = p.first;
}

-- the line `@run`
pub run_comes : (a b c : Option (List ℕ)) (bytes line : List ℕ) → 0 < length line → is_run (content line) ≡ true → IfTold a b (Passed bytes) → IfTold b c (Takes line) → IfTold a c (GivesBefore bytes true)
run_comes a b c bytes line some e p q = told_both (Passed bytes) (Takes line) (GivesBefore bytes true) a b c (λ x y z first next. run_found bytes line x y z first next some e) p q

-- lines of a unit text were passed
pub record Kept (bytes old new : List ℕ) : Type 0 where
  pub body : List (List ℕ)
  pub whole : lines old ≡ body ++ lines new
  pub first : NonePass is_end body
  pub text : bytes ≡ text_of body

text_more : (body : List (List ℕ)) (line : List ℕ) → text_of (body ++ line ∷ []) ≡ text_of body ++ (line ++ 10 ∷ [])
text_more [] line = refl
text_more (x ∷ xs) line = ap (λ (l : List ℕ). x ++ 10 ∷ l) (text_more xs line) ∙ sym (append_assoc x (10 ∷ text_of xs) (line ++ 10 ∷ []))

kept : (given : ℕ) (bytes line whole old mid new : List ℕ) → Kept bytes old mid → GivesLine given (Some line) mid new → is_end line ≡ false → whole ≡ bytes ++ (line ++ 10 ∷ []) → Kept whole old new
kept given bytes line whole old mid new p t e is = record {
  body = p.body ++ line ∷ [];
  whole = p.whole ∙ (ap (λ (l : List (List ℕ)). p.body ++ l) t.0 ∙ sym (append_assoc p.body (line ∷ []) (lines new)));
  first = one_more is_end p.body line p.first e;
  text = is ∙ (ap (λ (l : List ℕ). l ++ (line ++ 10 ∷ [])) p.text ∙ sym (text_more p.body line));
}

-- a line more
pub one_kept : (given : ℕ) (a b c : Option (List ℕ)) (bytes line whole : List ℕ) → is_end line ≡ false → whole ≡ bytes ++ (line ++ 10 ∷ []) → IfTold a b (Kept bytes) → IfTold b c (GivesLine given (Some line)) → IfTold a c (Kept whole)
one_kept given a b c bytes line whole e is p q = told_both (Kept bytes) (GivesLine given (Some line)) (Kept whole) a b c (λ x y z first next. kept given bytes line whole x y z first next e is) p q

end_missed : (given : ℕ) (bytes old mid new : List ℕ) → Kept bytes old mid → GivesLine given None mid new → NoEnd given old new
end_missed given bytes old mid new p (inl (none, end)) =
    record { body = p.body; first = p.first; ends = inl (p.whole ∙ (ap (λ (l : List ℕ). p.body ++ lines l) none ∙ append-nil p.body), end) }
end_missed given bytes old mid new p (inr (line, is, bad)) =
    record { body = p.body; first = p.first; ends = inr (line, p.whole ∙ ap (λ (l : List (List ℕ)). p.body ++ l) is, bad) }

-- the end without it
pub no_end_comes : (given : ℕ) (a b c : Option (List ℕ)) (bytes : List ℕ) → IfTold a b (Kept bytes) → IfTold b c (GivesLine given None) → IfTold a c (GivesText given None)
no_end_comes given a b c bytes p q = told_both (Kept bytes) (GivesLine given None) (GivesText given None) a b c (λ x y z first next. end_missed given bytes x y z first next) p q
