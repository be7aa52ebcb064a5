-- A script that is cut before its next section, and the section cut off.
use Rattle.std.proofs.Common.{◌≡◌, ℕ, ◌+◌, ◌<◌, Bool, true, false, cond, List, [], ◌∷◌, length, get_or, take, drop, refl, sym, ap, ◌∙◌, arith, add-one}
use Rattle.std.specs.Prelude.{◌==◌, ◌&&◌}
use Rattle.std.specs.List.{after_first}
use Rattle.std.specs.Str.Lines.{lines}
use Rattle.std.proofs.lemmas.Bool.Decides.{nat_tests}
use Rattle.rv_text.specs.Sections.{cut, front_len, front_of, sections_of, sections_from, first_line, lines_ended, is_line_feed}
use Rattle.rv_text.proofs.NextAt.{cuts_at, section_at}

again_by : (b start : Bool) (x : ℕ) (xs : List ℕ) → (start && x == 64) ≡ b → front_len true (drop (front_len (x == 10) xs) xs) ≡ 0 → front_len true (drop (front_len start (x ∷ xs)) (x ∷ xs)) ≡ 0
again_by true true x xs e more = rw e (rw e refl)
again_by true false x xs e more = absurd cc
again_by false start x xs e more = rw (e, add-one) more

-- what follows the front begins with a section, or is empty
pub front_len_again : (start : Bool) (bs : List ℕ) → front_len true (drop (front_len start bs) bs) ≡ 0
front_len_again start [] = refl
front_len_again start (x ∷ xs) = again_by (start && x == 64) start x xs refl (front_len_again (x == 10) xs)

at_sign_by : (b : Bool) (x n : ℕ) → (x == 64) ≡ b → cond b 0 (n + 1) ≡ 0 → x ≡ 64
at_sign_by true x n e h = grind (arith, nat_tests, e)
at_sign_by false x n e h = absurd (omega arith)

-- a text with no front has an `@` first
pub at_sign : (bs : List ℕ) → 0 < length bs → front_len true bs ≡ 0 → get_or bs 0 0 ≡ 64
at_sign [] some h = absurd (omega arith)
at_sign (x ∷ xs) some h = at_sign_by (x == 64) x (front_len (x == 10) xs) refl h

-- the sections behind the front are those of the script
pub opened : (script front text : List ℕ) (n feeds : ℕ) → n ≡ front_len true script → front ≡ take n script → text ≡ drop n script → feeds ≡ lines_ended front → sections_from (1 + feeds) (cut true text).parts ≡ sections_of script
opened script front text n feeds e f t h =
    let at = cuts_at true script in
    let whole : front ≡ front_of script = f ∙ (rw e (sym at.front)) in
    let behind : (cut true text).parts ≡ (cut true script).parts = rw (t, e) (sym at.rest) in
    rw (behind, h, whole) refl

-- the first section, and the sections behind it
pub cut_off : (text part rest opening body : List ℕ) (n line feeds : ℕ) → 0 < length text → front_len true text ≡ 0 → n ≡ front_len false (drop 1 text) → part ≡ take (n + 1) text → rest ≡ drop (n + 1) text → lines part ≡ opening ∷ lines body → body ≡ after_first is_line_feed part → feeds ≡ lines_ended part → sections_from line (cut true text).parts ≡ record { line = line; opening = opening; text = body } ∷ sections_from (line + feeds) (cut true rest).parts
cut_off text part rest opening body n line feeds some no_front e p r l b f =
    let parts = section_at text part rest n some (at_sign text some no_front) e p r in
    let first : first_line (lines part) ≡ opening = ap first_line l in
    rw (parts, first, ← b, ← f) refl

-- what follows a section begins with a section, or is empty
pub rest_opens : (text rest : List ℕ) (n : ℕ) → 0 < length text → n ≡ front_len false (drop 1 text) → rest ≡ drop (n + 1) text → front_len true rest ≡ 0
rest_opens [] rest n some e r = absurd (omega arith)
rest_opens (x ∷ xs) rest n some e r = rw (r, add-one, e) (front_len_again false xs)
