-- The numbers of a script's lines.
use Rattle.std.proofs.Common.{◌≡◌, ℕ, ◌+◌, ◌≤◌, ◌<◌, ◌^◌, Bool, true, false, List, [], ◌∷◌, length, refl, arith, length-drop}
use Rattle.std.specs.Prelude.{◌==◌, ◌&&◌, if◌then◌else◌}
use Rattle.std.specs.List.{filter, after_first}
use Rattle.rv_script.specs.Openings.{AreNumbered, is_settings, opening_of, parted_by, parted}
use Rattle.rv_text.specs.Sections.{SectionText, Cut, onto, cut, is_line_feed, lines_ended, front_of, sections_from, sections_of}

-- how long parts are together
abbrev total : List (List ℕ) → ℕ
total [] = 0
total (part ∷ parts) = length part + total parts

few_kept : (p : ℕ → Bool) (xs : List ℕ) → length (filter p xs) ≤ length xs
few_kept p [] = omega arith
few_kept p (x ∷ xs) = by_test (p x) (few_kept p xs)
  where
    by_test : (t : Bool) → length (filter p xs) ≤ length xs → length (if t then x ∷ filter p xs else filter p xs) ≤ length (x ∷ xs)
    by_test true h = omega arith
    by_test false h = omega arith

few_after : (p : ℕ → Bool) (xs : List ℕ) → length (after_first p xs) ≤ length xs
few_after p xs = simp length-drop (omega arith)

onto_length : (t : Bool) (byte : ℕ) (c : Cut) → length (onto t byte c).front + total (onto t byte c).parts ≡ length c.front + total c.parts + 1
onto_length true byte c = omega arith
onto_length false byte c = omega arith

cut_length : (start : Bool) (bytes : List ℕ) → length (cut start bytes).front + total (cut start bytes).parts ≡ length bytes
cut_length start [] = refl
cut_length start (byte ∷ bytes) =
    let more = onto_length (start && byte == 64) byte (cut (byte == 10) bytes) in
    let rest = cut_length (byte == 10) bytes in
    omega arith

numbered_from : (line : ℕ) (parts : List (List ℕ)) → line + total parts ≤ 2 ^ 63 → AreNumbered (sections_from line parts)
numbered_from line [] few = tt
numbered_from line (part ∷ parts) few =
    let text = few_after is_line_feed part in
    let ended = few_kept is_line_feed part in
    (omega arith, numbered_from (line + lines_ended part) parts (omega arith))

pub are_numbered : (script : List ℕ) → length script < 2 ^ 63 → AreNumbered (sections_of script)
are_numbered script few =
    let whole = cut_length true script in
    let ended = few_kept is_line_feed (front_of script) in
    numbered_from (1 + lines_ended (front_of script)) (cut true script).parts (omega arith)

-- without the first
pub parted_numbered : (sections : List SectionText) → AreNumbered sections → AreNumbered (parted sections).sections
parted_numbered [] numbered = tt
parted_numbered (section ∷ others) numbered = by_test (is_settings (opening_of section.opening))
  where
    by_test : (t : Bool) → AreNumbered (parted_by t section others).sections
    by_test true = numbered.1
    by_test false = numbered

pub opened_numbered : (script : List ℕ) → length script < 2 ^ 63 → AreNumbered (parted (sections_of script)).sections
opened_numbered script few = parted_numbered (sections_of script) (are_numbered script few)
