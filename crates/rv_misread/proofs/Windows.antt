-- Which fault of a line with a window is the first.
use Rattle.std.proofs.Common.{◌≡◌, ℕ, Bool, true, false, List, refl, subst}
use Rattle.std.specs.Prelude.{◌||◌, codes, Some, None, Result, Ok, Err}
use Rattle.std.specs.Result.{result_err}
use Rattle.std.specs.Str.{bytes_eq}
use Rattle.rv_access.specs.Words.{WindowWords, Words}
use Rattle.rv_access.specs.Windows.{is_window}
use Rattle.rv_access.specs.Reading.{named, phrase_of, windowed, within, worded}
use Rattle.rv_access.specs.declared.fault.ListFault.{ListFault}
use Rattle.rv_misread.specs.Lists.{Frames, fault_within, is_verb}

within_fault : (number : ℕ) (window : WindowWords) (line : Words) → result_err (within number window line) ≡ fault_within number window
within_fault number window line = by_window (is_window window) refl
  where
    by_window : (b : Bool) → is_window window ≡ b → result_err (within number window line) ≡ fault_within number window
    by_window true is = rw is refl
    by_window false is = rw is refl

-- a fault of the names comes first
pub bad_names : (number : ℕ) (found : List (List ℕ)) (window : WindowWords) (read : Result Words ListFault) (fault : ListFault)
    → Frames found window → Some fault ≡ result_err read → Some fault ≡ result_err (windowed number (phrase_of found) read)
bad_names number found window (Ok line) fault frames is = absurd cc
bad_names number found window (Err other) fault frames is = rw (frames.words, frames.framed) is

-- without one that of the window is told, if it has one
pub good_names : (number : ℕ) (found : List (List ℕ)) (window : WindowWords) (read : Result Words ListFault)
    → Frames found window → None ≡ result_err read → result_err (windowed number (phrase_of found) read) ≡ fault_within number window
good_names number found window (Ok line) frames is = rw (frames.words, frames.framed) (within_fault number window line)
good_names number found window (Err fault) frames is = absurd cc

-- behind `allow` or `deny` the names decide
pub as_named : (number : ℕ) (verb : List ℕ) (unit : List ℕ) (object : List ℕ) (operation : List ℕ) → is_verb verb ≡ true
    → worded number verb unit object operation ≡ named number (bytes_eq verb (codes "allow")) unit object operation
as_named number verb unit object operation h = by_allow (bytes_eq verb (codes "allow")) refl
  where
    denies : bytes_eq verb (codes "allow") ≡ false → bytes_eq verb (codes "deny") ≡ true
    denies is = subst (λ (b : Bool). (b || bytes_eq verb (codes "deny")) ≡ true) is h

    by_allow : (b : Bool) → bytes_eq verb (codes "allow") ≡ b
        → worded number verb unit object operation ≡ named number (bytes_eq verb (codes "allow")) unit object operation
    by_allow true is = rw is refl
    by_allow false is = rw (is, denies is) refl
