-- What a refusal names (own).
use Rattle.std.specs.Prelude.{◌≡◌, ℕ, if◌then◌else◌, Some}
use Rattle.rv_event.specs.declared.entry.Request.{Request}
use Rattle.rv_event.specs.declared.entry.Rule.{Rule}
use Rattle.rv_history.specs.History.{History, version}
use Rattle.rv_history.specs.Subject.{subject}
use Rattle.rv_history.specs.Rules.{aim, decided, first, is_grant}

-- the first rule that the request violates, the line that decides its call, or 0 for another rule than the grant, and
-- the version of the list
pub record IsRefusal (h : History) (actor : ℕ) (request : Request) (rule : Rule) (line list_version : ℕ) : Type 0 where
  pub named : first h actor request ≡ Some rule
  pub line_is : line ≡ (if is_grant rule then decided h (subject h actor) (aim h.shapes actor request).1 else 0)
  pub version_is : list_version ≡ version h
