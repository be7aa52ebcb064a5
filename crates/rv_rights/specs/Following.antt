-- How a review of rights follows a journal, entry by entry (own).
use Rattle.std.specs.Prelude.{◌≡◌, List, Option}
use Rattle.rv_access.specs.Words.{Words}
use Rattle.rv_history.specs.History.{History, force}
use Rattle.rv_rights.specs.Rights.{WishText}
use Rattle.rv_rights.specs.declared.rights.Rights.{Rights}

-- it has the list in force, and the other
pub record Follows (wish : WishText) (against : Option (List Words)) (it : Rights) (h : History) : Type 0 where
  pub taken : it.wish ≡ wish
  pub other : it.other ≡ against
  pub list : it.list ≡ force h
