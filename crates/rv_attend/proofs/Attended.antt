-- What is attended to between two commands.
use Rattle.std.proofs.Common.{◌≡◌, ◌∙◌, Bool, List, ℕ, [], ◌++◌, refl, sym, ap, subst, append-nil, append_assoc}
use Rattle.std.specs.Io.KnownBytes.{Keeps}
use Rattle.rv_input.specs.Coming.{Reading}
use Rattle.rv_staff.specs.Saying.{Known}
use Rattle.rv_staff.specs.Staffs.{Staffed}
use Rattle.rv_attend.specs.Attending.{Attends, Grows}
use Rattle.rv_attend.specs.Chores.{ChoresIn}
use Rattle.rv_run.specs.Staging.{stage}

-- The input

pub grows_same : (r q : Reading) → q ≡ r → Grows r q
grows_same r q same = ([], same ∙ ap (λ (l : List ℕ). record r { ahead = l }) (sym (append-nil r.ahead)))

pub grows_on : (r p q : Reading) → Grows r p → Grows p q → Grows r q
grows_on r p q first second = (
  first.0 ++ second.0,
  second.1 ∙ ap (λ (x : Reading). record x { ahead = x.ahead ++ second.0 }) first.1 ∙ ap (λ (l : List ℕ). record r { ahead = l }) (append_assoc r.ahead first.0 second.0),
)

-- Between two commands

pub keeps_silent : (a b c : Known) → Keeps a b → c ≡ b → Keeps a c
keeps_silent a b c keeps same = subst (λ (k : Known). Keeps a k) (sym same) keeps

pub attends : (lasting : Bool) (v w : Staffed) (old new : Known) (r q : Reading) (left : Known) → ChoresIn lasting v.control w.control → w.crew ≡ v.crew → Grows r q → Keeps old new
    → Attends lasting (stage v old r left) (stage w new q left)
attends lasting v w old new r q left chores crew heard written = record { chores = chores; crew = crew; heard = heard; written = written; left = refl }
