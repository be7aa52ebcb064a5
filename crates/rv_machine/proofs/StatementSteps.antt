-- One move in a statement.
use Rattle.std.proofs.Common.{◌≡◌, ◌≤◌, ◌+◌, arith, refl, sym, ap, ◌∙◌, ℕ, suc, ℤ, List, [], ◌∷◌, Bool, true, false, Some, None}
use Rattle.rv_shape.specs.declared.kind.Range.{Range}
use Rattle.rv_event.specs.declared.entry.Exception.{Exception}
use Rattle.rv_event.specs.declared.entry.Exception.TheVariants.{ConstraintError}
use Rattle.rv_code.specs.declared.expression.Callee.{Callee}
use Rattle.rv_code.specs.declared.statement.Choice.{Choice}
use Rattle.rv_code.specs.declared.statement.Target.{Target}
use Rattle.rv_code.specs.Expressions.{Expression, Expressions}
use Rattle.rv_code.specs.Statements as code
use Rattle.rv_code.specs.Statements.{Statement, Statements, Branches, Alternatives}
use Rattle.rv_code.specs.Bodies.{Declaration}
use Rattle.rv_exec.specs.declared.activation.Activation.{Activation}
use Rattle.rv_exec.specs.declared.setting.Setting.{Setting}
use Rattle.rv_exec.specs.declared.end.Cause.{Cause}
use Rattle.rv_exec.specs.declared.end.Cause.TheVariants as cause
use Rattle.rv_exec.specs.declared.end.End.TheVariants as ends
use Rattle.rv_exec.specs.Activations.{stepped, steps_left, put_slot, value_before}
use Rattle.rv_exec.specs.Choices.{covered}
use Rattle.rv_exec.specs.Statements.{raised_again}
use Rattle.rv_frames.specs.Frames.{Frame, assigning, branching, selecting, testing, lowering, counting, leaving, returning, passing, copying, sequencing, declaring, evaluates, argues, runs, runs_all, tries, selects_of, turns_of, counts, declares, comes, done, meant}
use Rattle.rv_frames.proofs.Pushes.{statements_push, calls_push}
use Rattle.rv_frames.proofs.Arrivals.{statements_arrive}
use Rattle.rv_frames.proofs.AtOnce.{statements_at_once}
use Rattle.rv_machine.proofs.MovesLeft.{turns_grow}
use Rattle.rv_machine.specs.Heights.{expression_height, statement_height, declarations_height, handlers_height}
use Rattle.rv_machine.specs.Moves.{expression_moves, statement_moves, statements_moves, declarations_moves, handlers_moves, most_turns, turns_moves, called_moves, level}
use Rattle.rv_machine.specs.Points.{Leads, LeadsIn}
use Rattle.rv_machine.proofs.Steps.{by_law, by_law_in}

pub null_ends : (x : Statement) (a : Activation) (fs : List Frame) (s : Setting)
    → x ≡ code.null_statement → LeadsIn s (runs x a) fs (comes (done ends.Next a)) fs
unfolding expression_moves statement_moves declarations_moves handlers_moves turns_moves expression_height statement_height declarations_height handlers_height
null_ends x a fs s is =
    by_law_in s (runs x a) (runs code.null_statement a) (comes (done ends.Next a)) fs fs fs (ap (λ y. runs y a) is) refl
    (λ bodies. (statements_at_once bodies fs s).null a)
    (λ bodies. omega arith)
    (λ bodies one. omega arith)

pub assigns : (x : Statement) (target : Target) (e : Expression) (a : Activation) (before after : List Frame) (s : Setting)
    → x ≡ code.assign target e → after ≡ assigning target ∷ before → LeadsIn s (runs x a) before (evaluates e a) after
unfolding expression_moves statement_moves declarations_moves handlers_moves turns_moves expression_height statement_height declarations_height handlers_height
assigns x target e a before after s is put =
    by_law_in s (runs x a) (runs (code.assign target e) a) (evaluates e a) before after (assigning target ∷ before) (ap (λ y. runs y a) is) put
    (λ bodies. (statements_push bodies before s).assignment target e a)
    (λ bodies. omega arith)
    (λ bodies one. omega arith)

pub chooses : (x : Statement) (bs : Branches) (ss : Statements) (a : Activation) (fs : List Frame) (s : Setting)
    → x ≡ code.choice bs ss → LeadsIn s (runs x a) fs (tries bs ss a) fs
unfolding expression_moves statement_moves declarations_moves handlers_moves turns_moves expression_height statement_height declarations_height handlers_height
chooses x bs ss a fs s is =
    by_law_in s (runs x a) (runs (code.choice bs ss) a) (tries bs ss a) fs fs fs (ap (λ y. runs y a) is) refl
    (λ bodies. (statements_push bodies fs s).choice bs ss a)
    (λ bodies. omega arith)
    (λ bodies one. omega arith)

pub selects : (x : Statement) (e : Expression) (more : Alternatives) (a : Activation) (before after : List Frame) (s : Setting)
    → x ≡ code.selection e more → after ≡ selecting more ∷ before → LeadsIn s (runs x a) before (evaluates e a) after
unfolding expression_moves statement_moves declarations_moves handlers_moves turns_moves expression_height statement_height declarations_height handlers_height
selects x e more a before after s is put =
    by_law_in s (runs x a) (runs (code.selection e more) a) (evaluates e a) before after (selecting more ∷ before) (ap (λ y. runs y a) is) put
    (λ bodies. (statements_push bodies before s).selection e more a)
    (λ bodies. omega arith)
    (λ bodies one. omega arith)

pub loops : (x : Statement) (e : Expression) (ss : Statements) (n : ℕ) (a : Activation) (fs : List Frame) (s : Setting)
    → x ≡ code.while_loop e ss → n ≡ suc (steps_left a) → n ≤ most_turns → LeadsIn s (runs x a) fs (turns_of n e ss a) fs
unfolding expression_moves statement_moves declarations_moves handlers_moves turns_moves expression_height statement_height declarations_height handlers_height
loops x e ss n a fs s is many most =
    by_law_in s (runs x a) (runs (code.while_loop e ss) a) (turns_of n e ss a) fs fs fs (ap (λ y. runs y a) is) refl
    (λ bodies. (statements_push bodies fs s).while_loop e ss a ∙ ap (λ (k : ℕ). meant bodies (turns_of k e ss a) fs s) (sym many))
    (λ bodies. let fewer = turns_grow n most_turns (expression_moves (called_moves bodies (level s)) e + statements_moves (called_moves bodies (level s)) ss + 3) most in omega (arith, fewer))
    (λ bodies one. omega arith)

pub loops_over : (x : Statement) (slot : ℕ) (is_reverse : Bool) (range : Range) (low high : Expression) (ss : Statements) (a : Activation) (before after : List Frame) (s : Setting)
    → x ≡ code.for_loop slot is_reverse range low high ss → after ≡ lowering slot is_reverse range high ss ∷ before
    → LeadsIn s (runs x a) before (evaluates low a) after
unfolding expression_moves statement_moves declarations_moves handlers_moves turns_moves expression_height statement_height declarations_height handlers_height
loops_over x slot is_reverse range low high ss a before after s is put =
    by_law_in s (runs x a) (runs (code.for_loop slot is_reverse range low high ss) a) (evaluates low a) before after (lowering slot is_reverse range high ss ∷ before) (ap (λ y. runs y a) is) put
    (λ bodies. (statements_push bodies before s).for_loop slot is_reverse range low high ss a)
    (λ bodies. omega arith)
    (λ bodies one. omega arith)

pub exits : (x : Statement) (e : Expression) (a : Activation) (before after : List Frame) (s : Setting)
    → x ≡ code.exit_when e → after ≡ leaving ∷ before → LeadsIn s (runs x a) before (evaluates e a) after
unfolding expression_moves statement_moves declarations_moves handlers_moves turns_moves expression_height statement_height declarations_height handlers_height
exits x e a before after s is put =
    by_law_in s (runs x a) (runs (code.exit_when e) a) (evaluates e a) before after (leaving ∷ before) (ap (λ y. runs y a) is) put
    (λ bodies. (statements_push bodies before s).exit_when e a)
    (λ bodies. omega arith)
    (λ bodies one. omega arith)

pub returns_none : (x : Statement) (a : Activation) (fs : List Frame) (s : Setting)
    → x ≡ code.returns → LeadsIn s (runs x a) fs (comes (done (ends.Return None) a)) fs
unfolding expression_moves statement_moves declarations_moves handlers_moves turns_moves expression_height statement_height declarations_height handlers_height
returns_none x a fs s is =
    by_law_in s (runs x a) (runs code.returns a) (comes (done (ends.Return None) a)) fs fs fs (ap (λ y. runs y a) is) refl
    (λ bodies. (statements_at_once bodies fs s).returns a)
    (λ bodies. omega arith)
    (λ bodies one. omega arith)

pub returns_one : (x : Statement) (e : Expression) (a : Activation) (before after : List Frame) (s : Setting)
    → x ≡ code.returns_value e → after ≡ returning ∷ before → LeadsIn s (runs x a) before (evaluates e a) after
unfolding expression_moves statement_moves declarations_moves handlers_moves turns_moves expression_height statement_height declarations_height handlers_height
returns_one x e a before after s is put =
    by_law_in s (runs x a) (runs (code.returns_value e) a) (evaluates e a) before after (returning ∷ before) (ap (λ y. runs y a) is) put
    (λ bodies. (statements_push bodies before s).return_value e a)
    (λ bodies. omega arith)
    (λ bodies one. omega arith)

pub raises : (x : Statement) (exception : Exception) (a : Activation) (fs : List Frame) (s : Setting)
    → x ≡ code.raises exception → LeadsIn s (runs x a) fs (comes (done (ends.Abandoned (cause.Raised exception)) a)) fs
unfolding expression_moves statement_moves declarations_moves handlers_moves turns_moves expression_height statement_height declarations_height handlers_height
raises x exception a fs s is =
    by_law_in s (runs x a) (runs (code.raises exception) a) (comes (done (ends.Abandoned (cause.Raised exception)) a)) fs fs fs (ap (λ y. runs y a) is) refl
    (λ bodies. (statements_at_once bodies fs s).raises exception a)
    (λ bodies. omega arith)
    (λ bodies one. omega arith)

pub reraises : (x : Statement) (why : Cause) (a : Activation) (fs : List Frame) (s : Setting)
    → x ≡ code.reraises → why ≡ raised_again s.handling → LeadsIn s (runs x a) fs (comes (done (ends.Abandoned why) a)) fs
unfolding expression_moves statement_moves declarations_moves handlers_moves turns_moves expression_height statement_height declarations_height handlers_height
reraises x why a fs s is again =
    by_law_in s (runs x a) (runs code.reraises a) (comes (done (ends.Abandoned why) a)) fs fs fs (ap (λ y. runs y a) is) refl
    (λ bodies. (statements_at_once bodies fs s).reraises a ∙ ap (λ (w : Cause). meant bodies (comes (done (ends.Abandoned w) a)) fs s) (sym again))
    (λ bodies. omega arith)
    (λ bodies one. omega arith)

pub calls_of : (x : Statement) (callee : Callee) (es : Expressions) (targets : List Target) (none : List ℤ) (a : Activation) (before given after : List Frame) (s : Setting)
    → x ≡ code.calls callee es targets → none ≡ [] → given ≡ copying targets ∷ before → after ≡ passing callee ∷ given
    → LeadsIn s (runs x a) before (argues es none a) after
unfolding expression_moves statement_moves declarations_moves handlers_moves turns_moves expression_height statement_height declarations_height handlers_height
calls_of x callee es targets none a before given after s is empty put on =
    by_law_in s (runs x a) (runs (code.calls callee es targets) a) (argues es none a) before after (passing callee ∷ copying targets ∷ before) (ap (λ y. runs y a) is) (on ∙ ap (λ (fs : List Frame). passing callee ∷ fs) put)
    (λ bodies. (statements_push bodies before s).call callee es targets a ∙ ap (λ (vs : List ℤ). meant bodies (argues es vs a) (passing callee ∷ copying targets ∷ before) s) (sym empty))
    (λ bodies. omega arith)
    (λ bodies one. omega arith)

pub no_statement : (ss : Statements) (a : Activation) (fs : List Frame)
    → ss ≡ code.no_statements → Leads (runs_all ss a) fs (comes (done ends.Next a)) fs
unfolding expression_moves statement_moves declarations_moves handlers_moves turns_moves expression_height statement_height declarations_height handlers_height
no_statement ss a fs is =
    by_law (runs_all ss a) (runs_all code.no_statements a) (comes (done ends.Next a)) fs fs fs (ap (λ y. runs_all y a) is) refl
    (λ bodies s. (statements_arrive bodies fs s).last_statement a)
    (λ bodies s. omega arith)
    (λ bodies s one. omega arith)

pub next_statement : (ss rest : Statements) (x : Statement) (a b : Activation) (before after : List Frame)
    → ss ≡ code.and_statement x rest → stepped a ≡ Some b → after ≡ sequencing rest ∷ before → Leads (runs_all ss a) before (runs x b) after
unfolding expression_moves statement_moves declarations_moves handlers_moves turns_moves expression_height statement_height declarations_height handlers_height
next_statement ss rest x a b before after is took put =
    by_law (runs_all ss a) (runs_all (code.and_statement x rest) a) (runs x b) before after (sequencing rest ∷ before) (ap (λ y. runs_all y a) is) put
    (λ bodies s. (statements_push bodies before s).next_statement x rest a b took)
    (λ bodies s. omega arith)
    (λ bodies s one. omega arith)

pub overruns : (ss rest : Statements) (x : Statement) (a b : Activation) (fs : List Frame)
    → ss ≡ code.and_statement x rest → stepped a ≡ None → b ≡ a → Leads (runs_all ss a) fs (comes (done (ends.Abandoned cause.Overrun) b)) fs
unfolding expression_moves statement_moves declarations_moves handlers_moves turns_moves expression_height statement_height declarations_height handlers_height
overruns ss rest x a b fs is none same =
    by_law (runs_all ss a) (runs_all (code.and_statement x rest) a) (comes (done (ends.Abandoned cause.Overrun) b)) fs fs fs (ap (λ y. runs_all y a) is) refl
    (λ bodies s. (statements_push bodies fs s).overrun x rest a none ∙ ap (λ (c : Activation). meant bodies (comes (done (ends.Abandoned cause.Overrun) c)) fs s) (sym same))
    (λ bodies s. omega arith)
    (λ bodies s one. omega arith)

pub no_branch : (bs : Branches) (ss : Statements) (a : Activation) (fs : List Frame)
    → bs ≡ code.no_branches → Leads (tries bs ss a) fs (runs_all ss a) fs
unfolding expression_moves statement_moves declarations_moves handlers_moves turns_moves expression_height statement_height declarations_height handlers_height
no_branch bs ss a fs is =
    by_law (tries bs ss a) (tries code.no_branches ss a) (runs_all ss a) fs fs fs (ap (λ y. tries y ss a) is) refl
    (λ bodies s. (statements_arrive bodies fs s).last_branch ss a)
    (λ bodies s. omega arith)
    (λ bodies s one. omega arith)

pub next_branch : (bs rest : Branches) (e : Expression) (ss otherwise : Statements) (a : Activation) (before after : List Frame)
    → bs ≡ code.and_branch e ss rest → after ≡ branching ss rest otherwise ∷ before → Leads (tries bs otherwise a) before (evaluates e a) after
unfolding expression_moves statement_moves declarations_moves handlers_moves turns_moves expression_height statement_height declarations_height handlers_height
next_branch bs rest e ss otherwise a before after is put =
    by_law (tries bs otherwise a) (tries (code.and_branch e ss rest) otherwise a) (evaluates e a) before after (branching ss rest otherwise ∷ before) (ap (λ y. tries y otherwise a) is) put
    (λ bodies s. (statements_push bodies before s).branch e ss otherwise rest a)
    (λ bodies s. omega arith)
    (λ bodies s one. omega arith)

pub no_turn : (n : ℕ) (e : Expression) (ss : Statements) (a : Activation) (fs : List Frame)
    → n ≡ 0 → Leads (turns_of n e ss a) fs (comes (done (ends.Abandoned cause.Overrun) a)) fs
unfolding expression_moves statement_moves declarations_moves handlers_moves turns_moves expression_height statement_height declarations_height handlers_height
no_turn n e ss a fs is =
    by_law (turns_of n e ss a) (turns_of 0 e ss a) (comes (done (ends.Abandoned cause.Overrun) a)) fs fs fs (ap (λ (k : ℕ). turns_of k e ss a) is) refl
    (λ bodies s. (statements_at_once bodies fs s).no_turn e ss a)
    (λ bodies s. omega arith)
    (λ bodies s one. omega arith)

pub next_turn : (n m : ℕ) (e : Expression) (ss : Statements) (a : Activation) (before after : List Frame)
    → n ≡ suc m → after ≡ testing m e ss ∷ before → Leads (turns_of n e ss a) before (evaluates e a) after
unfolding expression_moves statement_moves declarations_moves handlers_moves turns_moves expression_height statement_height declarations_height handlers_height
next_turn n m e ss a before after is put =
    by_law (turns_of n e ss a) (turns_of (suc m) e ss a) (evaluates e a) before after (testing m e ss ∷ before) (ap (λ (k : ℕ). turns_of k e ss a) is) put
    (λ bodies s. (statements_push bodies before s).turn m e ss a)
    (λ bodies s. omega arith)
    (λ bodies s one. omega arith)

pub no_value : (n : ℕ) (is_reverse : Bool) (low high : ℤ) (slot : ℕ) (ss : Statements) (a : Activation) (fs : List Frame)
    → n ≡ 0 → Leads (counts n is_reverse low high slot ss a) fs (comes (done ends.Next a)) fs
unfolding expression_moves statement_moves declarations_moves handlers_moves turns_moves expression_height statement_height declarations_height handlers_height
no_value n is_reverse low high slot ss a fs is =
    by_law (counts n is_reverse low high slot ss a) (counts 0 is_reverse low high slot ss a) (comes (done ends.Next a)) fs fs fs (ap (λ (k : ℕ). counts k is_reverse low high slot ss a) is) refl
    (λ bodies s. (statements_at_once bodies fs s).no_value is_reverse low high slot ss a)
    (λ bodies s. omega arith)
    (λ bodies s one. omega arith)

pub value_overruns : (n m : ℕ) (is_reverse : Bool) (low high : ℤ) (slot : ℕ) (ss : Statements) (a b : Activation) (fs : List Frame)
    → n ≡ suc m → stepped a ≡ None → b ≡ a
    → Leads (counts n is_reverse low high slot ss a) fs (comes (done (ends.Abandoned cause.Overrun) b)) fs
unfolding expression_moves statement_moves declarations_moves handlers_moves turns_moves expression_height statement_height declarations_height handlers_height
value_overruns n m is_reverse low high slot ss a b fs is none same =
    by_law (counts n is_reverse low high slot ss a) (counts (suc m) is_reverse low high slot ss a) (comes (done (ends.Abandoned cause.Overrun) b)) fs fs fs (ap (λ (k : ℕ). counts k is_reverse low high slot ss a) is) refl
    (λ bodies s. (statements_at_once bodies fs s).value_overruns m is_reverse low high slot ss a none ∙ ap (λ (c : Activation). meant bodies (comes (done (ends.Abandoned cause.Overrun) c)) fs s) (sym same))
    (λ bodies s. omega arith)
    (λ bodies s one. omega arith)

pub next_value : (n m : ℕ) (is_reverse : Bool) (low high v : ℤ) (slot : ℕ) (ss : Statements) (a b d : Activation) (before after : List Frame)
    → n ≡ suc m → stepped a ≡ Some b → v ≡ value_before is_reverse low high m → d ≡ put_slot slot v b
    → after ≡ counting m is_reverse low high slot ss ∷ before
    → Leads (counts n is_reverse low high slot ss a) before (runs_all ss d) after
unfolding expression_moves statement_moves declarations_moves handlers_moves turns_moves expression_height statement_height declarations_height handlers_height
next_value n m is_reverse low high v slot ss a b d before after is took value at put =
    by_law (counts n is_reverse low high slot ss a) (counts (suc m) is_reverse low high slot ss a) (runs_all ss d) before after (counting m is_reverse low high slot ss ∷ before) (ap (λ (k : ℕ). counts k is_reverse low high slot ss a) is) put
    (λ bodies s. (statements_push bodies before s).counted m is_reverse low high slot ss a b took
    ∙ ap (λ (c : Activation). meant bodies (runs_all ss c) (counting m is_reverse low high slot ss ∷ before) s) (sym (at ∙ ap (λ (z : ℤ). put_slot slot z b) value)))
    (λ bodies s. omega arith)
    (λ bodies s one. omega arith)

pub no_declaration : (ds : List Declaration) (a : Activation) (fs : List Frame)
    → ds ≡ [] → Leads (declares ds a) fs (comes (done ends.Next a)) fs
unfolding expression_moves statement_moves declarations_moves handlers_moves turns_moves expression_height statement_height declarations_height handlers_height
no_declaration ds a fs is =
    by_law (declares ds a) (declares [] a) (comes (done ends.Next a)) fs fs fs (ap (λ y. declares y a) is) refl
    (λ bodies s. (statements_at_once bodies fs s).no_declaration a)
    (λ bodies s. omega arith)
    (λ bodies s one. omega arith)

pub next_declaration : (ds rest : List Declaration) (d : Declaration) (a : Activation) (before after : List Frame)
    → ds ≡ d ∷ rest → after ≡ declaring d.target rest ∷ before → Leads (declares ds a) before (evaluates d.initial a) after
unfolding expression_moves statement_moves declarations_moves handlers_moves turns_moves expression_height statement_height declarations_height handlers_height
next_declaration ds rest d a before after is put =
    by_law (declares ds a) (declares (d ∷ rest) a) (evaluates d.initial a) before after (declaring d.target rest ∷ before) (ap (λ y. declares y a) is) put
    (λ bodies s. (calls_push bodies before s).declaration d rest a)
    (λ bodies s. omega arith)
    (λ bodies s one. omega arith)

pub no_alternative : (more : Alternatives) (v : ℤ) (a : Activation) (fs : List Frame)
    → more ≡ code.no_alternatives → Leads (selects_of more v a) fs (comes (done (ends.Abandoned (cause.Raised ConstraintError)) a)) fs
unfolding expression_moves statement_moves declarations_moves handlers_moves turns_moves expression_height statement_height declarations_height handlers_height
no_alternative more v a fs is =
    by_law (selects_of more v a) (selects_of code.no_alternatives v a) (comes (done (ends.Abandoned (cause.Raised ConstraintError)) a)) fs fs fs (ap (λ y. selects_of y v a) is) refl
    (λ bodies s. (statements_at_once bodies fs s).no_alternative v a)
    (λ bodies s. omega arith)
    (λ bodies s one. omega arith)

pub alternative : (more rest : Alternatives) (choices : List Choice) (ss : Statements) (v : ℤ) (a : Activation) (fs : List Frame)
    → more ≡ code.and_alternative choices ss rest → covered choices v ≡ true → Leads (selects_of more v a) fs (runs_all ss a) fs
unfolding expression_moves statement_moves declarations_moves handlers_moves turns_moves expression_height statement_height declarations_height handlers_height
alternative more rest choices ss v a fs is does =
    by_law (selects_of more v a) (selects_of (code.and_alternative choices ss rest) v a) (runs_all ss a) fs fs fs (ap (λ y. selects_of y v a) is) refl
    (λ bodies s. (statements_at_once bodies fs s).alternative choices ss rest v a does)
    (λ bodies s. omega arith)
    (λ bodies s one. omega arith)

pub next_alternative : (more rest : Alternatives) (choices : List Choice) (ss : Statements) (v : ℤ) (a : Activation) (fs : List Frame)
    → more ≡ code.and_alternative choices ss rest → covered choices v ≡ false → Leads (selects_of more v a) fs (selects_of rest v a) fs
unfolding expression_moves statement_moves declarations_moves handlers_moves turns_moves expression_height statement_height declarations_height handlers_height
next_alternative more rest choices ss v a fs is fails =
    by_law (selects_of more v a) (selects_of (code.and_alternative choices ss rest) v a) (selects_of rest v a) fs fs fs (ap (λ y. selects_of y v a) is) refl
    (λ bodies s. (statements_at_once bodies fs s).next_alternative choices ss rest v a fails)
    (λ bodies s. omega arith)
    (λ bodies s one. omega arith)
