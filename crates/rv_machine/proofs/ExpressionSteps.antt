-- One move in an expression, and in the arguments of a call.
use Rattle.std.proofs.Common.{◌≡◌, arith, refl, sym, ap, ◌∙◌, ℕ, ℤ, pos, List, [], ◌∷◌, true, false, Ok}
use Rattle.std.specs.Prelude.{slice_index_or}
use Rattle.rv_shape.specs.declared.kind.Range.{Range}
use Rattle.rv_code.specs.declared.expression.Callee.{Callee}
use Rattle.rv_code.specs.declared.expression.Prefix.{Prefix}
use Rattle.rv_code.specs.declared.expression.Operator.{Operator}
use Rattle.rv_code.specs.Expressions as code
use Rattle.rv_code.specs.Expressions.{Expression, Expressions, Links}
use Rattle.rv_exec.specs.declared.activation.Activation.{Activation}
use Rattle.rv_exec.specs.Operators.{decides}
use Rattle.rv_frames.specs.Frames.{Frame, prefixing, linking, operating, bounding, arguing, passing, giving, evaluates, links, argues, comes, valued, listed, meant}
use Rattle.rv_frames.proofs.Pushes.{expressions_push}
use Rattle.rv_frames.proofs.Arrivals.{expressions_arrive}
use Rattle.rv_machine.specs.Heights.{expression_height, statement_height, declarations_height, handlers_height}
use Rattle.rv_machine.specs.Moves.{expression_moves, statement_moves, declarations_moves, handlers_moves, turns_moves}
use Rattle.rv_machine.specs.Points.{Leads}
use Rattle.rv_machine.proofs.Steps.{by_law}

pub literal : (e : Expression) (n m : ℤ) (a : Activation) (fs : List Frame)
    → e ≡ code.literal n → m ≡ n → Leads (evaluates e a) fs (comes (valued (Ok m) a)) fs
unfolding expression_moves statement_moves declarations_moves handlers_moves turns_moves expression_height statement_height declarations_height handlers_height
literal e n m a fs is same =
    by_law (evaluates e a) (evaluates (code.literal n) a) (comes (valued (Ok m) a)) fs fs fs (ap (λ x. evaluates x a) is) refl
    (λ bodies s. (expressions_arrive bodies fs s).literal n a ∙ ap (λ v. meant bodies (comes (valued (Ok v) a)) fs s) (sym same))
    (λ bodies s. omega arith)
    (λ bodies s one. omega arith)

pub variable : (e : Expression) (slot : ℕ) (v : ℤ) (a : Activation) (fs : List Frame)
    → e ≡ code.variable slot → v ≡ slice_index_or a.slots slot (pos 0) → Leads (evaluates e a) fs (comes (valued (Ok v) a)) fs
unfolding expression_moves statement_moves declarations_moves handlers_moves turns_moves expression_height statement_height declarations_height handlers_height
variable e slot v a fs is value =
    by_law (evaluates e a) (evaluates (code.variable slot) a) (comes (valued (Ok v) a)) fs fs fs (ap (λ x. evaluates x a) is) refl
    (λ bodies s. (expressions_arrive bodies fs s).variable slot a ∙ ap (λ z. meant bodies (comes (valued (Ok z) a)) fs s) (sym value))
    (λ bodies s. omega arith)
    (λ bodies s one. omega arith)

pub component : (e : Expression) (index : ℕ) (v : ℤ) (a : Activation) (fs : List Frame)
    → e ≡ code.component index → v ≡ slice_index_or a.components index (pos 0) → Leads (evaluates e a) fs (comes (valued (Ok v) a)) fs
unfolding expression_moves statement_moves declarations_moves handlers_moves turns_moves expression_height statement_height declarations_height handlers_height
component e index v a fs is value =
    by_law (evaluates e a) (evaluates (code.component index) a) (comes (valued (Ok v) a)) fs fs fs (ap (λ x. evaluates x a) is) refl
    (λ bodies s. (expressions_arrive bodies fs s).component index a ∙ ap (λ z. meant bodies (comes (valued (Ok z) a)) fs s) (sym value))
    (λ bodies s. omega arith)
    (λ bodies s one. omega arith)

pub prefixed : (e first : Expression) (op : Prefix) (a : Activation) (before after : List Frame)
    → e ≡ code.prefixed op first → after ≡ prefixing op ∷ before → Leads (evaluates e a) before (evaluates first a) after
unfolding expression_moves statement_moves declarations_moves handlers_moves turns_moves expression_height statement_height declarations_height handlers_height
prefixed e first op a before after is put =
    by_law (evaluates e a) (evaluates (code.prefixed op first) a) (evaluates first a) before after (prefixing op ∷ before) (ap (λ x. evaluates x a) is) put
    (λ bodies s. (expressions_push bodies before s).prefix op first a)
    (λ bodies s. omega arith)
    (λ bodies s one. omega arith)

pub chain : (e first : Expression) (ls : Links) (a : Activation) (before after : List Frame)
    → e ≡ code.chain first ls → after ≡ linking ls ∷ before → Leads (evaluates e a) before (evaluates first a) after
unfolding expression_moves statement_moves declarations_moves handlers_moves turns_moves expression_height statement_height declarations_height handlers_height
chain e first ls a before after is put =
    by_law (evaluates e a) (evaluates (code.chain first ls) a) (evaluates first a) before after (linking ls ∷ before) (ap (λ x. evaluates x a) is) put
    (λ bodies s. (expressions_push bodies before s).chain first ls a)
    (λ bodies s. omega arith)
    (λ bodies s one. omega arith)

pub bounded : (e first : Expression) (range : Range) (a : Activation) (before after : List Frame)
    → e ≡ code.within range first → after ≡ bounding range ∷ before → Leads (evaluates e a) before (evaluates first a) after
unfolding expression_moves statement_moves declarations_moves handlers_moves turns_moves expression_height statement_height declarations_height handlers_height
bounded e first range a before after is put =
    by_law (evaluates e a) (evaluates (code.within range first) a) (evaluates first a) before after (bounding range ∷ before) (ap (λ x. evaluates x a) is) put
    (λ bodies s. (expressions_push bodies before s).bounds range first a)
    (λ bodies s. omega arith)
    (λ bodies s one. omega arith)

pub called : (e : Expression) (callee : Callee) (es : Expressions) (none : List ℤ) (a : Activation) (before given after : List Frame)
    → e ≡ code.call callee es → none ≡ [] → given ≡ giving ∷ before → after ≡ passing callee ∷ given → Leads (evaluates e a) before (argues es none a) after
unfolding expression_moves statement_moves declarations_moves handlers_moves turns_moves expression_height statement_height declarations_height handlers_height
called e callee es none a before given after is empty put on =
    by_law (evaluates e a) (evaluates (code.call callee es) a) (argues es none a) before after (passing callee ∷ giving ∷ before) (ap (λ x. evaluates x a) is) (on ∙ ap (λ (fs : List Frame). passing callee ∷ fs) put)
    (λ bodies s. (expressions_push bodies before s).call callee es a ∙ ap (λ (vs : List ℤ). meant bodies (argues es vs a) (passing callee ∷ giving ∷ before) s) (sym empty))
    (λ bodies s. omega arith)
    (λ bodies s one. omega arith)

pub no_link : (ls : Links) (v w : ℤ) (a : Activation) (fs : List Frame)
    → ls ≡ code.no_links → w ≡ v → Leads (links ls v a) fs (comes (valued (Ok w) a)) fs
unfolding expression_moves statement_moves declarations_moves handlers_moves turns_moves expression_height statement_height declarations_height handlers_height
no_link ls v w a fs is same =
    by_law (links ls v a) (links code.no_links v a) (comes (valued (Ok w) a)) fs fs fs (ap (λ x. links x v a) is) refl
    (λ bodies s. (expressions_arrive bodies fs s).last_link v a ∙ ap (λ z. meant bodies (comes (valued (Ok z) a)) fs s) (sym same))
    (λ bodies s. omega arith)
    (λ bodies s one. omega arith)

pub skipped : (ls rest : Links) (op : Operator) (e : Expression) (v w : ℤ) (a : Activation) (fs : List Frame)
    → ls ≡ code.and_link op e rest → w ≡ v → decides op w ≡ true → Leads (links ls v a) fs (links rest w a) fs
unfolding expression_moves statement_moves declarations_moves handlers_moves turns_moves expression_height statement_height declarations_height handlers_height
skipped ls rest op e v w a fs is same does =
    by_law (links ls v a) (links (code.and_link op e rest) w a) (links rest w a) fs fs fs (ap (λ x. links x v a) is ∙ ap (λ (z : ℤ). links (code.and_link op e rest) z a) (sym same)) refl
    (λ bodies s. (expressions_push bodies fs s).skipped op e rest w a does)
    (λ bodies s. omega arith)
    (λ bodies s one. omega arith)

pub linked : (ls rest : Links) (op : Operator) (e : Expression) (v w : ℤ) (a : Activation) (before after : List Frame)
    → ls ≡ code.and_link op e rest → w ≡ v → decides op w ≡ false → after ≡ operating op w rest ∷ before → Leads (links ls v a) before (evaluates e a) after
unfolding expression_moves statement_moves declarations_moves handlers_moves turns_moves expression_height statement_height declarations_height handlers_height
linked ls rest op e v w a before after is same fails put =
    by_law (links ls v a) (links (code.and_link op e rest) w a) (evaluates e a) before after (operating op w rest ∷ before) (ap (λ x. links x v a) is ∙ ap (λ (z : ℤ). links (code.and_link op e rest) z a) (sym same)) put
    (λ bodies s. (expressions_push bodies before s).link op e rest w a fails)
    (λ bodies s. omega arith)
    (λ bodies s one. omega arith)

pub no_argument : (es : Expressions) (values : List ℤ) (a : Activation) (fs : List Frame)
    → es ≡ code.no_expressions → Leads (argues es values a) fs (comes (listed (Ok values) a)) fs
unfolding expression_moves statement_moves declarations_moves handlers_moves turns_moves expression_height statement_height declarations_height handlers_height
no_argument es values a fs is =
    by_law (argues es values a) (argues code.no_expressions values a) (comes (listed (Ok values) a)) fs fs fs (ap (λ x. argues x values a) is) refl
    (λ bodies s. (expressions_arrive bodies fs s).last_argument values a)
    (λ bodies s. omega arith)
    (λ bodies s one. omega arith)

pub argument : (es rest : Expressions) (e : Expression) (values : List ℤ) (a : Activation) (before after : List Frame)
    → es ≡ code.and_expression e rest → after ≡ arguing values rest ∷ before → Leads (argues es values a) before (evaluates e a) after
unfolding expression_moves statement_moves declarations_moves handlers_moves turns_moves expression_height statement_height declarations_height handlers_height
argument es rest e values a before after is put =
    by_law (argues es values a) (argues (code.and_expression e rest) values a) (evaluates e a) before after (arguing values rest ∷ before) (ap (λ x. argues x values a) is) put
    (λ bodies s. (expressions_push bodies before s).argument e rest values a)
    (λ bodies s. omega arith)
    (λ bodies s one. omega arith)
