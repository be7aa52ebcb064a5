-- The value of an expression comes to what waits for it.
use Rattle.std.proofs.Common.{◌≡◌, ◌<◌, ◌≤◌, ◌+◌, arith, sym, ap, subst, ◌∙◌, ℕ, ℤ, pos, int_lt, List, ◌∷◌, Bool, true, false, Some, None, Result, Ok, Err}
use Rattle.std.specs.Prelude.{slice_index_or}
use Rattle.rv_shape.specs.declared.kind.Range.{Range}
use Rattle.rv_code.specs.declared.expression.Callee.{Callee}
use Rattle.rv_event.specs.declared.entry.Exception.TheVariants.{ConstraintError}
use Rattle.rv_code.specs.declared.expression.Prefix.{Prefix}
use Rattle.rv_code.specs.declared.expression.Operator.{Operator}
use Rattle.rv_code.specs.declared.statement.Target.{Target}
use Rattle.rv_code.specs.Expressions.{Expression, Expressions, Links}
use Rattle.rv_code.specs.Statements.{Statements, Branches, Alternatives}
use Rattle.rv_code.specs.Bodies.{Declaration}
use Rattle.rv_exec.specs.declared.activation.Activation.{Activation}
use Rattle.rv_exec.specs.declared.end.Cause.{Cause}
use Rattle.rv_exec.specs.declared.end.Cause.TheVariants as cause
use Rattle.rv_exec.specs.declared.end.End.{End}
use Rattle.rv_exec.specs.declared.end.End.TheVariants as ends
use Rattle.rv_exec.specs.Activations.{assigned, copied_back, joined, stepped, fits, span}
use Rattle.rv_exec.specs.Operators.{prefix_of, result_of, within, is_true}
use Rattle.rv_exec.specs.Statements.{exit_where}
use Rattle.rv_flat.specs.Trees.{Tree}
use Rattle.rv_frames.specs.Frames.{Frame, passing, giving, copying, calls, prefixing, linking, operating, bounding, arguing, assigning, branching, selecting, testing, turning, lowering, raising, leaving, returning, declaring, evaluates, links, argues, runs_all, tries, selects_of, counts, declares, comes, valued, listed, done, meant}
use Rattle.rv_frames.specs.Rests.{is_next}
use Rattle.rv_frames.proofs.Arrivals.{expressions_arrive, statements_arrive}
use Rattle.rv_frames.proofs.Rests.{loops_rest, statements_rest}
use Rattle.rv_machine.proofs.MovesLeft.{turns_grow}
use Rattle.rv_machine.specs.Heights.{expression_height, statement_height, declarations_height, handlers_height, highest}
use Rattle.rv_machine.specs.Moves.{expression_moves, statement_moves, statements_moves, declarations_moves, handlers_moves, most_turns, turns_moves, called_moves, level, moves_left}
use Rattle.rv_machine.specs.Points.{Leads}
use Rattle.rv_machine.specs.Stacks.{operand_frame, value_frame}
use Rattle.rv_machine.specs.declared.frame.OperandFrame.{OperandFrame}
use Rattle.rv_machine.specs.declared.frame.OperandFrame.TheVariants as operand
use Rattle.rv_machine.specs.declared.frame.ValueFrame.{ValueFrame}
use Rattle.rv_machine.specs.declared.frame.ValueFrame.TheVariants as value

pub prefix_taken : (op : Prefix) (v : ℤ) (r : Result ℤ Cause) (a : Activation) (fs : List Frame)
    → r ≡ prefix_of op v → Leads (comes (valued (Ok v) a)) (prefixing op ∷ fs) (comes (valued r a)) fs
unfolding expression_moves statement_moves declarations_moves handlers_moves turns_moves expression_height statement_height declarations_height handlers_height
prefix_taken op v r a fs is = record { same = λ bodies s. (expressions_arrive bodies fs s).prefix op v a ∙ ap (λ x. meant bodies (comes (valued x a)) fs s) (sym is); less = λ bodies s. omega arith; low = λ bodies s one. omega arith }

pub chain_taken : (ls : Links) (v w : ℤ) (a : Activation) (fs : List Frame)
    → w ≡ v → Leads (comes (valued (Ok v) a)) (linking ls ∷ fs) (links ls w a) fs
unfolding expression_moves statement_moves declarations_moves handlers_moves turns_moves expression_height statement_height declarations_height handlers_height
chain_taken ls v w a fs is = record { same = λ bodies s. (expressions_arrive bodies fs s).chain ls v a ∙ ap (λ x. meant bodies (links ls x a) fs s) (sym is); less = λ bodies s. omega arith; low = λ bodies s one. omega arith }

pub operand_taken : (op : Operator) (u : ℤ) (ls : Links) (v z : ℤ) (a : Activation) (fs : List Frame)
    → result_of op u v ≡ Ok z → Leads (comes (valued (Ok v) a)) (operating op u ls ∷ fs) (links ls z a) fs
unfolding expression_moves statement_moves declarations_moves handlers_moves turns_moves expression_height statement_height declarations_height handlers_height
operand_taken op u ls v z a fs is = record { same = λ bodies s. (expressions_arrive bodies fs s).operand op u ls v z a is; less = λ bodies s. omega arith; low = λ bodies s one. omega arith }

pub operand_raises : (op : Operator) (u : ℤ) (ls : Links) (v : ℤ) (why : Cause) (a : Activation) (fs : List Frame)
    → result_of op u v ≡ Err why → Leads (comes (valued (Ok v) a)) (operating op u ls ∷ fs) (comes (valued (Err why) a)) fs
unfolding expression_moves statement_moves declarations_moves handlers_moves turns_moves expression_height statement_height declarations_height handlers_height
operand_raises op u ls v why a fs is = record { same = λ bodies s. (expressions_arrive bodies fs s).operand_raises op u ls v why a is; less = λ bodies s. omega arith; low = λ bodies s one. omega arith }

pub bounds_taken : (range : Range) (v : ℤ) (r : Result ℤ Cause) (a : Activation) (fs : List Frame)
    → r ≡ within range v → Leads (comes (valued (Ok v) a)) (bounding range ∷ fs) (comes (valued r a)) fs
unfolding expression_moves statement_moves declarations_moves handlers_moves turns_moves expression_height statement_height declarations_height handlers_height
bounds_taken range v r a fs is = record { same = λ bodies s. (expressions_arrive bodies fs s).bounds range v a ∙ ap (λ x. meant bodies (comes (valued x a)) fs s) (sym is); less = λ bodies s. omega arith; low = λ bodies s one. omega arith }

pub argument_taken : (values more : List ℤ) (es : Expressions) (v : ℤ) (a : Activation) (fs : List Frame)
    → more ≡ joined values v → Leads (comes (valued (Ok v) a)) (arguing values es ∷ fs) (argues es more a) fs
unfolding expression_moves statement_moves declarations_moves handlers_moves turns_moves expression_height statement_height declarations_height handlers_height
argument_taken values more es v a fs is = record { same = λ bodies s. (expressions_arrive bodies fs s).argument values es v a ∙ ap (λ x. meant bodies (argues es x a) fs s) (sym is); less = λ bodies s. omega arith; low = λ bodies s one. omega arith }

pub prefix_fails : (op : Prefix) (why : Cause) (a : Activation) (fs : List Frame) → Leads (comes (valued (Err why) a)) (prefixing op ∷ fs) (comes (valued (Err why) a)) fs
unfolding expression_moves statement_moves declarations_moves handlers_moves turns_moves expression_height statement_height declarations_height handlers_height
prefix_fails op why a fs = record { same = λ bodies s. (expressions_arrive bodies fs s).prefix_fails op why a; less = λ bodies s. omega arith; low = λ bodies s one. omega arith }

pub chain_fails : (ls : Links) (why : Cause) (a : Activation) (fs : List Frame) → Leads (comes (valued (Err why) a)) (linking ls ∷ fs) (comes (valued (Err why) a)) fs
unfolding expression_moves statement_moves declarations_moves handlers_moves turns_moves expression_height statement_height declarations_height handlers_height
chain_fails ls why a fs = record { same = λ bodies s. (expressions_arrive bodies fs s).chain_fails ls why a; less = λ bodies s. omega arith; low = λ bodies s one. omega arith }

pub operand_fails : (op : Operator) (u : ℤ) (ls : Links) (why : Cause) (a : Activation) (fs : List Frame) → Leads (comes (valued (Err why) a)) (operating op u ls ∷ fs) (comes (valued (Err why) a)) fs
unfolding expression_moves statement_moves declarations_moves handlers_moves turns_moves expression_height statement_height declarations_height handlers_height
operand_fails op u ls why a fs = record { same = λ bodies s. (expressions_arrive bodies fs s).operand_fails op u ls why a; less = λ bodies s. omega arith; low = λ bodies s one. omega arith }

pub bounds_fail : (range : Range) (why : Cause) (a : Activation) (fs : List Frame) → Leads (comes (valued (Err why) a)) (bounding range ∷ fs) (comes (valued (Err why) a)) fs
unfolding expression_moves statement_moves declarations_moves handlers_moves turns_moves expression_height statement_height declarations_height handlers_height
bounds_fail range why a fs = record { same = λ bodies s. (expressions_arrive bodies fs s).bounds_fail range why a; less = λ bodies s. omega arith; low = λ bodies s one. omega arith }

pub argument_fails : (values : List ℤ) (es : Expressions) (why : Cause) (a : Activation) (fs : List Frame) → Leads (comes (valued (Err why) a)) (arguing values es ∷ fs) (comes (listed (Err why) a)) fs
unfolding expression_moves statement_moves declarations_moves handlers_moves turns_moves expression_height statement_height declarations_height handlers_height
argument_fails values es why a fs = record { same = λ bodies s. (expressions_arrive bodies fs s).argument_fails values es why a; less = λ bodies s. omega arith; low = λ bodies s one. omega arith }

pub value_assigned : (target : Target) (v : ℤ) (a : Activation) (e : End) (b : Activation) (fs : List Frame)
    → (e, b) ≡ assigned target v a → Leads (comes (valued (Ok v) a)) (assigning target ∷ fs) (comes (done e b)) fs
unfolding expression_moves statement_moves declarations_moves handlers_moves turns_moves expression_height statement_height declarations_height handlers_height
value_assigned target v a e b fs is = record { same = λ bodies s. (statements_arrive bodies fs s).assignment target v a e b is; less = λ bodies s. omega arith; low = λ bodies s one. omega arith }

pub branch_taken : (ss otherwise : Statements) (bs : Branches) (v : ℤ) (a : Activation) (fs : List Frame)
    → is_true v ≡ true → Leads (comes (valued (Ok v) a)) (branching ss bs otherwise ∷ fs) (runs_all ss a) fs
unfolding expression_moves statement_moves declarations_moves handlers_moves turns_moves expression_height statement_height declarations_height handlers_height
branch_taken ss otherwise bs v a fs is = record { same = λ bodies s. (statements_arrive bodies fs s).branch ss otherwise bs v a is; less = λ bodies s. omega arith; low = λ bodies s one. omega arith }

pub branch_passed : (ss otherwise : Statements) (bs : Branches) (v : ℤ) (a : Activation) (fs : List Frame)
    → is_true v ≡ false → Leads (comes (valued (Ok v) a)) (branching ss bs otherwise ∷ fs) (tries bs otherwise a) fs
unfolding expression_moves statement_moves declarations_moves handlers_moves turns_moves expression_height statement_height declarations_height handlers_height
branch_passed ss otherwise bs v a fs is = record { same = λ bodies s. (statements_arrive bodies fs s).next_branch ss otherwise bs v a is; less = λ bodies s. omega arith; low = λ bodies s one. omega arith }

pub selection_taken : (more : Alternatives) (v w : ℤ) (a : Activation) (fs : List Frame)
    → w ≡ v → Leads (comes (valued (Ok v) a)) (selecting more ∷ fs) (selects_of more w a) fs
unfolding expression_moves statement_moves declarations_moves handlers_moves turns_moves expression_height statement_height declarations_height handlers_height
selection_taken more v w a fs is = record { same = λ bodies s. (statements_arrive bodies fs s).selection more v a ∙ ap (λ x. meant bodies (selects_of more x a) fs s) (sym is); less = λ bodies s. omega arith; low = λ bodies s one. omega arith }

pub turn_taken : (n : ℕ) (e : Expression) (ss : Statements) (v : ℤ) (a b : Activation) (before after : List Frame)
    → is_true v ≡ true → stepped a ≡ Some b → after ≡ turning n e ss ∷ before
    → Leads (comes (valued (Ok v) a)) (testing n e ss ∷ before) (runs_all ss b) after
unfolding expression_moves statement_moves declarations_moves handlers_moves turns_moves expression_height statement_height declarations_height handlers_height
turn_taken n e ss v a b before after is took put = record {
  same = λ bodies s. (statements_arrive bodies before s).turn n e ss v a b is took ∙ ap (λ (fs : List Frame). meant bodies (runs_all ss b) fs s) (sym put);
  less = λ bodies s. subst (λ (fs : List Frame). moves_left bodies (runs_all ss b) fs s < moves_left bodies (comes (valued (Ok v) a)) (testing n e ss ∷ before) s) (sym put) (omega arith);
  low = λ bodies s one. subst (λ (fs : List Frame). highest one bodies (runs_all ss b) fs s ≤ highest one bodies (comes (valued (Ok v) a)) (testing n e ss ∷ before) s) (sym put) (omega arith);
}

pub turn_overruns : (n : ℕ) (e : Expression) (ss : Statements) (v : ℤ) (a b : Activation) (fs : List Frame)
    → is_true v ≡ true → stepped a ≡ None → b ≡ a
    → Leads (comes (valued (Ok v) a)) (testing n e ss ∷ fs) (comes (done (ends.Abandoned cause.Overrun) b)) fs
unfolding expression_moves statement_moves declarations_moves handlers_moves turns_moves expression_height statement_height declarations_height handlers_height
turn_overruns n e ss v a b fs is none same = record {
  same = λ bodies s. (statements_arrive bodies fs s).turn_overruns n e ss v a is none ∙ ap (λ (c : Activation). meant bodies (comes (done (ends.Abandoned cause.Overrun) c)) fs s) (sym same);
  less = λ bodies s. omega arith;
  low = λ bodies s one. omega arith;
}

pub turns_over : (n : ℕ) (e : Expression) (ss : Statements) (v : ℤ) (a : Activation) (fs : List Frame)
    → is_true v ≡ false → Leads (comes (valued (Ok v) a)) (testing n e ss ∷ fs) (comes (done ends.Next a)) fs
unfolding expression_moves statement_moves declarations_moves handlers_moves turns_moves expression_height statement_height declarations_height handlers_height
turns_over n e ss v a fs is = record { same = λ bodies s. (statements_arrive bodies fs s).turns_over n e ss v a is; less = λ bodies s. omega arith; low = λ bodies s one. omega arith }

pub low_taken : (slot : ℕ) (is_reverse : Bool) (range : Range) (high : Expression) (ss : Statements) (v w : ℤ) (a : Activation) (before after : List Frame)
    → w ≡ v → after ≡ raising slot is_reverse range w ss ∷ before
    → Leads (comes (valued (Ok v) a)) (lowering slot is_reverse range high ss ∷ before) (evaluates high a) after
unfolding expression_moves statement_moves declarations_moves handlers_moves turns_moves expression_height statement_height declarations_height handlers_height
low_taken slot is_reverse range high ss v w a before after is put = record {
  same = λ bodies s. (statements_arrive bodies before s).lower_bound slot is_reverse range high ss v a
      ∙ ap (λ (fs : List Frame). meant bodies (evaluates high a) fs s) (sym (put ∙ ap (λ (z : ℤ). raising slot is_reverse range z ss ∷ before) is));
  less = λ bodies s. subst (λ (fs : List Frame). moves_left bodies (evaluates high a) fs s < moves_left bodies (comes (valued (Ok v) a)) (lowering slot is_reverse range high ss ∷ before) s) (sym put) (omega arith);
  low = λ bodies s one. subst (λ (fs : List Frame). highest one bodies (evaluates high a) fs s ≤ highest one bodies (comes (valued (Ok v) a)) (lowering slot is_reverse range high ss ∷ before) s) (sym put) (omega arith);
}

pub null_range : (slot : ℕ) (is_reverse : Bool) (range : Range) (low high : ℤ) (ss : Statements) (a : Activation) (fs : List Frame)
    → int_lt high low ≡ true → Leads (comes (valued (Ok high) a)) (raising slot is_reverse range low ss ∷ fs) (comes (done ends.Next a)) fs
unfolding expression_moves statement_moves declarations_moves handlers_moves turns_moves expression_height statement_height declarations_height handlers_height
null_range slot is_reverse range low high ss a fs is = record { same = λ bodies s. (loops_rest bodies fs s).null_range slot is_reverse range low high ss a is; less = λ bodies s. omega arith; low = λ bodies s one. omega arith }

pub range_raises : (slot : ℕ) (is_reverse : Bool) (range : Range) (low high : ℤ) (ss : Statements) (a : Activation) (fs : List Frame)
    → int_lt high low ≡ false → fits range low high ≡ false
    → Leads (comes (valued (Ok high) a)) (raising slot is_reverse range low ss ∷ fs) (comes (done (ends.Abandoned (cause.Raised ConstraintError)) a)) fs
unfolding expression_moves statement_moves declarations_moves handlers_moves turns_moves expression_height statement_height declarations_height handlers_height
range_raises slot is_reverse range low high ss a fs is fails = record { same = λ bodies s. (loops_rest bodies fs s).range_raises slot is_reverse range low high ss a is fails; less = λ bodies s. omega arith; low = λ bodies s one. omega arith }

pub range_counts : (slot : ℕ) (is_reverse : Bool) (range : Range) (low high : ℤ) (ss : Statements) (n : ℕ) (a : Activation) (fs : List Frame)
    → int_lt high low ≡ false → fits range low high ≡ true → n ≡ span low high → n ≤ most_turns
    → Leads (comes (valued (Ok high) a)) (raising slot is_reverse range low ss ∷ fs) (counts n is_reverse low high slot ss a) fs
unfolding expression_moves statement_moves declarations_moves handlers_moves turns_moves expression_height statement_height declarations_height handlers_height
range_counts slot is_reverse range low high ss n a fs is does many most = record {
  same = λ bodies s. (loops_rest bodies fs s).values slot is_reverse range low high ss a is does
      ∙ ap (λ (k : ℕ). meant bodies (counts k is_reverse low high slot ss a) fs s) (sym many);
  less = λ bodies s. let fewer = turns_grow n most_turns (statements_moves (called_moves bodies (level s)) ss + 3) most in omega (arith, fewer);
  low = λ bodies s one. omega arith;
}

pub exit_taken : (v : ℤ) (e : End) (a : Activation) (fs : List Frame)
    → e ≡ exit_where v → Leads (comes (valued (Ok v) a)) (leaving ∷ fs) (comes (done e a)) fs
unfolding expression_moves statement_moves declarations_moves handlers_moves turns_moves expression_height statement_height declarations_height handlers_height
exit_taken v e a fs is = record { same = λ bodies s. (statements_rest bodies fs s).exit v a ∙ ap (λ x. meant bodies (comes (done x a)) fs s) (sym is); less = λ bodies s. omega arith; low = λ bodies s one. omega arith }

pub return_taken : (v w : ℤ) (a : Activation) (fs : List Frame)
    → w ≡ v → Leads (comes (valued (Ok v) a)) (returning ∷ fs) (comes (done (ends.Return (Some w)) a)) fs
unfolding expression_moves statement_moves declarations_moves handlers_moves turns_moves expression_height statement_height declarations_height handlers_height
return_taken v w a fs is = record { same = λ bodies s. (statements_rest bodies fs s).return v a ∙ ap (λ (x : ℤ). meant bodies (comes (done (ends.Return (Some x)) a)) fs s) (sym is); less = λ bodies s. omega arith; low = λ bodies s one. omega arith }

pub declaration_goes : (target : Target) (more : List Declaration) (v : ℤ) (a : Activation) (e : End) (b : Activation) (fs : List Frame)
    → (e, b) ≡ assigned target v a → is_next e ≡ true → Leads (comes (valued (Ok v) a)) (declaring target more ∷ fs) (declares more b) fs
unfolding expression_moves statement_moves declarations_moves handlers_moves turns_moves expression_height statement_height declarations_height handlers_height
declaration_goes target more v a e b fs is next = record { same = λ bodies s. (statements_rest bodies fs s).declaration target more v a e b is next; less = λ bodies s. omega arith; low = λ bodies s one. omega arith }

pub declaration_ends : (target : Target) (more : List Declaration) (v : ℤ) (a : Activation) (e : End) (b : Activation) (fs : List Frame)
    → (e, b) ≡ assigned target v a → is_next e ≡ false → Leads (comes (valued (Ok v) a)) (declaring target more ∷ fs) (comes (done e b)) fs
unfolding expression_moves statement_moves declarations_moves handlers_moves turns_moves expression_height statement_height declarations_height handlers_height
declaration_ends target more v a e b fs is next = record { same = λ bodies s. (statements_rest bodies fs s).declaration_ends target more v a e b is next; less = λ bodies s. omega arith; low = λ bodies s one. omega arith }

pub value_fails : (ts : List Tree) (x : ValueFrame) (why : Cause) (a : Activation) (fs : List Frame)
    → Leads (comes (valued (Err why) a)) (value_frame ts x ∷ fs) (comes (done (ends.Abandoned why) a)) fs
unfolding expression_moves statement_moves declarations_moves handlers_moves turns_moves expression_height statement_height declarations_height handlers_height
value_fails ts (value.Assigning target) why a fs = record { same = λ bodies s. (statements_arrive bodies fs s).assignment_fails _ why a; less = λ bodies s. omega arith; low = λ bodies s one. omega arith }
value_fails ts (value.Branching ss more otherwise) why a fs = record { same = λ bodies s. (statements_arrive bodies fs s).branch_fails _ _ _ why a; less = λ bodies s. omega arith; low = λ bodies s one. omega arith }
value_fails ts (value.Selecting more) why a fs = record { same = λ bodies s. (statements_arrive bodies fs s).selection_fails _ why a; less = λ bodies s. omega arith; low = λ bodies s one. omega arith }
value_fails ts (value.Testing n e ss) why a fs = record { same = λ bodies s. (loops_rest bodies fs s).condition_fails _ _ _ why a; less = λ bodies s. omega arith; low = λ bodies s one. omega arith }
value_fails ts (value.Lowering scheme high ss) why a fs = record { same = λ bodies s. (loops_rest bodies fs s).lower_bound_fails _ _ _ _ _ why a; less = λ bodies s. omega arith; low = λ bodies s one. omega arith }
value_fails ts (value.Raising scheme low ss) why a fs = record { same = λ bodies s. (loops_rest bodies fs s).upper_bound_fails _ _ _ _ _ why a; less = λ bodies s. omega arith; low = λ bodies s one. omega arith }
value_fails ts value.Leaving why a fs = record { same = λ bodies s. (statements_rest bodies fs s).exit_fails why a; less = λ bodies s. omega arith; low = λ bodies s one. omega arith }
value_fails ts value.Returning why a fs = record { same = λ bodies s. (statements_rest bodies fs s).return_fails why a; less = λ bodies s. omega arith; low = λ bodies s one. omega arith }
value_fails ts (value.Declaring target more) why a fs = record { same = λ bodies s. (statements_rest bodies fs s).declaration_fails _ _ why a; less = λ bodies s. omega arith; low = λ bodies s one. omega arith }

pub operand_fails_so : (ts : List Tree) (x : OperandFrame) (why : Cause) (a : Activation) (fs : List Frame)
    → Leads (comes (valued (Err why) a)) (operand_frame ts x ∷ fs) (comes (valued (Err why) a)) fs
operand_fails_so ts (operand.Prefixing op) why a fs = prefix_fails op why a fs
operand_fails_so ts (operand.Linking ls) why a fs = chain_fails _ why a fs
operand_fails_so ts (operand.Operating op v ls) why a fs = operand_fails op v _ why a fs
operand_fails_so ts (operand.Bounding range) why a fs = bounds_fail range why a fs

pub values_passed : (callee : Callee) (values : List ℤ) (a : Activation) (fs : List Frame)
    → Leads (comes (listed (Ok values) a)) (passing callee ∷ fs) (calls callee values a) fs
unfolding expression_moves statement_moves declarations_moves handlers_moves turns_moves expression_height statement_height declarations_height handlers_height
values_passed callee values a fs = record { same = λ bodies s. (expressions_arrive bodies fs s).arguments callee values a; less = λ bodies s. omega arith; low = λ bodies s one. omega arith }

pub values_given : (values : List ℤ) (v : ℤ) (a : Activation) (fs : List Frame)
    → v ≡ slice_index_or values 0 (pos 0) → Leads (comes (listed (Ok values) a)) (giving ∷ fs) (comes (valued (Ok v) a)) fs
unfolding expression_moves statement_moves declarations_moves handlers_moves turns_moves expression_height statement_height declarations_height handlers_height
values_given values v a fs is = record { same = λ bodies s. (expressions_arrive bodies fs s).call values a ∙ ap (λ (z : ℤ). meant bodies (comes (valued (Ok z) a)) fs s) (sym is); less = λ bodies s. omega arith; low = λ bodies s one. omega arith }

pub values_copied : (targets : List Target) (values : List ℤ) (a : Activation) (e : End) (b : Activation) (fs : List Frame)
    → (e, b) ≡ copied_back targets 0 values a → Leads (comes (listed (Ok values) a)) (copying targets ∷ fs) (comes (done e b)) fs
unfolding expression_moves statement_moves declarations_moves handlers_moves turns_moves expression_height statement_height declarations_height handlers_height
values_copied targets values a e b fs is = record { same = λ bodies s. (statements_rest bodies fs s).copied targets values a e b is; less = λ bodies s. omega arith; low = λ bodies s one. omega arith }

pub passing_fails : (callee : Callee) (why : Cause) (a : Activation) (fs : List Frame) → Leads (comes (listed (Err why) a)) (passing callee ∷ fs) (comes (listed (Err why) a)) fs
unfolding expression_moves statement_moves declarations_moves handlers_moves turns_moves expression_height statement_height declarations_height handlers_height
passing_fails callee why a fs = record { same = λ bodies s. (expressions_arrive bodies fs s).arguments_fail callee why a; less = λ bodies s. omega arith; low = λ bodies s one. omega arith }

pub giving_fails : (why : Cause) (a : Activation) (fs : List Frame) → Leads (comes (listed (Err why) a)) (giving ∷ fs) (comes (valued (Err why) a)) fs
unfolding expression_moves statement_moves declarations_moves handlers_moves turns_moves expression_height statement_height declarations_height handlers_height
giving_fails why a fs = record { same = λ bodies s. (expressions_arrive bodies fs s).call_fails why a; less = λ bodies s. omega arith; low = λ bodies s one. omega arith }

pub copying_fails : (targets : List Target) (why : Cause) (a : Activation) (fs : List Frame) → Leads (comes (listed (Err why) a)) (copying targets ∷ fs) (comes (done (ends.Abandoned why) a)) fs
unfolding expression_moves statement_moves declarations_moves handlers_moves turns_moves expression_height statement_height declarations_height handlers_height
copying_fails targets why a fs = record { same = λ bodies s. (statements_rest bodies fs s).copy_fails targets why a; less = λ bodies s. omega arith; low = λ bodies s one. omega arith }
