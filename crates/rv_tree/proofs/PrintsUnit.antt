-- A printed unit text is that unit text.
use Rattle.std.proofs.Common.{◌≡◌, ℕ, ◌+◌, List, [], ◌∷◌, ◌++◌, length, map, Result, Ok, Err, IfOk, refl, sym, ap, ◌∙◌, subst, append_assoc}
use Rattle.rv_lex.specs.declared.kind.Kind.TheVariants as k
use Rattle.rv_lex.specs.Kinds.{Text}
use Rattle.rv_lex.specs.Lexes.{Lexeme, Lexes}
use Rattle.rv_lex.specs.Words.{AllStand}
use Rattle.rv_lex.specs.Spaced.{spaced, placed}
use Rattle.rv_lex.proofs.Spaced.{spaced_lexes}
use Rattle.rv_lex.proofs.Standing.{lexes_stand}
use Rattle.std.proofs.lemmas.List.{append-nil}
use Rattle.rv_tree.specs.DeclarationGrammar.{IsDeclaration}
use Rattle.rv_tree.specs.DeclarationPrint.{declaration_onto}
use Rattle.rv_tree.specs.Bodies.{Local, an_object, local_pragma, local_protected_unit, local_task, ExceptionChoice, exception_named, other_exceptions, Handler, Block, OperationBody, function_body, procedure_body, entry_body, ProtectedBody, TaskBody}
use Rattle.rv_tree.specs.BodyGrammar.{IsLocal, IsExceptionChoice, IsHandler, AreHandlers, IsBlock, IsOperationBody, IsProtectedBody, IsTaskBody}
use Rattle.rv_tree.specs.BodyPrint.{local_onto, exception_choice_onto, handler_onto, handlers_onto, block_onto, operation_body_onto, protected_body_onto, task_body_onto}
use Rattle.rv_tree.specs.Units.{ContextItem, context_pragma, with_clause, use_clause, PackageSpecification, BodyItem, body_declaration, body_protected, body_task, PackageBody, UnitTree}
use Rattle.rv_tree.specs.UnitGrammar.{IsContextItem, IsSpecification, IsBodyItem, IsBody, IsUnit}
use Rattle.rv_tree.specs.UnitPrint.{context_item_onto, specification_onto, body_item_onto, body_onto, unit_onto}
use Rattle.rv_tree.specs.Derives.{Derives}
use Rattle.rv_tree.specs.Printed.{SameWords, DerivesAnew, PrintsTree}
use Rattle.rv_tree.proofs.Phrased.{AreWords, spelled, words_text, Prints, is_prints, is_at_prints, seq_prints, nothing_prints, flag_prints, each_prints, listed_prints}
use Rattle.rv_tree.proofs.PrintsName.{identifier_prints, name_prints, identifiers_print, names_print, end_prints}
use Rattle.rv_tree.proofs.PrintsExpression.{expression_prints}
use Rattle.rv_tree.proofs.PrintsDeclaration.{pragma_prints, parameters_print, maybe_initial_prints, maybe_range_prints, protected_unit_prints, task_prints, declaration_prints}
use Rattle.rv_tree.proofs.PrintsStatement.{statements_print}

local_prints : (l : Local) → Prints (IsLocal l) (local_onto l)
local_prints (an_object names is_constant mark range value) = seq_prints (identifiers_print names) (seq_prints (is_prints k.Colon refl) (seq_prints (flag_prints k.Constant is_constant refl) (seq_prints (name_prints mark) (seq_prints (maybe_range_prints range) (seq_prints (maybe_initial_prints value) (is_prints k.Semicolon refl))))))
local_prints (local_pragma p) = pragma_prints p
local_prints (local_protected_unit u) = protected_unit_prints u
local_prints (local_task t) = task_prints t

exception_choice_prints : (c : ExceptionChoice) → Prints (IsExceptionChoice c) (exception_choice_onto c)
exception_choice_prints (exception_named name) = name_prints name
exception_choice_prints (other_exceptions at) = is_at_prints k.Others at refl

handler_prints : (h : Handler) → Prints (IsHandler h) (handler_onto h)
handler_prints h = seq_prints (is_at_prints k.When h.at refl) (seq_prints (listed_prints k.Bar IsExceptionChoice exception_choice_onto refl exception_choice_prints h.choices) (seq_prints (is_prints k.Arrow refl) (statements_print h.statements)))

handlers_print : (hs : List Handler) → Prints (AreHandlers hs) (handlers_onto hs)
handlers_print [] = nothing_prints
handlers_print (h ∷ more) = seq_prints (is_prints k.Exception refl) (seq_prints (handler_prints h) (each_prints IsHandler handler_onto handler_prints more))

block_prints : (b : Block) → Prints (IsBlock b) (block_onto b)
block_prints b = seq_prints (each_prints IsLocal local_onto local_prints b.locals) (seq_prints (is_prints k.Begin refl) (seq_prints (statements_print b.statements) (seq_prints (handlers_print b.handlers) (end_prints b.end_name))))

operation_body_prints : (o : OperationBody) → Prints (IsOperationBody o) (operation_body_onto o)
operation_body_prints (function_body at name parameters mark block) = seq_prints (is_at_prints k.Function at refl) (seq_prints (identifier_prints name) (seq_prints (parameters_print parameters) (seq_prints (is_prints k.Return refl) (seq_prints (name_prints mark) (seq_prints (is_prints k.Is refl) (block_prints block))))))
operation_body_prints (procedure_body at name parameters block) = seq_prints (is_at_prints k.Procedure at refl) (seq_prints (identifier_prints name) (seq_prints (parameters_print parameters) (seq_prints (is_prints k.Is refl) (block_prints block))))
operation_body_prints (entry_body at name parameters barrier block) = seq_prints (is_at_prints k.Entry at refl) (seq_prints (identifier_prints name) (seq_prints (parameters_print parameters) (seq_prints (is_prints k.When refl) (seq_prints (expression_prints barrier) (seq_prints (is_prints k.Is refl) (block_prints block))))))

protected_body_prints : (b : ProtectedBody) → Prints (IsProtectedBody b) (protected_body_onto b)
protected_body_prints b = seq_prints (is_at_prints k.Protected b.at refl) (seq_prints (is_prints k.Body refl) (seq_prints (identifier_prints b.name) (seq_prints (is_prints k.Is refl) (seq_prints (each_prints IsOperationBody operation_body_onto operation_body_prints b.operations) (end_prints b.end_name)))))

task_body_prints : (b : TaskBody) → Prints (IsTaskBody b) (task_body_onto b)
task_body_prints b = seq_prints (is_at_prints k.Task b.at refl) (seq_prints (is_prints k.Body refl) (seq_prints (identifier_prints b.name) (seq_prints (is_prints k.Is refl) (block_prints b.block))))

context_item_prints : (i : ContextItem) → Prints (IsContextItem i) (context_item_onto i)
context_item_prints (context_pragma p) = pragma_prints p
context_item_prints (with_clause at names) = seq_prints (is_at_prints k.With at refl) (seq_prints (names_print names) (is_prints k.Semicolon refl))
context_item_prints (use_clause at is_type names) = seq_prints (is_at_prints k.Use at refl) (seq_prints (flag_prints k.Type is_type refl) (seq_prints (names_print names) (is_prints k.Semicolon refl)))

specification_prints : (s : PackageSpecification) → Prints (IsSpecification s) (specification_onto s)
specification_prints s = seq_prints (is_at_prints k.Package s.at refl) (seq_prints (identifier_prints s.name) (seq_prints (is_prints k.Is refl) (seq_prints (each_prints IsDeclaration declaration_onto declaration_prints s.declarations) (end_prints s.end_name))))

body_item_prints : (i : BodyItem) → Prints (IsBodyItem i) (body_item_onto i)
body_item_prints (body_declaration d) = declaration_prints d
body_item_prints (body_protected b) = protected_body_prints b
body_item_prints (body_task b) = task_body_prints b

body_prints : (b : PackageBody) → Prints (IsBody b) (body_onto b)
body_prints b = seq_prints (is_at_prints k.Package b.at refl) (seq_prints (is_prints k.Body refl) (seq_prints (identifier_prints b.name) (seq_prints (is_prints k.Is refl) (seq_prints (each_prints IsBodyItem body_item_onto body_item_prints b.items) (end_prints b.end_name)))))

unit_prints : (u : UnitTree) → Prints (IsUnit u) (unit_onto u)
unit_prints u = seq_prints (each_prints IsContextItem context_item_onto context_item_prints u.context) (seq_prints (specification_prints u.specification) (body_prints u.body))

are_words : (z : Text) (ts : List Lexeme) → AllStand z ts → AreWords ts
are_words z [] h = tt
are_words z (t ∷ ts) h = (h.0.is_word, are_words z ts h.1)

spaced_is : (ts : List Lexeme) → spaced (map spelled ts) ≡ words_text ts ++ 32 ∷ []
spaced_is [] = refl
spaced_is (t ∷ ts) = ap (λ l. 32 ∷ l) (ap (λ l. t.text ++ l) (spaced_is ts) ∙ sym (append_assoc t.text (words_text ts) (32 ∷ [])))

same_words : (ts : List Lexeme) (at : ℕ) → SameWords ts (placed at (map spelled ts))
same_words [] at = tt
same_words (t ∷ ts) at = (refl, refl, same_words ts (at + 1 + length t.text))

-- what is printed derives the tree, places aside
pub unit_derives : (source : Text) (u : UnitTree) → Derives source u → DerivesAnew (unit_onto u [] ++ 32 ∷ []) u
unit_derives source u d =
    let w = ((unit_prints u).prints d.words [] d.whole (are_words source d.words (lexes_stand source d.words d.lexes))).1 in
    let same : spaced (map spelled w.words) ≡ unit_onto u [] ++ 32 ∷ [] = spaced_is w.words ∙ ap (λ l. l ++ 32 ∷ []) (sym (w.text [])) in
    record {
      words = w.words;
      whole = subst (λ (l : List Lexeme). IsUnit u l []) (append-nil w.words) (w.whole []);
      found = placed 0 (map spelled w.words);
      same = same_words w.words 0;
      lexes = subst (λ (l : Text). Lexes l (placed 0 (map spelled w.words))) same (spaced_lexes (map spelled w.words) w.spell);
    }

pub finish_derives : {S E : Type 0} (bytes : S → Text) (r : Result S E) (out : Text) (u : UnitTree) → out ≡ unit_onto u [] → IfOk r (λ t. bytes t ≡ out ++ 32 ∷ []) → IfOk r (λ t. PrintsTree (bytes t) u)
finish_derives bytes (Ok t) out u e h = λ source d. subst (λ (l : Text). DerivesAnew l u) (sym (h ∙ ap (λ l. l ++ 32 ∷ []) e)) (unit_derives source u d)
finish_derives bytes (Err x) out u e h = tt
