-- What `clap` finds of a command line, as a choice.
use Rattle.std.proofs.Common.{◌≡◌, ◌∷◌, List, Option, Some, None, Bool, true, false, true≢false, codes, slice_index, ap, ap₂, sym, ◌∙◌, refl, subst}
use Rattle.std.specs.Prelude.{◌==◌, IfOk, Result, Ok, Err, is_some, option_map, unwrap_or}
use Rattle.clap.specs.Words.{is_simple, subcommand_of, takes}
use Rattle.clap.specs.Walk.{Row, Text, first_of, one_of}
use Rattle.clap.proofs.OnLiterals.{clap_on_literals}
use Rattle.rv_choice.specs.declared.misuse.Misuse.{Misuse}
use Rattle.rv_choice.specs.declared.selection.Choice.{Choice}
use Rattle.rv_choice.specs.declared.selection.Choice.TheVariants.{Play, Check, Run, Audit, AuditFile, Manual}
use Rattle.rv_choice.specs.declared.selection.Selection.{Selection}
use Rattle.rv_choice.specs.Choices.{IsAuditWrong, IsFlag, IsJournal, IsSelected, IsSelection, IsUnnamed, IsWrong, Names, Wrong, audit_of, judged_wrong, line_of, or_else, program, run_wrong, script_wrong, torn_wrong, wrong_in}

-- The plain lines.

pub simple : is_simple program ≡ true
unfolding clap_on_literals
simple = refl

-- the name of a subcommand that was found, and the text of a flag of it
abbrev name_in : Option (Text × List Row) → Option Text
name_in = option_map (λ (p : Text × List Row). p.0)

abbrev flag_in : Text → Option (Text × List Row) → Option (Option Text)
flag_in flag = option_map (λ (p : Text × List Row). one_of flag p.1)

-- the text of its file
abbrev file_in : Option (Text × List Row) → Option (Option Text)
file_in = option_map (λ (p : Text × List Row). first_of (codes "journal") p.1)

-- what they are of a plain line
abbrev word_of : Choice → Text
word_of (Play all) = codes "play"
word_of (Check whole) = codes "check"
word_of Run = codes "run"
word_of Audit = codes "audit"
word_of (AuditFile torn) = codes "audit"
word_of Manual = codes "manual"

abbrev flag_text : Bool → Text
flag_text true = codes "true"
flag_text false = codes "false"

-- a plain line is taken, and by this name
plain : (name : Text) (choice : Choice) → (takes program (name ∷ line_of choice) ≡ true) × (name_in (subcommand_of program (name ∷ line_of choice)) ≡ Some (word_of choice))
unfolding clap_on_literals
plain name (Play false) = (refl, refl)
plain name (Play true) = (refl, refl)
plain name (Check false) = (refl, refl)
plain name (Check true) = (refl, refl)
plain name Run = (refl, refl)
plain name Audit = (refl, refl)
plain name (AuditFile false) = (refl, refl)
plain name (AuditFile true) = (refl, refl)
plain name Manual = (refl, refl)

pub taken : (name : Text) (choice : Choice) → takes program (name ∷ line_of choice) ≡ true
taken name choice = let p = plain name choice in p.0

name_is : (name : Text) (choice : Choice) → name_in (subcommand_of program (name ∷ line_of choice)) ≡ Some (word_of choice)
name_is name choice = let p = plain name choice in p.1

play_flag : (name : Text) (all : Bool) → flag_in (codes "all") (subcommand_of program (name ∷ line_of (Play all))) ≡ Some (Some (flag_text all))
unfolding clap_on_literals
play_flag name true = refl
play_flag name false = refl

script_flag : (name : Text) (whole : Bool) → flag_in (codes "script") (subcommand_of program (name ∷ line_of (Check whole))) ≡ Some (Some (flag_text whole))
unfolding clap_on_literals
script_flag name false = refl
script_flag name true = refl

torn_flag : (name : Text) (torn : Bool) → flag_in (codes "torn") (subcommand_of program (name ∷ line_of (AuditFile torn))) ≡ Some (Some (flag_text torn))
unfolding clap_on_literals
torn_flag name true = refl
torn_flag name false = refl

-- the file of `audit`
no_file : (name : Text) → file_in (subcommand_of program (name ∷ line_of Audit)) ≡ Some None
unfolding clap_on_literals
no_file name = refl

some_file : (name : Text) (torn : Bool) → file_in (subcommand_of program (name ∷ line_of (AuditFile torn))) ≡ Some (Some (codes "J"))
unfolding clap_on_literals
some_file name true = refl
some_file name false = refl

no_torn : (name : Text) → flag_in (codes "torn") (subcommand_of program (name ∷ line_of Audit)) ≡ Some (Some (flag_text false))
unfolding clap_on_literals
no_torn name = refl

-- nothing is wrong with it
abbrev script_in : Option (Text × List Row) → Option (Option Wrong)
script_in = option_map (λ (p : Text × List Row). script_wrong p.1)

abbrev judged_in : Option (Text × List Row) → Option (Option Wrong)
judged_in = option_map (λ (p : Text × List Row). judged_wrong p.1)

abbrev run_in : Option (Text × List Row) → Option (Option Wrong)
run_in = option_map (λ (p : Text × List Row). run_wrong p.1)

play_right : (name : Text) (all : Bool) → script_in (subcommand_of program (name ∷ line_of (Play all))) ≡ Some None
unfolding clap_on_literals
play_right name true = refl
play_right name false = refl

check_right : (name : Text) (whole : Bool) → script_in (subcommand_of program (name ∷ line_of (Check whole))) ≡ Some None
unfolding clap_on_literals
check_right name true = refl
check_right name false = refl

run_right : (name : Text) → run_in (subcommand_of program (name ∷ line_of Run)) ≡ Some None
unfolding clap_on_literals
run_right name = refl

audit_right : (name : Text) → judged_in (subcommand_of program (name ∷ line_of Audit)) ≡ Some None
unfolding clap_on_literals
audit_right name = refl

file_right : (name : Text) (torn : Bool) → judged_in (subcommand_of program (name ∷ line_of (AuditFile torn))) ≡ Some None
unfolding clap_on_literals
file_right name true = refl
file_right name false = refl

-- what is said of all that was found is so of this
of_found : (f : Text × List Row → Option Wrong) (q : Option (Text × List Row)) (found : Text × List Row) → q ≡ Some found → option_map f q ≡ Some None → f found ≡ None
of_found f q found e is = ap (λ (o : Option (Option Wrong)). unwrap_or o None) (sym (ap (option_map f) e) ∙ is)

something : (wrong : Wrong) (o : Option Wrong) → Some wrong ≡ o → o ≡ None → ⊥
something wrong o p q = let both : Some wrong ≡ None = p ∙ q in absurd cc

-- a flag that has this text is it
by_flag : (one other : Bool) (text : Option Text) → text ≡ Some (flag_text one) → IsFlag text other → other ≡ one
by_flag true other text f n = n.0 f
by_flag false other text f n = n.1 f

row_found : (flag : Text) (text : Option Text) (q : Option (Text × List Row)) (found : Text × List Row) → q ≡ Some found → flag_in flag q ≡ Some text → one_of flag found.1 ≡ text
row_found flag text q found e f =
    ap (λ (o : Option (Option Text)). unwrap_or o text) (sym (ap (flag_in flag) e) ∙ f)

file_found : (text : Option Text) (q : Option (Text × List Row)) (found : Text × List Row) → q ≡ Some found → file_in q ≡ Some text → first_of (codes "journal") found.1 ≡ text
file_found text q found e f =
    ap (λ (o : Option (Option Text)). unwrap_or o text) (sym (ap file_in e) ∙ f)

flag_found : (flag text : Text) (q : Option (Text × List Row)) (found : Text × List Row) → q ≡ Some found → flag_in flag q ≡ Some (Some text) → one_of flag found.1 ≡ Some text
flag_found flag text q found e f =
    ap (λ (o : Option (Option Text)). unwrap_or o None) (sym (ap (flag_in flag) e) ∙ f)

-- the words of choices differ in their first letters
play_no_check : codes "play" ≡ codes "check" → ⊥
play_no_check e = true≢false (ap (λ (t : Text). slice_index t 0 == 112) e)

play_no_run : codes "play" ≡ codes "run" → ⊥
play_no_run e = true≢false (ap (λ (t : Text). slice_index t 0 == 112) e)

play_no_audit : codes "play" ≡ codes "audit" → ⊥
play_no_audit e = true≢false (ap (λ (t : Text). slice_index t 0 == 112) e)

play_no_manual : codes "play" ≡ codes "manual" → ⊥
play_no_manual e = true≢false (ap (λ (t : Text). slice_index t 0 == 112) e)

check_no_run : codes "check" ≡ codes "run" → ⊥
check_no_run e = true≢false (ap (λ (t : Text). slice_index t 0 == 99) e)

check_no_audit : codes "check" ≡ codes "audit" → ⊥
check_no_audit e = true≢false (ap (λ (t : Text). slice_index t 0 == 99) e)

check_no_manual : codes "check" ≡ codes "manual" → ⊥
check_no_manual e = true≢false (ap (λ (t : Text). slice_index t 0 == 99) e)

run_no_audit : codes "run" ≡ codes "audit" → ⊥
run_no_audit e = true≢false (ap (λ (t : Text). slice_index t 0 == 114) e)

run_no_manual : codes "run" ≡ codes "manual" → ⊥
run_no_manual e = true≢false (ap (λ (t : Text). slice_index t 0 == 114) e)

audit_no_manual : codes "audit" ≡ codes "manual" → ⊥
audit_no_manual e = true≢false (ap (λ (t : Text). slice_index t 0 == 97) e)

-- what is found of a plain line has its word
found_word : (name : Text) (choice : Choice) (found : Text × List Row) → subcommand_of program (name ∷ line_of choice) ≡ Some found → found.0 ≡ word_of choice
found_word name choice found e = ap (λ (o : Option Text). unwrap_or o found.0) (sym (ap name_in e) ∙ name_is name choice)

-- a choice that it names has that word
word_named : (choice : Choice) (found : Text × List Row) → Names found choice → found.0 ≡ word_of choice
word_named (Play all) found n = n.0
word_named (Check whole) found n = n.0
word_named Run found n = n
word_named Audit found n = n.0
word_named (AuditFile torn) found n = n.0
word_named Manual found n = n

-- a choice that a plain line names is its own
same_choice : (name : Text) (choice other : Choice) (found : Text × List Row) → subcommand_of program (name ∷ line_of choice) ≡ Some found → word_of choice ≡ word_of other → Names found other → other ≡ choice
same_choice name (Play all) (Play other) found e w n = ap Play (by_flag all other _ (flag_found (codes "all") (flag_text all) _ found e (play_flag name all)) n.1)
same_choice name (Play all) (Check other) found e w n = absurd (play_no_check w)
same_choice name (Play all) Run found e w n = absurd (play_no_run w)
same_choice name (Play all) Audit found e w n = absurd (play_no_audit w)
same_choice name (Play all) (AuditFile other) found e w n = absurd (play_no_audit w)
same_choice name (Play all) Manual found e w n = absurd (play_no_manual w)
same_choice name (Check whole) (Play other) found e w n = absurd (play_no_check (sym w))
same_choice name (Check whole) (Check other) found e w n = ap Check (by_flag whole other _ (flag_found (codes "script") (flag_text whole) _ found e (script_flag name whole)) n.1)
same_choice name (Check whole) Run found e w n = absurd (check_no_run w)
same_choice name (Check whole) Audit found e w n = absurd (check_no_audit w)
same_choice name (Check whole) (AuditFile other) found e w n = absurd (check_no_audit w)
same_choice name (Check whole) Manual found e w n = absurd (check_no_manual w)
same_choice name Run (Play other) found e w n = absurd (play_no_run (sym w))
same_choice name Run (Check other) found e w n = absurd (check_no_run (sym w))
same_choice name Run Run found e w n = refl
same_choice name Run Audit found e w n = absurd (run_no_audit w)
same_choice name Run (AuditFile other) found e w n = absurd (run_no_audit w)
same_choice name Run Manual found e w n = absurd (run_no_manual w)
same_choice name Audit (Play other) found e w n = absurd (play_no_audit (sym w))
same_choice name Audit (Check other) found e w n = absurd (check_no_audit (sym w))
same_choice name Audit Run found e w n = absurd (run_no_audit (sym w))
same_choice name Audit Audit found e w n = refl
same_choice name Audit (AuditFile other) found e w n = absurd (n.2 (file_found None _ found e (no_file name)))
same_choice name Audit Manual found e w n = absurd (audit_no_manual w)
same_choice name (AuditFile torn) (Play other) found e w n = absurd (play_no_audit (sym w))
same_choice name (AuditFile torn) (Check other) found e w n = absurd (check_no_audit (sym w))
same_choice name (AuditFile torn) Run found e w n = absurd (run_no_audit (sym w))
same_choice name (AuditFile torn) Audit found e w n =
    let file : None ≡ Some (codes "J") = sym n.2 ∙ file_found (Some (codes "J")) _ found e (some_file name torn) in
    absurd cc
same_choice name (AuditFile torn) (AuditFile other) found e w n = ap AuditFile (by_flag torn other _ (flag_found (codes "torn") (flag_text torn) _ found e (torn_flag name torn)) n.1)
same_choice name (AuditFile torn) Manual found e w n = absurd (audit_no_manual w)
same_choice name Manual (Play other) found e w n = absurd (play_no_manual (sym w))
same_choice name Manual (Check other) found e w n = absurd (check_no_manual (sym w))
same_choice name Manual Run found e w n = absurd (run_no_manual (sym w))
same_choice name Manual Audit found e w n = absurd (audit_no_manual (sym w))
same_choice name Manual (AuditFile other) found e w n = absurd (audit_no_manual (sym w))
same_choice name Manual Manual found e w n = refl

names_it : (name : Text) (choice other : Choice) (found : Text × List Row) → subcommand_of program (name ∷ line_of choice) ≡ Some found → Names found other → other ≡ choice
names_it name choice other found e n =
    same_choice name choice other found e (sym (found_word name choice found e) ∙ word_named other found n) n

-- nothing is wrong with what is found of a plain line
right : (name : Text) (choice : Choice) (found : Text × List Row) (wrong : Wrong) → subcommand_of program (name ∷ line_of choice) ≡ Some found → found.0 ≡ word_of choice → IsWrong found (Some wrong) → ⊥
right name (Play all) found wrong e w is = something wrong _ (is.0 w) (of_found (λ p. script_wrong p.1) _ found e (play_right name all))
right name (Check whole) found wrong e w is = something wrong _ (is.1 w) (of_found (λ p. script_wrong p.1) _ found e (check_right name whole))
right name Run found wrong e w is = something wrong _ (is.2 w) (of_found (λ p. run_wrong p.1) _ found e (run_right name))
right name Audit found wrong e w is =
    let given = is.3 w in
    let torn : given.0 ≡ false = given.1.1 (row_found (codes "torn") (Some (flag_text false)) _ found e (no_torn name)) in
    let alone : torn_wrong (is_some (first_of (codes "journal") found.1)) given.0 ≡ None =
    ap₂ (λ (f : Option Text) (t : Bool). torn_wrong (is_some f) t) (file_found None _ found e (no_file name)) torn in
    something wrong _ given.2 (ap₂ or_else alone (of_found (λ p. judged_wrong p.1) _ found e (audit_right name)))
right name (AuditFile torn) found wrong e w is =
    let given = is.3 w in
    let alone : torn_wrong (is_some (first_of (codes "journal") found.1)) given.0 ≡ None =
    ap (λ (f : Option Text). torn_wrong (is_some f) given.0) (file_found (Some (codes "J")) _ found e (some_file name torn)) in
    something wrong _ given.2 (ap₂ or_else alone (of_found (λ p. judged_wrong p.1) _ found e (file_right name torn)))
right name Manual found wrong e w is = something wrong _ (is.4 w) refl

-- its name is one
named : (choice : Choice) (found : Text × List Row) → found.0 ≡ word_of choice → IsUnnamed found.0 → ⊥
named (Play all) found w n = n.0 w
named (Check whole) found w n = n.1 w
named Run found w n = n.2 w
named Audit found w n = n.3 w
named (AuditFile torn) found w n = n.3 w
named Manual found w n = n.4 w

-- what is found of a plain line names its choice
pub line_named : (name : Text) (choice other : Choice) (m : Option (Text × List Row)) → m ≡ subcommand_of program (name ∷ line_of choice) → (found : Text × List Row) → m ≡ Some found → Names found other → other ≡ choice
line_named name choice other m e found is n = names_it name choice other found (sym e ∙ is) n

-- nothing is wrong with it
pub line_right : (name : Text) (choice : Choice) (m : Option (Text × List Row)) → m ≡ subcommand_of program (name ∷ line_of choice) → (found : Text × List Row) → m ≡ Some found → (wrong : Wrong) → IsWrong found (Some wrong) → ⊥
line_right name choice m e found is wrong n = right name choice found wrong (sym e ∙ is) (found_word name choice found (sym e ∙ is)) n

-- it names one
pub line_unnamed : (name : Text) (choice : Choice) (m : Option (Text × List Row)) → m ≡ subcommand_of program (name ∷ line_of choice) → ((found : Text × List Row) → m ≡ Some found → IsUnnamed found.0) → ⊥
line_unnamed name choice m e none = by_found m refl (ap name_in e ∙ name_is name choice)
  where
    by_found : (o : Option (Text × List Row)) → m ≡ o → name_in o ≡ Some (word_of choice) → ⊥
    by_found None is f = absurd (cc)
    by_found (Some found) is f = named choice found (ap (λ (p : Option Text). unwrap_or p found.0) f) (none found is)

-- What `audit` chooses.

-- with its file and its flag
pub audit_named : {X : Type 0} (found : Text × List Row) (file : Option X) (n : X → Text) (torn : Bool) (choice : Choice) → found.0 ≡ codes "audit" → audit_of (is_some file) torn ≡ Some choice → IsFlag (one_of (codes "torn") found.1) torn
    → first_of (codes "journal") found.1 ≡ option_map n file → Names found choice × IsJournal found (option_map n file)
audit_named found None n true choice w is flag e = absurd cc
audit_named found None n false choice w is flag e =
    let same : Audit ≡ choice = ap (λ (o : Option Choice). unwrap_or o Audit) is in
    (subst (λ (c : Choice). Names found c) same (w, flag, e), λ _. e)
audit_named found (Some f) n torn choice w is flag e =
    let same : AuditFile torn ≡ choice = ap (λ (o : Option Choice). unwrap_or o (AuditFile torn)) is in
    (subst (λ (c : Choice). Names found c) same (w, flag, λ none. let both : None ≡ Some (n f) = sym none ∙ e in absurd cc), (w, e))

-- what is so of both choices of `audit` is so of what it chooses
pub by_audit : (found : Text × List Row) (choice : Choice) (P : Choice → Type 0) → found.0 ≡ codes "audit" → Names found choice → P Audit → ((torn : Bool) → P (AuditFile torn)) → P choice
by_audit found (Play all) P w n a f = absurd (play_no_audit (sym n.0 ∙ w))
by_audit found (Check whole) P w n a f = absurd (check_no_audit (sym n.0 ∙ w))
by_audit found Run P w n a f = absurd (run_no_audit (sym n ∙ w))
by_audit found Audit P w n a f = a
by_audit found (AuditFile torn) P w n a f = f torn
by_audit found Manual P w n a f = absurd (audit_no_manual (sym w ∙ n))

-- a name that was read is there where it is given
pub is_some_map : {X Y : Type 0} (f : X → Y) (o : Option X) → is_some (option_map f o) ≡ is_some o
is_some_map f None = refl
is_some_map f (Some x) = refl

-- What the subcommands choose.

-- what is chosen, and what is wrong, are what is selected
pub selected : (found : Text × List Row) (result : Result Selection Misuse) → IfOk result (λ chosen. IsSelection found chosen) → IsWrong found (wrong_in result) → IsSelected found result
selected found (Ok chosen) ok wrong = (ok, wrong)
selected found (Err misuse) ok wrong = wrong

-- what is wrong with what one of them was given
pub play_wrongs : (rows : List Row) (wrong : Option Wrong) → wrong ≡ script_wrong rows → IsWrong (codes "play", rows) wrong
play_wrongs rows wrong e =
    (λ _. e, λ w. absurd (play_no_check w), λ w. absurd (play_no_run w), λ w. absurd (play_no_audit w), λ w. absurd (play_no_manual w))

pub check_wrongs : (rows : List Row) (wrong : Option Wrong) → wrong ≡ script_wrong rows → IsWrong (codes "check", rows) wrong
check_wrongs rows wrong e =
    (λ w. absurd (play_no_check (sym w)), λ _. e, λ w. absurd (check_no_run w), λ w. absurd (check_no_audit w), λ w. absurd (check_no_manual w))

pub run_wrongs : (rows : List Row) (wrong : Option Wrong) → wrong ≡ run_wrong rows → IsWrong (codes "run", rows) wrong
run_wrongs rows wrong e =
    (λ w. absurd (play_no_run (sym w)), λ w. absurd (check_no_run (sym w)), λ _. e, λ w. absurd (run_no_audit w), λ w. absurd (run_no_manual w))

pub audit_wrongs : (rows : List Row) (wrong : Option Wrong) → IsAuditWrong rows wrong → IsWrong (codes "audit", rows) wrong
audit_wrongs rows wrong e =
    (λ w. absurd (play_no_audit (sym w)), λ w. absurd (check_no_audit (sym w)), λ w. absurd (run_no_audit (sym w)), λ _. e, λ w. absurd (audit_no_manual w))
