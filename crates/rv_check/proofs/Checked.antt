-- Sections that were looked at, and then others.
use Rattle.rv_script.specs.declared.read.TextError.{TextError}
use Rattle.std.specs.Prelude.{IfSome, Bool, true, false, ◌⊎◌}
use Rattle.std.proofs.Common.{◌≡◌, inl, inr, ℕ, List, [], ◌∷◌, ◌++◌, Some, None, Option, Ok, Err, Result, refl, sym, ap, ◌∙◌, subst, append_assoc, append-nil}
use Rattle.std.specs.Io.KnownBytes.{Appends}
use Rattle.rv_text.specs.Sections.{SectionText}
use Rattle.rv_shape.specs.Shape.{Shape}
use Rattle.rv_settings.specs.Settings.{SettingsText}
use Rattle.rv_script.specs.Openings.{OpenedText, opened}
use Rattle.rv_script.specs.Prefixes.{WritesPrefix}
use Rattle.rv_script.proofs.Wrote.{appends_more, keeps_nothing, nothing_yet, prefix_behind}
use Rattle.rv_script.specs.declared.read.ReadError.{ReadError}
use Rattle.rv_script.specs.declared.read.ReadError.TheVariants as Reads
use Rattle.rv_fault.specs.Faults.{of_read}
use Rattle.rv_fault.specs.declared.failure.Failure.{Failure}
use Rattle.rv_fault.specs.declared.failure.Failure.TheVariants.{Refused, Memory, Io}
use Rattle.rv_fault.specs.declared.fault.What.TheVariants as Whats
use Rattle.rv_fault.specs.declared.fault.ScriptFault.{ScriptFault}
use Rattle.rv_fault.specs.Sections.{GivesSettings, Reads as ReadsText, line_of}
use Rattle.rv_fault.specs.Written.{Outcome, WritesSome, Writes, WritesScript, refused_bytes}
use Rattle.rv_check.specs.Checks.{BeginsOpened, Checks, ChecksOpened, ChecksSome, Judges, Judging, KeepsRefused, TellsAll, WritesOne, WritesPart, by_last, outcome_by}

-- a section, and those behind it, by what it comes to
section_then : (by : Judging) (shapes : List Shape) (section : SectionText) (others : List SectionText) (said : List ℕ) (told : Option ScriptFault) → by.is_last section ≡ false
    → (((fault : ScriptFault) × (after : List Shape) × by.Section shapes after section [] (Some fault) × (said ≡ []) × (told ≡ Some fault))
    ⊎ ((line more : List ℕ) × (after : List Shape) × by.Section shapes after section line None × Checks by after others more told × (said ≡ line ++ more)))
    → Checks by shapes (section ∷ others) said told
section_then by shapes section others said told e h =
    subst (λ (b : Bool). by_last b (by.Rest shapes section others said told)
    (((fault : ScriptFault) × (after : List Shape) × by.Section shapes after section [] (Some fault) × (said ≡ []) × (told ≡ Some fault))
    ⊎ ((line more : List ℕ) × (after : List Shape) × by.Section shapes after section line None × Checks by after others more told × (said ≡ line ++ more)))) (sym e) h

-- a last section, with all that is left
last_then : (by : Judging) (shapes : List Shape) (section : SectionText) (others : List SectionText) (said : List ℕ) (told : Option ScriptFault) → by.is_last section ≡ true
    → by.Rest shapes section others said told → Checks by shapes (section ∷ others) said told
last_then by shapes section others said told e h =
    subst (λ (b : Bool). by_last b (by.Rest shapes section others said told)
    (((fault : ScriptFault) × (after : List Shape) × by.Section shapes after section [] (Some fault) × (said ≡ []) × (told ≡ Some fault))
    ⊎ ((line more : List ℕ) × (after : List Shape) × by.Section shapes after section line None × Checks by after others more told × (said ≡ line ++ more)))) (sym e) h

-- what is said so far of the sections that are done, and how what is said of others goes on behind it
pub record SoFar (by : Judging) (old now : Option (List ℕ)) (shapes : List Shape) (left all : List SectionText) : Type 0 where
  pub done : List SectionText
  pub split : all ≡ done ++ left
  pub said : List ℕ
  pub written : Appends old now said
  pub whole : (others : List SectionText) (more : List ℕ) (told : Option ScriptFault) → Checks by shapes others more told → Checks by [] (done ++ others) (said ++ more) told

pub at_first : (by : Judging) (old : Option (List ℕ)) (shapes : List Shape) (all : List SectionText) → shapes ≡ [] → SoFar by old old shapes all all
at_first by old shapes all e = record {
  done = [];
  split = refl;
  said = [];
  written = keeps_nothing old;
  whole = λ others more told h. subst (λ (l : List Shape). Checks by l others more told) e h;
}

-- one more section that is well formed
one_whole : (by : Judging) (old now : Option (List ℕ)) (shapes after : List Shape) (section : SectionText) (left all : List SectionText) (so : SoFar by old now shapes left all) (line : List ℕ) → by.is_last section ≡ false → by.Section shapes after section line None
    → (others : List SectionText) (more : List ℕ) (told : Option ScriptFault) → Checks by after others more told → Checks by [] ((so.done ++ section ∷ []) ++ others) ((so.said ++ line) ++ more) told
one_whole by old now shapes after section left all so line e found others more told rest =
    let here : Checks by shapes (section ∷ others) (line ++ more) told = section_then by shapes section others (line ++ more) told e (inr (line, more, after, found, rest, refl)) in
    let there : Checks by [] (so.done ++ section ∷ others) (so.said ++ (line ++ more)) told = so.whole (section ∷ others) (line ++ more) told here in
    subst (λ (ss : List SectionText). Checks by [] ss ((so.said ++ line) ++ more) told) (sym (append_assoc so.done (section ∷ []) others))
    (subst (λ (t : List ℕ). Checks by [] (so.done ++ section ∷ others) t told) (sym (append_assoc so.said line more)) there)

one_more : (section : SectionText) (done left others all : List SectionText) → left ≡ section ∷ others → all ≡ done ++ left → all ≡ (done ++ section ∷ []) ++ others
one_more section done left others all e split = split ∙ ap (λ (ss : List SectionText). done ++ ss) e ∙ sym (append_assoc done (section ∷ []) others)

pub one_said : (by : Judging) (old now new : Option (List ℕ)) (shapes after : List Shape) (section : SectionText) (left others all : List SectionText) → by.is_last section ≡ false → left ≡ section ∷ others → SoFar by old now shapes left all
    → (line : List ℕ) × by.Section shapes after section line None × Appends now new line → SoFar by old new after others all
one_said by old now new shapes after section left others all f e so h = record {
  done = so.done ++ section ∷ [];
  split = one_more section so.done left others all e so.split;
  said = so.said ++ h.0;
  written = appends_more old now new so.said h.0 so.written h.2;
  whole = one_whole by old now shapes after section left all so h.0 f h.1;
}

-- what is said of all that is done
said_done : (by : Judging) (old now : Option (List ℕ)) (shapes : List Shape) (left all : List SectionText) (so : SoFar by old now shapes left all) → Checks by [] so.done so.said None
said_done by old now shapes left all so =
    subst (λ (ss : List SectionText). Checks by [] ss so.said None) (append-nil so.done)
    (subst (λ (t : List ℕ). Checks by [] (so.done ++ []) t None) (append-nil so.said) (so.whole [] [] None (refl, refl)))

-- no section is left
pub all_said : (by : Judging) (old now : Option (List ℕ)) (shapes : List Shape) (left all : List SectionText) → left ≡ [] → SoFar by old now shapes left all → (said : List ℕ) × Checks by [] all said None × Appends old now said
all_said by old now shapes left all e so =
    let whole : all ≡ so.done = so.split ∙ ap (λ (ss : List SectionText). so.done ++ ss) e ∙ append-nil so.done in
    (so.said, subst (λ (ss : List SectionText). Checks by [] ss so.said None) (sym whole) (said_done by old now shapes left all so), so.written)

-- nothing more is written
nothing_more : (by : Judging) (old now new : Option (List ℕ)) (shapes : List Shape) (left all : List SectionText) → SoFar by old now shapes left all → new ≡ now → (said : List ℕ) × ChecksSome by all said × WritesPrefix old new said
nothing_more by old now new shapes left all so same =
    let some : WritesPrefix old now so.said = record { prefix = so.said; rest = []; whole = sym (append-nil so.said); written = so.written } in
    (so.said, (so.done, left, so.split, said_done by old now shapes left all so), subst (λ (o : Option (List ℕ)). WritesPrefix old o so.said) (sym same) some)

part_said : (by : Judging) (old now new : Option (List ℕ)) (shapes after : List Shape) (section : SectionText) (left others all : List SectionText) → by.is_last section ≡ false → left ≡ section ∷ others → SoFar by old now shapes left all
    → WritesPart now new (by.Section shapes after section) → (said : List ℕ) × ChecksSome by all said × WritesPrefix old new said
part_said by old now new shapes after section left others all f e so (inl same) = nothing_more by old now new shapes left all so same
part_said by old now new shapes after section left others all f e so (inr h) =
    let checks = one_whole by old now shapes after section left all so h.0 f h.1 [] [] None (refl, refl) in
    let done = so.done ++ section ∷ [] in
    let said = so.said ++ h.0 in (
      said,
      (
        done,
        others,
        one_more section so.done left others all e so.split,
        subst (λ (ss : List SectionText). Checks by [] ss said None) (append-nil done) (subst (λ (t : List ℕ). Checks by [] (done ++ []) t None) (append-nil said) checks),
      ),
      prefix_behind old now new so.said h.0 so.written h.2,
    )

-- what is told of sections that come behind those that are done
told_behind : (by : Judging) (old now new : Option (List ℕ)) (shapes : List Shape) (left all : List SectionText) (told : ScriptFault) (so : SoFar by old now shapes left all) → new ≡ now → Checks by shapes left [] (Some told)
    → (said : List ℕ) × Checks by [] all said (Some told) × Appends old new said
told_behind by old now new shapes left all told so same here =
    let there : Checks by [] (so.done ++ left) (so.said ++ []) (Some told) = so.whole left [] (Some told) here in (
      so.said,
      subst (λ (ss : List SectionText). Checks by [] ss so.said (Some told)) (sym so.split) (subst (λ (t : List ℕ). Checks by [] (so.done ++ left) t (Some told)) (append-nil so.said) there),
      subst (λ (o : Option (List ℕ)). Appends old o so.said) (sym same) so.written,
    )

-- a section that something stands against, or a failure
pub stopped : (by : Judging) (old now new : Option (List ℕ)) (shapes after : List Shape) (section : SectionText) (left others all : List SectionText) (e : Failure) → by.is_last section ≡ false → left ≡ section ∷ others → SoFar by old now shapes left all
    → (let r : Result (Unit {0}) Failure = Err e in WritesOne now new (by.Section shapes after section) r) → let r : Result (Unit {0}) Failure = Err e in TellsAll by old new all r
stopped by old now new shapes after section left others all (Refused told) f e so h =
    let here : Checks by shapes (section ∷ others) [] (Some told) = section_then by shapes section others [] (Some told) f (inl (told, after, h.0, refl, refl)) in
    told_behind by old now new shapes left all told so h.1 (subst (λ (ss : List SectionText). Checks by shapes ss [] (Some told)) (sym e) here)
stopped by old now new shapes after section left others all Memory f e so h = part_said by old now new shapes after section left others all f e so h
stopped by old now new shapes after section left others all (Io error) f e so h = part_said by old now new shapes after section left others all f e so h

-- what is said of all, where this is said of a last section and of all that is left
rest_whole : (by : Judging) (old now : Option (List ℕ)) (shapes : List Shape) (section : SectionText) (left others all : List SectionText) (so : SoFar by old now shapes left all) (line : List ℕ) → by.is_last section ≡ true → left ≡ section ∷ others
    → by.Rest shapes section others line None → Checks by [] all (so.said ++ line) None
rest_whole by old now shapes section left others all so line f e found =
    let here : Checks by shapes (section ∷ others) line None = last_then by shapes section others line None f found in
    let there : Checks by [] (so.done ++ left) (so.said ++ line) None = so.whole left line None (subst (λ (ss : List SectionText). Checks by shapes ss line None) (sym e) here) in
    subst (λ (ss : List SectionText). Checks by [] ss (so.said ++ line) None) (sym so.split) there

rest_part : (by : Judging) (old now new : Option (List ℕ)) (shapes : List Shape) (section : SectionText) (left others all : List SectionText) → by.is_last section ≡ true → left ≡ section ∷ others → SoFar by old now shapes left all
    → WritesPart now new (by.Rest shapes section others) → (said : List ℕ) × ChecksSome by all said × WritesPrefix old new said
rest_part by old now new shapes section left others all f e so (inl same) = nothing_more by old now new shapes left all so same
rest_part by old now new shapes section left others all f e so (inr h) =
    (so.said ++ h.0, (all, [], sym (append-nil all), rest_whole by old now shapes section left others all so h.0 f e h.1), prefix_behind old now new so.said h.0 so.written h.2)

-- a last section, with all that is left
pub rest_told : (by : Judging) (old now new : Option (List ℕ)) (shapes : List Shape) (section : SectionText) (left others all : List SectionText) (r : Result (Unit {0}) Failure) → by.is_last section ≡ true → left ≡ section ∷ others → SoFar by old now shapes left all
    → WritesOne now new (by.Rest shapes section others) r → TellsAll by old new all r
rest_told by old now new shapes section left others all (Ok x) f e so h =
    (so.said ++ h.0, rest_whole by old now shapes section left others all so h.0 f e h.1, appends_more old now new so.said h.0 so.written h.2)
rest_told by old now new shapes section left others all (Err (Refused told)) f e so h =
    let here : Checks by shapes (section ∷ others) [] (Some told) = last_then by shapes section others [] (Some told) f h.0 in
    told_behind by old now new shapes left all told so h.1 (subst (λ (ss : List SectionText). Checks by shapes ss [] (Some told)) (sym e) here)
rest_told by old now new shapes section left others all (Err Memory) f e so h = rest_part by old now new shapes section left others all f e so h
rest_told by old now new shapes section left others all (Err (Io error)) f e so h = rest_part by old now new shapes section left others all f e so h

-- nothing is written of a script
pub nothing_told : (outcome : List ℕ → Outcome) (script : List ℕ) (old : Option (List ℕ)) → (outcome script).Begins [] → WritesSome old old (outcome script).Begins
nothing_told outcome script old begins = record { text = []; begins = begins; written = nothing_yet old [] }

-- text before the first section
pub front_told : (judged : Judges) (script : List ℕ) (old : Option (List ℕ)) (line : ℕ) → opened script ≡ Err line → let r : Result (Unit {0}) Failure = Err (Refused (record { line = line; what = Whats.BadSection })) in Writes old old (outcome_by judged script) r
front_told judged script old line e =
    let told : Option ScriptFault = Some (record { line = line; what = Whats.BadSection }) in
    record { text = []; is = subst (λ (o : Result OpenedText ℕ). ChecksOpened judged o [] told) (sym e) (refl, refl); written = keeps_nothing old }

-- settings that were refused, or not read
pub settings_told : (judged : Judges) (script : List ℕ) (old : Option (List ℕ)) (whole : OpenedText) (e : Failure) → opened script ≡ Ok whole → (let read : Result SettingsText Failure = Err e in ReadsText (line_of whole.settings) (GivesSettings whole.settings) read)
    → let r : Result (Unit {0}) Failure = Err e in Writes old old (outcome_by judged script) r
settings_told judged script old whole (Refused told) is h =
    record { text = []; is = subst (λ (o : Result OpenedText ℕ). ChecksOpened judged o [] (Some told)) (sym is) (inr (told, h.0, h.1, refl, refl)); written = keeps_nothing old }
settings_told judged script old whole Memory is h = nothing_told (outcome_by judged) script old (inl refl)
settings_told judged script old whole (Io error) is h = absurd h

-- the sections behind the settings
pub sections_told : (judged : Judges) (script : List ℕ) (old new : Option (List ℕ)) (whole : OpenedText) (settings : SettingsText) (r : Result (Unit {0}) Failure) → opened script ≡ Ok whole → GivesSettings whole.settings (Ok settings)
    → TellsAll (judged whole settings) old new whole.sections r → Writes old new (outcome_by judged script) r
sections_told judged script old new whole settings (Ok x) is given h =
    record { text = h.0; is = subst (λ (o : Result OpenedText ℕ). ChecksOpened judged o h.0 None) (sym is) (inl (settings, given, h.1)); written = h.2 }
sections_told judged script old new whole settings (Err (Refused told)) is given h =
    record { text = h.0; is = subst (λ (o : Result OpenedText ℕ). ChecksOpened judged o h.0 (Some told)) (sym is) (inl (settings, given, h.1)); written = h.2 }
sections_told judged script old new whole settings (Err Memory) is given h =
    record { text = h.0; begins = inr (subst (λ (o : Result OpenedText ℕ). BeginsOpened judged o h.0) (sym is) (settings, given, h.1)); written = h.2 }
sections_told judged script old new whole settings (Err (Io error)) is given h =
    record { text = h.0; begins = inr (subst (λ (o : Result OpenedText ℕ). BeginsOpened judged o h.0) (sym is) (settings, given, h.1)); written = h.2 }

-- nothing is a prefix of what is told of bytes that are no script
none_told : (old : Option (List ℕ)) (error : TextError) → WritesSome old old (refused_bytes error).Begins
none_told old error = record { text = []; begins = refl; written = nothing_yet old [] }

-- a reader that gave no bytes
none_read : (outcome : List ℕ → Outcome) (old known : Option (List ℕ)) (e : ReadError) → ((script : List ℕ) → (outcome script).Begins []) → IfSome known (λ script. let r : Result (Unit {0}) Failure = Err (of_read e) in WritesScript old old outcome script r)
none_read outcome old None e begins = tt
none_read outcome old (Some script) Reads.Memory begins = record { text = λ is. nothing_told outcome script old (begins script); refused = λ error refused. none_told old error }
none_read outcome old (Some script) (Reads.Io e) begins = record { text = λ is. nothing_told outcome script old (begins script); refused = λ error refused. none_told old error }

pub failed_unread : (outcome : List ℕ → Outcome) (old known : Option (List ℕ)) (e : ReadError) (failure : Failure) → ((script : List ℕ) → (outcome script).Begins []) → failure ≡ of_read e
    → IfSome known (λ script. let r : Result (Unit {0}) Failure = Err failure in WritesScript old old outcome script r)
failed_unread outcome old known e failure begins same =
    subst (λ (f : Failure). IfSome known (λ script. let r : Result (Unit {0}) Failure = Err f in WritesScript old old outcome script r)) (sym same) (none_read outcome old known e begins)

-- of a script that wasn't read nothing is told
pub keeps_none : (script : Option (List ℕ)) (read : List ℕ) (e : ReadError) (failure : Failure) → failure ≡ of_read e → KeepsRefused script read failure
keeps_none script read e failure same = subst (λ (f : Failure). KeepsRefused script read f) (sym same) (by_error e)
  where
    by_error : (e : ReadError) → KeepsRefused script read (of_read e)
    by_error Reads.Memory = tt
    by_error (Reads.Io e) = tt
