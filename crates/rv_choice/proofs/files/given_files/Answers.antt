use Rattle.std.proofs.Common.{◌≡◌, ◌∙◌, Option, Some, codes, sym, ap}
use Rattle.std.specs.Prelude.{is_some}
use Rattle.std.proofs.lemmas.Result.{IfOk-weaker}
use Rattle.clap.specs.Matches.{found_of}
use Rattle.clap.specs.Walk.{Text, first_of, rows_of}
use Rattle.clap.proofs.WalkLemmas.{first_value-rows}
use Rattle.rv_choice.specs.Files.{FileTexts}
use Rattle.rv_choice.proofs.Choosing.{is_some_map}
use Rattle.rv_choice.proofs.files.given_files.Goals as goal

pub returns : goal.returns
returns c =
    let given = found_of c.args.words.now in
    let rows = rows_of given in
    let journal = c.get_str.ensures ∙ first_value-rows given (codes "journal") in
    let has : c.is_some.result ≡ is_some (first_of (codes "journal") rows) =
    c.is_some.ensures ∙ (sym (is_some_map (λ s. s.now) c.get_str.result) ∙ ap is_some journal) in
    IfOk-weaker c.with_journal.result _ _
    (λ files h. record {
      rotate = c.in-Ok.ensures.ok ∙ sym (ap (λ (f : FileTexts). Some f.rotate) h.0);
      units = ap (λ (f : FileTexts). f.units) h.0 ∙ (c.get_str-units.ensures ∙ first_value-rows given (codes "keep-units"));
      times = ap (λ (f : FileTexts). f.times) h.0 ∙ (c.get_str-times.ensures ∙ first_value-rows given (codes "times"));
      journal = λ any. sym has ∙ h.1 any;
    })
    c.with_journal.ensures
