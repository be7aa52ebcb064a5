use Rattle.std.proofs.Common.{◌≡◌, ◌∙◌, [], List, Option, Bor, ap, sym, codes, map}
use Rattle.std.specs.Prelude.{option_map, unwrap_or}
use Rattle.std.proofs.lemmas.Result.{IfOk-weaker}
use Rattle.clap.specs.Matches.{found_of}
use Rattle.clap.specs.Walk.{Text, rows_of}
use Rattle.clap.proofs.WalkLemmas.{raw_values-rows}
use Rattle.rv_choice.specs.Files.{journals_in}
use Rattle.rv_choice.proofs.files.given_journals.Goals as goal

pub returns-in-Some : goal.returns-in-Some
returns-in-Some c =
    let given = found_of c.args.words.now in
    let texts : Bor (List (Bor Text)) → List Text = λ s. map (λ (v : Bor Text). v.now) s.now in
    let row = c.get_strs.ensures ∙ raw_values-rows given (codes "journal") in
    let words : journals_in (rows_of given) ≡ map (λ (v : Bor Text). v.now) c.in-Some.given.now =
    ap (λ (o : Option (List Text)). unwrap_or o []) (sym row ∙ ap (option_map texts) c.in-Some.is) in
    IfOk-weaker c.names_in.result _ _ (λ names h. h ∙ sym words) c.names_in.ensures

pub returns-in-None : goal.returns-in-None
returns-in-None c =
    let given = found_of c.args.words.now in
    let texts : Bor (List (Bor Text)) → List Text = λ s. map (λ (v : Bor Text). v.now) s.now in
    let row = c.get_strs.ensures ∙ raw_values-rows given (codes "journal") in
    let words : journals_in (rows_of given) ≡ [] =
    ap (λ (o : Option (List Text)). unwrap_or o []) (sym row ∙ ap (option_map texts) c.in-None.is) in
    ap (map (λ (v : Bor Text). v.now)) c.new.ensures.items ∙ sym words
