use Rattle.std.proofs.Common.{Some, None, List, ℕ, ap, sym, ◌∙◌, arith}
use Rattle.std.proofs.lemmas.Str.Pattern.{split_once_first}
use Rattle.rv_text.proofs.FirstParts.{split_whole}
use Rattle.rv_times.specs.Telling.{is_of_list, is_space}
use Rattle.rv_times.proofs.Cutting.{cut_at}
use Rattle.rv_times.proofs.telling.is_of_list.Goals as goal

pub returns-in-Some : goal.returns-in-Some
returns-in-Some c =
    let parts = split_once_first 32 c.args.words.now (Some (c.in-Some.word, c.in-Some.field-0-1)) c.in-Some.ensures.cases (omega arith) in
    c.is_verb.ensures ∙ ap (λ (ws : List (List ℕ)). is_of_list ws) (sym (cut_at is_space c.args.words.now c.in-Some.word.now c.in-Some.field-0-1.now parts.0 parts.1 parts.2))

pub returns-in-None : goal.returns-in-None
returns-in-None c =
    c.is_verb-in-None.ensures ∙ ap (λ (ws : List (List ℕ)). is_of_list ws) (sym (split_whole is_space c.args.words.now (split_once_first 32 c.args.words.now None c.in-None.ensures.cases (omega arith))))
